-- The rows of a plan, cut where the plan is cut.
use Prim.Native.Nat.{ℕ, zero, suc, ◌+◌, ◌-◌, ◌*◌, ◌≤◌, ◌<◌, max}
use mathlib.Core.Path.{◌≡◌, refl, sym, ap, ap₂, ◌∙◌}
use mathlib.Core.Bool.{Bool, true, false, ◌&&◌, ◌||◌}
use mathlib.Core.List.{List, [], ◌∷◌, ◌++◌, append-nil, append_assoc}
use native.Mathlib.Omega.{arith}
use native.Mathlib.Nat.{suc-mul, zero-mul, add-mul, mul-le-mul_right}
use lib.Dec.{eqb, leb, ltb}
use borrow.Author.Tests.{lt-ltb, le-leb, leb-true, leb-false, lt-leb, eq-eqb, ne_eqb}
use lib.ListN.{length, get_or, take, drop, set, replicate, length-append, length-drop}
use lib.Seq.{take-append-add, drop-append-add, take_all}
use borrow.Rule.Slice.PartMut.{put_mid, same_len_mid, mid_len}
use Rattle.paper.specs.Order.{kind_word, size_word, row_fits, ordered}
use Rattle.paper.specs.Words.{wide, head_words}
use Rattle.paper.specs.Check.{order_fits}
use Rattle.paper.specs.Calls.{planned}
use Rattle.laws.proofs.BlankWords.{length_zeros}
use Rattle.laws.proofs.Order.{ordered_step, nil_order}
use Rattle.paper.specs.Devices.{devices}
use Rattle.vector.specs.Places.{most_words}
use Rattle.order.proofs.Descents.{not_below}
use Rattle.vector.proofs.Parts.{words_small}
use Rattle.table.proofs.RowsWritten.{head_length, head_words_lem, row_words}
use Rattle.plan.specs.PlannedRows.{planned_row, plan_fits, planned_table}

-- what is left of a part, as the code cuts it
pub rest_of : (k : ℕ) (p : List ℕ) → take (length p - k) (drop k p) ≡ drop k p
rest_of k p = take_all (length p - k) (drop k p) (omega (arith, length-drop k p))

-- the size of the row that a number gives
abbrev plan_size : ℕ → ℕ
plan_size k = max k 1

module _ (w : ℕ) where
  abbrev n : ℕ
  n = wide w

  pub planned_cons : (k : ℕ) (p : List ℕ) → planned w (k ∷ p) ≡ planned_row w k ++ planned w p
  unfolding planned planned_row
  planned_cons zero p = refl
  planned_cons (suc k) p = refl

  pub planned_none : planned w [] ≡ []
  unfolding planned
  planned_none = refl

  row_long : (k : ℕ) → length (planned_row w k) ≡ n
  unfolding planned_row
  row_long zero = omega (arith, length_zeros (6 + 4 * w))
  row_long (suc k) = omega (arith, length_zeros (6 + 4 * w))

  pub planned_length : (p : List ℕ) → length (planned w p) ≡ length p * n
  planned_length [] = ap length planned_none ∙ sym (zero-mul n)
  planned_length (k ∷ p) =
      ap length (planned_cons k p) ∙ length-append (planned_row w k) (planned w p) ∙ omega (arith, row_long k, planned_length p, suc-mul (length p) n)

  planned_drop : (i : ℕ) (p : List ℕ) → drop (i * n) (planned w p) ≡ planned w (drop i p)
  planned_drop zero p = ap (λ z. drop z (planned w p)) (zero-mul n)
  planned_drop (suc i) [] = ap (drop (suc i * n)) planned_none ∙ nil_drop (suc i * n) ∙ sym planned_none
    where
      nil_drop : (m : ℕ) → ◌≡◌ {A = List ℕ} (drop m []) []
      nil_drop zero = refl
      nil_drop (suc m) = refl
  planned_drop (suc i) (k ∷ p) =
      let z : suc i * n ≡ length (planned_row w k) + i * n = omega (arith, row_long k, suc-mul i n) in
      ap₂ drop z (planned_cons k p) ∙ drop-append-add (planned_row w k) (planned w p) (i * n) ∙ planned_drop i p

  planned_take : (i : ℕ) (p : List ℕ) → take (i * n) (planned w p) ≡ planned w (take i p)
  planned_take zero p = ap (λ z. take z (planned w p)) (zero-mul n) ∙ sym planned_none
  planned_take (suc i) [] = ap (take (suc i * n)) planned_none ∙ nil_take (suc i * n) ∙ sym planned_none
    where
      nil_take : (m : ℕ) → ◌≡◌ {A = List ℕ} (take m []) []
      nil_take zero = refl
      nil_take (suc m) = refl
  planned_take (suc i) (k ∷ p) =
      let z : suc i * n ≡ length (planned_row w k) + i * n = omega (arith, row_long k, suc-mul i n) in
      ap₂ take z (planned_cons k p) ∙ take-append-add (planned_row w k) (planned w p) (i * n)
      ∙ ap (λ l. planned_row w k ++ l) (planned_take i p) ∙ sym (planned_cons k (take i p))

  -- the first row of a plan's rows
  first_size : (k : ℕ) (p : List ℕ) → size_word (planned w (k ∷ p)) ≡ plan_size k
  unfolding planned
  first_size zero p = refl
  first_size (suc k) p = omega arith

  kind_or_one : (k : ℕ) (p : List ℕ) → (leb (kind_word (planned w (k ∷ p))) 3 ≡ true) × ((eqb (kind_word (planned w (k ∷ p))) 3 || eqb (size_word (planned w (k ∷ p))) 1) ≡ true)
  unfolding planned
  kind_or_one zero p = (refl, refl)
  kind_or_one (suc k) p = (refl, refl)

  fits_planned : (lv k : ℕ) (p : List ℕ) → row_fits n lv (planned w (k ∷ p)) ≡ (ltb 0 lv && leb (plan_size k) (suc (length p)))
  unfolding row_fits
  fits_planned lv k p =
      let q = kind_or_one k p in
      rw (q.0, lt-ltb 0 (size_word (planned w (k ∷ p))) (omega (arith, first_size k p)), q.1)
      (ap (λ b. ltb 0 lv && b) (ap₂ (λ x y. leb (x * n) y) (first_size k p) (planned_length (k ∷ p)) ∙ same (plan_size k) (suc (length p))))
    where
      same : (a b : ℕ) → leb (a * n) (b * n) ≡ leb a b
      same a b = go (leb a b) refl
        where
          go : (t : Bool) → leb a b ≡ t → leb (a * n) (b * n) ≡ t
          go true e = le-leb _ _ (mul-le-mul_right n (leb-true a b e))
          go false e =
              let h : suc b ≤ a = omega (arith, leb-false a b e) in
              lt-leb (a * n) (b * n) (omega (arith, suc-mul b n, mul-le-mul_right n h))

  -- a part of a plan that is not empty
  pub order_planned : (lv k : ℕ) (p : List ℕ) → ordered n lv (planned w (k ∷ p))
      ≡ ((ltb 0 lv && leb (plan_size k) (suc (length p))) && (ordered n (lv - 1) (planned w (take (plan_size k - 1) p)) && ordered n lv (planned w (drop (plan_size k) (k ∷ p)))))
  order_planned lv k p =
      let t = planned w (k ∷ p) in
      let s = first_size k p in
      let o : n ≡ 1 * n = omega arith in
      let z : plan_size k * n - n ≡ (plan_size k - 1) * n = omega (arith, ap (λ x. x * n) one, suc-mul (plan_size k - 1) n) in
      ordered_step n (omega arith) lv t (omega (arith, planned_length (k ∷ p), suc-mul (length p) n))
      ∙ ap₂ ◌&&◌ (fits_planned lv k p)
      (ap₂ (λ x y. ordered n (lv - 1) x && ordered n lv y)
      (ap₂ (λ x y. take (x * n - n) y) s (ap (λ x. drop x t) o ∙ planned_drop 1 (k ∷ p)) ∙ ap (λ x. take x (planned w p)) z ∙ planned_take (plan_size k - 1) p)
      (ap (λ x. drop (x * n) t) s ∙ planned_drop (plan_size k) (k ∷ p)))
    where
      one : plan_size k ≡ suc (plan_size k - 1)
      one = omega arith

  plan_first : (lv : ℕ) (p : List ℕ) → 0 < length p → let k = plan_size (get_or p 0 0) in
      ordered n lv (planned w p) ≡ ((ltb 0 lv && leb k (length p)) && (ordered n (lv - 1) (planned w (take (k - 1) (drop 1 p))) && ordered n lv (planned w (drop k p))))
  plan_first lv [] h = absurd (omega arith)
  plan_first lv (k ∷ p) h = order_planned lv k p

  pub plan_none : (lv : ℕ) (p : List ℕ) → length p ≡ 0 → ordered n lv (planned w p) ≡ true
  plan_none lv [] h = ap (ordered n lv) planned_none ∙ nil_order n 0 lv
  plan_none lv (k ∷ p) h = absurd (omega arith)

  -- a plan by its first number: what is beneath that row, and what is after
  module _ (lv : ℕ) (p : List ℕ) (k : ℕ) (h : 0 < length p) (e : k ≡ plan_size (get_or p 0 0)) where
    abbrev under : List ℕ
    under = take (k - 1) (drop 1 p)

    plan_step : ordered n lv (planned w p) ≡ ((ltb 0 lv && leb k (length p)) && (ordered n (lv - 1) (planned w under) && ordered n lv (planned w (drop k p))))
    plan_step = rw e (plan_first lv p h)

    pub no_level : lv ≡ 0 → ordered n lv (planned w p) ≡ false
    no_level z = plan_step ∙ ap (λ x. (ltb 0 x && leb k (length p)) && (ordered n (lv - 1) (planned w under) && ordered n lv (planned w (drop k p)))) z

    module _ (l : 0 < lv) where
      pub no_room : length p < k → ordered n lv (planned w p) ≡ false
      no_room g = plan_step ∙ rw (lt-ltb 0 lv l, lt-leb k (length p) g)

      pub under_broken : k ≤ length p → ordered n (lv - 1) (planned w under) ≡ false → ordered n lv (planned w p) ≡ false
      under_broken g b = plan_step ∙ rw (lt-ltb 0 lv l, le-leb k (length p) g, b)

      pub plan_next : k ≤ length p → ordered n (lv - 1) (planned w under) ≡ true → ordered n lv (planned w p) ≡ ordered n lv (planned w (drop k p))
      plan_next g b = plan_step ∙ rw (lt-ltb 0 lv l, le-leb k (length p) g, b)

  -- THE ROOT is a folder of all rows
  root_plan : (p : List ℕ) → 0 < length p → get_or p 0 0 ≡ length p → order_fits w (length p) (planned w p) ≡ ordered n 16 (planned w p)
  unfolding order_fits planned
  root_plan [] h e = absurd (omega arith)
  root_plan (zero ∷ p) h e = absurd (omega arith)
  root_plan (suc k ∷ p) h e = rw (eq-eqb (suc k) (suc (length p)) e)

  root_not : (p : List ℕ) → (get_or p 0 0 ≡ length p → ⊥) → order_fits w (length p) (planned w p) ≡ false
  unfolding order_fits planned
  root_not [] e = absurd (e refl)
  root_not (zero ∷ p) e = refl
  root_not (suc k ∷ p) e = rw (ne_eqb (suc k) (suc (length p)) e)

  module _ (p : List ℕ) where
    pub no_rows : length p ≡ 0 → false ≡ plan_fits w p
    no_rows h = sym (rw (not_below 0 (length p) (omega arith)))

    module _ (some : 0 < length p) where
      pub too_many : 256 < length p → false ≡ plan_fits w p
      too_many h = sym (rw (lt-ltb 0 (length p) some, lt-leb (length p) 256 h))

      module _ (few : length p ≤ 256) where
        pub no_root : (get_or p 0 0 ≡ length p → ⊥) → false ≡ plan_fits w p
        no_root h = sym (rw (lt-ltb 0 (length p) some, le-leb (length p) 256 few, root_not p h))

        pub root_order : get_or p 0 0 ≡ length p → ordered n 16 (planned w p) ≡ plan_fits w p
        root_order h = sym (rw (lt-ltb 0 (length p) some, le-leb (length p) 256 few, root_plan p some h))

  -- one row more
  planned_more : (i : ℕ) (p : List ℕ) → i < length p → planned w (take (i + 1) p) ≡ planned w (take i p) ++ planned_row w (get_or p i 0)
  planned_more zero [] h = absurd (omega arith)
  planned_more zero (k ∷ p) h = planned_cons k [] ∙ rw planned_none (append-nil (planned_row w k))
  planned_more (suc i) [] h = absurd (omega arith)
  planned_more (suc i) (k ∷ p) h =
      let z : suc i + 1 ≡ suc (i + 1) = omega arith in
      ap (λ x. planned w (take x (k ∷ p))) z ∙ planned_cons k (take (i + 1) p) ∙ ap (λ l. planned_row w k ++ l) (planned_more i p (omega arith))
      ∙ sym (append_assoc (planned_row w k) (planned w (take i p)) (planned_row w (get_or p i 0))) ∙ ap (λ l. l ++ planned_row w (get_or p i 0)) (sym (planned_cons k (take i p)))

-- a row written over zeros
blank_row : (w : ℕ) → replicate {A = ℕ} (wide w) 0 ≡ 0 ∷ 0 ∷ replicate (6 + 4 * w) 0
blank_row w = let e : wide w ≡ suc (suc (6 + 4 * w)) = omega arith in ap (λ x. replicate {A = ℕ} x 0) e

pub sheet_row : (w k m : ℕ) (l : List ℕ) → l ≡ replicate m 0 → m ≡ wide w → k ≡ 0 → set l 1 1 ≡ planned_row w k
unfolding planned_row
sheet_row w k m l e h z = ap (λ (x : List ℕ). set x 1 1) (e ∙ ap (λ (x : ℕ). replicate x 0) h ∙ blank_row w) ∙ ap (planned_row w) (sym z)

pub folder_row_lem : (w k m : ℕ) (l : List ℕ) → l ≡ replicate m 0 → m ≡ wide w → 0 < k → set (set l 0 3) 1 k ≡ planned_row w k
unfolding planned_row
folder_row_lem w zero m l e h z = absurd (omega arith)
folder_row_lem w (suc k) m l e h z = ap (λ (x : List ℕ). set (set x 0 3) 1 (suc k)) (e ∙ ap (λ (x : ℕ). replicate x 0) h ∙ blank_row w)

-- IN THE LOOP: the head and the first rows are written
abbrev head : ℕ → ℕ → List ℕ → List ℕ
head w device p = head_words w (record { device = device; counter = 0 }) (length p)

pub record Upto (w device : ℕ) (p t : List ℕ) (row : ℕ) : Type 0 where
  pub columns : w ≤ devices
  pub few : length p ≤ 256
  pub room : length t ≡ length p * wide w + wide w
  pub done : take ((row + 1) * wide w) t ≡ head w device p ++ planned w (take row p)

module _ (w device : ℕ) (p t : List ℕ) where
  -- no row yet
  pub upto_none : (e : List ℕ) → w ≤ devices → length p ≤ 256 → length t ≡ length p * wide w + wide w → length e ≡ length (take (wide w) t)
      → e ≡ head w device p → Upto w device p (e ++ drop (wide w) t) 0
  upto_none e b f r l q =
      let n : wide w ≤ length t = omega arith in
      record {
        columns = b;
        few = f;
        room = head_length (wide w) t e n l ∙ r;
        done = head_words_lem (wide w) t e n l ∙ q ∙ sym (append-nil _) ∙ ap (λ l. head w device p ++ l) (sym (planned_none w));
      }

  module _ (row : ℕ) (u : Upto w device p t row) where
    -- there is room for a row more
    pub room_here : row < length p → ((row + 1) * wide w + wide w ≤ length t) × (length t ≤ most_words)
    room_here h = (omega (arith, u.room, suc-mul row (wide w), mul-le-mul_right (wide w) h), omega (arith, u.room, words_small (length p) (wide w) u.few (omega (arith, u.columns))))

    pub cut_long : row < length p → length (take ((row + 1) * wide w + wide w - (row + 1) * wide w) (drop ((row + 1) * wide w) t)) ≡ wide w
    cut_long h = mid_len ((row + 1) * wide w) ((row + 1) * wide w + wide w) t (room_here h).0 ∙ omega arith

    -- one row more
    pub upto_more : (e : List ℕ) → row < length p → length e ≡ length (take ((row + 1) * wide w + wide w - (row + 1) * wide w) (drop ((row + 1) * wide w) t)) → e ≡ planned_row w (get_or p row 0)
        → Upto w device p (put_mid ((row + 1) * wide w) ((row + 1) * wide w + wide w - (row + 1) * wide w) t e) (row + 1)
    upto_more e h l q = record {
      columns = u.columns;
      few = u.few;
      room = same_len_mid ((row + 1) * wide w) ((row + 1) * wide w + wide w - (row + 1) * wide w) t e l ∙ u.room;
      done = row_words (wide w) t e (row + 1) _ u.done (room_here h).0 l ∙ append_assoc (head w device p) _ e
          ∙ ap (λ l. head w device p ++ l) (ap (λ x. planned w (take row p) ++ x) q ∙ sym (planned_more w row p h));
    }

    -- all rows
    pub upto_all : length p ≤ row → t ≡ planned_table w device p
    upto_all h =
        sym (take_all ((row + 1) * wide w) t (omega (arith, u.room, add-mul row 1 (wide w), mul-le-mul_right {m = length p} {n = row} (wide w) h))) ∙ u.done
        ∙ ap (λ l. head w device p ++ planned w l) (take_all row p h)

-- for the loop over a part, for a whole plan, and for the loop over the rows
pub ruleset cut_plans = (plan_none, no_level, no_room, under_broken, plan_next)

pub ruleset root_plans = (no_rows, too_many, no_root, root_order)

pub ruleset rows_upto = (upto_none, room_here, cut_long, upto_more, upto_all)
