-- New tables: the words that a plan gives are the written form of a tree with nothing in it, and the plan's zeros are its
-- sheets.
use Prim.{tt}
use Prim.Native.Nat.{ℕ, zero, suc, ◌+◌, ◌-◌, ◌*◌, ◌≤◌, ◌<◌}
use mathlib.Core.Path.{◌≡◌, refl, sym, ap, ap₂, ◌∙◌}
use mathlib.Core.Bool.{Bool, true, false, not, ◌&&◌, cond}
use mathlib.Core.List.{List, [], ◌∷◌, ◌++◌, append-nil, append_assoc}
use native.Mathlib.Omega.{arith}
use lib.Dec.{leb, ltb, eqb}
use lib.ListN.{length, get_or, take, drop, replicate, length-append}
use lib.Seq.{take_at, drop_at}
use borrow.Author.Tests.{ltb-true, leb-true, leb-false, lt-ltb, le-leb, eq-eqb, ne_eqb}
use Rattle.paper.specs.declared.Clock.{Clock}
use Rattle.paper.specs.Devices.{most_rows, most_levels}
use Rattle.paper.specs.Columns.{Vec, zeros, greatest, columns}
use Rattle.paper.specs.Tree.{Forest, end, sheet, folder, mapped, size, subtree, sheet_here, Sheet, Tree, newest, stamp_vec, greatest_of, least, most}
use Rattle.paper.specs.Order.{kind_word, size_word, ordered, Raw, forest_of, words_of}
use Rattle.paper.specs.Words.{wide, kind_number, tree_from, Table, table_of, sheet_words, folder_words, folder_row, rows_of, head_words, sign}
use Rattle.paper.specs.Check.{blank, laid, known, absent, content_absent, head_fits, order_fits, rows_fit, check_of}
use Rattle.paper.specs.Good.{Good}
use Rattle.paper.specs.Calls.{Changed, planned, plan_fits, new_refused, new_of, is_folder}
use Rattle.laws.proofs.Bools.{and_both, both_and}
use Rattle.laws.proofs.BlankWords.{length_zeros, zeros_blank, blank_zeros}
use Rattle.laws.proofs.Columns.{length_columns}
use Rattle.laws.proofs.FormedRows.{Formed, formed_length, ordered_formed, ordered_words}
use Rattle.laws.proofs.WrittenRows.{rows_read}
use Rattle.laws.proofs.Check.{good_thin, rows_pass}
use Rattle.laws.proofs.Calls.{new_number}
use Rattle.laws.proofs.Refusals.{first_none, first_both, first_next, unless_so, none_so, when_none, unless_none}
use Rattle.laws.proofs.Tables.{head_long}
use Rattle.laws.proofs.Forests.{shape, folder_same, mapped_size}
use Rattle.paper.specs.Widths.{Width, width_of, table_any, check_any, new_any}
use Rattle.laws.proofs.Widths.{width_checked, new_any_lem}
use Rattle.run.specs.World.{no_row}
use Rattle.history.proofs.Bridge.{get_d_two}
use Rattle.history.proofs.Summaries.{least_most}

-- a sheet before any event
abbrev pub no_sheet : Sheet
no_sheet = record { row = no_row; floor = zeros }

-- a tree with nothing in it
abbrev pub bare : {X Y : Type 0} → Forest X Y → Tree
bare f = mapped (λ x. no_sheet) (λ y. zeros) f

-- ITS SUMMARIES are zeros
module _ {X Y : Type 0} where
  newest_bare : (f : Forest X Y) (j : ℕ) → newest (bare f) j ≡ 0
  unfolding newest mapped stamp_vec
  newest_bare end j = refl
  newest_bare (sheet x r) j = omega (arith, newest_bare r j)
  newest_bare (folder y k r) j = omega (arith, newest_bare k j, newest_bare r j)

  greatest_bare : (f : Forest X Y) (j : ℕ) → greatest_of (bare f) j ≡ 0
  unfolding greatest_of mapped
  greatest_bare end j = refl
  greatest_bare (sheet x r) j = omega (arith, greatest_bare r j)
  greatest_bare (folder y k r) j = omega (arith, greatest_bare k j, greatest_bare r j)

  -- it is good
  pub bare_good : (w : ℕ) (c : Clock) (f : Forest X Y) (u : Vec) → Good w c (bare f) u
  unfolding mapped laid known absent content_absent
  bare_good w c end u = tt
  bare_good w c (sheet x r) u = (record { floor = record { narrow = λ j h. refl; own = refl }; laid = refl; known = refl }, bare_good w c r u)
  bare_good w c (folder y k r) u = (record { narrow = λ j h. refl; own = refl }, bare_good w c k (greatest u zeros), bare_good w c r u)

  -- THE PLAN of a forest
  unfoldable pub plan_of : Forest X Y → List ℕ
  plan_of end = []
  plan_of (sheet x r) = 0 ∷ plan_of r
  plan_of (folder y k r) = suc (size k) ∷ plan_of k ++ plan_of r

  -- a number a row
  pub plan_length : (f : Forest X Y) → length (plan_of f) ≡ size f
  unfolding plan_of size
  plan_length end = refl
  plan_length (sheet x r) = ap suc (plan_length r)
  plan_length (folder y k r) = ap suc (length-append (plan_of k) (plan_of r) ∙ ap₂ ◌+◌ (plan_length k) (plan_length r))

  -- its zeros are the sheets
  pub plan_sheets : (f : Forest X Y) (i : ℕ) → is_folder (sheet_here (subtree f i)) ≡ not (eqb (get_or (plan_of f) i 1) 0)
  unfolding plan_of subtree sheet_here
  plan_sheets end i = refl
  plan_sheets (sheet x r) zero = refl
  plan_sheets (sheet x r) (suc i) = plan_sheets r i
  plan_sheets (folder y k r) zero = rw (ne_eqb (suc (size k)) 0 (omega arith))
  plan_sheets (folder y k r) (suc i) = rw (get_d_two (plan_of k) (plan_of r) (size k) i 1 (plan_length k)) (go (ltb i (size k)) (plan_sheets k i) (plan_sheets r (i - size k)))
    where
      go : (t : Bool) → is_folder (sheet_here (subtree k i)) ≡ not (eqb (get_or (plan_of k) i 1) 0) → is_folder (sheet_here (subtree r (i - size k))) ≡ not (eqb (get_or (plan_of r) (i - size k) 1) 0)
          → is_folder (sheet_here (cond t (subtree k i) (subtree r (i - size k)))) ≡ not (eqb (cond t (get_or (plan_of k) i 1) (get_or (plan_of r) (i - size k) 1)) 0)
      go true p q = p
      go false p q = q

-- A plan has one shape
split : (a b c d : List ℕ) → length a ≡ length c → a ++ b ≡ c ++ d → (a ≡ c) × (b ≡ d)
split a b c d e q = (
  sym (take_at a b (length a) refl) ∙ ap (take (length a)) q ∙ take_at c d (length a) (sym e),
  sym (drop_at a b (length a) refl) ∙ ap (drop (length a)) q ∙ drop_at c d (length a) (sym e),
)

pub plan_shape : {X Y : Type 0} (f g : Forest X Y) → plan_of f ≡ plan_of g → shape f ≡ shape g
unfolding plan_of mapped
plan_shape end end e = refl
plan_shape end (sheet y s) e = let z : ◌≡◌ {A = ℕ} 0 1 = cc in absurd (omega arith)
plan_shape end (folder y l s) e = let z : ◌≡◌ {A = ℕ} 0 1 = cc in absurd (omega arith)
plan_shape (sheet x r) end e = let z : ◌≡◌ {A = ℕ} 0 1 = cc in absurd (omega arith)
plan_shape (sheet x r) (sheet y s) e = let q : plan_of r ≡ plan_of s = cc in ap (sheet tt) (plan_shape r s q)
plan_shape (sheet x r) (folder y l s) e = let z : 0 ≡ suc (size l) = ap (λ p. get_or p 0 0) e in absurd (omega arith)
plan_shape (folder x k r) end e = let z : ◌≡◌ {A = ℕ} 0 1 = cc in absurd (omega arith)
plan_shape (folder x k r) (sheet y s) e = let z : suc (size k) ≡ 0 = ap (λ p. get_or p 0 0) e in absurd (omega arith)
plan_shape (folder x k r) (folder y l s) e =
    let n : suc (size k) ≡ suc (size l) = ap (λ p. get_or p 0 0) e in
    let q : plan_of k ++ plan_of r ≡ plan_of l ++ plan_of s = ap (drop 1) e in
    let z = split (plan_of k) (plan_of r) (plan_of l) (plan_of s) (omega (arith, plan_length k, plan_length l)) q in
    folder_same refl (plan_shape k l z.0) (plan_shape r s z.1)

-- ITS WORDS
blank_both : (a b : List ℕ) → blank a ≡ true → blank b ≡ true → blank (a ++ b) ≡ true
unfolding blank
blank_both [] b p q = q
blank_both (x ∷ a) b p q = let e = and_both (eqb x 0) _ p in both_and e.0 (blank_both a b e.1 q)

columns_blank : (w : ℕ) (v : Vec) → ((j : ℕ) → v j ≡ 0) → blank (columns w v) ≡ true
unfolding columns blank
columns_blank zero v h = refl
columns_blank (suc w) v h = both_and (eq-eqb _ _ (h 0)) (columns_blank w (λ j. v (suc j)) (λ j. h (suc j)))

zeros_of : (l : List ℕ) (n : ℕ) → blank l ≡ true → length l ≡ n → l ≡ replicate n 0
zeros_of l n b e = blank_zeros l b ∙ ap (λ m. replicate m 0) e

module _ (w : ℕ) where
  sheet_bare : sheet_words w no_sheet ≡ 0 ∷ 1 ∷ replicate (6 + 4 * w) 0
  unfolding sheet_words kind_number blank
  sheet_bare =
      ap (λ l. 0 ∷ 1 ∷ l)
      (zeros_of (0 ∷ 0 ∷ 0 ∷ 0 ∷ 0 ∷ 0 ∷ (columns w zeros ++ replicate (3 * w) 0)) (6 + 4 * w)
      (blank_both (columns w zeros) (replicate (3 * w) 0) (columns_blank w zeros (λ j. refl)) (zeros_blank (3 * w)))
      (omega (arith, length-append (columns w zeros) (replicate (3 * w) 0), length_columns w zeros, length_zeros (3 * w))))

  folder_bare : (k : Raw) → folder_row w zeros (bare k) ≡ 3 ∷ suc (size k) ∷ replicate (6 + 4 * w) 0
  unfolding folder_words blank
  folder_bare k =
      ap₂ (λ n l. 3 ∷ suc n ∷ l) (mapped_size _ _ k)
      (zeros_of (0 ∷ 0 ∷ 0 ∷ 0 ∷ 0 ∷ 0 ∷ (columns w zeros ++ (columns w (newest (bare k)) ++ (columns w (least zeros (bare k)) ++ columns w (most zeros (bare k)))))) (6 + 4 * w)
      (blank_both (columns w zeros) _ (columns_blank w zeros (λ j. refl))
      (blank_both (columns w (newest (bare k))) _ (columns_blank w (newest (bare k)) (newest_bare k))
      (blank_both (columns w (least zeros (bare k))) _ (columns_blank w (least zeros (bare k)) (λ j. omega (arith, least_most (bare k) zeros j, greatest_bare k j)))
      (columns_blank w (most zeros (bare k)) (λ j. omega (arith, greatest_bare k j))))))
      (omega (
        arith,
        length-append (columns w zeros) (columns w (newest (bare k)) ++ (columns w (least zeros (bare k)) ++ columns w (most zeros (bare k)))),
        length-append (columns w (newest (bare k))) (columns w (least zeros (bare k)) ++ columns w (most zeros (bare k))),
        length-append (columns w (least zeros (bare k))) (columns w (most zeros (bare k))),
        length_columns w zeros,
        length_columns w (newest (bare k)),
        length_columns w (least zeros (bare k)),
        length_columns w (most zeros (bare k)),
      )))

  -- well-formed rows at the front of what a plan gives: the plan is theirs and then some, and they have nothing in them
  record Planned (f : Raw) (p rest : List ℕ) : Type 0 where
    others : List ℕ
    plan : p ≡ plan_of f ++ others
    left_over : rest ≡ planned w others
    nothing : rows_of w (bare f) ≡ f

  -- kind and size of the row that a number of a plan gives
  abbrev plan_kind : ℕ → ℕ
  plan_kind zero = 0
  plan_kind (suc n) = 3

  abbrev plan_size : ℕ → ℕ
  plan_size zero = 1
  plan_size (suc n) = suc n

  -- the first row that a plan gives
  first_row_lem : (r q p : List ℕ) → length r ≡ wide w → r ++ q ≡ planned w p
      → (n : ℕ) × (others : List ℕ) × (p ≡ n ∷ others) × (q ≡ planned w others) × (r ≡ plan_kind n ∷ plan_size n ∷ replicate (6 + 4 * w) 0)
  unfolding planned
  first_row_lem r q [] l e = absurd (omega (arith, length-append r q, ap length e))
  first_row_lem r q (zero ∷ p) l e =
      let s = split r q (0 ∷ 1 ∷ replicate (6 + 4 * w) 0) (planned w p) (omega (arith, length_zeros (6 + 4 * w))) e in
      (0, p, refl, s.1, s.0)
  first_row_lem r q (suc n ∷ p) l e =
      let s = split r q (3 ∷ suc n ∷ replicate (6 + 4 * w) 0) (planned w p) (omega (arith, length_zeros (6 + 4 * w))) e in
      (suc n, p, refl, s.1, s.0)

  plan_front : (lv : ℕ) (f : Raw) (p rest : List ℕ) → Formed (wide w) lv f → words_of f ++ rest ≡ planned w p → Planned f p rest
  unfolding words_of rows_of plan_of mapped
  plan_front lv end p rest g e = record { others = p; plan = refl; left_over = e; nothing = refl }
  plan_front lv (sheet r s) p rest g e =
      let x = first_row_lem r (words_of s ++ rest) p g.1.long (sym (append_assoc r (words_of s) rest) ∙ e) in
      let y = plan_front lv s x.1 rest g.2 x.3 in
      go x.0 x.1 x.2 x.4 y
    where
      go : (n : ℕ) (others : List ℕ) → p ≡ n ∷ others → r ≡ plan_kind n ∷ plan_size n ∷ replicate (6 + 4 * w) 0 → Planned s others rest → Planned (sheet r s) p rest
      go zero others e z y = record { others = y.others; plan = e ∙ ap (λ l. 0 ∷ l) y.plan; left_over = y.left_over; nothing = ap₂ sheet (sheet_bare ∙ sym z) y.nothing }
      go (suc n) others e z y = absurd (omega (arith, g.1.kind, ap kind_word z))
  plan_front lv (folder r k s) p rest g e =
      let x = first_row_lem r (words_of k ++ (words_of s ++ rest)) p g.1.long
      (sym (append_assoc r (words_of k ++ words_of s) rest ∙ ap (λ l. r ++ l) (append_assoc (words_of k) (words_of s) rest)) ∙ e) in
      let y = plan_front (lv - 1) k x.1 (words_of s ++ rest) g.2 x.3 in
      let z = plan_front lv s y.others rest g.3 y.left_over in
      go x.0 x.1 x.2 x.4 y z
    where
      go : (n : ℕ) (others : List ℕ) → p ≡ n ∷ others → r ≡ plan_kind n ∷ plan_size n ∷ replicate (6 + 4 * w) 0
          → (y : Planned k others (words_of s ++ rest)) → Planned s y.others rest → Planned (folder r k s) p rest
      go zero others e q y z = absurd (omega (arith, g.1.kind, ap kind_word q))
      go (suc n) others e q y z =
          let m : n ≡ size k = omega (arith, g.1.rows, ap size_word q) in
          record {
            others = z.others;
            plan = e ∙ ap₂ (λ i l. suc i ∷ l) m (y.plan ∙ ap (λ l. plan_of k ++ l) z.plan ∙ sym (append_assoc (plan_of k) (plan_of s) z.others));
            left_over = z.left_over;
            nothing = folder_same (folder_bare k ∙ ap (λ i. 3 ∷ suc i ∷ replicate (6 + 4 * w) 0) (sym m) ∙ sym q) y.nothing z.nothing;
          }

-- A NEW TABLE
abbrev pub plan_rows : ℕ → List ℕ → Raw
plan_rows w plan = forest_of (wide w) (planned w plan)

pub record NewAccepted (w d : ℕ) (plan table : List ℕ) : Type 0 where
  pub device : d < w
  pub planned : plan_of (plan_rows w plan) ≡ plan
  pub check : check_of w (new_of w d plan table).table ≡ 0
  pub read : table_of w (new_of w d plan table).table ≡ record { clock = record { device = d; counter = 0 }; tree = bare (plan_rows w plan) }

planned_none : (w : ℕ) (p : List ℕ) → planned w p ≡ [] → p ≡ []
unfolding planned
planned_none w [] e = refl
planned_none w (zero ∷ p) e = cc
planned_none w (suc n ∷ p) e = cc

module _ (w d : ℕ) (plan : List ℕ) (dw : d < w) (some : 0 < length plan) (few : length plan ≤ most_rows) (fits : order_fits w (length plan) (planned w plan) ≡ true) where
  abbrev words : List ℕ
  words = head_words w (record { device = d; counter = 0 }) (length plan) ++ planned w plan

  abbrev raw : Raw
  raw = forest_of (wide w) (planned w plan)

  planned_order : ordered (wide w) most_levels (planned w plan) ≡ true
  unfolding order_fits
  planned_order = (and_both (eqb (size_word (planned w plan)) (length plan)) _ (and_both (eqb (kind_word (planned w plan)) 3) _ fits).1).1

  raw_words : words_of raw ≡ planned w plan
  raw_words = ordered_words (wide w) (omega arith) most_levels (planned w plan) planned_order

  raw_formed : Formed (wide w) most_levels raw
  raw_formed = ordered_formed (wide w) (omega arith) most_levels (planned w plan) planned_order

  front : Planned w raw plan []
  front = plan_front w most_levels raw plan [] raw_formed (append-nil (words_of raw) ∙ raw_words)

  -- the rows that a plan gives have that plan
  pub raw_plan : plan_of raw ≡ plan
  raw_plan = sym (front.plan ∙ ap (λ l. plan_of raw ++ l) (planned_none w front.others (sym front.left_over)) ∙ append-nil (plan_of raw))

  rows_at : drop (wide w) words ≡ planned w plan
  rows_at = drop_at (head_words w (record { device = d; counter = 0 }) (length plan)) (planned w plan) (wide w) (head_long w (record { device = d; counter = 0 }) (length plan))

  raw_size : size raw ≡ length plan
  raw_size = sym (plan_length raw) ∙ ap length raw_plan

  words_long : length words ≡ length plan * wide w + wide w
  words_long =
      length-append (head_words w (record { device = d; counter = 0 }) (length plan)) (planned w plan)
      ∙ ap₂ ◌+◌ (head_long w (record { device = d; counter = 0 }) (length plan)) (sym (ap length raw_words) ∙ formed_length (wide w) most_levels raw raw_formed ∙ ap (λ n. n * wide w) raw_size)
      ∙ omega arith

  head_passes : head_fits w words ≡ true
  unfolding head_fits head_words
  head_passes =
      both_and (lt-ltb _ _ dw) (both_and (lt-ltb _ _ some) (both_and (le-leb _ _ few) (both_and (eq-eqb (length words) (length plan * wide w + wide w) (unfold head_words in words_long))
      (both_and (eq-eqb (sign w) (sign w) refl) (ap blank (take_at (replicate (4 + 4 * w) 0) (planned w plan) (4 + 4 * w) (length_zeros (4 + 4 * w))) ∙ zeros_blank (4 + 4 * w))))))

  pub new_read : table_of w words ≡ record { clock = record { device = d; counter = 0 }; tree = bare raw }
  unfolding table_of head_words
  new_read =
      ap (λ t. record { clock = record { device = d; counter = 0 }; tree = t })
      (ap (λ l. tree_from w (forest_of (wide w) l)) rows_at ∙ ap (tree_from w) (sym front.nothing)
      ∙ rows_read w (bare raw) (good_thin w (record { device = d; counter = 0 }) (bare raw) zeros (bare_good w (record { device = d; counter = 0 }) raw zeros)))

  rows_fit_lem : rows_fit w (table_of w words).clock (forest_of (wide w) (drop (wide w) words)) zeros ≡ true
  rows_fit_lem =
      ap₂ (λ k l. rows_fit w k (forest_of (wide w) l) zeros) (ap (λ (t : Table). t.clock) new_read) rows_at
      ∙ ap (λ f. rows_fit w (record { device = d; counter = 0 }) f zeros) (sym front.nothing)
      ∙ rows_pass w (record { device = d; counter = 0 }) (bare raw) zeros (bare_good w (record { device = d; counter = 0 }) raw zeros)

  order_fits_lem : order_fits w (get_or words 2 0) (drop (wide w) words) ≡ true
  unfolding head_words
  order_fits_lem = ap (order_fits w (length plan)) rows_at ∙ fits

  -- it passes the check
  pub new_check : check_of w words ≡ 0
  unfolding check_of
  new_check = first_next _ _ (unless_so _ 1 head_passes) ∙ first_next _ _ (unless_so _ 2 order_fits_lem) ∙ first_next _ [] (unless_so _ 3 rows_fit_lem) ∙ first_none

new_done : (w d : ℕ) (plan table : List ℕ) → new_refused w d plan table ≡ 0 → (new_of w d plan table).table ≡ head_words w (record { device = d; counter = 0 }) (length plan) ++ planned w plan
unfolding new_of
new_done w d plan table r = ap (λ (o : Changed). o.table) (unless_none (new_refused w d plan table) _ _ r)

-- the number 0 says so
pub new_accepted : (w d : ℕ) (plan table : List ℕ) → (new_of w d plan table).number ≡ 0 → NewAccepted w d plan table
unfolding new_refused plan_fits
new_accepted w d plan table e = record {
  device = dw;
  planned = raw_plan w d plan dw s.0 s.1 s.2;
  check = ap (check_of w) done ∙ new_check w d plan dw s.0 s.1 s.2;
  read = ap (table_of w) done ∙ new_read w d plan dw s.0 s.1 s.2;
}
  where
    r : new_refused w d plan table ≡ 0
    r = sym (new_number w d plan table) ∙ e

    facts : (leb w d ≡ false) × ((ltb 0 (length plan) && (leb (length plan) most_rows && order_fits w (length plan) (planned w plan))) ≡ true)
    facts =
        let x = first_both _ _ r in
        let y = first_both _ _ x.1 in
        (when_none _ 16 x.0, none_so _ 1 y.0)

    dw : d < w
    dw = leb-false w d facts.0

    s : (0 < length plan) × (length plan ≤ most_rows) × (order_fits w (length plan) (planned w plan) ≡ true)
    s =
        let x = and_both _ _ facts.1 in
        let y = and_both _ _ x.1 in
        (ltb-true _ _ x.0, leb-true _ _ y.0, y.1)

    done : (new_of w d plan table).table ≡ head_words w (record { device = d; counter = 0 }) (length plan) ++ planned w plan
    done = new_done w d plan table r

-- AT EITHER WIDTH
pub record NewAt (columns d : ℕ) (plan table : List ℕ) : Type 0 where
  pub width : Width columns
  pub device : d < columns
  pub planned : plan_of (plan_rows columns plan) ≡ plan
  pub check : check_any (new_any columns d plan table).table ≡ 0
  pub read : table_any (new_any columns d plan table).table ≡ record { clock = record { device = d; counter = 0 }; tree = bare (plan_rows columns plan) }

pub new_at : (columns d : ℕ) (plan table : List ℕ) → (new_any columns d plan table).number ≡ 0 → NewAt columns d plan table
new_at columns d plan table e =
    let x = new_any_lem columns d plan table e in
    let acc = new_accepted columns d plan table (sym (ap (λ (o : Changed). o.number) x.same) ∙ e) in
    let t = (new_of columns d plan table).table in
    let v : width_of t ≡ columns = width_checked columns x.width t acc.check in
    let q : (new_any columns d plan table).table ≡ t = ap (λ (o : Changed). o.table) x.same in
    record {
      width = x.width;
      device = acc.device;
      planned = acc.planned;
      check = ap check_any q ∙ ap (λ w. check_of w t) v ∙ acc.check;
      read = ap table_any q ∙ ap (λ w. table_of w t) v ∙ acc.read;
    }
