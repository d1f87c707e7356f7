-- Folders put right above a row: among siblings those before are passed, and the one that holds the row is lent part by part.
use Prim.Native.Nat.{ℕ, zero, suc, ◌+◌, ◌-◌, ◌*◌, ◌≤◌, ◌<◌}
use mathlib.Core.Path.{◌≡◌, refl, sym, ap, ap₂, ◌∙◌}
use mathlib.Core.List.{List, [], ◌++◌, append_assoc}
use mathlib.Core.Bool.{Bool, true, false}
use native.Mathlib.Omega.{arith}
use lib.Dec.{eqb}
use borrow.Author.Tests.{eqb-false, lt-ltb}
use borrow.Rule.Slice.PartMut.{put_mid, Post-is}
use lib.ListN.{length, get_or, take, drop, length-append, length-drop, take-append-drop}
use lib.Seq.{take_at, drop_at, take-append-add, length-take-le}
use Rattle.paper.specs.Tree.{end, sheet, folder, size}
use Rattle.paper.specs.Order.{kind_word, size_word, beneath, after, ordered, Raw, placed, forest_of, words_of}
use Rattle.paper.specs.Words.{wide}
use Rattle.laws.proofs.Order.{Step, ordered_facts, forest_step, split_part, row_room, row_length, beneath_length}
use Rattle.laws.proofs.FormedRows.{Formed, formed_ordered, formed_read, ordered_formed, ordered_words}
use Rattle.summary.specs.Sums.{mended, Named, stored, Siblings}
use Rattle.summary.proofs.Stored.{past_named, under_named}
use Rattle.order.proofs.Descents.{not_below, under_size, folder_kind, folder_here}
use Rattle.order.proofs.RowPlaces.{row_under, row_after}
use Rattle.order.proofs.Siblings.{Here, here, next, size_here, part_beneath, part_after}
use Rattle.mend.specs.Mended.{mended_by, mended_rows}
use Rattle.mend.proofs.MendedRows.{mended_append, mended_formed, mended_named}

take_more : (a k : ℕ) (t : List ℕ) → a ≤ length t → take (a + k) t ≡ take a t ++ take k (drop a t)
take_more a k t h =
    let z : a + k ≡ length (take a t) + k = omega (arith, length-take-le a t h) in
    ap₂ take z (sym (take-append-drop a t)) ∙ take-append-add (take a t) (drop a t) k

-- THE WORDS from m to e, all but the first n of them lent and come back as y
module _ (m n e : ℕ) (t y : List ℕ) (h : m + n ≤ e) (l : e ≤ length t) (q : length y ≡ e - (m + n)) where
  abbrev once : List ℕ
  once = put_mid (m + n) (e - (m + n)) t y

  lent_once : once ≡ take m t ++ ((take n (drop m t) ++ y) ++ drop e t)
  lent_once =
      ap₂ (λ a b. a ++ (y ++ b)) (take_more m n t (omega arith)) (Post-is (m + n) e t h)
      ∙ append_assoc (take m t) (take n (drop m t)) (y ++ drop e t) ∙ ap (λ b. take m t ++ b) (sym (append_assoc (take n (drop m t)) y (drop e t)))

  before : length (take m t) ≡ m
  before = length-take-le m t (omega arith)

  part_long : length (take n (drop m t) ++ y) ≡ e - m
  part_long = length-append (take n (drop m t)) y ∙ omega (arith, length-take-le n (drop m t) (omega (arith, length-drop m t)))

  pub lent_part : take (e - m) (drop m once) ≡ take n (drop m t) ++ y
  lent_part =
      ap (λ x. take (e - m) (drop m x)) lent_once ∙ ap (take (e - m)) (drop_at (take m t) _ m before)
      ∙ take_at (take n (drop m t) ++ y) (drop e t) (e - m) part_long

  -- and then all of them, come back as z
  pub lent_twice : (z : List ℕ) → put_mid m (e - m) once z ≡ take m t ++ (z ++ drop e t)
  lent_twice z =
      ap (λ x. put_mid m (e - m) x z) lent_once
      ∙ ap₂ (λ a b. a ++ (z ++ b)) (take_at (take m t) _ m before) (ap (drop (e - m)) (drop_at (take m t) _ m before) ∙ drop_at (take n (drop m t) ++ y) (drop e t) (e - m) part_long)

-- THE ROWS

pub mended_first : (w : ℕ) (f : Raw) → mended_rows w f 0 ≡ f
unfolding mended_rows
mended_first w end = refl
mended_first w (sheet r s) = refl
mended_first w (folder r k s) = refl

mended_past : (w : ℕ) (b : Bool) (r : List ℕ) (k s : Raw) (i : ℕ) → (b ≡ false → size k ≡ 0) → suc (size k) ≤ i
    → mended_rows w (placed b r k s) i ≡ placed b r k (mended_rows w s (i - suc (size k)))
unfolding mended_rows
mended_past w true r k s zero z l = absurd (omega arith)
mended_past w true r k s (suc i) z l =
    let a : i - size k ≡ suc i - suc (size k) = omega arith in
    rw (not_below i (size k) (omega arith)) (ap (λ x. folder r k (mended_rows w s x)) a)
mended_past w false r k s zero z l = absurd (omega arith)
mended_past w false r k s (suc i) z l = let a : i ≡ suc i - suc (size k) = omega (arith, z refl) in ap (λ x. sheet r (mended_rows w s x)) a

-- no rows, no words
none_words : (f : Raw) → size f ≡ 0 → words_of f ≡ []
unfolding size words_of
none_words end z = refl
none_words (sheet r s) z = absurd (omega arith)
none_words (folder r k s) z = absurd (omega arith)

placed_words : (b : Bool) (r : List ℕ) (k s : Raw) → (b ≡ false → words_of k ≡ []) → words_of (placed b r k s) ≡ r ++ (words_of k ++ words_of s)
unfolding words_of
placed_words true r k s z = refl
placed_words false r k s z = ap (λ l. r ++ (l ++ words_of s)) (sym (z refl))

module _ (w lv : ℕ) (t : List ℕ) (h : 0 < length t) (e : ordered (wide w) lv t ≡ true) where
  abbrev n : ℕ
  n = wide w

  step : Step n (omega arith) lv t
  step = ordered_facts n (omega arith) lv t h e

  abbrev kids : Raw
  kids = forest_of n (beneath n t)

  kids_formed : Formed n (lv - 1) kids
  kids_formed = ordered_formed n (omega arith) (lv - 1) (beneath n t) step.beneath

  first_words : take (size_word t * n) t ≡ take n t ++ beneath n t
  first_words =
      let f = step.fits in
      ap (take (size_word t * n)) (split_part n lv t f ∙ sym (append_assoc (take n t) (beneath n t) (after n t)))
      ∙ take_at (take n t ++ beneath n t) (after n t) (size_word t * n) (length-append (take n t) (beneath n t) ∙ omega (arith, row_length n lv t f, beneath_length n lv t f, row_room n lv t f))

  -- the row is after the first
  past_words : (i : ℕ) → size_word t ≤ i → words_of (mended_rows w (forest_of n t) i) ≡ take (size_word t * n) t ++ words_of (mended_rows w (forest_of n (after n t)) (i - size_word t))
  past_words i l =
      let s = under_size n (omega arith) lv t h e in
      let none : eqb (kind_word t) 3 ≡ false → size kids ≡ 0 = λ b. omega (arith, s, step.fits.sheet (eqb-false _ _ b)) in
      let rest = words_of (mended_rows w (forest_of n (after n t)) (i - size_word t)) in
      ap (λ g. words_of (mended_rows w g i)) (forest_step n (omega arith) lv t h e)
      ∙ ap words_of (mended_past w (eqb (kind_word t) 3) (take n t) kids (forest_of n (after n t)) i none (omega arith))
      ∙ ap (λ z. words_of (placed (eqb (kind_word t) 3) (take n t) kids (mended_rows w (forest_of n (after n t)) (i - z)))) s
      ∙ placed_words (eqb (kind_word t) 3) (take n t) kids _ (λ b. none_words kids (none b))
      ∙ ap (λ x. take n t ++ (x ++ rest)) (ordered_words n (omega arith) (lv - 1) (beneath n t) step.beneath)
      ∙ sym (append_assoc (take n t) (beneath n t) rest) ∙ ap (λ x. x ++ rest) (sym first_words)

  -- the rows beneath the first came back as y, put right for row i there
  module _ (i : ℕ) (y : List ℕ) (q : y ≡ words_of (mended_rows w kids i)) where
    back_formed : Formed n (lv - 1) (mended_rows w kids i)
    back_formed = mended_formed w kids (lv - 1) i kids_formed

    back_forest : forest_of n y ≡ mended_rows w kids i
    back_forest = ap (forest_of n) q ∙ formed_read n (omega arith) (mended_rows w kids i) (lv - 1) back_formed

    pub back_siblings : Named w kids → Siblings w y
    back_siblings m = record {
      levels = lv - 1;
      order = ap (ordered n (lv - 1)) q ∙ formed_ordered n (omega arith) (mended_rows w kids i) (lv - 1) back_formed;
      named = rw back_forest (mended_named w kids i m);
    }

    -- the first row is put right in turn
    under_words : suc i < size_word t → mended_by w y (take n t ++ y) ++ after n t ≡ words_of (mended_rows w (forest_of n t) (suc i))
    unfolding mended_rows words_of
    under_words l =
        let m = mended_rows w kids i in
        ap (λ f. mended w (stored w f) (take n t ++ y) ++ after n t) back_forest
        ∙ ap (λ x. x ++ after n t) (mended_append w (stored w m) (take n t) (omega (arith, row_length n lv t step.fits)) y)
        ∙ append_assoc (mended w (stored w m) (take n t)) y (after n t)
        ∙ ap (λ x. mended w (stored w m) (take n t) ++ (x ++ after n t)) q
        ∙ sym (ap (λ f. words_of (mended_rows w f (suc i))) (folder_here n (omega arith) lv t h e (omega arith))
        ∙ rw (lt-ltb i (size kids) (omega (arith, under_size n (omega arith) lv t h e)))
        (ap (λ x. mended w (stored w m) (take n t) ++ (words_of m ++ x)) (ordered_words n (omega arith) lv (after n t) step.after)))

-- IN THE LOOP: the row is among the siblings from `at` on, `left` rows further
pub record Above (w : ℕ) (t : List ℕ) (row at left : ℕ) : Type 0 where
  pub levels : ℕ
  pub order : ordered (wide w) levels (drop at t) ≡ true
  pub named : Named w (forest_of (wide w) (drop at t))
  pub there : left * wide w < length t - at
  pub here : Here (wide w) levels t at
  pub whole : words_of (mended_rows w (forest_of (wide w) t) row) ≡ take at t ++ words_of (mended_rows w (forest_of (wide w) (drop at t)) left)

module _ (w : ℕ) (t : List ℕ) (row : ℕ) where
  fits_here : (lv at : ℕ) → ordered (wide w) lv (drop at t) ≡ true → at < length t → Here (wide w) lv t at
  fits_here lv at e l = here (wide w) (omega arith) lv t at (ordered_facts (wide w) (omega arith) lv (drop at t) (omega (arith, length-drop at t)) e).fits

  pub above_start : Siblings w t → row * wide w < length t → Above w t row 0 row
  above_start s l = record { levels = s.levels; order = s.order; named = s.named; there = omega arith; here = fits_here s.levels 0 s.order (omega arith); whole = refl }

  module _ (at left : ℕ) (a : Above w t row at left) where
    abbrev u : List ℕ
    u = drop at t

    some : 0 < length u
    some = omega (arith, a.there, length-drop at t)

    at_step : Step (wide w) (omega arith) a.levels u
    at_step = ordered_facts (wide w) (omega arith) a.levels u some a.order

    -- a sibling is passed
    pub above_past : get_or t (at + 1) 0 ≤ left → Above w t row (next (wide w) t at) (left - get_or t (at + 1) 0)
    above_past l =
        let n = wide w in
        let z = size_here n t at in
        let p = part_after n t at in
        let o : ordered n a.levels (drop (next n t at) t) ≡ true = ap (ordered n a.levels) p ∙ at_step.after in
        let r : (left - get_or t (at + 1) 0) * n < length t - next n t at = omega (arith, row_after left (get_or t (at + 1) 0) n (length t - at) l a.there) in
        record {
          levels = a.levels;
          order = o;
          named = rw p (past_named w a.levels u some a.order a.named);
          there = r;
          here = fits_here a.levels (next n t at) o (omega arith);
          whole =
              a.whole ∙ ap (λ x. take at t ++ x) (past_words w a.levels u some a.order left (omega arith))
              ∙ sym (append_assoc (take at t) (take (size_word u * n) u) _)
              ∙ ap₂ (λ x y. x ++ words_of (mended_rows w (forest_of n y) (left - size_word u)))
              (ap (λ k. take at t ++ take (k * n) u) z ∙ sym (take_more at (get_or t (at + 1) 0 * n) t (omega (arith, a.here.under, a.here.room)))) (sym p)
              ∙ ap (λ k. words_of_after k) z;
        }
      where
        words_of_after : ℕ → List ℕ
        words_of_after k = take (next (wide w) t at) t ++ words_of (mended_rows w (forest_of (wide w) (drop (next (wide w) t at) t)) (left - k))

    -- it is this row
    pub above_none : left ≡ 0 → t ≡ words_of (mended_rows w (forest_of (wide w) t) row)
    above_none z =
        sym (a.whole ∙ ap (λ i. take at t ++ words_of (mended_rows w (forest_of (wide w) u) i)) z
        ∙ ap (λ x. take at t ++ x) (ap words_of (mended_first w (forest_of (wide w) u)) ∙ ordered_words (wide w) (omega arith) a.levels u a.order) ∙ take-append-drop at t)

    -- the row is beneath this sibling: its children, and what comes of it when they came back as y and the sibling as z
    module _ (p : 0 < left) (l : left < get_or t (at + 1) 0) where
      abbrev below : List ℕ
      below = take (next (wide w) t at - (at + wide w)) (drop (at + wide w) t)

      kids_named : Named w (forest_of (wide w) (beneath (wide w) u))
      kids_named = under_named w a.levels u some a.order a.named (folder_kind (wide w) (omega arith) a.levels u some a.order (omega (arith, size_here (wide w) t at)))

      pub below_siblings : Siblings w below
      below_siblings = rw (part_beneath (wide w) t at) (record { levels = a.levels - 1; order = at_step.beneath; named = kids_named })

      below_length : length below ≡ next (wide w) t at - (at + wide w)
      below_length = ap length (part_beneath (wide w) t at) ∙ beneath_length (wide w) a.levels u at_step.fits ∙ omega (arith, ap (λ (k : ℕ). k * wide w) (size_here (wide w) t at))

      pub below_less : length below < length t
      below_less = omega (arith, below_length, a.here.under, a.here.room)

      pub below_there : (left - 1) * wide w < length below
      below_there = omega (arith, below_length, row_under left (get_or t (at + 1) 0) (wide w) p l (omega arith))

      module _ (y : List ℕ) (q : y ≡ words_of (mended_rows w (forest_of (wide w) below) (left - 1))) (k : length y ≡ length below) where
        abbrev came : List ℕ
        came = put_mid (at + wide w) (next (wide w) t at - (at + wide w)) t y

        abbrev held : List ℕ
        held = take (next (wide w) t at - at) (drop at came)

        back : y ≡ words_of (mended_rows w (forest_of (wide w) (beneath (wide w) u)) (left - 1))
        back = q ∙ ap (λ x. words_of (mended_rows w (forest_of (wide w) x) (left - 1))) (part_beneath (wide w) t at)

        held_words : held ≡ take (wide w) u ++ y
        held_words = lent_part at (wide w) (next (wide w) t at) t y a.here.under a.here.room (k ∙ below_length)

        row_long : length (take (wide w) u) ≡ wide w
        row_long = row_length (wide w) a.levels u at_step.fits

        held_kids : drop (wide w) held ≡ y
        held_kids = ap (drop (wide w)) held_words ∙ drop_at (take (wide w) u) y (wide w) row_long

        pub held_siblings : (wide w ≤ length held) × Siblings w (drop (wide w) held)
        held_siblings = (omega (arith, ap length held_words ∙ length-append (take (wide w) u) y, row_long), rw held_kids (back_siblings w a.levels u some a.order (left - 1) y back kids_named))

        pub above_under : (z : List ℕ) → z ≡ mended_by w (drop (wide w) held) held
            → put_mid at (next (wide w) t at - at) came z ≡ words_of (mended_rows w (forest_of (wide w) t) row)
        above_under z g =
            let i : suc (left - 1) ≡ left = omega arith in
            lent_twice at (wide w) (next (wide w) t at) t y a.here.under a.here.room (k ∙ below_length) z
            ∙ ap₂ (λ b c. take at t ++ (b ++ c)) (g ∙ ap₂ (mended_by w) held_kids held_words) (part_after (wide w) t at)
            ∙ ap (λ x. take at t ++ x) (under_words w a.levels u some a.order (left - 1) y back (omega (arith, size_here (wide w) t at))
            ∙ ap (λ j. words_of (mended_rows w (forest_of (wide w) u) j)) i)
            ∙ sym a.whole
