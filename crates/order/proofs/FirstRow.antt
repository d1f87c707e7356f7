-- A part in order as its first row with all beneath it, and the rows after: for rows of n words.
use Prim.Native.Nat.{ℕ, ◌+◌, ◌-◌, ◌*◌, ◌≤◌, ◌<◌}
use mathlib.Core.Path.{◌≡◌, refl, sym, ap, ap₂, ◌∙◌}
use mathlib.Core.List.{List, []}
use mathlib.Core.Bool.{Bool, true, false, ◌||◌}
use native.Mathlib.Omega.{arith}
use lib.Dec.{eqb}
use borrow.Author.Tests.{eqb-true, eqb-false, eq-eqb, ne_eqb}
use lib.ListN.{length, take, drop, length-drop}
use lib.Seq.{take-take, take_all, drop-length, length-take-le, get_or-take}
use Rattle.paper.specs.Tree.{end, sheet, folder, plus}
use Rattle.paper.specs.Order.{kind_word, size_word, beneath, after, row_fits, ordered, Raw, placed, forest_of}
use Rattle.laws.proofs.Bools.{both_and}
use Rattle.laws.proofs.Order.{RowFits, facts_fit, row_room, nil_order, nil_parse, ordered_step, Step, ordered_facts, forest_step}
use Rattle.vector.proofs.Parts.{drop_take}
use Rattle.vector.proofs.Tests.{first_so, second_so}

plus_placed : (b : Bool) (r : List ℕ) (k s : Raw) → plus (placed b r k end) s ≡ placed b r k s
unfolding plus
plus_placed true r k s = refl
plus_placed false r k s = refl

-- what fits a row, of a sheet or a folder
one_or_folder : (n lv : ℕ) (t : List ℕ) → RowFits n lv t → (eqb (kind_word t) 3 || eqb (size_word t) 1) ≡ true
one_or_folder n lv t f = go (eqb (kind_word t) 3) refl
  where
    go : (b : Bool) → eqb (kind_word t) 3 ≡ b → (eqb (kind_word t) 3 || eqb (size_word t) 1) ≡ true
    go true e = first_so (kind_word t) 3 (size_word t) 1 (eqb-true _ _ e)
    go false e = second_so (kind_word t) 3 (size_word t) 1 (f.sheet (eqb-false _ _ e))

module _ (n : ℕ) (wide : 1 < n) (lv : ℕ) (t : List ℕ) (h : 0 < length t) (e : ordered n lv t ≡ true) where
  step : Step n (omega arith) lv t
  step = ordered_facts n (omega arith) lv t h e

  -- the first row with all beneath it
  abbrev pub first_row : List ℕ
  first_row = take (size_word t * n) t

  room : n ≤ size_word t * n
  room = row_room n lv t step.fits

  first_kind : kind_word first_row ≡ kind_word t
  first_kind = get_or-take (size_word t * n) t 0 0 (omega (arith, room))

  first_size : size_word first_row ≡ size_word t
  first_size = get_or-take (size_word t * n) t 1 0 (omega (arith, room))

  pub first_length : length first_row ≡ size_word t * n
  first_length = length-take-le (size_word t * n) t step.fits.room

  pub first_whole : length first_row ≡ size_word first_row * n
  first_whole = first_length ∙ ap (λ z. z * n) (sym first_size)

  first_take : take n first_row ≡ take n t
  first_take = take-take n (size_word t * n) t room

  first_beneath : beneath n first_row ≡ beneath n t
  first_beneath =
      let z : n + (size_word t * n - n) ≡ size_word t * n = omega (arith, room) in
      ap (λ k. take (k * n - n) (drop n first_row)) first_size
      ∙ ap (λ k. take (size_word t * n - n) (drop n (take k t))) (sym z)
      ∙ ap (take (size_word t * n - n)) (drop_take n (size_word t * n - n) t)
      ∙ take-take (size_word t * n - n) (size_word t * n - n) (drop n t) (omega arith)

  first_after : after n first_row ≡ []
  first_after = ap (λ k. drop k first_row) (sym first_whole) ∙ drop-length first_row

  first_fits : row_fits n lv first_row ≡ true
  first_fits =
      let f = step.fits in
      facts_fit n lv first_row f.level (omega (arith, first_kind, f.kind)) (omega (arith, first_size, f.some))
      (ap₂ (λ x y. eqb x 3 || eqb y 1) first_kind first_size ∙ one_or_folder n lv t f) (omega (arith, first_whole))

  some_first : 0 < length first_row
  some_first = omega (arith, first_length, room)

  pub first_ordered : ordered n lv first_row ≡ true
  first_ordered =
      ordered_step n (omega arith) lv first_row some_first
      ∙ both_and first_fits (both_and (ap (ordered n (lv - 1)) first_beneath ∙ step.beneath) (ap (ordered n lv) first_after ∙ nil_order n 0 lv))

  first_forest : forest_of n first_row ≡ placed (eqb (kind_word t) 3) (take n t) (forest_of n (beneath n t)) end
  first_forest =
      forest_step n (omega arith) lv first_row some_first first_ordered
      ∙ rw (first_kind, first_take, first_beneath, first_after) (ap (placed (eqb (kind_word t) 3) (take n t) (forest_of n (beneath n t))) (nil_parse n 0))

  -- siblings: the first row, and then the others
  pub rows_forest : forest_of n t ≡ plus (forest_of n first_row) (forest_of n (after n t))
  rows_forest =
      forest_step n (omega arith) lv t h e
      ∙ sym (ap (λ f. plus f (forest_of n (after n t))) first_forest ∙ plus_placed (eqb (kind_word t) 3) (take n t) (forest_of n (beneath n t)) (forest_of n (after n t)))

  -- one row with all beneath it, and nothing after
  module _ (whole : length t ≡ size_word t * n) where
    beneath_all : beneath n t ≡ drop n t
    beneath_all = take_all (size_word t * n - n) (drop n t) (omega (arith, length-drop n t))

    after_none : after n t ≡ []
    after_none = ap (λ k. drop k t) (sym whole) ∙ drop-length t

    pub one_forest : forest_of n t ≡ placed (eqb (kind_word t) 3) (take n t) (forest_of n (drop n t)) end
    one_forest =
        forest_step n (omega arith) lv t h e
        ∙ ap₂ (placed (eqb (kind_word t) 3) (take n t)) (ap (forest_of n) beneath_all) (ap (forest_of n) after_none ∙ nil_parse n 0)

    pub one_under : ordered n (lv - 1) (drop n t) ≡ true
    one_under = rw beneath_all at step.beneath

    pub one_sheet_forest : (kind_word t ≡ 3 → ⊥) → forest_of n t ≡ sheet (take n t) end
    one_sheet_forest k = one_forest ∙ rw (ne_eqb (kind_word t) 3 k)

    pub one_folder_forest : kind_word t ≡ 3 → forest_of n t ≡ folder (take n t) (forest_of n (drop n t)) end
    one_folder_forest k = one_forest ∙ rw (eq-eqb (kind_word t) 3 k)
