-- Whether an event fits what stands at a row, by the row's kind word.
use Prim.Native.Nat.{ℕ, ◌+◌, ◌*◌, ◌<◌}
use mathlib.Core.Path.{◌≡◌, refl, ap, ◌∙◌}
use mathlib.Core.Bool.{Bool, true, false, cond}
use mathlib.Core.List.{List}
use mathlib.Core.Option.{none, some, map}
use native.Mathlib.Omega.{arith}
use lib.Dec.{eqb}
use lib.ListN.{get_or}
use Rattle.paper.specs.declared.Event.{Event}
use Rattle.paper.specs.Acts.{fits}
use Rattle.paper.specs.Tree.{subtree, sheet_here}
use Rattle.paper.specs.Order.{kind_word}
use Rattle.paper.specs.Words.{wide, kind_of, row_of, sheet_of, table_of}
use Rattle.paper.specs.Check.{check_of}
use Rattle.paper.specs.Calls.{row_at, fits_sheet}
use Rattle.two.proofs.Listed.{word_at}
use Rattle.verdict.proofs.SheetAt.{sheet_row}

-- does an event fit what stands at a row? The row's kind word tells
module _ (w : ℕ) (t : List ℕ) (c : check_of w t ≡ 0) where
  pub fits_row : (e : Event) (row : ℕ) → row < get_or t 2 0
      → fits_sheet e (sheet_here (subtree (table_of w t).tree row)) ≡ cond (eqb (get_or t ((row + 1) * wide w) 0) 3) false (fits e (kind_of (get_or t ((row + 1) * wide w) 0)))
  unfolding fits_sheet row_of
  fits_row e row h =
      let z : (row + 1) * wide w + 0 ≡ (row + 1) * wide w = omega arith in
      ap (fits_sheet e) (sheet_row w t c row h) ∙ go (eqb (kind_word (row_at w t row)) 3)
      ∙ ap (λ k. cond (eqb k 3) false (fits e (kind_of k))) (word_at w t row 0 (omega arith) ∙ ap (λ i. get_or t i 0) z)
    where
      go : (b : Bool) → fits_sheet e (map (sheet_of w) (cond b none (some (row_at w t row)))) ≡ cond b false (fits e (kind_of (kind_word (row_at w t row))))
      go true = refl
      go false = refl
