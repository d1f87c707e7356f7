-- Whether a floor names a later count, asked row by row.
use Prim.Native.Nat.{ℕ, ◌+◌, ◌*◌, ◌≤◌, ◌<◌}
use mathlib.Core.Path.{◌≡◌, refl, sym, ap, ap₂, ◌∙◌}
use mathlib.Core.List.{List, [], ◌∷◌, ◌++◌}
use mathlib.Core.Bool.{Bool, true, false, ◌||◌, or_assoc}
use native.Mathlib.Omega.{arith}
use lib.Dec.{ltb}
use borrow.Author.Tests.{lt-ltb, le-ltb}
use lib.ListN.{get_or, drop}
use lib.Seq.{get_or-take, get_or-drop}
use Rattle.paper.specs.declared.Clock.{Clock}
use Rattle.paper.specs.Columns.{part}
use Rattle.paper.specs.Tree.{end, sheet, folder, mapped, later}
use Rattle.paper.specs.Order.{Raw, forest_of}
use Rattle.paper.specs.Words.{wide, floor_at, floor_of, tree_from, table_of}
use Rattle.paper.specs.Calls.{row_at}
use Rattle.paper.specs.Check.{check_of}
use Rattle.laws.proofs.Tables.{Checked, check_facts}
use Rattle.two.proofs.Listed.{listed, word_at, rows_on, rows_next, rows_end, rows_all}

-- a column of the floor of a row, by its place in the table
pub floor_at_lem : (w : ℕ) (t : List ℕ) (i d : ℕ) → d < w → floor_of w (row_at w t i) d ≡ get_or t ((i + 1) * wide w + (floor_at + d)) 0
unfolding part
floor_at_lem w t i d h = get_or-take w (drop floor_at (row_at w t i)) d 0 h ∙ get_or-drop floor_at (row_at w t i) d 0 ∙ word_at w t i (floor_at + d) (omega arith)

module _ (w : ℕ) (c : Clock) where
  -- one of the rows names a later count
  unfoldable pub one_later : List (List ℕ) → Bool
  one_later [] = false
  one_later (r ∷ rs) = ltb c.counter (floor_of w r c.device) || one_later rs

  one_append : (a b : List (List ℕ)) → one_later (a ++ b) ≡ (one_later a || one_later b)
  unfolding one_later
  one_append [] b = refl
  one_append (r ∷ rs) b = ap (λ x. ltb c.counter (floor_of w r c.device) || x) (one_append rs b) ∙ sym (or_assoc (ltb c.counter (floor_of w r c.device)) (one_later rs) (one_later b))

  later_listed : (f : Raw) → later c (tree_from w f) ≡ one_later (listed f)
  unfolding later mapped listed one_later
  later_listed end = refl
  later_listed (sheet r s) = ap (λ x. ltb c.counter (floor_of w r c.device) || x) (later_listed s)
  later_listed (folder r k s) = ap (λ x. ltb c.counter (floor_of w r c.device) || x) (ap₂ ◌||◌ (later_listed k) (later_listed s) ∙ sym (one_append (listed k) (listed s)))

  module _ (t : List ℕ) where
    -- one of the rows from row i on
    abbrev pub later_on : ℕ → Bool
    later_on i = one_later (rows_on w t i)

    -- by what the check says of a table, and where it passes
    pub later_checked : Checked w t → later c (table_of w t).tree ≡ later_on 0
    unfolding table_of
    later_checked k = later_listed (forest_of (wide w) (drop (wide w) t)) ∙ ap one_later (rows_all w t k)

    pub later_all : check_of w t ≡ 0 → later c (table_of w t).tree ≡ later_on 0
    later_all e = later_checked (check_facts w t e)

    module _ (i : ℕ) (h : i < get_or t 2 0) (d : c.device < w) where
      pub later_here : c.counter < get_or t ((i + 1) * wide w + (floor_at + c.device)) 0 → later_on i ≡ true
      unfolding one_later
      later_here l = ap one_later (rows_next w t i h) ∙ rw (lt-ltb c.counter (floor_of w (row_at w t i) c.device) (omega (arith, floor_at_lem w t i c.device d)))

      pub later_next : get_or t ((i + 1) * wide w + (floor_at + c.device)) 0 ≤ c.counter → later_on i ≡ later_on (i + 1)
      unfolding one_later
      later_next l = ap one_later (rows_next w t i h) ∙ rw (le-ltb c.counter (floor_of w (row_at w t i) c.device) (omega (arith, floor_at_lem w t i c.device d)))

    pub later_end : (i : ℕ) → get_or t 2 0 ≤ i → later_on i ≡ false
    unfolding one_later
    later_end i h = ap one_later (rows_end w t i h)

-- for the loop over the rows
pub ruleset later_counts = (later_all, later_here, later_next, later_end)
