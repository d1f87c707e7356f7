-- What the leaves do to the words of a row is the written form of the tree's step.
use Prim.Native.Nat.{ℕ, suc, ◌≤◌, ◌<◌, max}
use mathlib.Core.Path.{◌≡◌, refl, ap, ap₂, ◌∙◌, fun_ext}
use mathlib.Core.List.{List, ◌++◌}
use mathlib.Core.Bool.{Bool, true, false, ◌&&◌, cond}
use mathlib.Core.Option.{Option, none, some}
use native.Mathlib.Omega.{arith}
use lib.Dec.{eqb}
use borrow.Author.Tests.{eqb-true}
use Rattle.paper.specs.declared.Ruling.{Ruling}
use Rattle.paper.specs.declared.Clock.{Clock}
use Rattle.paper.specs.Columns.{Vec, Narrow, greatest, full, covered, part}
use Rattle.paper.specs.Rules.{number_of, takes, joins}
use Rattle.paper.specs.Tree.{size, Sheet, Tree, newest, smallest_of, greatest_with, least, most, full_least, level}
use Rattle.paper.specs.Walk.{Two, raised, rule_at, ruled}
use Rattle.paper.specs.Words.{least_at, floor_of, sheet_words, folder_words, folder_row}
use Rattle.summary.specs.Sums.{Sums, sums_row, mended}
use Rattle.leaf.specs.Leaves.{taken_from, sheets_of, floored, ruled_row, over_rows, over_row}
use Rattle.summary.proofs.Narrow.{narrow_greatest, narrow_column, NarrowRow}
use Rattle.summary.proofs.FolderRows.{folder_says_floor, folder_mended, folder_says_lem}
use Rattle.leaf.proofs.RowsWritten.{sheet_floored, sheet_taken, sheet_says, folder_floored}

-- the floor f raised to g: the least and the most of a folder with the same children
raised_least : (f g : Vec) (k : Tree) → ((j : ℕ) → f j ≤ g j) → greatest g (least f k) ≡ least g k
raised_least f g k h = go (smallest_of k)
  where
    go : (o : Option Vec) → greatest g (greatest_with f o) ≡ greatest_with g o
    go none = fun_ext (λ j. omega (arith, h j))
    go (some v) = fun_ext (λ j. omega (arith, h j))

raised_most : (f g : Vec) (k : Tree) → ((j : ℕ) → f j ≤ g j) → greatest g (most f k) ≡ most g k
raised_most f g k h = fun_ext (λ j. omega (arith, h j))

-- a floor with nothing in its own column is never lowered
raised_above : (c : Clock) (f v : Vec) → f c.device ≡ 0 → (j : ℕ) → f j ≤ raised c f v j
raised_above c f v e j = go (eqb j c.device) refl
  where
    go : (t : Bool) → eqb j c.device ≡ t → f j ≤ cond t 0 (max (f j) (v j))
    go true q = omega (arith, ap f (eqb-true j c.device q))
    go false q = omega arith

-- raised by a known time, it has no more columns
pub raised_narrow : {w : ℕ} (a b : Clock) {f u v : Vec} → a.device < w → b.device < w → Narrow w f → Narrow w u → Narrow w v → Narrow w (raised b f (full a u v))
raised_narrow a b da db nf nu nv = narrow_column b.device 0 db (narrow_greatest nf (narrow_column a.device a.counter da (narrow_greatest nu nv)))

module _ (w : ℕ) (a b : Clock) (ua ub : Vec) where
  -- A SHEET
  module _ (x : Two Sheet) (p q : List ℕ) where
    abbrev sheet_a : List ℕ
    sheet_a = sheet_words w x.a ++ p

    abbrev sheet_b : List ℕ
    sheet_b = sheet_words w x.b ++ q

  module _ (x : Two Sheet) (na : Narrow w x.a.floor) (nb : Narrow w x.b.floor) (p q : List ℕ) where
    sheets_say : sheets_of w (sheet_a x p q) (sheet_b x p q) ≡ x
    sheets_say = ap₂ (λ (y z : Sheet). record { a = y; b = z }) (sheet_says w x.a p na) (sheet_says w x.b q nb)

    ruled_row_lem : (r : Ruling) → ruled_row w a b ua r (sheet_a x p q) (sheet_b x p q) ≡ sheet_words w (ruled a b ua r x) ++ q
    unfolding ruled_row ruled
    ruled_row_lem r =
        let f : Vec = cond (joins r) (raised b x.b.floor (full a ua x.a.floor)) x.b.floor in
        ap (λ (y : Two Sheet). cond (takes r) (taken_from (sheet_a x p q) (floored w (ruled a b ua r y).floor (sheet_b x p q))) (floored w (ruled a b ua r y).floor (sheet_b x p q))) sheets_say
        ∙ ap (λ (y : List ℕ). cond (takes r) (taken_from (sheet_a x p q) y) y) (sheet_floored w x.b f q)
        ∙ go (takes r) f
      where
        go : (k : Bool) (f : Vec)
            → cond k (taken_from (sheet_a x p q) (sheet_words w (record { row = x.b.row; floor = f }) ++ q)) (sheet_words w (record { row = x.b.row; floor = f }) ++ q)
            ≡ sheet_words w (record { row = cond k x.a.row x.b.row; floor = f }) ++ q
        go true f = sheet_taken w x.a (record { row = x.b.row; floor = f }) p q
        go false f = refl

    -- the number and the row after the ruling are those of the tree's step
    pub sheet_number : number_of (rule_at a b ua ub (sheets_of w (sheet_a x p q) (sheet_b x p q))) ≡ number_of (rule_at a b ua ub x)
    sheet_number = ap (λ (y : Two Sheet). number_of (rule_at a b ua ub y)) sheets_say

    pub sheet_step : ruled_row w a b ua (rule_at a b ua ub (sheets_of w (sheet_a x p q) (sheet_b x p q))) (sheet_a x p q) (sheet_b x p q) ≡ sheet_words w (ruled a b ua (rule_at a b ua ub x) x) ++ q
    sheet_step =
        ap (λ (y : Two Sheet). ruled_row w a b ua (rule_at a b ua ub y) (sheet_a x p q) (sheet_b x p q)) sheets_say ∙ ruled_row_lem (rule_at a b ua ub x)

  -- A FOLDER with the floors y and the children k at the source, l at the target
  module _ (y : Two Vec) (k l : Tree) (p q : List ℕ) where
    abbrev folder_a : List ℕ
    folder_a = folder_row w y.a k ++ p

    abbrev folder_b : List ℕ
    folder_b = folder_row w y.b l ++ q

  -- what its row says
  row_sums : (f : Vec) (t : Tree) (z : List ℕ) → NarrowRow w f t → sums_row w (folder_row w f t ++ z) ≡ record { newest = newest t; least = some (least f t); most = most f t }
  row_sums f t z h = folder_says_lem w (suc (size t)) f (newest t) (least f t) (most f t) z h.newest h.least h.most

  row_least : (f : Vec) (t : Tree) (z : List ℕ) → NarrowRow w f t → part w (least_at w) (folder_row w f t ++ z) ≡ least f t
  row_least f t z h = some_same (ap (λ (s : Sums). s.least) (row_sums f t z h))
    where
      some_same : {u v : Vec} → some u ≡ some v → u ≡ v
      some_same e = cc

  row_floor : (f : Vec) (t : Tree) (z : List ℕ) → NarrowRow w f t → floor_of w (folder_row w f t ++ z) ≡ f
  row_floor f t z h = folder_says_floor w (suc (size t)) f (newest t) (least f t) (most f t) z h.floor

  module _ (y : Two Vec) (k l : Tree) (ha : NarrowRow w y.a k) (hb : NarrowRow w y.b l) (p q : List ℕ) where
    -- the test by the summaries in the rows is the test by the trees
    pub over_rows_lem : over_rows w a b ua ub (folder_a y k l p q) (folder_b y k l p q) ≡ covered w (newest k) (full_least b ub y.b l) && level w a ua y.a k
    unfolding over_rows level
    over_rows_lem =
        rw (ap (λ (s : Sums). s.newest) (row_sums y.a k p ha), row_least y.b l q hb, row_least y.a k p ha, ap (λ (s : Sums). s.most) (row_sums y.a k p ha)) refl

    -- the row of a folder that is passed over is that of the raised folder
    abbrev lifted : Vec
    lifted = raised b y.b (full_least a ua y.a k)

    module _ (da : a.device < w) (db : b.device < w) (nu : Narrow w ua) (own : y.b b.device ≡ 0) where
      -- by the summaries of the folder as it was
      over_mended : (s : Sums) → s ≡ record { newest = newest l; least = some (least y.b l); most = most y.b l }
          → mended w s (folder_words w (suc (size l)) lifted (newest l) (least y.b l) (most y.b l) ++ q) ≡ folder_row w lifted l ++ q
      over_mended s e =
          let n = suc (size l) in
          let up = raised_above b y.b (full_least a ua y.a k) own in
          folder_mended w n lifted (newest l) (least y.b l) (most y.b l) q (raised_narrow a b da db hb.floor nu ha.least) s
          ∙ rw e (ap₂ (λ (u v : Vec). folder_words w n lifted (newest l) u v ++ q) (raised_least y.b lifted l up) (raised_most y.b lifted l up))

      pub over_step : over_row w a b ua (folder_a y k l p q) (folder_b y k l p q) ≡ folder_row w lifted l ++ q
      unfolding over_row
      over_step =
          let n = suc (size l) in
          rw (row_least y.a k p ha, row_floor y.b l q hb, folder_floored w n y.b (newest l) (least y.b l) (most y.b l) q lifted)
          (over_mended _ (folder_says_lem w n lifted (newest l) (least y.b l) (most y.b l) q hb.newest hb.least hb.most))
