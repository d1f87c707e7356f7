-- Rows that fit: what they come to is what their rows say; one row by its children, and siblings by the first of them.
use Prim.Native.Nat.{ℕ, ◌-◌, ◌*◌, ◌≤◌, ◌<◌}
use native.Mathlib.Omega.{arith}
use borrow.Author.Tests.{eqb-false}
use Rattle.std.specs.Bool.{◌==◌}
use lib.ListN.{length, take, drop}
use lib.Seq.{length-take-le}
use mathlib.Core.Path.{◌≡◌, refl, sym, ap, ap₂, ◌∙◌}
use mathlib.Core.List.{List}
use mathlib.Core.Bool.{true, false, ◌&&◌, and-false, and-true, and_assoc}
use Rattle.paper.specs.declared.Clock.{Clock}
use Rattle.paper.specs.Columns.{Vec, greatest}
use Rattle.paper.specs.Tree.{end, sheet, folder, plus}
use Rattle.paper.specs.Order.{kind_word, size_word, after, ordered, Raw, forest_of}
use Rattle.paper.specs.Words.{wide, floor_of, tree_from, tree_of}
use Rattle.paper.specs.Check.{sheet_fits, folder_fits, rows_fit}
use Rattle.laws.proofs.FormedRows.{ordered_formed}
use Rattle.laws.proofs.Order.{Step, ordered_facts, row_room}
use Rattle.laws.proofs.Check.{rows_back, rows_good}
use Rattle.paper.specs.Widths.{Width}
use Rattle.laws.proofs.Widths.{width_few}
use Rattle.vector.proofs.Parts.{tail_part, tail_length, none_rows}
use Rattle.summary.specs.Sums.{sums_of, stored, Siblings}
use Rattle.summary.proofs.Narrow.{good_fine}
use Rattle.summary.proofs.RowsSay.{stored_sums, rows_named}
use Rattle.layout.specs.FolderSums.{folder_by}
use Rattle.order.specs.InOrder.{InOrder, OneRow}
use Rattle.vector.proofs.Places.{part_first}
use Rattle.order.proofs.FirstRow.{rows_forest, first_length, first_whole, first_ordered, one_under, one_sheet_forest, one_folder_forest}

-- rows that come to what their rows say, and whose stamps name columns
pub record Told (w : ℕ) (t : List ℕ) : Type 0 where
  pub siblings : Siblings w t
  pub sums : stored w (forest_of (wide w) t) ≡ sums_of (tree_of w t)

-- rows that fit do: they are the rows of the tree that they write down, and that tree is good
pub fit_told : (w : ℕ) → 0 < w → (c : Clock) (u : Vec) (t : List ℕ) → InOrder w t → rows_fit w c (forest_of (wide w) t) u ≡ true → Told w t
fit_told w some c u t q e =
    let back = rows_back w c q.levels (forest_of (wide w) t) u (ordered_formed (wide w) (omega arith) q.levels t q.order) e in
    let fine = good_fine w c some (tree_of w t) u (rows_good w c (forest_of (wide w) t) u e) in
    record {
      siblings = record { levels = q.levels; order = q.order; named = rw back at (rows_named w (tree_of w t) fine) };
      sums = ap (stored w) (sym back) ∙ stored_sums w (tree_of w t) fine;
    }

-- a folder's rules by what its children come to
folder_by_lem : (w : ℕ) (c : Clock) (r : List ℕ) (k : Raw) → folder_by w c r (sums_of (tree_from w k)) ≡ folder_fits w c r (tree_from w k)
unfolding folder_by folder_fits
folder_by_lem w c r k = refl

-- a sheet alone, and a folder alone
module _ (w : ℕ) (c : Clock) (u : Vec) (r : List ℕ) where
  alone : rows_fit w c (sheet r end) u ≡ sheet_fits w c u r
  unfolding rows_fit
  alone = and-true (sheet_fits w c u r)

  above : (k : Raw) → rows_fit w c (folder r k end) u ≡ (folder_fits w c r (tree_from w k) && rows_fit w c k (greatest u (floor_of w r)))
  unfolding rows_fit
  above k = ap (λ b. folder_fits w c r (tree_from w k) && b) (and-true (rows_fit w c k (greatest u (floor_of w r))))

-- a row cut in its own words and those of the rows beneath it
pub record Cut (w : ℕ) (t : List ℕ) : Type 0 where
  pub some : 0 < w
  pub few : w ≤ 16
  pub long : wide w ≤ length t
  pub row : length (take (wide w) t) ≡ wide w
  pub rest : length (take (length t - wide w) (drop (wide w) t)) ≡ length t - wide w

-- one row with all beneath it
module _ (w : ℕ) (t : List ℕ) (q : OneRow w t) where
  row_long : wide w ≤ length t
  row_long = let s = ordered_facts (wide w) (omega arith) q.levels t q.some q.order in omega (arith, s.fits.room, row_room (wide w) q.levels t s.fits)

  pub row_cut : {d : ℕ} → d < w → Width w → Cut w t
  row_cut h b = record {
    some = omega arith;
    few = width_few w b;
    long = row_long;
    row = length-take-le (wide w) t row_long;
    rest = tail_length (wide w) t;
  }

  -- the rows beneath it, as they are cut
  abbrev pub under : List ℕ
  under = take (length t - wide w) (drop (wide w) t)

  pub under_order : InOrder w under
  under_order = record {
    levels = q.levels - 1;
    order = ap (ordered (wide w) (q.levels - 1)) (tail_part (wide w) t) ∙ one_under (wide w) (omega arith) q.levels t q.some q.order q.whole;
  }

  module _ (c : Clock) (u : Vec) where
    pub sheet_fit : (kind_word t ≡ 3 → ⊥) → sheet_fits w c u (take (wide w) t) ≡ rows_fit w c (forest_of (wide w) t) u
    sheet_fit k = sym (ap (λ f. rows_fit w c f u) (one_sheet_forest (wide w) (omega arith) q.levels t q.some q.order q.whole k) ∙ alone w c u (take (wide w) t))

    -- a folder, under whose floor f the floors are v
    module _ (k : kind_word t ≡ 3) {f v : Vec} (e : f ≡ floor_of w t) (z : v ≡ greatest u f) where
      under_floors : v ≡ greatest u (floor_of w (take (wide w) t))
      under_floors = z ∙ ap (greatest u) (e ∙ sym (part_first w (wide w) 8 t (omega arith)))

      folder_step : rows_fit w c (forest_of (wide w) t) u ≡ (folder_fits w c (take (wide w) t) (tree_of w under) && rows_fit w c (forest_of (wide w) under) v)
      folder_step =
          ap (λ f. rows_fit w c f u) (one_folder_forest (wide w) (omega arith) q.levels t q.some q.order q.whole k)
          ∙ above w c u (take (wide w) t) (forest_of (wide w) (drop (wide w) t))
          ∙ ap₂ (λ l x. folder_fits w c (take (wide w) t) (tree_of w l) && rows_fit w c (forest_of (wide w) l) x) (sym (tail_part (wide w) t)) (sym under_floors)

      pub folder_broken : rows_fit w c (forest_of (wide w) under) v ≡ false → rows_fit w c (forest_of (wide w) t) u ≡ false
      folder_broken n = folder_step ∙ rw (n, and-false)

      pub folder_fit : 0 < w → rows_fit w c (forest_of (wide w) under) v ≡ true → folder_by w c (take (wide w) t) (stored w (forest_of (wide w) under)) ≡ rows_fit w c (forest_of (wide w) t) u
      folder_fit some y =
          ap (folder_by w c (take (wide w) t)) (fit_told w some c v under under_order y).sums
          ∙ folder_by_lem w c (take (wide w) t) (forest_of (wide w) under)
          ∙ sym (folder_step ∙ rw (y, and-true))

-- siblings and then others
fit_plus : (w : ℕ) (c : Clock) (h k : Raw) (u : Vec) → rows_fit w c (plus h k) u ≡ (rows_fit w c h u && rows_fit w c k u)
unfolding rows_fit plus
fit_plus w c end k u = refl
fit_plus w c (sheet r s) k u = ap (λ b. sheet_fits w c u r && b) (fit_plus w c s k u) ∙ sym (and_assoc (sheet_fits w c u r) (rows_fit w c s u) (rows_fit w c k u))
fit_plus w c (folder r l s) k u =
    let a = folder_fits w c r (tree_from w l) in
    let b = rows_fit w c l (greatest u (floor_of w r)) in
    ap (λ x. a && (b && x)) (fit_plus w c s k u)
    ∙ ap (λ x. a && x) (sym (and_assoc b (rows_fit w c s u) (rows_fit w c k u)))
    ∙ sym (and_assoc a (b && rows_fit w c s u) (rows_fit w c k u))

pub not_empty : (t : List ℕ) → false ≡ (length t == 0) → 0 < length t
not_empty t e = let n = eqb-false (length t) 0 (sym e) in omega arith

-- SIBLINGS: the first row r with all beneath it, and the rows s after it
module _ (w : ℕ) (t : List ℕ) (some : 0 < length t) (q : InOrder w t) where
  first_step : Step (wide w) (omega arith) q.levels t
  first_step = ordered_facts (wide w) (omega arith) q.levels t some q.order

  pub first_some : wide w ≤ size_word t * wide w
  first_some = row_room (wide w) q.levels t first_step.fits

  pub first_room : size_word t * wide w ≤ length t
  first_room = first_step.fits.room

  pub row_one : {r : List ℕ} → r ≡ take (size_word t * wide w) t → OneRow w r
  row_one e =
      rw e
      (record {
        levels = q.levels;
        order = first_ordered (wide w) (omega arith) q.levels t some q.order;
        some = omega (arith, first_length (wide w) (omega arith) q.levels t some q.order, first_some);
        whole = first_whole (wide w) (omega arith) q.levels t some q.order;
      })

  pub rows_after : {s : List ℕ} → s ≡ after (wide w) t → InOrder w s
  rows_after e = rw e (record { levels = q.levels; order = first_step.after })

  module _ (c : Clock) (u : Vec) {r s : List ℕ} (d : r ≡ take (size_word t * wide w) t) (e : s ≡ after (wide w) t) where
    rows_step : rows_fit w c (forest_of (wide w) t) u ≡ (rows_fit w c (forest_of (wide w) r) u && rows_fit w c (forest_of (wide w) s) u)
    rows_step =
        ap (λ f. rows_fit w c f u) (rows_forest (wide w) (omega arith) q.levels t some q.order)
        ∙ fit_plus w c (forest_of (wide w) (take (size_word t * wide w) t)) (forest_of (wide w) (after (wide w) t)) u
        ∙ ap₂ (λ x y. rows_fit w c (forest_of (wide w) x) u && rows_fit w c (forest_of (wide w) y) u) (sym d) (sym e)

    pub rows_broken : rows_fit w c (forest_of (wide w) r) u ≡ false → rows_fit w c (forest_of (wide w) t) u ≡ false
    rows_broken b = rows_step ∙ rw b

    pub rows_next : rows_fit w c (forest_of (wide w) r) u ≡ true → rows_fit w c (forest_of (wide w) t) u ≡ rows_fit w c (forest_of (wide w) s) u
    rows_next b = rows_step ∙ rw b

-- no siblings
pub rows_none : (w : ℕ) (c : Clock) (t : List ℕ) (u : Vec) → length t ≡ 0 → rows_fit w c (forest_of (wide w) t) u ≡ true
unfolding rows_fit
rows_none w c t u z = rw (none_rows (wide w) t z)
