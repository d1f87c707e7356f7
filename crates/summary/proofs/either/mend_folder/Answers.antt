-- At either width.
use mathlib.Core.Path.{◌≡◌, sym, ap, subst, ◌∙◌}
use native.Mathlib.Omega.{arith}
use lib.ListN.{drop}
use Rattle.paper.specs.Order.{forest_of}
use Rattle.paper.specs.Words.{wide}
use Rattle.paper.specs.Widths.{wide_columns}
use Rattle.laws.proofs.Widths.{width_wide}
use Rattle.summary.specs.Sums.{Siblings, stored, mended}
use Rattle.summary.proofs.either.mend_folder.Goals as goal
use Rattle.summary.proofs.either.mend_folder.Goals.{Else-columns-eq-COLUMNS}

sixteen : (c : Else-columns-eq-COLUMNS) → c.args.columns ≡ wide_columns
sixteen c = width_wide _ c.requires.columns_in_bounds.1 c.if-columns-eq-COLUMNS.false

pub mend_folder-requires : goal.mend_folder-requires
mend_folder-requires c =
    let e = c.if-columns-eq-COLUMNS.true in
    (omega arith, (omega (arith, e, c.requires.columns_in_bounds.0), subst (λ w. Siblings w (drop (wide w) c.args.t.now)) e c.requires.siblings))

pub returns-then-columns-eq-COLUMNS : goal.returns-then-columns-eq-COLUMNS
returns-then-columns-eq-COLUMNS c =
    let t = c.args.t.now in c.mend_folder.ensures ∙ ap (λ w. mended w (stored w (forest_of (wide w) (drop (wide w) t))) t) (sym c.if-columns-eq-COLUMNS.true)

pub mend_folder-requires-2 : goal.mend_folder-requires-2
mend_folder-requires-2 c =
    let e = sixteen (goal.at.mend_folder-requires-2 c).Else-columns-eq-COLUMNS in
    (omega arith, (omega (arith, e, c.requires.columns_in_bounds.0), subst (λ w. Siblings w (drop (wide w) c.args.t.now)) e c.requires.siblings))

pub returns : goal.returns
returns c =
    let t = c.args.t.now in
    c.mend_folder-2.ensures
    ∙ ap (λ w. mended w (stored w (forest_of (wide w) (drop (wide w) t))) t) (sym (sixteen (goal.at.returns c).Else-columns-eq-COLUMNS))
