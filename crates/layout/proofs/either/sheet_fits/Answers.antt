-- At either width.
use mathlib.Core.Path.{◌≡◌, sym, ap, ◌∙◌}
use native.Mathlib.Omega.{arith}
use Rattle.paper.specs.Columns.{vec}
use Rattle.paper.specs.Check.{sheet_fits}
use Rattle.paper.specs.Widths.{wide_columns}
use Rattle.laws.proofs.Widths.{width_wide}
use Rattle.layout.proofs.either.sheet_fits.Goals as goal
use Rattle.layout.proofs.either.sheet_fits.Goals.{Else-columns-eq-COLUMNS}

sixteen : (c : Else-columns-eq-COLUMNS) → c.args.columns ≡ wide_columns
sixteen c = width_wide _ c.requires.width c.if-columns-eq-COLUMNS.false

pub sheet_fits-requires : goal.sheet_fits-requires
sheet_fits-requires c = (omega arith, (omega (arith, c.requires.r_len.0, c.if-columns-eq-COLUMNS.true), omega (arith, c.requires.r_len.1, c.if-columns-eq-COLUMNS.true)))

pub returns-then-columns-eq-COLUMNS : goal.returns-then-columns-eq-COLUMNS
returns-then-columns-eq-COLUMNS c = c.sheet_fits.ensures ∙ ap (λ w. sheet_fits w c.args.above.clock (vec c.args.above.floors.0) c.args.r.now) (sym c.if-columns-eq-COLUMNS.true)

pub sheet_fits-requires-2 : goal.sheet_fits-requires-2
sheet_fits-requires-2 c =
    let e = sixteen (goal.at.sheet_fits-requires-2 c).Else-columns-eq-COLUMNS in (omega arith, (omega (arith, c.requires.r_len.0, e), omega (arith, c.requires.r_len.1, e)))

pub returns : goal.returns
returns c = c.sheet_fits-2.ensures ∙ ap (λ w. sheet_fits w c.args.above.clock (vec c.args.above.floors.0) c.args.r.now) (sym (sixteen (goal.at.returns c).Else-columns-eq-COLUMNS))
