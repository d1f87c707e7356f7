-- At either width.
use mathlib.Core.Path.{◌≡◌, sym, ap, ◌∙◌}
use native.Mathlib.Omega.{arith}
use Rattle.summary.specs.Sums.{said}
use Rattle.layout.specs.FolderSums.{folder_by}
use Rattle.paper.specs.Widths.{wide_columns}
use Rattle.laws.proofs.Widths.{width_wide}
use Rattle.layout.proofs.either.folder_fits.Goals as goal
use Rattle.layout.proofs.either.folder_fits.Goals.{Else-columns-eq-COLUMNS}

sixteen : (c : Else-columns-eq-COLUMNS) → c.args.columns ≡ wide_columns
sixteen c = width_wide _ c.requires.width c.if-columns-eq-COLUMNS.false

pub folder_fits-requires : goal.folder_fits-requires
folder_fits-requires c = (omega arith, (omega (arith, c.requires.r_len.0, c.if-columns-eq-COLUMNS.true), omega (arith, c.requires.r_len.1, c.if-columns-eq-COLUMNS.true)))

pub returns-then-columns-eq-COLUMNS : goal.returns-then-columns-eq-COLUMNS
returns-then-columns-eq-COLUMNS c = c.folder_fits.ensures ∙ ap (λ w. folder_by w c.args.clock c.args.r.now (said c.args.under)) (sym c.if-columns-eq-COLUMNS.true)

pub folder_fits-requires-2 : goal.folder_fits-requires-2
folder_fits-requires-2 c =
    let e = sixteen (goal.at.folder_fits-requires-2 c).Else-columns-eq-COLUMNS in (omega arith, (omega (arith, c.requires.r_len.0, e), omega (arith, c.requires.r_len.1, e)))

pub returns : goal.returns
returns c = c.folder_fits-2.ensures ∙ ap (λ w. folder_by w c.args.clock c.args.r.now (said c.args.under)) (sym (sixteen (goal.at.returns c).Else-columns-eq-COLUMNS))
