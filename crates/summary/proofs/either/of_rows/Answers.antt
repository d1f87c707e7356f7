-- At either width.
use mathlib.Core.Path.{◌≡◌, sym, ap, subst, ◌∙◌}
use native.Mathlib.Omega.{arith}
use Rattle.paper.specs.Order.{forest_of}
use Rattle.paper.specs.Words.{wide}
use Rattle.paper.specs.Widths.{wide_columns}
use Rattle.laws.proofs.Widths.{width_wide}
use Rattle.summary.specs.Sums.{Siblings, stored}
use Rattle.summary.proofs.either.of_rows.Goals as goal
use Rattle.summary.proofs.either.of_rows.Goals.{Else-columns-eq-COLUMNS}

sixteen : (c : Else-columns-eq-COLUMNS) → c.args.columns ≡ wide_columns
sixteen c = width_wide _ c.requires.width c.if-columns-eq-COLUMNS.false

pub of_rows-requires : goal.of_rows-requires
of_rows-requires c = (omega arith, subst (λ w. Siblings w c.args.t.now) c.if-columns-eq-COLUMNS.true c.requires.siblings)

pub returns-then-columns-eq-COLUMNS : goal.returns-then-columns-eq-COLUMNS
returns-then-columns-eq-COLUMNS c = c.of_rows.ensures ∙ ap (λ w. stored w (forest_of (wide w) c.args.t.now)) (sym c.if-columns-eq-COLUMNS.true)

pub of_rows-requires-2 : goal.of_rows-requires-2
of_rows-requires-2 c = (omega arith, subst (λ w. Siblings w c.args.t.now) (sixteen (goal.at.of_rows-requires-2 c).Else-columns-eq-COLUMNS) c.requires.siblings)

pub returns : goal.returns
returns c =
    c.of_rows-2.ensures ∙ ap (λ w. stored w (forest_of (wide w) c.args.t.now)) (sym (sixteen (goal.at.returns c).Else-columns-eq-COLUMNS))
