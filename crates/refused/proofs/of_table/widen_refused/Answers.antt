-- A table that passes the check has its head.
use mathlib.Core.Path.{sym, ap, ◌∙◌}
use native.Mathlib.Omega.{arith}
use borrow.Author.Tests.{eq-eqb}
use Rattle.paper.specs.Widths.{widen_refused}
use Rattle.laws.proofs.Refusals.{first_next, first_met}
use Rattle.laws.proofs.Tables.{check_facts}
use Rattle.vector.specs.Wideness.{columns_in}
use Rattle.refused.proofs.of_table.widen_refused.Goals as goal

pub returns-in-Sixteen : goal.returns-in-Sixteen
unfolding widen_refused
returns-in-Sixteen c =
    sym (first_next _ _ (sym c.in_ok-check.ensures.number) ∙ first_met 18 _ (eq-eqb _ _ (sym c.in_ok-check.ensures.width ∙ ap columns_in c.in-Sixteen.is)))

pub bounds-table-2 : goal.bounds-table-2
bounds-table-2 c = omega (arith, (check_facts _ _ (sym c.in_ok-check.ensures.number)).head.long)
