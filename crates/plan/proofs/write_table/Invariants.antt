-- The head, and then row by row: up to `row` the rows are written.
use Rattle.plan.proofs.CutPlans.{Upto}
use Rattle.plan.proofs.write_table.Given as goal

abbrev pub invariant-loop-row : goal.invariant-loop-row
invariant-loop-row l = Upto l.columns l.device l.p l.t l.row
