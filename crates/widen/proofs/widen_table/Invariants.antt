-- The head, and then row by row: up to `row` the rows are written.
use Rattle.widen.proofs.Wider.{Upto}
use Rattle.widen.proofs.widen_table.Given as goal

abbrev pub invariant-loop-row : goal.invariant-loop-row
invariant-loop-row l = Upto l.t l.wider l.rows l.row
