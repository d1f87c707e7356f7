-- The measures: twice the length, and one more for siblings. The answer of siblings is the answer of what is left.
use Rattle.std.proofs.Common.{length, ◌≡◌, ◌+◌, ◌*◌, ◌≤◌}
use Rattle.paper.specs.Columns.{vec}
use Rattle.paper.specs.Order.{forest_of}
use Rattle.paper.specs.Check.{rows_fit}
use Rattle.paper.specs.Words.{wide}
use Rattle.order.specs.InOrder.{InOrder}
use Rattle.table.proofs.rows.+one_row_fits_rows_fit.Given as goal

abbrev pub decreases-one_row_fits : goal.decreases-one_row_fits
decreases-one_row_fits l = 2 * length l.t.now

abbrev pub decreases-rows_fit : goal.decreases-rows_fit
decreases-rows_fit l = 2 * length l.t.now + 1

abbrev pub invariant-rows_fit-loop-rest : goal.invariant-rows_fit-loop-rest
invariant-rows_fit-loop-rest l = (length l.rest ≤ length l.t) × InOrder l.columns l.rest
    × (rows_fit l.columns l.above.clock (forest_of (wide l.columns) l.t) (vec l.above.floors.0) ≡ rows_fit l.columns l.above.clock (forest_of (wide l.columns) l.rest) (vec l.above.floors.0))

abbrev pub decreases-rows_fit-loop-rest : goal.decreases-rows_fit-loop-rest
decreases-rows_fit-loop-rest l = length l.rest
