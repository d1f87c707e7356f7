-- At each turn the row that is looked for is `left` rows on among the siblings that are left. The measure is `left`.
use Rattle.known.proofs.GoingDown.{Down}
use Rattle.paper.specs.Columns.{vec}
use Rattle.known.proofs.above_row.Given as goal

abbrev pub invariant-loop-left : goal.invariant-loop-left
invariant-loop-left l = Down l.columns l.t l.row (vec l.floors.0) l.rows l.left

abbrev pub decreases-loop-left : goal.decreases-loop-left
decreases-loop-left l = l.left
