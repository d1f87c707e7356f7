-- The loop's invariant: what is gathered, and the rows that are left, come to what all siblings come to.
use Rattle.paper.specs.Columns.{vec}
use Rattle.paper.specs.Devices.{devices}
use Rattle.summary.proofs.Gathered.{Gathered}
use mathlib.Core.Path.{◌≡◌}
use lib.ListN.{length}
use Rattle.summary.proofs.Summary.of_rows.Given as goal

abbrev pub invariant-loop-rest : goal.invariant-loop-rest
invariant-loop-rest g l = (length l.newest ≡ devices) × Gathered g.row.N l.t l.rest (vec l.newest) (vec l.least.0) (vec l.most.0)

abbrev pub decreases-loop-rest : goal.decreases-loop-rest
decreases-loop-rest g l = length l.rest
