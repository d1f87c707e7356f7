-- The loop's invariant: the columns passed hold n in column d and else what stood there.
use mathlib.Core.Path.{◌≡◌}
use lib.ListN.{length}
use Rattle.paper.specs.Columns.{vec, column}
use Rattle.paper.specs.Devices.{devices}
use Rattle.vector.proofs.WriteLoops.{Upto}
use Rattle.vector.proofs.Vector.column.Given as goal

abbrev pub invariant-loop-i : goal.invariant-loop-i
invariant-loop-i l = (length l.initial.count-items ≡ devices) × Upto (column l.d l.n (vec l.initial.count-items)) l.initial.count-items l.count-items l.i
