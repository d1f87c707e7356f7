-- The loop's invariant: the columns passed hold what `choose` made of the two counts, the others what stood there.
use Prim.Native.Nat.{ℕ}
use mathlib.Core.Path.{◌≡◌}
use lib.ListN.{length}
use Rattle.paper.specs.Columns.{vec}
use Rattle.paper.specs.Devices.{devices}
use Rattle.vector.specs.Places.{Computes}
use Rattle.vector.proofs.WriteLoops.{Upto}
use Rattle.vector.proofs.Vector.column_by_column.Given as goal

abbrev pub invariant-loop-i : goal.invariant-loop-i
invariant-loop-i g l =
    (length l.initial.a ≡ devices)
    × (length l.b ≡ devices)
    × ((f : ℕ → ℕ → ℕ) → Computes (goal.F-post g l.choose) f → Upto (λ j. f (vec l.initial.a j) (vec l.b j)) l.initial.a l.a l.i)
