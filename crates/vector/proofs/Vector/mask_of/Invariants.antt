-- The loop's invariant: the mask is that of the columns passed, below the bit, which is the next column's.
use Prim.Native.Nat.{ℕ, ◌^◌, ◌<◌, ◌≤◌}
use mathlib.Core.Path.{◌≡◌}
use mathlib.Core.Bool.{Bool}
use Rattle.paper.specs.Columns.{vec, mask}
use Rattle.vector.specs.Places.{Computes}
use Rattle.vector.proofs.Vector.mask_of.Given as goal

abbrev pub invariant-loop-i : goal.invariant-loop-i
invariant-loop-i g l =
    (l.i ≤ l.columns)
    × ((f : ℕ → ℕ → Bool) → Computes (goal.F-post g l.test) f → l.mask ≡ mask l.i (λ j. f (vec l.a j) (vec l.b j)))
    × (l.mask < l.bit)
    × (l.bit ≡ 2 ^ l.i)
