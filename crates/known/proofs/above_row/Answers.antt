use Rattle.known.proofs.GoingDown.{found}
use native.Mathlib.Omega.{arith}
use Rattle.known.proofs.above_row.Goals as goal

pub returns : goal.returns
returns c = let d = c.loop-left.invariant in found _ _ _ _ _ _ d (omega (arith, c.loop-left-test.false))
