-- All four vectors are written.
use Rattle.widen.proofs.Wider.{puts_all}
use native.Mathlib.Omega.{arith}
use Rattle.widen.proofs.widen_row.Goals as goal

pub returns : goal.returns
returns c = puts_all _ _ _ _ _ c.requires.0 c.requires.1 c.copy.ensures (omega arith) (omega arith) c.loop-i.invariant
