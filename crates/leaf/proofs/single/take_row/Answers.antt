-- The kind is written, then words 2 to 7.
use native.Mathlib.Omega.{arith}
use Rattle.leaf.proofs.LeafWords.{took}
use Rattle.leaf.proofs.single.take_row.Goals as goal

pub returns-then-yes : goal.returns-then-yes
returns-then-yes c =
    rw c.if-yes.true (took c.args.s.now c.args.t.now _ (omega (arith, c.requires.0)) c.copy.ensures)
