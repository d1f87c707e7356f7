-- The floor is read, raised and written, or left.
use native.Mathlib.Omega.{arith}
use Rattle.leaf.proofs.LeafWords.{floor_yes, floor_no}
use Rattle.leaf.proofs.single.raise_floor.Goals as goal

pub returns-then-yes : goal.returns-then-yes
returns-then-yes g c =
    floor_yes g.row.N _ c.args.clock _ _ c.if-yes.true c.read-floor.ensures c.raised-floor.ensures c.write.ensures

pub returns : goal.returns
returns g c = floor_no g.row.N _ c.args.clock _ _ c.if-yes.false (omega (arith, c.requires.0))
