-- Past the counter and the floors above, the floor decides.
use Rattle.paper.specs.Columns.{vec}
use Rattle.layout.proofs.RowRules.{covers_floor}
use native.Mathlib.Omega.{arith}
use mathlib.Core.Path.{sym}
use Rattle.layout.proofs.is_covered.Goals as goal

pub returns-else-stamp-floors : goal.returns-else-stamp-floors
returns-else-stamp-floors g c =
    let a = c.args.above in sym (covers_floor g.row.N a.clock (vec a.floors.0) c.args.r.now c.args.stamp c.if-stamp-above.false c.requires.1 (omega arith))
