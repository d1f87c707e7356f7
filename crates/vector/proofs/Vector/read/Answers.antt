-- The columns read, and zeros after them.
use Rattle.paper.specs.Devices.{devices}
use Rattle.vector.proofs.ColumnLoops.{zeros_vec, part_then_zeros}
use Rattle.vector.proofs.Vector.read.Goals as goal

pub returns : goal.returns
returns c = let q = c.args in part_then_zeros q.columns q.at q.t.now _ (zeros_vec devices) c.copy_from_slice.ensures.after
