-- Part by part.
use mathlib.Core.Path.{ap}
use Rattle.summary.proofs.SiblingSums.{sums_same}
use mathlib.Core.Option.{some}
use Rattle.summary.proofs.Summary.of_folder.Goals as goal

pub returns : goal.returns
returns c = sums_same c.read.ensures (ap some c.read-2.ensures) c.read-3.ensures
