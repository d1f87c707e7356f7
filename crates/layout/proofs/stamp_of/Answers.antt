-- Words 2 and 3.
use Rattle.paper.specs.Words.{row_of}
use Rattle.layout.proofs.stamp_of.Goals as goal

pub returns : goal.returns
unfolding row_of
returns c = c.of.ensures
