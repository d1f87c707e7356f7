-- Words 4 and 5.
use Rattle.paper.specs.Words.{row_of}
use Rattle.layout.proofs.birth_of.Goals as goal

pub returns : goal.returns
unfolding row_of
returns c = c.of.ensures
