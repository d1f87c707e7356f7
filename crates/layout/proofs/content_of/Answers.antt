-- Words 6 and 7.
use Rattle.paper.specs.Words.{row_of}
use Rattle.layout.proofs.content_of.Goals as goal

pub returns : goal.returns
unfolding row_of
returns c = c.of.ensures
