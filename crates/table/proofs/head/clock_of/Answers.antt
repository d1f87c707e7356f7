-- Device and counter stand in the head's first words.
use Rattle.paper.specs.Words.{table_of}
use mathlib.Core.Path.{refl}
use Rattle.table.proofs.head.clock_of.Goals as goal

pub returns : goal.returns
unfolding table_of
returns c = λ w. refl
