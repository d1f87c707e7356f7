-- The column is one of the row's words.
use lib.Dec.{eqb}
use Rattle.layout.proofs.RowRules.{floor_word}
use mathlib.Core.Path.{sym, ap}
use Rattle.layout.proofs.is_own_zero.Goals as goal

pub returns : goal.returns
returns g c = sym (ap (λ n. eqb n 0) (floor_word g.row.N c.args.r.now c.args.clock.device c.requires.1))
