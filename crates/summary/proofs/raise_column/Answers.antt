-- The greater of what stands there and the count.
use mathlib.Core.Path.{ap, ◌∙◌}
use Prim.Native.Nat.{ℕ}
use lib.ListN.{set}
use Rattle.paper.specs.Columns.{vec}
use Rattle.vector.proofs.ColumnLoops.{column_raised}
use Rattle.summary.proofs.raise_column.Goals as goal

pub returns : goal.returns
returns c =
    ap (λ (x : ℕ). vec (set c.args.v.now c.args.d x)) c.greater.ensures ∙ column_raised c.args.v.now c.args.d c.args.n c.requires
