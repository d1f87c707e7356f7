-- The shapes are the same exactly where the plans are from the row on.
use Rattle.paper.specs.Tree.{shaped}
use Rattle.paper.specs.Words.{table_of}
use Rattle.two.proofs.Shaped.{same_plan_on}
use mathlib.Core.Path.{◌≡◌}
use Rattle.two.proofs.shape.same_shape.Given as goal

abbrev pub invariant-loop-row : goal.invariant-loop-row
invariant-loop-row g l = shaped (table_of g.row.N l.source).tree (table_of g.row.N l.target).tree ≡ same_plan_on g.row.N l.source l.target l.row
