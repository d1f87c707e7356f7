-- A floor names a later count exactly where one from the row on does.
use Rattle.paper.specs.Tree.{later}
use Rattle.paper.specs.Words.{table_of}
use Rattle.two.proofs.LaterCounts.{later_on}
use mathlib.Core.Path.{◌≡◌}
use Rattle.two.proofs.later.names_later.Given as goal

abbrev pub invariant-loop-row : goal.invariant-loop-row
invariant-loop-row g l = later l.clock (table_of g.row.N l.table).tree ≡ later_on g.row.N l.clock l.table l.row
