-- The measure is twice the words of the part, and one more for children: a row is smaller than its siblings, and children are smaller
-- than their folder. The loop's invariant: the rows before `row` are done, and the others stand as they were.
use Rattle.std.proofs.Common.{◌+◌, ◌-◌, length}
use Rattle.paper.specs.Columns.{vec}
use Rattle.walk.proofs.SiblingTurns.{Turns}
use Rattle.walk.proofs.+pass_children_pass_row.Given as goal

abbrev pub decreases-pass_row : goal.decreases-pass_row
decreases-pass_row l = length l.source.now + length l.source.now

abbrev pub decreases-pass_children : goal.decreases-pass_children
decreases-pass_children l = length l.source.now + length l.source.now + 1

abbrev pub invariant-pass_children-loop-row : goal.invariant-pass_children-loop-row
invariant-pass_children-loop-row l = Turns l.columns l.a.clock l.b.clock (vec l.a.floors.0) (vec l.b.floors.0) l.source l.initial.target l.initial.answers l.target l.answers l.row l.looked

abbrev pub decreases-pass_children-loop-row : goal.decreases-pass_children-loop-row
decreases-pass_children-loop-row l = length l.answers - l.row
