-- The first words are copied, and then vector by vector.
use mathlib.Core.Path.{◌≡◌}
use Rattle.widen.proofs.Wider.{puts}
use Rattle.widen.proofs.widen_row.Given as goal

abbrev pub invariant-loop-i : goal.invariant-loop-i
invariant-loop-i l = l.wider ≡ puts l.i l.r l.initial.wider
