-- At each turn the row is among the siblings from `at` on, `left` rows further. The measure is the part's length.
use Rattle.std.proofs.Common.{◌≡◌, length}
use Rattle.mend.proofs.MendedLoans.{Above}
use Rattle.mend.proofs.rows.+mend_above.Given as goal

abbrev pub decreases-mend_above : goal.decreases-mend_above
decreases-mend_above l = length l.t.now

abbrev pub invariant-loop-left : goal.invariant-loop-left
invariant-loop-left l = Above l.columns l.t l.row l.at l.left × (l.t ≡ l.initial.t) × (length l.t ≡ length l.initial.t)

abbrev pub decreases-loop-left : goal.decreases-loop-left
decreases-loop-left l = l.left
