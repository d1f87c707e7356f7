-- The measure is the part's length; the order of the whole is the order of what is left.
use Rattle.std.proofs.Common.{ℕ, ◌≡◌, ◌≤◌, length}
use Rattle.paper.specs.Order.{ordered}
use Rattle.paper.specs.Words.{wide}
use Rattle.paper.specs.Calls.{planned}
use Rattle.plan.proofs.+gives_order.Given as goal

abbrev pub decreases-gives_order : goal.decreases-gives_order
decreases-gives_order l = length l.p.now

abbrev pub invariant-loop-rest : goal.invariant-loop-rest
invariant-loop-rest l = (length l.rest ≤ length l.p) × ((w : ℕ) → ordered (wide w) l.levels (planned w l.p) ≡ ordered (wide w) l.levels (planned w l.rest))

abbrev pub decreases-loop-rest : goal.decreases-loop-rest
decreases-loop-rest l = length l.rest
