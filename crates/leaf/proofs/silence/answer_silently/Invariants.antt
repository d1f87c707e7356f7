-- The loop's invariant: the answers up to row i are written.
use Rattle.leaf.specs.Leaves.{silent_at}
use Rattle.vector.proofs.WriteLoops.{Upto}
use Rattle.leaf.proofs.silence.answer_silently.Given as goal

abbrev pub invariant-loop-i : goal.invariant-loop-i
invariant-loop-i l = Upto (silent_at l.width l.s) l.initial.answers l.answers l.i
