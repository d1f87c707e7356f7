use native.Mathlib.Omega.{arith}
use Prim.Native.Nat.{ℕ}
use mathlib.Core.Path.{ap, ◌∙◌}
use lib.ListN.{get_or-eq_default}
use Rattle.paper.specs.Columns.{vec}
use Rattle.vector.proofs.WriteLoops.{upto_all}
use Rattle.vector.proofs.Vector.column_by_column.Goals as goal

pub returns : goal.returns
returns g c = λ f s z.
    let q = c.loop-i.invariant in let p = c.args in
    upto_all (q.2 f s) (omega arith)
    (λ k m. ap (λ (x : ℕ). f x (vec p.other.0 k)) (get_or-eq_default p.self.0 0 m) ∙ ap (f 0) (get_or-eq_default p.other.0 0 (omega arith)) ∙ z)
