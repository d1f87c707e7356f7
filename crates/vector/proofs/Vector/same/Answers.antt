-- In no column do the two differ.
use mathlib.Core.Path.{ap, ◌∙◌}
use mathlib.Core.Bool.{not}
use Prim.Native.Nat.{ℕ}
use lib.Dec.{eqb}
use borrow.Author.Rules.{rules}
use Rattle.paper.specs.Columns.{vec}
use Rattle.vector.proofs.ColumnLoops.{differ_alike}
use Rattle.vector.proofs.Vector.same.Goals as goal

pub returns : goal.returns
returns c =
    let q = c.args in
    ap (λ (n : ℕ). eqb n 0) (c.mask_of.ensures (λ a b. not (eqb a b)) (λ a b r p. search rules)) ∙ differ_alike q.columns (vec q.self.0) (vec q.other.0)
