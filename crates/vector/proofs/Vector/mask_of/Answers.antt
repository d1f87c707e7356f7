use native.Mathlib.Omega.{arith}
use Prim.Native.Nat.{ℕ}
use mathlib.Core.Path.{◌≡◌, refl, sym, ap, ◌∙◌}
use Rattle.paper.specs.Columns.{vec, mask}
use Rattle.vector.proofs.ColumnLoops.{mask_start, mask_with, mask_without, bit_more}
use Rattle.vector.proofs.Vector.mask_of.Goals as goal
use Rattle.vector.proofs.Vector.mask_of.Goals.{then-test, else-test}

pub loop-i-init : goal.loop-i-init
loop-i-init g c = (omega arith, λ f s. sym (mask_start _), omega arith, refl)

pub loop-i-preserved : goal.loop-i-preserved
loop-i-preserved g c =
    let q = c.loop-i.invariant in (
      omega arith,
      λ f s. let says = s _ _ _ c.test.ensures in elim c.if-test.branch [
        | then-test w ↦ w.mask-is ∙ mask_with _ (sym says ∙ w.if-test.true) (q.1 f s) q.3
        | else-test w ↦ w.mask-is ∙ mask_without _ (sym says ∙ w.if-test.false) (q.1 f s)
      ],
      elim c.if-test.branch [ then-test w ↦ omega arith | else-test w ↦ omega arith ],
      bit_more c.loop-i.i q.3,
    )

pub returns : goal.returns
returns g c = λ f s.
    let p = c.args in
    let e : c.loop-i.i ≡ p.columns = omega arith in
    c.loop-i.invariant.1 f s ∙ ap (λ (k : ℕ). mask k (λ j. f (vec p.self.0 j) (vec p.other.0 j))) e
