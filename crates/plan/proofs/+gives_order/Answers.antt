-- A number with all beneath it is passed: the order of the whole is the order of what is after it.
use Rattle.plan.proofs.CutPlans.{plan_next, rest_of}
use Rattle.std.proofs.Common.{◌∙◌, ◌≤◌, length, length-drop, sym, ap, arith}
use Rattle.paper.specs.Order.{ordered}
use Rattle.paper.specs.Words.{wide}
use Rattle.paper.specs.Calls.{planned}
use Rattle.plan.proofs.+gives_order.Goals as goal

pub loop-rest-preserved : goal.loop-rest-preserved
loop-rest-preserved t c =
    let p = c.loop-rest.rest.now in let k = c.greater-size.result in
    let l : k ≤ length p = omega (arith, c.if-rest-size.false) in
    let e = rest_of k p in (
      omega (arith, ap length e, length-drop k p),
      λ w. c.loop-rest.invariant.1 w
          ∙ plan_next w c.args.levels p k (omega arith) c.greater-size.ensures (omega arith) l (sym (c.gives_order.ensures w) ∙ c.if-not-gives_order.false)
          ∙ ap (λ x. ordered (wide w) c.args.levels (planned w x)) (sym e),
    )
