-- Each helper's refusal is the first where the earlier ones give none.
use mathlib.Core.Path.{sym, ◌∙◌}
use native.Mathlib.Omega.{arith}
use Rattle.std.proofs.lemmas.Grind.{common_steps}
use Rattle.paper.specs.Words.{table_of}
use Rattle.laws.proofs.Refusals.{first_next, first_one}
use Rattle.two.proofs.TwoTables.{begin_both}
use Rattle.refused.proofs.FirstRefused.{refused_here}
use Rattle.refused.proofs.Named.{settle_said, two_first}
use Rattle.refused.proofs.of_pair.settle_refused_at.Goals as goal

pub returns-in_err-content_refused-clause-number : goal.returns-in_err-content_refused-clause-number
returns-in_err-content_refused-clause-number g c = rw (settle_said _ _ _ _ _ _ _ _ c.in_ok-named.ensures c.takes_content.ensures) (grind (arith, common_steps, refused_here, first_next))

pub returns-in_err-conflict_refused-clause-number : goal.returns-in_err-conflict_refused-clause-number
returns-in_err-conflict_refused-clause-number g c =
    let two = sym c.in_ok-two_refused_at.ensures in let held = sym c.in_ok-content_refused.ensures in
    rw (settle_said _ _ _ _ _ _ _ _ c.in_ok-named.ensures c.takes_content.ensures, first_next _ _ two, first_next _ _ held, two_first) (grind (arith, common_steps, refused_here))

pub counter_refused-requires : goal.counter_refused-requires
counter_refused-requires g c = omega (arith, (begin_both _ _ _ _ c.args.w.few (sym c.in_ok-two_refused_at.ensures)).1.head)

pub returns-in_err-counter_refused-clause-number : goal.returns-in_err-counter_refused-clause-number
unfolding table_of
returns-in_err-counter_refused-clause-number g c =
    let two = sym c.in_ok-two_refused_at.ensures in let held = sym c.in_ok-content_refused.ensures in
    rw (settle_said _ _ _ _ _ _ _ _ c.in_ok-named.ensures c.takes_content.ensures, first_next _ _ two, first_next _ _ held, two_first) (grind (arith, common_steps, first_next, refused_here))

pub returns-clause-number : goal.returns-clause-number
unfolding table_of
returns-clause-number g c =
    sym (settle_said _ _ _ _ _ _ _ _ c.in_ok-named.ensures c.takes_content.ensures ∙ first_next _ _ (sym c.in_ok-two_refused_at.ensures) ∙ first_next _ _ (sym c.in_ok-content_refused.ensures)
    ∙ two_first _ _ _ ∙ first_next _ _ (sym c.in_ok-conflict_refused.ensures) ∙ first_one _ ∙ sym c.in_ok-counter_refused.ensures)
