-- Past the two tables the list must be as long as the row's size says.
use mathlib.Core.Path.{sym, ◌∙◌}
use native.Mathlib.Omega.{arith}
use borrow.Author.Tests.{eq-eqb, ne_eqb}
use Rattle.paper.specs.Calls.{pass_refused}
use Rattle.laws.proofs.Refusals.{first_next, first_none, first_held, first_failed}
use Rattle.two.proofs.Sizes.{size_word_lem}
use Rattle.two.proofs.TwoTables.{paired, begin_both}
use Rattle.refused.proofs.of_pair.pass_refused_at.Goals as goal

pub bounds-target-at : goal.bounds-target-at
bounds-target-at g c = let r = (begin_both _ _ _ _ c.args.w.few (sym c.in_ok-two_refused_at.ensures)).1 in omega (arith, r.room, c.args.w.few)

pub returns-then-answers-target : goal.returns-then-answers-target
unfolding pass_refused
returns-then-answers-target g c =
    let e = sym c.in_ok-two_refused_at.ensures in let p = paired _ _ _ _ e in
    sym (first_next _ _ e ∙ first_failed 8 _ (ne_eqb _ _ (λ z. c.if-answers-target.true (z ∙ size_word_lem _ _ p.target _ p.in_target))))

pub returns : goal.returns
unfolding pass_refused
returns g c =
    let e = sym c.in_ok-two_refused_at.ensures in let p = paired _ _ _ _ e in
    sym (first_next _ _ e ∙ first_held _ _ (eq-eqb _ _ (c.if-answers-target.false ∙ sym (size_word_lem _ _ p.target _ p.in_target))) ∙ first_none)
