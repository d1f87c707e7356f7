-- Refused with nothing changed, or passed at the one width.
use mathlib.Core.Path.{refl, sym, ap, ◌∙◌}
use mathlib.Core.Logic.{inl, inr}
use native.Mathlib.Omega.{arith}
use Rattle.std.proofs.lemmas.Grind.{common_steps}
use Rattle.vector.specs.Wideness.{columns_in}
use Rattle.refused.proofs.FirstRefused.{outcomes}
use Rattle.kettleflock.proofs.Outcomes.{pass_one, pass_none, pass_told}
use Rattle.kettleflock.proofs.passing.pass.Goals as goal

pub returns-in_err-w : goal.returns-in_err-w
returns-in_err-w c = rw (pass_one c.args.source.now c.args.target.now c.args.row c.args.answers.now) (grind (arith, common_steps, outcomes))

pub make_pass-requires : goal.make_pass-requires
make_pass-requires c = let f = c.in_ok-w.ensures in (omega arith, (pass_none _ _ _ _ 8 f.number (ap columns_in (sym c.in-Eight.is) ∙ f.width), inl refl))

pub make_pass-requires-in-Sixteen : goal.make_pass-requires-in-Sixteen
make_pass-requires-in-Sixteen c = let f = c.in_ok-w.ensures in (omega arith, (pass_none _ _ _ _ 16 f.number (ap columns_in (sym c.in-Sixteen.is) ∙ f.width), inr refl))

pub returns-in-Eight : goal.returns-in-Eight
returns-in-Eight c = let f = c.in_ok-w.ensures in c.make_pass.ensures ∙ pass_told _ _ _ _ 8 f.number (ap columns_in (sym c.in-Eight.is) ∙ f.width)

pub returns-in-Sixteen : goal.returns-in-Sixteen
returns-in-Sixteen c = let f = c.in_ok-w.ensures in c.make_pass-in-Sixteen.ensures ∙ pass_told _ _ _ _ 16 f.number (ap columns_in (sym c.in-Sixteen.is) ∙ f.width)
