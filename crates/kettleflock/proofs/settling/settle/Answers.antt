-- Refused with nothing changed, or settled at the one width.
use mathlib.Core.Path.{refl, sym, ap, ◌∙◌}
use mathlib.Core.Logic.{inl, inr}
use native.Mathlib.Omega.{arith}
use Rattle.std.proofs.lemmas.Grind.{common_steps}
use Rattle.vector.specs.Wideness.{columns_in}
use Rattle.refused.proofs.FirstRefused.{outcomes}
use Rattle.kettleflock.proofs.Outcomes.{settle_one, settle_none, settle_told}
use Rattle.kettleflock.proofs.settling.settle.Goals as goal

pub returns-in_err-columns : goal.returns-in_err-columns
returns-in_err-columns c = rw (settle_one c.args.source.now c.args.target.now c.args.row c.args.choice c.args.content) (grind (arith, common_steps, outcomes))

pub make_settle-count-requires : goal.make_settle-count-requires
make_settle-count-requires c =
    let f = c.in_ok-columns.ensures in (omega arith, (settle_none _ _ _ _ _ 8 f.number (ap columns_in (sym c.in-Eight.is) ∙ f.width) _ f.named, inl refl))

pub make_settle-count-requires-in-Sixteen : goal.make_settle-count-requires-in-Sixteen
make_settle-count-requires-in-Sixteen c =
    let f = c.in_ok-columns.ensures in (omega arith, (settle_none _ _ _ _ _ 16 f.number (ap columns_in (sym c.in-Sixteen.is) ∙ f.width) _ f.named, inr refl))

pub returns-in-Eight : goal.returns-in-Eight
returns-in-Eight c =
    let f = c.in_ok-columns.ensures in settle_told _ _ _ _ _ 8 f.number (ap columns_in (sym c.in-Eight.is) ∙ f.width) _ f.named _ _ c.make_settle-count.ensures

pub returns-in-Sixteen : goal.returns-in-Sixteen
returns-in-Sixteen c =
    let f = c.in_ok-columns.ensures in settle_told _ _ _ _ _ 16 f.number (ap columns_in (sym c.in-Sixteen.is) ∙ f.width) _ f.named _ _ c.make_settle-count-in-Sixteen.ensures
