-- The side of what the rules say; none on a refusal.
use mathlib.Core.Path.{sym, ◌∙◌}
use Rattle.refused.proofs.FirstRefused.{refusal_some}
use Rattle.laws.proofs.Refusals.{unless_some}
use Rattle.kettleflock.proofs.Sides.{side_one, side_said}
use Rattle.kettleflock.proofs.showing.standing_side.Goals as goal

pub returns-in-Ok : goal.returns-in-Ok
returns-in-Ok c = let f = c.in-Ok.ensures in c.side_of.ensures ∙ side_said _ _ _ f.number _ f.said

pub returns-in-Err : goal.returns-in-Err
returns-in-Err c = sym (side_one _ _ _ ∙ unless_some _ _ _ (λ z. refusal_some _ (c.in-Err.ensures.number ∙ z)))
