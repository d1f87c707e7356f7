-- The part at the one width; none where the two tables are refused.
use mathlib.Core.Path.{sym, ap, ◌∙◌}
use native.Mathlib.Omega.{arith}
use Rattle.vector.specs.Wideness.{columns_in}
use Rattle.refused.proofs.FirstRefused.{refusal_some}
use Rattle.kettleflock.proofs.Outcomes.{standing_none}
use Rattle.kettleflock.proofs.Sides.{shown_refused, shown_any, said_here}
use Rattle.kettleflock.proofs.showing.standing.Goals as goal

pub standing_at-requires : goal.standing_at-requires
standing_at-requires c =
    let a = c.in-Ok-Eight-default in let f = a.ensures in let e = ap columns_in (sym a.field-0-0-is) ∙ f.width in
    (omega arith, (standing_none _ _ _ 8 f.number e, said_here _ _ _ 8 e _ f.said))

pub standing_at-requires-in-Ok-Sixteen-default : goal.standing_at-requires-in-Ok-Sixteen-default
standing_at-requires-in-Ok-Sixteen-default c =
    let a = c.in-Ok-Sixteen-default in let f = a.ensures in let e = ap columns_in (sym a.field-0-0-is) ∙ f.width in
    (omega arith, (standing_none _ _ _ 16 f.number e, said_here _ _ _ 16 e _ f.said))

pub returns-in-Ok-Eight-default : goal.returns-in-Ok-Eight-default
returns-in-Ok-Eight-default c =
    let a = c.in-Ok-Eight-default in let f = a.ensures in shown_any _ _ _ 8 f.number (ap columns_in (sym a.field-0-0-is) ∙ f.width) _ _ _ _ c.standing_at.ensures

pub returns-in-Ok-Sixteen-default : goal.returns-in-Ok-Sixteen-default
returns-in-Ok-Sixteen-default c =
    let a = c.in-Ok-Sixteen-default in let f = a.ensures in shown_any _ _ _ 16 f.number (ap columns_in (sym a.field-0-0-is) ∙ f.width) _ _ _ _ c.standing_at-in-Ok-Sixteen-default.ensures

pub returns-in-Err : goal.returns-in-Err
returns-in-Err c = shown_refused _ _ _ _ _ (λ z. refusal_some _ (c.in-Err.ensures.number ∙ z))
