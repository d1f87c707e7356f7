-- Refused, or the words in the part: it is as short as a row.
use mathlib.Core.Path.{sym, ap, ◌∙◌}
use mathlib.Core.List.{List}
use lib.ListN.{length}
use native.Mathlib.Omega.{arith}
use Rattle.std.proofs.lemmas.Grind.{common_steps}
use Rattle.vector.specs.Wideness.{columns_in}
use Rattle.refused.proofs.FirstRefused.{outcomes}
use Rattle.kettleflock.proofs.Outcomes.{standing_one, standing_none, standing_told}
use Rattle.kettleflock.proofs.Sides.{said_here, standing_length}
use Rattle.kettleflock.proofs.showing.standing_answer.Goals as goal

pub returns-in_err-columns : goal.returns-in_err-columns
returns-in_err-columns c = rw (standing_one c.args.source.now c.args.target.now c.args.row) (grind (arith, common_steps, outcomes))

pub standing_at-requires : goal.standing_at-requires
standing_at-requires c =
    let f = c.in_ok-columns.ensures in let e = ap columns_in (sym c.in-Eight.is) ∙ f.width in
    (omega arith, (standing_none _ _ _ 8 f.number e, said_here _ _ _ 8 e _ f.said))

pub overflow_cast-result : goal.overflow_cast-result
overflow_cast-result c = omega (arith, ap (λ (l : List _). length l) c.standing_at.ensures.0, standing_length 8 c.args.source.now c.args.target.now c.args.row)

pub returns-in-Eight : goal.returns-in-Eight
returns-in-Eight c =
    let f = c.in_ok-columns.ensures in standing_told _ _ _ 8 f.number (ap columns_in (sym c.in-Eight.is) ∙ f.width) _ c.standing_at.ensures.0

pub standing_at-requires-in-Sixteen : goal.standing_at-requires-in-Sixteen
standing_at-requires-in-Sixteen c =
    let f = c.in_ok-columns.ensures in let e = ap columns_in (sym c.in-Sixteen.is) ∙ f.width in
    (omega arith, (standing_none _ _ _ 16 f.number e, said_here _ _ _ 16 e _ f.said))

pub overflow_cast-result-in-Sixteen : goal.overflow_cast-result-in-Sixteen
overflow_cast-result-in-Sixteen c =
    omega (arith, ap (λ (l : List _). length l) c.standing_at-in-Sixteen.ensures.0, standing_length 16 c.args.source.now c.args.target.now c.args.row)

pub returns-in-Sixteen : goal.returns-in-Sixteen
returns-in-Sixteen c =
    let f = c.in_ok-columns.ensures in standing_told _ _ _ 16 f.number (ap columns_in (sym c.in-Sixteen.is) ∙ f.width) _ c.standing_at-in-Sixteen.ensures.0
