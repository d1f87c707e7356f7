-- Refused with no mask, or told at the one width.
use mathlib.Core.Path.{sym, ap, ◌∙◌}
use native.Mathlib.Omega.{arith}
use Rattle.std.proofs.lemmas.Grind.{common_steps}
use Rattle.vector.specs.Wideness.{columns_in}
use Rattle.refused.proofs.FirstRefused.{outcomes}
use Rattle.kettleflock.proofs.Outcomes.{ahead_one, ahead_none, ahead_told}
use Rattle.kettleflock.proofs.settling.ahead.Goals as goal

pub returns-in_err-ahead_refused : goal.returns-in_err-ahead_refused
returns-in_err-ahead_refused c = rw (ahead_one c.args.source.now c.args.target.now c.args.row) (grind (arith, common_steps, outcomes))

pub masks_at-requires : goal.masks_at-requires
masks_at-requires c = let f = c.in_ok-ahead_refused.ensures in (ahead_none _ _ _ 8 f.number (ap columns_in (sym c.in-Eight.is) ∙ f.width), omega arith)

pub masks_at-requires-in-Sixteen : goal.masks_at-requires-in-Sixteen
masks_at-requires-in-Sixteen c = let f = c.in_ok-ahead_refused.ensures in (ahead_none _ _ _ 16 f.number (ap columns_in (sym c.in-Sixteen.is) ∙ f.width), omega arith)

pub returns-in-Eight : goal.returns-in-Eight
returns-in-Eight c = let f = c.in_ok-ahead_refused.ensures in c.masks_at.ensures ∙ ahead_told _ _ _ 8 f.number (ap columns_in (sym c.in-Eight.is) ∙ f.width)

pub returns-in-Sixteen : goal.returns-in-Sixteen
returns-in-Sixteen c = let f = c.in_ok-ahead_refused.ensures in c.masks_at-in-Sixteen.ensures ∙ ahead_told _ _ _ 16 f.number (ap columns_in (sym c.in-Sixteen.is) ∙ f.width)
