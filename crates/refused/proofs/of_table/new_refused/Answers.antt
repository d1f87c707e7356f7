-- Each return is the first test that applies.
use Prim.Native.Nat.{◌*◌, ◌≤◌}
use mathlib.Core.Path.{◌≡◌, sym, ◌∙◌}
use mathlib.Core.Bool.{false}
use native.Mathlib.Omega.{arith}
use borrow.Author.Tests.{eq-eqb, ne_eqb, le-leb, lt-leb}
use lib.Dec.{leb}
use lib.ListN.{length}
use Rattle.paper.specs.Words.{wide}
use Rattle.paper.specs.Calls.{plan_fits, new_refused}
use Rattle.paper.specs.Devices.{most_rows, devices}
use Rattle.laws.proofs.Refusals.{first_none, first_passed, first_met, first_held, first_failed}
use Rattle.vector.proofs.Parts.{words_small}
use Rattle.refused.proofs.NewTable.{plan_few}
use Rattle.refused.proofs.of_table.new_refused.Goals as goal
use Rattle.refused.proofs.of_table.new_refused.Goals.{After-plan_fits, Else-columns-device, Else-not-plan_fits, Start}

-- the device is a column, and the plan gives rows
device : (c : Else-columns-device) → let s = (goal.at.Else-columns-device c).Start in leb s.args.columns s.args.device ≡ false
device c = lt-leb c.args.columns c.args.device (omega (arith, c.if-columns-device.false))

plan : (c : After-plan_fits) → plan_fits c.args.columns c.args.plan.now ≡ c.plan_fits.result
unfolding plan_fits
plan c = sym (c.plan_fits.ensures _)

small : (c : Else-not-plan_fits) → let s = (goal.at.Else-not-plan_fits c).Start in length s.args.plan.now * wide s.args.columns ≤ most_rows * wide devices
small c =
    words_small (length c.args.plan.now) (wide c.args.columns) (plan_few c.args.columns _ (plan (goal.at.Else-not-plan_fits c).After-plan_fits ∙ c.if-not-plan_fits.false)) (omega (arith, c.requires))

pub returns-then-columns-device : goal.returns-then-columns-device
unfolding new_refused
returns-then-columns-device c = sym (first_met 16 _ (le-leb c.args.columns c.args.device (omega (arith, c.if-columns-device.true))))

pub returns-then-not-plan_fits : goal.returns-then-not-plan_fits
unfolding new_refused
returns-then-not-plan_fits c =
    sym (first_passed _ _ (device (goal.at.returns-then-not-plan_fits c).Else-columns-device)
    ∙ first_failed 1 _ (plan (goal.at.returns-then-not-plan_fits c).After-plan_fits ∙ c.if-not-plan_fits.true))

pub overflow_mul-plan : goal.overflow_mul-plan
overflow_mul-plan c = omega (arith, small c, c.requires)

pub overflow_add-plan : goal.overflow_add-plan
overflow_add-plan c = omega (arith, small c, c.requires)

pub returns-then-table-plan : goal.returns-then-table-plan
unfolding new_refused
returns-then-table-plan c =
    sym (first_passed _ _ (device (goal.at.returns-then-table-plan c).Else-columns-device) ∙ first_held _ _ (plan (goal.at.returns-then-table-plan c).After-plan_fits ∙ c.if-not-plan_fits.false)
    ∙ first_failed 8 _ (ne_eqb _ _ c.if-table-plan.true))

pub returns : goal.returns
unfolding new_refused
returns c =
    sym (first_passed _ _ (device (goal.at.returns c).Else-columns-device) ∙ first_held _ _ (plan (goal.at.returns c).After-plan_fits ∙ c.if-not-plan_fits.false)
    ∙ first_held _ _ (eq-eqb _ _ c.if-table-plan.false) ∙ first_none)
