-- The three tests in their turn: past the first the head fits, past the second the rows are in order.
use Rattle.table.proofs.Heads.{rows, head_wrong, order_wrong, device_right, order_right, rules_said}
use Rattle.laws.proofs.Tables.{HeadFits, head_facts}
use Rattle.paper.specs.Check.{head_fits, order_fits}
use mathlib.Core.Path.{◌≡◌, sym, ◌∙◌}
use mathlib.Core.Bool.{true, false}
use lib.ListN.{get_or}
use native.Mathlib.Omega.{arith}
use Rattle.table.proofs.check.check_at.Goals as goal
use Rattle.table.proofs.check.check_at.Given.{Over}
use Rattle.table.proofs.check.check_at.Goals.{Else-not-head_fits, Else-not-order_fits}

head : (g : Over) (c : Else-not-head_fits g) → head_fits g.row.N c.args.t.now ≡ true
head g c = sym c.head_fits.ensures ∙ c.if-not-head_fits.false

facts : (g : Over) (c : Else-not-head_fits g) → HeadFits g.row.N c.args.t.now
facts g c = head_facts _ _ (head g c)

order : (g : Over) (c : Else-not-order_fits g) → order_fits g.row.N (get_or c.args.t.now 2 0) (rows g.row.N c.args.t.now) ≡ true
order g c = sym c.order_fits.ensures ∙ c.if-not-order_fits.false

pub returns-then-not-head_fits : goal.returns-then-not-head_fits
returns-then-not-head_fits g c = head_wrong _ _ (sym c.head_fits.ensures ∙ c.if-not-head_fits.true)

pub slice_bounds-rows-count : goal.slice_bounds-rows-count
slice_bounds-rows-count g c = omega (arith, (facts g (goal.at.slice_bounds-rows-count g c).Else-not-head_fits).long)

pub slice_bounds-rows-start : goal.slice_bounds-rows-start
slice_bounds-rows-start g c = omega (arith, (facts g (goal.at.slice_bounds-rows-start g c).Else-not-head_fits).long)

pub bounds-t-2 : goal.bounds-t-2
bounds-t-2 g c = omega (arith, (facts g (goal.at.bounds-t-2 g c).Else-not-head_fits).long)

pub returns-then-not-order_fits : goal.returns-then-not-order_fits
returns-then-not-order_fits g c = order_wrong _ _ (head g (goal.at.returns-then-not-order_fits g c).Else-not-head_fits) (sym c.order_fits.ensures ∙ c.if-not-order_fits.true)

pub clock_of-requires : goal.clock_of-requires
clock_of-requires g c = omega (arith, (facts g (goal.at.clock_of-requires g c).Else-not-head_fits).long)

pub rows_fit-requires : goal.rows_fit-requires
rows_fit-requires g c =
    let p = goal.at.rows_fit-requires g c in
    let h = head g p.Else-not-head_fits in
    record { in_order = order_right _ _ h (order g p.Else-not-order_fits); device_lt_columns = (device_right _ _ h _ (c.clock_of.ensures _), c.requires) }

pub returns-then-not-rows_fit : goal.returns-then-not-rows_fit
returns-then-not-rows_fit g c =
    let p = goal.at.returns-then-not-rows_fit g c in
    rules_said _ _ (head g p.Else-not-head_fits) (order g p.Else-not-order_fits) _ _ false (c.clock_of.ensures _) c.zeros.ensures (sym c.rows_fit.ensures ∙ c.if-not-rows_fit.true)

pub returns : goal.returns
returns g c =
    let p = goal.at.returns g c in
    rules_said _ _ (head g p.Else-not-head_fits) (order g p.Else-not-order_fits) _ _ true (c.clock_of.ensures _) c.zeros.ensures (sym c.rows_fit.ensures ∙ c.if-not-rows_fit.false)
