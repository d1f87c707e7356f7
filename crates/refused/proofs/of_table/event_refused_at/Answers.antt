-- Each return is the first test that refuses.
use Prim.Native.Nat.{◌<◌}
use mathlib.Core.Path.{sym, ◌∙◌}
use native.Mathlib.Omega.{arith}
use lib.ListN.{get_or}
use Rattle.std.proofs.lemmas.Grind.{common_steps}
use Rattle.paper.specs.Words.{table_of}
use Rattle.laws.proofs.Refusals.{first_next, first_one, first_passed, first_met, first_held, first_failed}
use Rattle.laws.proofs.Tables.{check_facts}
use Rattle.order.proofs.RowPlaces.{begins}
use Rattle.two.proofs.TwoTables.{no_row, row_there}
use Rattle.refused.proofs.EventFits.{fits_row}
use Rattle.refused.proofs.FirstRefused.{refused_here}
use Rattle.refused.proofs.Named.{event_said}
use Rattle.refused.proofs.of_table.event_refused_at.Goals as goal

pub returns-in_err-content_refused-clause-number : goal.returns-in_err-content_refused-clause-number
returns-in_err-content_refused-clause-number g c = rw (event_said _ _ _ _ _ _ _ c.in_ok-named.ensures c.takes_content.ensures) (grind (arith, common_steps, refused_here, first_next))

pub bounds-table-2 : goal.bounds-table-2
bounds-table-2 g c = omega (arith, (check_facts _ _ (sym c.in_ok-check_at.ensures)).head.long)

pub returns-then-table-row-clause-number : goal.returns-then-table-row-clause-number
returns-then-table-row-clause-number g c =
    let e = sym c.in_ok-check_at.ensures in
    sym (event_said _ _ _ _ _ _ _ c.in_ok-named.ensures c.takes_content.ensures ∙ first_next _ _ e ∙ first_next _ _ (sym c.in_ok-content_refused.ensures)
    ∙ first_met 7 _ (no_row _ _ e _ c.if-table-row.true))

pub bounds-table-row : goal.bounds-table-row
bounds-table-row g c =
    let h : c.args.row < get_or c.args.table.now 2 0 = omega (arith, c.if-table-row.false) in omega (arith, (begins _ _ _ c.args.w.few (sym c.in_ok-check_at.ensures) h).room)

pub returns-then-not-fits_row-clause-number : goal.returns-then-not-fits_row-clause-number
returns-then-not-fits_row-clause-number g c =
    let e = sym c.in_ok-check_at.ensures in
    let h : c.args.row < get_or c.args.table.now 2 0 = omega (arith, c.if-table-row.false) in
    sym (event_said _ _ _ _ _ _ _ c.in_ok-named.ensures c.takes_content.ensures ∙ first_next _ _ e ∙ first_next _ _ (sym c.in_ok-content_refused.ensures) ∙ first_passed _ _ (row_there _ _ e _ h)
    ∙ first_failed 9 _ (fits_row _ _ e _ _ h ∙ sym c.fits_row.ensures ∙ c.if-not-fits_row.true))

pub returns-in_err-counter_refused-clause-number : goal.returns-in_err-counter_refused-clause-number
unfolding table_of
returns-in_err-counter_refused-clause-number g c =
    let e = sym c.in_ok-check_at.ensures in
    let h : c.args.row < get_or c.args.table.now 2 0 = omega (arith, c.if-table-row.false) in
    let s = event_said _ _ _ _ _ _ _ c.in_ok-named.ensures c.takes_content.ensures ∙ first_next _ _ e ∙ first_next _ _ (sym c.in_ok-content_refused.ensures) ∙ first_passed _ _ (row_there _ _ e _ h)
    ∙ first_held _ _ (fits_row _ _ e _ _ h ∙ sym c.fits_row.ensures ∙ c.if-not-fits_row.false) in rw s (grind (arith, common_steps, refused_here))

pub returns-clause-number : goal.returns-clause-number
unfolding table_of
returns-clause-number g c =
    let e = sym c.in_ok-check_at.ensures in
    let h : c.args.row < get_or c.args.table.now 2 0 = omega (arith, c.if-table-row.false) in
    sym (event_said _ _ _ _ _ _ _ c.in_ok-named.ensures c.takes_content.ensures ∙ first_next _ _ e ∙ first_next _ _ (sym c.in_ok-content_refused.ensures) ∙ first_passed _ _ (row_there _ _ e _ h)
    ∙ first_held _ _ (fits_row _ _ e _ _ h ∙ sym c.fits_row.ensures ∙ c.if-not-fits_row.false) ∙ first_one _ ∙ sym c.in_ok-counter_refused.ensures)
