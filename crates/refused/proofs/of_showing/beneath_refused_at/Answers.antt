-- Past the check the row must be there, and be a folder.
use Prim.Native.Nat.{◌<◌}
use mathlib.Core.Path.{sym, ◌∙◌}
use native.Mathlib.Omega.{arith}
use borrow.Author.Tests.{eq-eqb, ne_eqb}
use lib.ListN.{get_or}
use Rattle.paper.specs.Calls.{beneath_refused}
use Rattle.laws.proofs.Refusals.{first_next, first_none, first_passed, first_met}
use Rattle.laws.proofs.Tables.{check_facts}
use Rattle.order.proofs.RowPlaces.{begins}
use Rattle.two.proofs.TwoTables.{no_row, row_there}
use Rattle.verdict.proofs.SheetAt.{folder_word}
use Rattle.refused.proofs.of_showing.beneath_refused_at.Goals as goal

pub bounds-table-2 : goal.bounds-table-2
bounds-table-2 g c = omega (arith, (check_facts _ _ (sym c.in_ok-check_at.ensures)).head.long)

pub returns-then-table-row : goal.returns-then-table-row
unfolding beneath_refused
returns-then-table-row g c = let e = sym c.in_ok-check_at.ensures in sym (first_next _ _ e ∙ first_met 7 _ (rw (no_row _ _ e _ c.if-table-row.true)))

pub bounds-table-row : goal.bounds-table-row
bounds-table-row g c =
    let h : c.args.row < get_or c.args.table.now 2 0 = omega (arith, c.if-table-row.false) in omega (arith, (begins _ _ _ c.args.w.few (sym c.in_ok-check_at.ensures) h).room)

pub returns-then-table-row-ne-FOLDER : goal.returns-then-table-row-ne-FOLDER
unfolding beneath_refused
returns-then-table-row-ne-FOLDER g c =
    let e = sym c.in_ok-check_at.ensures in
    let h : c.args.row < get_or c.args.table.now 2 0 = omega (arith, c.if-table-row.false) in
    sym (first_next _ _ e ∙ first_met 7 _ (rw (row_there _ _ e _ h, sym (folder_word _ _ e _ h), ne_eqb _ _ c.if-table-row-ne-FOLDER.true)))

pub returns : goal.returns
unfolding beneath_refused
returns g c =
    let e = sym c.in_ok-check_at.ensures in
    let h : c.args.row < get_or c.args.table.now 2 0 = omega (arith, c.if-table-row.false) in
    sym (first_next _ _ e ∙ first_passed _ _ (rw (row_there _ _ e _ h, sym (folder_word _ _ e _ h), eq-eqb _ _ c.if-table-row-ne-FOLDER.false)) ∙ first_none)
