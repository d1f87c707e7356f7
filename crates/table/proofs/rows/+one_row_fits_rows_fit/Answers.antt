-- One row by its children, cut in its own words and those beneath; siblings row by row.
use Rattle.table.proofs.RowsFit.{Cut, row_cut, not_empty, fit_told, under_order, sheet_fit, folder_broken, folder_fit, first_some, first_room, row_one, rows_after, rows_broken, rows_next, rows_none}
use Rattle.layout.specs.FolderSums.{folder_by}
use Rattle.paper.specs.Words.{wide}
use Rattle.std.proofs.Common.{◌∙◌, ℕ, take, ap, sym, arith}
use Rattle.table.proofs.rows.+one_row_fits_rows_fit.Goals as goal
use Rattle.table.proofs.rows.+one_row_fits_rows_fit.Goals.{one_row_fits-Start}

cut : (t : ℕ) (c : one_row_fits-Start t) → Cut c.args.columns c.args.t.now
cut t c = row_cut c.args.columns c.args.t.now c.requires.one_row c.requires.device_lt_columns.0 c.requires.device_lt_columns.1

pub one_row_fits-returns-then-t-ne-FOLDER : goal.one_row_fits-returns-then-t-ne-FOLDER
one_row_fits-returns-then-t-ne-FOLDER t c = c.sheet_fits.ensures ∙ sheet_fit _ _ c.requires.one_row _ _ c.if-t-ne-FOLDER.true

pub one_row_fits-rows_fit-requires : goal.one_row_fits-rows_fit-requires
one_row_fits-rows_fit-requires t c =
    let h = cut t (goal.at.one_row_fits-rows_fit-requires t c).Start in
    (omega (arith, h.rest, c.decreases), (under_order _ _ c.requires.one_row, c.requires.device_lt_columns))

pub one_row_fits-returns-then-not-rows_fit : goal.one_row_fits-returns-then-not-rows_fit
one_row_fits-returns-then-not-rows_fit t c =
    sym (folder_broken _ _ c.requires.one_row _ _ c.if-t-ne-FOLDER.false c.read.ensures c.greatest.ensures (sym c.rows_fit.ensures ∙ c.if-not-rows_fit.true))

pub one_row_fits-of_rows-sums-requires-clause-siblings :
    goal.one_row_fits-of_rows-sums-requires-clause-siblings
one_row_fits-of_rows-sums-requires-clause-siblings t c =
    let h = cut t (goal.at.one_row_fits-of_rows-sums-requires-clause-siblings t c).Start in
    (fit_told _ h.some _ _ _ (under_order _ _ c.requires.one_row) (sym c.rows_fit.ensures ∙ c.if-not-rows_fit.false)).siblings

pub one_row_fits-returns : goal.one_row_fits-returns
one_row_fits-returns t c =
    let h = cut t (goal.at.one_row_fits-returns t c).Start in
    c.folder_fits.ensures ∙ ap (folder_by c.args.columns c.args.above.clock (take (wide c.args.columns) c.args.t.now)) c.of_rows-sums.ensures
    ∙ folder_fit _ _ c.requires.one_row _ _ c.if-t-ne-FOLDER.false c.read.ensures c.greatest.ensures h.some (sym c.rows_fit.ensures ∙ c.if-not-rows_fit.false)

pub rows_fit-bounds-rest-1 : goal.rows_fit-bounds-rest-1
rows_fit-bounds-rest-1 t c =
    let some = not_empty _ c.loop-rest-test.ensures in
    let q = c.loop-rest.invariant.1 in omega (arith, first_some _ _ some q, first_room _ _ some q)

pub rows_fit-split_at-requires : goal.rows_fit-split_at-requires
rows_fit-split_at-requires t c = first_room _ _ (not_empty _ c.loop-rest-test.ensures) c.loop-rest.invariant.1

pub rows_fit-one_row_fits-requires : goal.rows_fit-one_row_fits-requires
rows_fit-one_row_fits-requires t c = (
  omega (arith, c.split_at.ensures, c.decreases),
  (row_one _ _ (not_empty _ c.loop-rest-test.ensures) c.loop-rest.invariant.1 c.split_at.ensures.front, c.requires.device_lt_columns),
)

pub rows_fit-returns-then-not-one_row_fits : goal.rows_fit-returns-then-not-one_row_fits
rows_fit-returns-then-not-one_row_fits t c =
    let i = c.loop-rest.invariant in let s = c.split_at.ensures in
    sym (i.2 ∙ rows_broken _ _ (not_empty _ c.loop-rest-test.ensures) i.1 _ _ s.front s.back (sym c.one_row_fits.ensures ∙ c.if-not-one_row_fits.true))

pub rows_fit-loop-rest-smaller : goal.rows_fit-loop-rest-smaller
rows_fit-loop-rest-smaller t c =
    omega (arith, first_some _ _ (not_empty _ c.loop-rest-test.ensures) c.loop-rest.invariant.1)

pub rows_fit-loop-rest-preserved : goal.rows_fit-loop-rest-preserved
rows_fit-loop-rest-preserved t c =
    let i = c.loop-rest.invariant in let s = c.split_at.ensures in
    let some = not_empty _ c.loop-rest-test.ensures in (
      omega arith,
      rows_after _ _ some i.1 s.back,
      i.2 ∙ rows_next _ _ some i.1 _ _ s.front s.back (sym c.one_row_fits.ensures ∙ c.if-not-one_row_fits.false),
    )

pub rows_fit-returns : goal.rows_fit-returns
rows_fit-returns t c = grind (arith, rows_none)
