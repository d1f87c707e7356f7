-- A row that fits takes words, and they are there; the order of the whole is the order of what is after it.
use Rattle.order.proofs.Siblings.{First, first, row_broken, order_next, past_sheet}
use Rattle.std.proofs.Common.{◌∙◌, ℕ, sym, arith}
use Rattle.order.proofs.+in_order.Goals as goal
use Rattle.order.proofs.+in_order.Goals.{Else-not-row_fits}

here : (t : ℕ) (c : Else-not-row_fits t) → First c.args.width (omega (arith, c.requires)) c.args.levels c.loop-rest.rest.now
here t c = first _ _ _ _ (sym c.row_fits.ensures ∙ c.if-not-row_fits.false)

pub returns-then-not-row_fits : goal.returns-then-not-row_fits
returns-then-not-row_fits t c = grind (arith, row_broken)

pub bounds-rest-1 : goal.bounds-rest-1
bounds-rest-1 t c = let h = here t (goal.at.bounds-rest-1 t c).Else-not-row_fits in omega arith

pub split_at-requires : goal.split_at-requires
split_at-requires t c = (here t (goal.at.split_at-requires t c).Else-not-row_fits).room

pub slice_bounds-in_order-count : goal.slice_bounds-in_order-count
slice_bounds-in_order-count t c = let h = here t (goal.at.slice_bounds-in_order-count t c).Else-not-row_fits in omega arith

pub slice_bounds-in_order-start : goal.slice_bounds-in_order-start
slice_bounds-in_order-start t c = let h = here t (goal.at.slice_bounds-in_order-start t c).Else-not-row_fits in omega arith

pub overflow_sub-levels : goal.overflow_sub-levels
overflow_sub-levels t c = omega (arith, (here t (goal.at.overflow_sub-levels t c).Else-not-row_fits).level)

pub loop-rest-preserved-else-not-in_order : goal.loop-rest-preserved-else-not-in_order
loop-rest-preserved-else-not-in_order t c =
    let s = c.split_at.ensures in (
      omega arith,
      c.loop-rest.invariant.1
          ∙ order_next _ (omega (arith, c.requires)) _ _ (sym c.row_fits.ensures ∙ c.if-not-row_fits.false) s.front s.back (sym c.in_order.ensures ∙ c.if-not-in_order.false),
    )

pub loop-rest-smaller-else-not-in_order : goal.loop-rest-smaller-else-not-in_order
loop-rest-smaller-else-not-in_order t c = let h = here t (goal.at.loop-rest-smaller-else-not-in_order t c).Else-not-row_fits in omega arith

pub loop-rest-preserved : goal.loop-rest-preserved
loop-rest-preserved t c =
    let s = c.split_at.ensures in (
      omega arith,
      c.loop-rest.invariant.1 ∙ past_sheet _ (omega (arith, c.requires)) _ _ (sym c.row_fits.ensures ∙ c.if-not-row_fits.false) s.back c.if-rest-eq-FOLDER.false,
    )

pub loop-rest-smaller : goal.loop-rest-smaller
loop-rest-smaller t c = let h = here t (goal.at.loop-rest-smaller t c).Else-not-row_fits in omega arith
