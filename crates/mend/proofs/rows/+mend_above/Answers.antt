-- The sibling that holds the row is gone into, and comes back mended; the others are passed.
use Rattle.mend.proofs.MendedLoans.{above_start, above_past, above_none, below_siblings, below_less, below_there, held_siblings, above_under}
use Rattle.mend.specs.Mended.{mended_rows}
use Rattle.paper.specs.Order.{forest_of, words_of}
use Rattle.paper.specs.Words.{wide}
use Rattle.std.proofs.Common.{◌∙◌, refl, ap, arith}
use Rattle.mend.proofs.rows.+mend_above.Goals as goal

pub loop-left-init : goal.loop-left-init
loop-left-init t c = (above_start _ _ _ c.requires.siblings c.requires.columns_in_bounds.0, refl, refl)

pub mend_above-requires : goal.mend_above-requires
mend_above-requires t c =
    let a = c.loop-left.invariant in let p = c.loop-left-test.true in let q = c.if-left-size.true in
    (omega (arith, below_less _ _ _ _ _ a.0 p q, a.2, c.decreases), (below_siblings _ _ _ _ _ a.0 p q, (below_there _ _ _ _ _ a.0 p q, c.requires.columns_in_bounds.1)))

pub mend_folder-requires-clause-siblings : goal.mend_folder-requires-clause-siblings
mend_folder-requires-clause-siblings t c =
    (held_siblings _ _ _ _ _ c.loop-left.invariant.0 c.loop-left-test.true c.if-left-size.true _ c.mend_above.ensures c.mend_above.auto.t).1

pub returns-then-left-size : goal.returns-then-left-size
returns-then-left-size t c =
    above_under _ _ _ _ _ c.loop-left.invariant.0 c.loop-left-test.true c.if-left-size.true _ c.mend_above.ensures c.mend_above.auto.t _ c.mend_folder.ensures
    ∙ ap (λ x. words_of (mended_rows c.args.columns (forest_of (wide c.args.columns) x) c.args.row)) c.loop-left.invariant.1

pub loop-left-preserved : goal.loop-left-preserved
loop-left-preserved t c = let a = c.loop-left.invariant in (above_past _ _ _ _ _ a.0 (omega (arith, c.if-left-size.false)), a.1, a.2)

pub returns : goal.returns
returns t c =
    let a = c.loop-left.invariant in
    above_none _ _ _ _ _ a.0 (omega (arith, c.loop-left-test.false)) ∙ ap (λ x. words_of (mended_rows c.args.columns (forest_of (wide c.args.columns) x) c.args.row)) a.1
