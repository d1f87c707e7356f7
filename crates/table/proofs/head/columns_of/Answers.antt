-- Words that are too few to ask for more have eight columns.
use lib.ListN.{get_or-eq_default}
use Rattle.laws.proofs.Widths.{narrow_words, narrow_other, wide_words}
use native.Mathlib.Omega.{arith}
use mathlib.Core.Path.{sym}
use Rattle.table.proofs.head.columns_of.Goals as goal

pub returns-then-t-le-SIGN : goal.returns-then-t-le-SIGN
returns-then-t-le-SIGN c = sym (narrow_words c.args.t.now (get_or-eq_default c.args.t.now 0 (omega (arith, c.if-t-le-SIGN))))

pub returns-then-t-eq-SIGN : goal.returns-then-t-eq-SIGN
returns-then-t-eq-SIGN c = sym (wide_words c.args.t.now c.if-t-eq-SIGN.true)

pub returns : goal.returns
returns c = sym (narrow_other c.args.t.now c.if-t-eq-SIGN.false)
