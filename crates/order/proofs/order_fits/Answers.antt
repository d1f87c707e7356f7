-- A table whose rows fit has a row that is a folder; past the tests the order decides.
use Rattle.laws.proofs.Bools.{not_so}
use Rattle.vector.proofs.Parts.{root_room}
use Rattle.paper.specs.Check.{order_fits}
use borrow.Author.Tests.{eq-eqb, ne_eqb}
use mathlib.Core.Bool.{and-false}
use native.Mathlib.Omega.{arith}
use mathlib.Core.Path.{sym, ◌∙◌}
use Rattle.order.proofs.order_fits.Goals as goal

pub returns-then-rows-width : goal.returns-then-rows-width
returns-then-rows-width c = sym (not_so _ (λ e. let l = root_room c.args.columns _ _ e in omega arith))

pub returns-then-rows-ne-FOLDER : goal.returns-then-rows-ne-FOLDER
unfolding order_fits
returns-then-rows-ne-FOLDER c = rw (ne_eqb _ _ c.if-rows-ne-FOLDER.true)

pub returns-then-rows-n : goal.returns-then-rows-n
unfolding order_fits
returns-then-rows-n c = rw (ne_eqb _ _ c.if-rows-n.true, and-false)

pub returns : goal.returns
unfolding order_fits
returns c = c.in_order.ensures ∙ rw (eq-eqb _ _ c.if-rows-ne-FOLDER.false, eq-eqb _ _ c.if-rows-n.false)
