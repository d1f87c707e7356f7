-- A folder and a sheet.
use borrow.Author.Tests.{eq-eqb, ne_eqb}
use mathlib.Core.Path.{sym}
use Rattle.summary.proofs.place.Goals as goal

pub returns-then-kind-eq-FOLDER : goal.returns-then-kind-eq-FOLDER
returns-then-kind-eq-FOLDER c = sym (rw (eq-eqb _ _ c.if-kind-eq-FOLDER.true))

pub returns-else-kind-eq-FOLDER : goal.returns-else-kind-eq-FOLDER
returns-else-kind-eq-FOLDER c = sym (rw (ne_eqb _ _ c.if-kind-eq-FOLDER.false))
