-- A test that fails refutes one fact of a row that fits; past the last test all of them hold.
use Rattle.vector.proofs.Tests.{first_so, second_so}
use Rattle.laws.proofs.Bools.{not_so}
use Rattle.laws.proofs.Order.{RowFits, fits_facts, facts_fit, row_room}
use Rattle.paper.specs.Order.{row_fits}
use mathlib.Core.Bool.{false}
use native.Mathlib.Omega.{arith}
use lib.ListN.{get_or}
use mathlib.Core.Path.{◌≡◌, sym}
use Rattle.order.proofs.row_fits.Goals as goal
use Rattle.order.proofs.row_fits.Goals.{Start, then-kind-ne-FOLDER+else-size-ne1, else-kind-ne-FOLDER}

bad : (s : Start) → (RowFits s.args.width s.args.levels s.args.t.now → ⊥) → false ≡ row_fits s.args.width s.args.levels s.args.t.now
bad s h = sym (not_so _ (λ e. h (fits_facts s.args.width s.args.levels s.args.t.now e)))

pub returns-then-levels-eq0 : goal.returns-then-levels-eq0
returns-then-levels-eq0 c = let s = (goal.at.returns-then-levels-eq0 c).Start in bad s (λ f. omega arith)

pub returns-then-t-width : goal.returns-then-t-width
returns-then-t-width c = let s = (goal.at.returns-then-t-width c).Start in bad s (λ f. omega (arith, row_room _ _ _ f))

pub returns-then-kind-gt3 : goal.returns-then-kind-gt3
returns-then-kind-gt3 c = let s = (goal.at.returns-then-kind-gt3 c).Start in bad s (λ f. omega arith)

pub returns-then-size-eq0 : goal.returns-then-size-eq0
returns-then-size-eq0 c = let s = (goal.at.returns-then-size-eq0 c).Start in bad s (λ f. omega arith)

pub returns-then-size-ne1 : goal.returns-then-size-ne1
returns-then-size-ne1 c = let s = (goal.at.returns-then-size-ne1 c).Start in bad s (λ f. c.if-size-ne1.true (f.sheet c.if-kind-ne-FOLDER.true))

pub returns-then-t-size : goal.returns-then-t-size
returns-then-t-size c = let s = (goal.at.returns-then-t-size c).Start in bad s (λ f. omega arith)

pub returns : goal.returns
returns c =
    let t = c.args.t.now in
    sym (facts_fit c.args.width c.args.levels t (omega arith) (omega arith) (omega arith)
    (elim c.if-kind-ne-FOLDER.branch [
      | then-kind-ne-FOLDER+else-size-ne1 w ↦ second_so (get_or t 0 0) 3 (get_or t 1 0) 1 w.if-size-ne1.false
      | else-kind-ne-FOLDER w ↦ first_so (get_or t 0 0) 3 (get_or t 1 0) 1 w.if-kind-ne-FOLDER.false
    ])
    (omega arith))
