-- A test that fails refutes one fact of a head that fits; past the last test the rest decides.
use lib.ListN.{take, drop}
use Rattle.paper.specs.Check.{blank, head_fits}
use Rattle.paper.specs.Words.{wide}
use Rattle.laws.proofs.Tables.{HeadFits, head_facts}
use Rattle.table.proofs.Heads.{head_rest}
use Rattle.laws.proofs.Bools.{not_so}
use native.Mathlib.Omega.{arith}
use Prim.Native.Nat.{◌+◌, ◌-◌, ◌*◌}
use mathlib.Core.Bool.{false}
use mathlib.Core.Path.{◌≡◌, sym, ap, ◌∙◌}
use Rattle.table.proofs.head.head_fits.Goals as goal
use Rattle.table.proofs.head.head_fits.Goals.{Start}

bad : (c : Start) → (HeadFits c.args.columns c.args.t.now → ⊥) → false ≡ head_fits c.args.columns c.args.t.now
bad c h = sym (not_so _ (λ e. h (head_facts c.args.columns c.args.t.now e)))

pub returns-then-t-width : goal.returns-then-t-width
returns-then-t-width c = let s = (goal.at.returns-then-t-width c).Start in bad s (λ f. omega arith)

pub returns-then-columns-device : goal.returns-then-columns-device
returns-then-columns-device c = let s = (goal.at.returns-then-columns-device c).Start in bad s (λ f. omega arith)

pub returns-then-rows-eq0 : goal.returns-then-rows-eq0
returns-then-rows-eq0 c = let s = (goal.at.returns-then-rows-eq0 c).Start in bad s (λ f. omega arith)

pub returns-then-rows-gt-MOST_ROWS : goal.returns-then-rows-gt-MOST_ROWS
returns-then-rows-gt-MOST_ROWS c = let s = (goal.at.returns-then-rows-gt-MOST_ROWS c).Start in bad s (λ f. omega arith)

pub returns-then-t-rows : goal.returns-then-t-rows
returns-then-t-rows c = let s = (goal.at.returns-then-t-rows c).Start in bad s (λ f. c.if-t-rows.true f.long)

pub returns-then-t-sign_of : goal.returns-then-t-sign_of
returns-then-t-sign_of c = let s = (goal.at.returns-then-t-sign_of c).Start in bad s (λ f. c.if-t-sign_of.true (f.sign ∙ sym c.sign_of.ensures))

pub returns : goal.returns
returns c =
    let b : 4 + 4 * c.args.columns ≡ wide c.args.columns - 4 = omega arith in
    c.is_blank.ensures ∙ ap (λ n. blank (take n (drop 4 c.args.t.now))) (sym b)
    ∙ head_rest c.args.columns c.args.t.now (omega (arith, c.if-columns-device)) (omega (arith, c.if-rows-eq0)) (omega (arith, c.if-rows-gt-MOST_ROWS)) c.if-t-rows.false
    (c.if-t-sign_of.false ∙ c.sign_of.ensures)
