-- The refusals of a new table, and what is there where none applies.
use Prim.Native.Nat.{ℕ, ◌+◌, ◌*◌, ◌≤◌}
use mathlib.Core.Path.{◌≡◌, refl}
use mathlib.Core.Bool.{Bool, true, false, ◌||◌}
use mathlib.Core.List.{List}
use native.Mathlib.Omega.{arith}
use lib.Dec.{eqb, leb, ltb}
use borrow.Author.Tests.{eqb-true, leb-true}
use lib.ListN.{length}
use Rattle.paper.specs.Words.{wide}
use Rattle.paper.specs.Calls.{plan_fits, new_refused}
use Rattle.paper.specs.Widths.{check_any, eight_or_sixteen, widen_refused}
use Rattle.laws.proofs.Bools.{and_both}
use Rattle.laws.proofs.Refusals.{first_both, none_so}

-- of a plan that gives the rows of a table
pub plan_few : (w : ℕ) (plan : List ℕ) → plan_fits w plan ≡ true → length plan ≤ 256
unfolding plan_fits
plan_few w plan e = leb-true _ _ (and_both (leb (length plan) 256) _ (and_both (ltb 0 (length plan)) _ e).1).0

pub record NewFits (w : ℕ) (plan table : List ℕ) : Type 0 where
  pub few : length plan ≤ 256
  pub long : length table ≡ length plan * wide w + wide w

pub new_facts : (w d : ℕ) (plan table : List ℕ) → new_refused w d plan table ≡ 0 → NewFits w plan table
unfolding new_refused
new_facts w d plan table e =
    let a = first_both _ _ e in
    let b = first_both _ _ a.1 in
    let c = first_both _ _ b.1 in
    record { few = plan_few w plan (none_so (plan_fits w plan) 1 b.0); long = eqb-true _ _ (none_so (eqb (length table) (length plan * wide w + wide w)) 8 c.0) }

-- a width that there is
pub width_small : (n : ℕ) → eight_or_sixteen n ≡ true → n ≤ 16
unfolding eight_or_sixteen
width_small n e = go (eqb n 8) refl e
  where
    go : (b : Bool) → eqb n 8 ≡ b → (b || eqb n 16) ≡ true → n ≤ 16
    go true p q = omega (arith, eqb-true n 8 p)
    go false p q = omega (arith, eqb-true n 16 q)

-- A WIDENING
module _ (t wider : List ℕ) where
  pub widen_checked : widen_refused t wider ≡ 0 → check_any t ≡ 0
  unfolding widen_refused
  widen_checked e = (first_both (check_any t) _ e).0
