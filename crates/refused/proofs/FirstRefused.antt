-- What a helper refuses with, in the chain of refusals of the call that asks it.
use Prim.Native.Nat.{ℕ}
use mathlib.Core.Path.{◌≡◌, sym, ap, ap₂, ◌∙◌}
use mathlib.Core.List.{List, ◌∷◌}
use mathlib.Core.Bool.{not}
use lib.Dec.{eqb}
use Rattle.paper.specs.Widths.{width_of, check_any, two_widths}
use native.Mathlib.Omega.{arith}
use Rattle.paper.specs.declared.Fault.{Fault}
use Rattle.paper.specs.declared.Fault.TheVariants.{Head, Order, Rule}
use Rattle.paper.specs.declared.Refusal.{Refusal}
use Rattle.paper.specs.declared.Refusal.TheVariants.{Table, PlacesDiffer, OneDevice, SourceAhead, TargetAhead, NoSuchRow, WrongLength, Unfit}
use Rattle.paper.specs.declared.Refusal.TheVariants.{Target, NoConflict, CounterFull, NoSuchChoice, NoSuchDevice, Width, NoSuchClass, NoMark}
use Rattle.paper.specs.Refusals.{fault_number, refusal_number, first, when, tens, unless}
use Rattle.paper.specs.Words.{table_of}
use Rattle.paper.specs.Check.{check_of}
use Rattle.paper.specs.Calls.{unlike, two_refused}
use Rattle.laws.proofs.Refusals.{first_here, first_next, first_one, first_none, tens_passed, tens_none, unless_some, unless_none, when_true, when_false}

-- no refusal has the number 0
fault_some : (f : Fault) → fault_number f ≡ 0 → ⊥
fault_some Head e = omega arith
fault_some Order e = omega arith
fault_some Rule e = omega arith

pub refusal_some : (r : Refusal) → refusal_number r ≡ 0 → ⊥
refusal_some (Table f) e = fault_some f e
refusal_some PlacesDiffer e = omega arith
refusal_some OneDevice e = omega arith
refusal_some SourceAhead e = omega arith
refusal_some TargetAhead e = omega arith
refusal_some NoSuchRow e = omega arith
refusal_some WrongLength e = omega arith
refusal_some Unfit e = omega arith
refusal_some (Target f) e = omega arith
refusal_some NoConflict e = omega arith
refusal_some CounterFull e = omega arith
refusal_some NoSuchChoice e = omega arith
refusal_some NoSuchDevice e = omega arith
refusal_some Width e = omega arith
refusal_some NoSuchClass e = omega arith
refusal_some NoMark e = omega arith

-- first in a chain
pub refused_here : (r : Refusal) (n : ℕ) (rest : List ℕ) → refusal_number r ≡ n → refusal_number r ≡ first (n ∷ rest)
refused_here r n rest e = e ∙ sym (first_here n rest (λ z. refusal_some r (e ∙ z)))

-- each test in its turn
pub ruleset refusals = (refused_here, first_next, first_one, first_none, when_true, when_false)

-- the outcome of a call that is refused
pub unless_refused : {A : Type 0} (r : Refusal) (refused done : A) → unless (refusal_number r) refused done ≡ refused
unless_refused r refused done = unless_some (refusal_number r) refused done (refusal_some r)

-- refused or done
pub ruleset outcomes = (unless_refused, unless_none)

-- two tables that pass the check
pub two_checked : (w : ℕ) (s t : List ℕ) (row : ℕ) → (check_of w s ≡ 0) × (check_of w t ≡ 0) → unlike (table_of w s) (table_of w t) row ≡ two_refused w s t row
unfolding two_refused
two_checked w s t row c = sym (first_next _ _ c.0 ∙ tens_passed _ _ c.1 ∙ first_one _)

-- of the widths m and n
pub widths_said : (s t : List ℕ) (m n : ℕ) → 0 ≡ check_any s → 0 ≡ tens (check_any t) → m ≡ width_of s → n ≡ width_of t → when (not (eqb m n)) 19 ≡ two_widths s t
unfolding two_widths
widths_said s t m n a b p q = sym (first_next _ _ (sym a) ∙ first_next _ _ (sym b) ∙ first_one _ ∙ ap₂ (λ x y. when (not (eqb x y)) 19) (sym p) (sym q))

-- and where they are one, both tables pass the check at it
pub both_checked : (s t : List ℕ) (v : ℕ) → 0 ≡ check_any s → 0 ≡ tens (check_any t) → v ≡ width_of s → v ≡ width_of t → (check_of v s ≡ 0) × (check_of v t ≡ 0)
both_checked s t v a b p q = (ap (λ w. check_of w s) p ∙ sym a, ap (λ w. check_of w t) q ∙ tens_none _ (sym b))
