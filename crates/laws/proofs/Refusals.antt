-- Laws of refusals: which number is the first, and what follows where there is none.
use Prim.Native.Nat.{ℕ, zero, suc, ◌+◌}
use mathlib.Core.Path.{◌≡◌, refl, ap, ◌∙◌}
use mathlib.Core.List.{List, [], ◌∷◌, ◌++◌}
use mathlib.Core.Bool.{Bool, true, false, not, false≢true, true≢false}
use native.Mathlib.Omega.{arith}
use lib.Dec.{eqb}
use borrow.Author.Tests.{eqb-true}
use Rattle.paper.specs.Refusals.{first, when, tens, unless}
use Rattle.paper.specs.Check.{blank}
use Rattle.laws.proofs.Bools.{and_both}

pub first_none : first [] ≡ 0
unfolding first
first_none = refl

pub first_both : (n : ℕ) (r : List ℕ) → first (n ∷ r) ≡ 0 → (n ≡ 0) × (first r ≡ 0)
unfolding first
first_both zero r e = (refl, e)
first_both (suc n) r e = absurd (omega arith)

pub first_next : (n : ℕ) (r : List ℕ) → n ≡ 0 → first (n ∷ r) ≡ first r
unfolding first
first_next zero r e = refl
first_next (suc n) r e = absurd (omega arith)

-- one that does not apply, after another
pub first_skip : (n m : ℕ) (r : List ℕ) → m ≡ 0 → first (n ∷ m ∷ r) ≡ first (n ∷ r)
unfolding first
first_skip zero m r e = first_next m r e
first_skip (suc n) m r e = refl

pub first_here : (n : ℕ) (r : List ℕ) → (n ≡ 0 → ⊥) → first (n ∷ r) ≡ n
unfolding first
first_here zero r e = absurd (e refl)
first_here (suc n) r e = refl

-- one number alone
pub first_one : (n : ℕ) → first (n ∷ []) ≡ n
unfolding first
first_one zero = refl
first_one (suc n) = refl

-- a refusal that is given where a test holds, or where it does not
pub when_true : (b : Bool) (n : ℕ) → b ≡ true → when b n ≡ n
unfolding when
when_true true n e = refl
when_true false n e = absurd (false≢true e)

pub when_false : (b : Bool) (n : ℕ) → b ≡ false → when b n ≡ 0
unfolding when
when_false true n e = absurd (true≢false e)
when_false false n e = refl

pub when_none : (b : Bool) (n : ℕ) → when b (suc n) ≡ 0 → b ≡ false
unfolding when
when_none true n e = absurd (omega arith)
when_none false n e = refl

pub unless_so : (b : Bool) (n : ℕ) → b ≡ true → when (not b) n ≡ 0
unfolding when
unless_so true n e = refl
unless_so false n e = absurd (false≢true e)

pub none_so : (b : Bool) (n : ℕ) → when (not b) (suc n) ≡ 0 → b ≡ true
unfolding when
none_so true n e = refl
none_so false n e = absurd (omega arith)

-- A CHAIN OF TESTS, from the front: a test that is not met is passed over, the first that is met refuses
pub first_passed : (n : ℕ) (r : List ℕ) {b : Bool} → b ≡ false → first (when b n ∷ r) ≡ first r
first_passed n r {b} e = first_next _ r (when_false b n e)

pub first_met : (n : ℕ) (r : List ℕ) {b : Bool} → b ≡ true → first (when b (suc n) ∷ r) ≡ suc n
first_met n r {b} e = first_here _ r (λ z. omega (arith, z, when_true b (suc n) e)) ∙ when_true b (suc n) e

-- so of a test that has to hold
pub first_held : (n : ℕ) (r : List ℕ) {b : Bool} → b ≡ true → first (when (not b) n ∷ r) ≡ first r
first_held n r {b} e = first_passed n r (ap not e)

pub first_failed : (n : ℕ) (r : List ℕ) {b : Bool} → b ≡ false → first (when (not b) (suc n) ∷ r) ≡ suc n
first_failed n r {b} e = first_met n r (ap not e)

pub tens_none : (n : ℕ) → tens n ≡ 0 → n ≡ 0
unfolding tens
tens_none zero e = refl
tens_none (suc n) e = absurd (omega arith)

-- the target's check, in a chain
pub tens_passed : (n : ℕ) (r : List ℕ) → n ≡ 0 → first (tens n ∷ r) ≡ first r
unfolding tens
tens_passed n r e = first_next _ r (ap tens e)

pub tens_met : (n : ℕ) (r : List ℕ) → (n ≡ 0 → ⊥) → first (tens n ∷ r) ≡ n + 10
unfolding tens
tens_met zero r h = absurd (h refl)
tens_met (suc n) r h = first_here (11 + n) r (λ z. omega (arith, z)) ∙ omega arith

-- what comes of a call: the work where nothing refuses, else the refusal
pub unless_none : {A : Type 0} (n : ℕ) (refused done : A) → n ≡ 0 → unless n refused done ≡ done
unfolding unless
unless_none zero refused done e = refl
unless_none (suc n) refused done e = absurd (omega arith)

pub unless_some : {A : Type 0} (n : ℕ) (refused done : A) → (n ≡ 0 → ⊥) → unless n refused done ≡ refused
unfolding unless
unless_some zero refused done e = absurd (e refl)
unless_some (suc n) refused done e = refl

-- what a call returns, told field by field
pub unless_at : {A B : Type 0} (f : A → B) (n : ℕ) (refused done : A) → f (unless n refused done) ≡ unless n (f refused) (f done)
unfolding unless
unless_at f zero refused done = refl
unless_at f (suc n) refused done = refl

pub unless_number : (n : ℕ) → unless n n 0 ≡ n
unfolding unless
unless_number zero = refl
unless_number (suc n) = refl

-- a chain within a chain
pub first_flat : (l r : List ℕ) → first (first l ∷ r) ≡ first (l ++ r)
unfolding first
first_flat [] r = refl
first_flat (zero ∷ l) r = first_flat l r
first_flat (suc n ∷ l) r = refl

pub first_within : (a n : ℕ) (r : List ℕ) → first (a ∷ first (n ∷ r) ∷ []) ≡ first (first (a ∷ n ∷ []) ∷ r)
unfolding first
first_within zero zero r = first_one (first r)
first_within zero (suc n) r = refl
first_within (suc a) n r = refl

-- a refusal is given where it applies and none before it in the order does
pub first_order : (before rest : List ℕ) (n : ℕ) → blank before ≡ true → (n ≡ 0 → ⊥) → first (before ++ n ∷ rest) ≡ n
unfolding blank
first_order [] rest n b e = first_here n rest e
first_order (x ∷ xs) rest n b e =
    let a = and_both (eqb x 0) _ b in
    first_next x (xs ++ n ∷ rest) (eqb-true _ _ a.0) ∙ first_order xs rest n a.1 e
