-- Loops that write a list place by place, from the first on.
use Prim.Native.Nat.{ℕ, suc, ◌+◌, ◌≤◌, ◌<◌}
use mathlib.Core.Path.{◌≡◌, refl, sym, subst, ◌∙◌, fun_ext}
use mathlib.Core.List.{List}
use mathlib.Core.Bool.{Bool, true, false}
use mathlib.Core.Logic.{⊎_elim}
use native.Mathlib.Numerals.{add-one}
use native.Mathlib.Nat.{eq-or-lt_of_le}
use native.Mathlib.Omega.{arith}
use lib.Dec.{leb}
use borrow.Author.Tests.{leb-true, leb-false}
use lib.ListN.{length, get_or, take, set, length-set, get_or-eq_default}
use lib.Seq.{ext_get_or, get_or-set_same, get_or-set_other, take-suc, take-suc-set}
use Rattle.paper.specs.Columns.{Vec, vec, columns}
use Rattle.laws.proofs.Columns.{length_columns, columns_at}

-- a is what f says up to place i, and what stood in a₀ from i on
pub record Upto (f : Vec) (a₀ a : List ℕ) (i : ℕ) : Type 0 where
  pub long : length a ≡ length a₀
  pub upto : i ≤ length a₀
  pub done : (k : ℕ) → k < i → get_or a k 0 ≡ f k
  pub left : (k : ℕ) → i ≤ k → get_or a k 0 ≡ get_or a₀ k 0

-- nothing is written
pub upto_none : (f : Vec) (a : List ℕ) → Upto f a a 0
upto_none f a = record { long = refl; upto = omega arith; done = λ k l. absurd (omega arith); left = λ k l. refl }

-- one place more
pub upto_set : {f : Vec} {a₀ a : List ℕ} {i : ℕ} (x : ℕ) → Upto f a₀ a i → i < length a₀ → x ≡ f i → Upto f a₀ (set a i x) (i + 1)
upto_set {f} {a₀} {a} {i} x u l e =
    let h : i < length a = omega (arith, u.long) in
    record {
      long = length-set a i x ∙ u.long;
      upto = omega arith;
      done =
          λ k lk.
          ⊎_elim (λ q. subst (λ (j : ℕ). get_or (set a i x) j 0 ≡ f j) (sym q) (get_or-set_same a i x 0 h ∙ e))
          (λ q. get_or-set_other a i k x 0 (λ z. omega arith) ∙ u.done k q)
          (eq-or-lt_of_le (at_most k i lk));
      left = λ k lk. get_or-set_other a i k x 0 (λ z. omega arith) ∙ u.left k (omega arith);
    }
  where
    at_most : (k i : ℕ) → k < i + 1 → k ≤ i
    at_most k i h = omega arith

-- all is written, and f is zero past the list's end
pub upto_all : {f : Vec} {a₀ a : List ℕ} {i : ℕ} → Upto f a₀ a i → length a₀ ≤ i → ((k : ℕ) → length a₀ ≤ k → f k ≡ 0) → vec a ≡ f
upto_all {f} {a₀} {a} {i} u l h = fun_ext (λ k. at k (leb (suc k) i) refl)
  where
    at : (k : ℕ) (t : Bool) → leb (suc k) i ≡ t → get_or a k 0 ≡ f k
    at k true e = u.done k (leb-true (suc k) i e)
    at k false e =
        get_or-eq_default a 0 (omega (arith, leb-false (suc k) i e, u.long))
        ∙ sym (h k (omega (arith, leb-false (suc k) i e)))

-- what is not written is what f says too
pub upto_here : {f : Vec} {a₀ a : List ℕ} {i : ℕ} → Upto f a₀ a i → ((k : ℕ) → i ≤ k → get_or a₀ k 0 ≡ f k) → vec a ≡ f
upto_here {f} {a₀} {a} {i} u h = fun_ext (λ k. at k (leb (suc k) i) refl)
  where
    at : (k : ℕ) (t : Bool) → leb (suc k) i ≡ t → get_or a k 0 ≡ f k
    at k true e = u.done k (leb-true (suc k) i e)
    at k false e = let l : i ≤ k = omega (arith, leb-false (suc k) i e) in u.left k l ∙ h k l

-- all is written, place by place
pub upto_columns : {f : Vec} {a₀ a : List ℕ} {i : ℕ} → Upto f a₀ a i → length a₀ ≤ i → a ≡ columns (length a₀) f
upto_columns {f} {a₀} {a} {i} u l =
    ext_get_or 0 a (columns (length a₀) f) (u.long ∙ sym (length_columns (length a₀) f))
    (λ k lk. let h : k < length a₀ = omega (arith, u.long) in u.done k (omega arith) ∙ sym (columns_at (length a₀) f k h))

-- one place more is copied
pub copy_step : (a b : List ℕ) (i : ℕ) → i < length a → i < length b → take i a ≡ take i b → take (i + 1) (set a i (get_or b i 0)) ≡ take (i + 1) b
copy_step a b i p q e = rw (add-one, take-suc-set a i (get_or b i 0), take-suc b i 0, e)
