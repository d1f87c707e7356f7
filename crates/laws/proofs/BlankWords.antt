-- Words that are all zero, and the first words of a row told one by one.
use Prim.Native.Nat.{ℕ, zero, suc, ◌+◌, ◌≤◌}
use mathlib.Core.Path.{◌≡◌, refl, sym, ap, ap₂, ◌∙◌}
use mathlib.Core.List.{List, [], ◌∷◌}
use mathlib.Core.Bool.{true}
use native.Mathlib.Omega.{arith}
use lib.Dec.{eqb}
use borrow.Author.Tests.{eqb-true}
use lib.ListN.{length, get_or, drop, replicate}
use lib.Seq.{drop-cons, drop-drop}
use Rattle.paper.specs.Check.{blank}
use Rattle.laws.proofs.Bools.{and_both}

pub length_zeros : (n : ℕ) → length (replicate {A = ℕ} n 0) ≡ n
length_zeros zero = refl
length_zeros (suc n) = ap suc (length_zeros n)

pub zeros_blank : (n : ℕ) → blank (replicate n 0) ≡ true
unfolding blank
zeros_blank zero = refl
zeros_blank (suc n) = zeros_blank n

pub blank_zeros : (l : List ℕ) → blank l ≡ true → l ≡ replicate (length l) 0
unfolding blank
blank_zeros [] e = refl
blank_zeros (x ∷ xs) e = let a = and_both (eqb x 0) _ e in ap₂ ◌∷◌ (eqb-true _ _ a.0) (blank_zeros xs a.1)

pub blank_at : (l : List ℕ) → blank l ≡ true → (i : ℕ) → get_or l i 0 ≡ 0
unfolding blank
blank_at [] e i = refl
blank_at (x ∷ xs) e zero = eqb-true _ _ (and_both (eqb x 0) _ e).0
blank_at (x ∷ xs) e (suc i) = blank_at xs (and_both (eqb x 0) _ e).1 i

pub skip : (a b : ℕ) (l : List ℕ) → drop (a + b) l ≡ drop b (drop a l)
skip a b l = sym (drop-drop b a l)

-- the first four words of a head, and the first eight of a row
pub four : (r : List ℕ) → 4 ≤ length r → r ≡ get_or r 0 0 ∷ get_or r 1 0 ∷ get_or r 2 0 ∷ get_or r 3 0 ∷ drop 4 r
four r h =
    drop-cons r 0 0 (omega arith)
    ∙ ap (◌∷◌ (get_or r 0 0)) (drop-cons r 1 0 (omega arith) ∙ ap (◌∷◌ (get_or r 1 0)) (drop-cons r 2 0 (omega arith) ∙ ap (◌∷◌ (get_or r 2 0)) (drop-cons r 3 0 (omega arith))))

pub eight : (r : List ℕ) → 8 ≤ length r
    → r ≡ get_or r 0 0 ∷ get_or r 1 0 ∷ get_or r 2 0 ∷ get_or r 3 0 ∷ get_or r 4 0 ∷ get_or r 5 0 ∷ get_or r 6 0 ∷ get_or r 7 0 ∷ drop 8 r
eight r h =
    four r (omega arith)
    ∙ ap (λ l. get_or r 0 0 ∷ get_or r 1 0 ∷ get_or r 2 0 ∷ get_or r 3 0 ∷ l)
    (drop-cons r 4 0 (omega arith) ∙ ap (◌∷◌ (get_or r 4 0))
    (drop-cons r 5 0 (omega arith) ∙ ap (◌∷◌ (get_or r 5 0)) (drop-cons r 6 0 (omega arith) ∙ ap (◌∷◌ (get_or r 6 0)) (drop-cons r 7 0 (omega arith)))))
