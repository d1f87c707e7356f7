-- Laws of vectors, at any number w of columns: reading them from words and writing them, and comparing them.
use Prim.Native.Nat.{ℕ, zero, suc, ◌+◌, ◌≤◌, ◌<◌, max}
use mathlib.Core.Path.{◌≡◌, refl, sym, ap, ap₂, ◌∙◌, fun_ext}
use mathlib.Core.List.{List, ◌∷◌}
use mathlib.Core.Bool.{Bool, true, false, ◌&&◌, cond}
use native.Mathlib.Omega.{arith}
use lib.Dec.{leb, ltb, eqb}
use borrow.Author.Tests.{eqb-true, eq-eqb, leb-true, leb-false, ltb-false, le-ltb}
use lib.ListN.{length, get_or, take, drop, replicate, length-take, length-drop, get_or-eq_default}
use lib.Seq.{ext_get_or, length-take-le}
use Rattle.paper.specs.declared.Clock.{Clock}
use Rattle.paper.specs.Columns.{Vec, zeros, full, ahead, covered, alike, Narrow, vec, part, columns}
use Rattle.laws.proofs.Bools.{and_both, both_and}
use Rattle.laws.proofs.Masks.{mask_none, none_mask, mask_same}

-- WORDS

pub length_columns : (w : ℕ) (v : Vec) → length (columns w v) ≡ w
unfolding columns
length_columns zero v = refl
length_columns (suc w) v = ap suc (length_columns w (λ j. v (suc j)))

pub columns_at : (w : ℕ) (v : Vec) (j : ℕ) → j < w → get_or (columns w v) j 0 ≡ v j
unfolding columns
columns_at zero v j h = absurd (omega arith)
columns_at (suc w) v zero h = refl
columns_at (suc w) v (suc j) h = columns_at w (λ i. v (suc i)) j (omega arith)

-- zeros as words
pub columns_zeros : (w : ℕ) → columns w zeros ≡ replicate w 0
unfolding columns
columns_zeros zero = refl
columns_zeros (suc w) = ap (◌∷◌ 0) (columns_zeros w)

-- words to vector to words
pub columns_vec : (w : ℕ) (words : List ℕ) → length words ≡ w → columns w (vec words) ≡ words
columns_vec w words e =
    ext_get_or 0 _ _ (length_columns w (vec words) ∙ sym e) (λ i h. columns_at w (vec words) i (omega (arith, length_columns w (vec words))))

-- vector to words to vector
pub vec_columns : (w : ℕ) (v : Vec) → Narrow w v → vec (columns w v) ≡ v
vec_columns w v n = fun_ext (λ j. go j (leb w j) refl)
  where
    go : (j : ℕ) (t : Bool) → leb w j ≡ t → get_or (columns w v) j 0 ≡ v j
    go j true e = get_or-eq_default (columns w v) 0 (omega (arith, length_columns w v, leb-true w j e)) ∙ sym (n j (leb-true w j e))
    go j false e = columns_at w v j (omega (arith, leb-false w j e))

-- a part of w columns has no more
pub part_narrow : (w i : ℕ) (words : List ℕ) → Narrow w (part w i words)
unfolding part
part_narrow w i words j h = get_or-eq_default (take w (drop i words)) 0 (omega (arith, length-take w (drop i words)))

pub part_length : (w i : ℕ) (words : List ℕ) → i + w ≤ length words → length (take w (drop i words)) ≡ w
part_length w i words h = length-take-le w (drop i words) (omega (arith, length-drop i words))

-- a part written is the words that it was read from
pub columns_part : (w i : ℕ) (words : List ℕ) → i + w ≤ length words → columns w (part w i words) ≡ take w (drop i words)
unfolding part
columns_part w i words h = columns_vec w (take w (drop i words)) (part_length w i words h)

-- COMPARING

-- covered: nobody is ahead
pub covered_at : (w : ℕ) (u v : Vec) → covered w u v ≡ true → (j : ℕ) → j < w → u j ≤ v j
covered_at w u v e j h = ltb-false (v j) (u j) (mask_none w (λ j. ltb (v j) (u j)) (eqb-true _ _ e) j h)

pub at_covered : (w : ℕ) (u v : Vec) → ((j : ℕ) → j < w → u j ≤ v j) → covered w u v ≡ true
at_covered w u v h = eq-eqb _ _ (none_mask w (λ j. ltb (v j) (u j)) (λ j l. le-ltb (v j) (u j) (h j l)))

-- a column that is greater is in the mask, so the mask is not 0
pub ahead_some : (w : ℕ) (u v : Vec) (j : ℕ) → j < w → v j < u j → 0 < ahead w u v
ahead_some w u v j h l = go (ahead w u v) refl
  where
    go : (n : ℕ) → ahead w u v ≡ n → 0 < n
    go zero e = absurd (omega (arith, l, covered_at w u v (eq-eqb _ _ e) j h))
    go (suc n) e = omega arith

-- alike: neither is ahead of the other
pub alike_at : (w : ℕ) (u v : Vec) → alike w u v ≡ true → (j : ℕ) → j < w → u j ≡ v j
alike_at w u v e j h = let a = and_both (covered w u v) _ e in omega (arith, covered_at w u v a.0 j h, covered_at w v u a.1 j h)

pub at_alike : (w : ℕ) (u v : Vec) → ((j : ℕ) → j < w → u j ≡ v j) → alike w u v ≡ true
at_alike w u v h = both_and (at_covered w u v (λ j l. omega (arith, h j l))) (at_covered w v u (λ j l. omega (arith, h j l)))

-- only the first w columns are compared, and written
pub record Same (w : ℕ) (u v : Vec) : Type 0 where
  pub at : (j : ℕ) → j < w → u j ≡ v j

pub ahead_same : (w : ℕ) (u u' v v' : Vec) → Same w u u' → Same w v v' → ahead w u v ≡ ahead w u' v'
ahead_same w u u' v v' h k = mask_same w _ _ (λ j l. ap₂ ltb (k.at j l) (h.at j l))

pub covered_same : (w : ℕ) (u u' v v' : Vec) → Same w u u' → Same w v v' → covered w u v ≡ covered w u' v'
covered_same w u u' v v' h k = ap (λ n. eqb n 0) (ahead_same w u u' v v' h k)

pub alike_same : (w : ℕ) (u u' v v' : Vec) → Same w u u' → Same w v v' → alike w u v ≡ alike w u' v'
alike_same w u u' v v' h k = ap₂ ◌&&◌ (covered_same w u u' v v' h k) (covered_same w v v' u u' k h)

pub full_same : (w : ℕ) (c : Clock) (u v v' : Vec) → Same w v v' → Same w (full c u v) (full c u v')
full_same w c u v v' h = record { at = λ j l. ap (λ x. cond (eqb j c.device) c.counter (max (u j) x)) (h.at j l) }

pub columns_same : (w : ℕ) (u v : Vec) → Same w u v → columns w u ≡ columns w v
columns_same w u v h =
    ext_get_or 0 _ _ (length_columns w u ∙ sym (length_columns w v))
    (λ i l. let b : i < w = omega (arith, length_columns w u) in columns_at w u i b ∙ h.at i b ∙ sym (columns_at w v i b))

-- a vector and its written form agree
pub vec_same : (w : ℕ) (v : Vec) → Same w v (vec (columns w v))
vec_same w v = record { at = λ j h. sym (columns_at w v j h) }
