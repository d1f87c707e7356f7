-- Laws of vectors, for any width: what a test column by column has found, and how a vector is made.
use Prim.Native.Nat.{ℕ, zero, suc, ◌+◌, ◌-◌, ◌^◌, ◌≤◌, ◌<◌, max}
use mathlib.Core.Path.{◌≡◌, refl, sym, ap, ap₂, subst, ◌∙◌, fun_ext}
use mathlib.Core.List.{List, [], ◌∷◌, ◌++◌, append-nil}
use mathlib.Core.Bool.{Bool, true, false, not, cond, false≢true}
use native.Mathlib.Numerals.{add-one}
use native.Mathlib.Nat.{add-sub_cancel_left}
use native.Mathlib.Omega.{arith}
use lib.Dec.{leb, eqb}
use lib.Pow.{pow-add, pow_mono}
use borrow.Author.Tests.{lt-leb, eq-eqb, ne_eqb, eqb-true, eqb-false}
use lib.ListN.{length, get_or, take, drop, replicate, set, drop_of_length-le, get_or-eq_default}
use lib.Seq.{get_or-take, get_or-drop, get_or-set_same, get_or-set_other, take_all}
use Rattle.paper.specs.Columns.{Vec, Narrow, zeros, greatest, vec, column, columns, part, mask, alike}
use Rattle.laws.proofs.Bools.{not_so}
use Rattle.laws.proofs.Masks.{mask_below, mask_none, none_mask}
use Rattle.laws.proofs.Columns.{alike_at, at_alike, length_columns, vec_columns, columns_same, columns_part, part_length}
use Rattle.vector.specs.Places.{put}

-- a mask of no columns, and of one more, at which the test holds or not; its bit is a power of two
pub mask_start : (test : ℕ → Bool) → mask 0 test ≡ 0
unfolding mask
mask_start test = refl

pub mask_with : (test : ℕ → Bool) {i m b : ℕ} → test i ≡ true → m ≡ mask i test → b ≡ 2 ^ i → m + b ≡ mask (i + 1) test
unfolding mask
mask_with test {i} {m} {b} t p q = rw (add-one, t) (omega (arith, p, q))

pub mask_without : (test : ℕ → Bool) {i m : ℕ} → test i ≡ false → m ≡ mask i test → m ≡ mask (i + 1) test
unfolding mask
mask_without test {i} {m} t p = rw (add-one, t) (omega (arith, p))

-- so with the test undecided
pub mask_more : (test : ℕ → Bool) (i : ℕ) {m b : ℕ} → m ≡ mask i test → b ≡ 2 ^ i → m + cond (test i) b 0 ≡ mask (i + 1) test
unfolding mask
mask_more test i {m} {b} p q = rw (add-one) (ap₂ (λ (x y : ℕ). x + cond (test i) y 0) p q ∙ omega arith)

pub bit_more : (i : ℕ) {b : ℕ} → b ≡ 2 ^ i → b + b ≡ 2 ^ (i + 1)
bit_more i q = omega (arith, q, pow-add 2 i 1)

-- the bit and the sums fit w bits
pub bit_room : (i w : ℕ) {b : ℕ} → b ≡ 2 ^ i → i ≤ w → b ≤ 2 ^ w
bit_room i w q h = omega (arith, q, pow_mono h)

pub mask_room : (test : ℕ → Bool) (i w : ℕ) {m b : ℕ} → m ≡ mask i test → b ≡ 2 ^ i → i < w → m + cond (test i) b 0 < 2 ^ w
mask_room test i w p q h = omega (arith, mask_more test i p q, mask_below (i + 1) test, pow_mono {i = i + 1} {j = w} (omega arith))

-- neither is ahead of the other where no column differs
pub differ_alike : (w : ℕ) (u v : Vec) → eqb (mask w (λ j. not (eqb (u j) (v j)))) 0 ≡ alike w u v
differ_alike w u v = go (alike w u v) refl
  where
    test : ℕ → Bool
    test j = not (eqb (u j) (v j))

    not_not : (b : Bool) → not b ≡ false → b ≡ true
    not_not true e = refl
    not_not false e = absurd (false≢true (sym e))

    go : (b : Bool) → alike w u v ≡ b → eqb (mask w test) 0 ≡ b
    go true e = eq-eqb _ _ (none_mask w test (λ j l. ap not (eq-eqb _ _ (alike_at w u v e j l))))
    go false e = not_so _ (λ z. false≢true (sym e ∙ at_alike w u v (λ j l. eqb-true _ _ (not_not _ (mask_none w test (eqb-true _ _ z) j l)))))

-- a column that is set
pub column_set : (a : List ℕ) (d n : ℕ) → d < length a → vec (set a d n) ≡ column d n (vec a)
column_set a d n l = fun_ext (λ j. at j (eqb j d) refl)
  where
    at : (j : ℕ) (t : Bool) → eqb j d ≡ t → get_or (set a d n) j 0 ≡ cond t n (get_or a j 0)
    at j true e = subst (λ (k : ℕ). get_or (set a d n) k 0 ≡ n) (sym (eqb-true j d e)) (get_or-set_same a d n 0 l)
    at j false e = get_or-set_other a d j n 0 (λ z. eqb-false j d e z)

-- nothing stands past the list's end, where the column is within it
pub column_narrow : (a : List ℕ) (d n k : ℕ) → d < length a → length a ≤ k → column d n (vec a) k ≡ 0
column_narrow a d n k h l = rw (ne_eqb k d (λ e. omega arith)) (get_or-eq_default a 0 l)

-- one that is raised
pub column_raised : (a : List ℕ) (d n : ℕ) → d < length a → vec (set a d (max (get_or a d 0) n)) ≡ greatest (vec a) (column d n zeros)
column_raised a d n l = column_set a d (max (get_or a d 0) n) l ∙ fun_ext (λ j. at j (eqb j d) refl)
  where
    at : (j : ℕ) (t : Bool) → eqb j d ≡ t → cond t (max (get_or a d 0) n) (get_or a j 0) ≡ max (get_or a j 0) (cond t n 0)
    at j true e = ap (λ (k : ℕ). max (get_or a k 0) n) (sym (eqb-true j d e))
    at j false e = omega arith

-- a vector as long as it is wide, all of it raised
pub all_raised : (w : ℕ) (a e : List ℕ) (u v : Vec) → length a ≡ w → Narrow w v → u ≡ greatest (part w 0 a) v → e ≡ put 0 (columns w u) a → vec e ≡ greatest (vec a) v
unfolding put part
all_raised w a e u v l h p q =
    let x : u ≡ greatest (vec a) v = p ∙ ap (λ k. greatest (vec k) v) (take_all w a (omega arith)) in
    ap vec (q ∙ ap (λ k. columns w u ++ k) (drop_of_length-le a {i = 0 + length (columns w u)} (omega (arith, length_columns w u))) ∙ append-nil (columns w u))
    ∙ vec_columns w u (λ j k. ap (λ f. f j) x ∙ omega (arith, h j k, beyond j k))
    ∙ x
  where
    beyond : (j : ℕ) → w ≤ j → get_or a j 0 ≡ 0
    beyond j k = get_or-eq_default a 0 (omega arith)

-- a column of a vector among words
pub part_at : (w at : ℕ) (t : List ℕ) (i : ℕ) → i < w → part w at t i ≡ get_or t (at + i) 0
unfolding part
part_at w at t i h = get_or-take w (drop at t) i 0 h ∙ get_or-drop at t i 0

-- a vector among words, with zeros after its columns
pub part_then_zeros : (w at : ℕ) (t z : List ℕ) {l : List ℕ} → vec z ≡ zeros → l ≡ take (at + w - at) (drop at t) → vec (l ++ drop w z) ≡ part w at t
unfolding part
part_then_zeros w at t z {l} h e = fun_ext (λ j. then l j) ∙ ap vec e ∙ ap (λ k. vec (take k (drop at t))) (add-sub_cancel_left at w)
  where
    then : (l : List ℕ) (j : ℕ) → get_or (l ++ drop w z) j 0 ≡ get_or l j 0
    then [] j = get_or-drop w z j 0 ∙ ap (λ f. f (w + j)) h
    then (x ∷ l) zero = refl
    then (x ∷ l) (suc j) = then l j

-- its first columns as words are its first words
pub columns_take : (w : ℕ) (a : List ℕ) → w ≤ length a → columns w (vec a) ≡ take w a
unfolding part
columns_take w a h = columns_same w (vec a) (part w 0 a) (record { at = λ j l. sym (get_or-take w a j 0 l) }) ∙ columns_part w 0 a (omega arith)

pub take_long : (w : ℕ) (a : List ℕ) → w ≤ length a → length (take w a) ≡ w
take_long w a h = part_length w 0 a (omega arith)

-- no number but 0 is at most 0
pub zero_leb : (n : ℕ) → eqb n 0 ≡ leb n 0
zero_leb zero = refl
zero_leb (suc n) = ne_eqb (suc n) 0 (λ e. omega arith) ∙ sym (lt-leb (suc n) 0 (omega arith))

-- zeros as words are the vector of zeros
pub zeros_vec : (w : ℕ) → vec (replicate w 0) ≡ zeros
zeros_vec w = fun_ext (λ j. at w j)
  where
    at : (n j : ℕ) → ◌≡◌ {A = ℕ} (get_or (replicate n 0) j 0) 0
    at zero j = refl
    at (suc n) zero = refl
    at (suc n) (suc j) = at n j
