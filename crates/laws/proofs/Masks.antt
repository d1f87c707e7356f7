-- Masks, at any number w of bits: bit j is set exactly where the test holds at j.
use Prim.Native.Nat.{ℕ, zero, suc, ◌+◌, ◌-◌, ◌*◌, ◌/◌, ◌%◌, ◌^◌, ◌<◌}
use mathlib.Core.Path.{◌≡◌, refl, sym, ap, ap₂, subst, ◌∙◌}
use mathlib.Core.Bool.{Bool, true, false, cond}
use native.Mathlib.Omega.{arith}
use native.Mathlib.Nat.{pow-suc, one-mul, add_comm, add-mul-div_right}
use lib.Dec.{eqb}
use lib.Pow.{pow_pos, pow-add}
use lib.Arith.{digits_div}
use lib.Bits.{block_odd}
use borrow.Author.Tests.{eqb-true, eqb-false}
use Rattle.paper.specs.Columns.{mask}

-- w bits are enough
pub mask_below : (w : ℕ) (test : ℕ → Bool) → mask w test < 2 ^ w
unfolding mask
mask_below zero test = pow_pos 0
mask_below (suc w) test = go (test w) (mask_below w test)
  where
    go : (b : Bool) → mask w test < 2 ^ w → cond b (2 ^ w) 0 + mask w test < 2 ^ suc w
    go true h = omega (arith, h, pow-suc 2 w)
    go false h = omega (arith, h, pow-suc 2 w)

-- the mask is 0 exactly where the test holds nowhere
pub mask_none : (w : ℕ) (test : ℕ → Bool) → mask w test ≡ 0 → (j : ℕ) → j < w → test j ≡ false
unfolding mask
mask_none zero test e j h = absurd (omega arith)
mask_none (suc w) test e j h = go (test w) refl e (eqb j w) refl (λ z. mask_none w test z j)
  where
    go : (b : Bool) → test w ≡ b → cond b (2 ^ w) 0 + mask w test ≡ 0 → (i : Bool) → eqb j w ≡ i → (mask w test ≡ 0 → j < w → test j ≡ false) → test j ≡ false
    go true p z i q k = absurd (omega (arith, pow_pos w, z))
    go false p z true q k = ap test (eqb-true j w q) ∙ p
    go false p z false q k = k (omega (arith, z)) (omega (arith, eqb-false j w q))

pub none_mask : (w : ℕ) (test : ℕ → Bool) → ((j : ℕ) → j < w → test j ≡ false) → mask w test ≡ 0
unfolding mask
none_mask zero test h = refl
none_mask (suc w) test h = ap₂ (λ (b : Bool) (m : ℕ). cond b (2 ^ w) 0 + m) (h w (omega arith)) (none_mask w test (λ j l. h j (omega arith)))

-- tests that agree at w columns have one mask
pub mask_same : (w : ℕ) (s t : ℕ → Bool) → ((j : ℕ) → j < w → s j ≡ t j) → mask w s ≡ mask w t
unfolding mask
mask_same zero s t h = refl
mask_same (suc w) s t h = ap₂ (λ (b : Bool) (m : ℕ). cond b (2 ^ w) 0 + m) (h w (omega arith)) (mask_same w s t (λ j l. h j (omega arith)))

-- THE BITS: bit j is 1 where the test holds at column j, else 0
abbrev pub bit_at : ℕ → ℕ → ℕ
bit_at j m = m / 2 ^ j % 2

-- the highest, and those below it
top_bit : (w : ℕ) (b : Bool) (m : ℕ) → m < 2 ^ w → bit_at w (cond b (2 ^ w) 0 + m) ≡ cond b 1 0
top_bit w true m h = ap (λ (x : ℕ). bit_at w (x + m)) (sym (one-mul (2 ^ w))) ∙ ap (λ (x : ℕ). x % 2) (digits_div 1 h)
top_bit w false m h = let z : 0 ≡ 0 * 2 ^ w = omega arith in ap (λ (x : ℕ). bit_at w (x + m)) z ∙ ap (λ (x : ℕ). x % 2) (digits_div 0 h)

low_bit : (w j : ℕ) (b : Bool) (m : ℕ) → j < w → bit_at j (cond b (2 ^ w) 0 + m) ≡ bit_at j m
low_bit w j false m h = let z : 0 + m ≡ m = omega arith in ap (λ (x : ℕ). bit_at j x) z
low_bit w j true m h =
    let k = w - suc j in
    let e : suc k + j ≡ w = omega arith in
    ap (λ (x : ℕ). bit_at j (x + m)) (ap (λ (i : ℕ). 2 ^ i) (sym e) ∙ pow-add 2 (suc k) j)
    ∙ ap (λ (x : ℕ). x / 2 ^ j % 2) (add_comm (2 ^ suc k * 2 ^ j) m)
    ∙ ap (λ (x : ℕ). x % 2) (add-mul-div_right m (2 ^ suc k) (pow_pos j) ∙ add_comm (m / 2 ^ j) (2 ^ suc k) ∙ ap (λ (x : ℕ). x + m / 2 ^ j) (sym (one-mul (2 ^ suc k))))
    ∙ block_odd 1 k (m / 2 ^ j)

pub mask_bit : (w : ℕ) (test : ℕ → Bool) (j : ℕ) → j < w → bit_at j (mask w test) ≡ cond (test j) 1 0
unfolding mask
mask_bit zero test j h = absurd (omega arith)
mask_bit (suc w) test j h = go (eqb j w) refl (λ l. mask_bit w test j l)
  where
    go : (i : Bool) → eqb j w ≡ i → (j < w → bit_at j (mask w test) ≡ cond (test j) 1 0) → bit_at j (cond (test w) (2 ^ w) 0 + mask w test) ≡ cond (test j) 1 0
    go true q k = subst (λ (i : ℕ). bit_at i (cond (test w) (2 ^ w) 0 + mask w test) ≡ cond (test i) 1 0) (sym (eqb-true j w q)) (top_bit w (test w) (mask w test) (mask_below w test))
    go false q k = let l : j < w = omega (arith, eqb-false j w q) in low_bit w j (test w) (mask w test) l ∙ k l
