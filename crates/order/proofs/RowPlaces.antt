-- Where a row of a table that fits stands among its words.
use Prim.Native.Nat.{ℕ, suc, ◌+◌, ◌-◌, ◌*◌, ◌≤◌, ◌<◌}
use mathlib.Core.Path.{◌≡◌, ap}
use mathlib.Core.List.{List}
use native.Mathlib.Omega.{arith}
use native.Mathlib.Nat.{suc-mul, add-mul, mul-le-mul_right}
use lib.ListN.{length, get_or}
use Rattle.paper.specs.Words.{wide}
use Rattle.paper.specs.Check.{check_of}
use Rattle.vector.specs.Places.{most_words}
use Rattle.laws.proofs.Tables.{check_facts}
use Rattle.vector.proofs.Parts.{words_small, row_below}

-- its words are there, the head is before them, and all are few
pub record Begins (w : ℕ) (t : List ℕ) (row : ℕ) : Type 0 where
  pub room : (row + 1) * wide w + wide w ≤ length t
  pub rows : row * wide w < get_or t 2 0 * wide w
  pub head : wide w ≤ length t
  pub long : length t ≡ get_or t 2 0 * wide w + wide w
  pub few : length t ≤ most_words
  pub low : row < 256

pub begins : (w : ℕ) (t : List ℕ) (row : ℕ) → w ≤ 16 → check_of w t ≡ 0 → row < get_or t 2 0 → Begins w t row
begins w t row l e h =
    let f = check_facts w t e in
    let n = wide w in
    let s = words_small (get_or t 2 0) (wide w) f.head.few (omega arith) in
    let m = mul-le-mul_right {m = suc row} {n = get_or t 2 0} (wide w) h in
    let k = suc-mul row (wide w) in
    record {
      room = omega (arith, f.head.long);
      rows = omega (arith, f.head.long);
      head = omega (arith, f.head.long);
      long = f.head.long;
      few = omega (arith, f.head.long);
      low = omega (arith, f.head.few);
    }

-- a row beneath the first, and one after it, by its place there
pub row_under : (i n w : ℕ) → 1 ≤ i → i < n → 0 < w → (i - 1) * w < n * w - w
row_under i n w p h s =
    let e : suc (n - 1) ≡ n = omega arith in
    omega (arith, row_below (i - 1) (n - 1) w (omega arith) s, suc-mul (n - 1) w, ap (λ (x : ℕ). x * w) e)

pub row_after : (i n w l : ℕ) → n ≤ i → i * w < l → (i - n) * w < l - n * w
row_after i n w l h s =
    let e : i - n + n ≡ i = omega arith in
    omega (arith, add-mul (i - n) n w, ap (λ (x : ℕ). x * w) e)
