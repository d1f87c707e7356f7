-- What the calls in the walk require, from what the walk itself takes for granted.
use Prim.Native.Nat.{ℕ, suc, ◌-◌, ◌*◌, ◌≤◌, ◌<◌}
use mathlib.Core.Path.{◌≡◌, sym, ap, ◌∙◌}
use mathlib.Core.List.{List}
use native.Mathlib.Omega.{arith}
use lib.ListN.{length, take, drop, set, length-set, length-drop}
use Rattle.paper.specs.declared.Clock.{Clock}
use Rattle.paper.specs.Columns.{Vec, greatest}
use Rattle.paper.specs.Tree.{end, folder, size}
use Rattle.paper.specs.Walk.{Two, Pair}
use Rattle.paper.specs.Order.{kind_word}
use Rattle.paper.specs.Words.{wide, floor_at, floor_of}
use Rattle.leaf.specs.Leaves.{Rows}
use Rattle.walk.specs.Parts.{Fit, Parts, RowParts, Passed}
use Rattle.vector.proofs.Parts.{tail_part}
use Rattle.walk.proofs.PartsCut.{below, single_size, fit_long}
use Rattle.walk.proofs.SiblingsWalked.{looked_size}
use Rattle.walk.proofs.RowsWalked.{fit_below}
use native.Mathlib.Nat.{mul-le-mul_right}
use Rattle.paper.specs.Devices.{devices}
use Rattle.laws.proofs.Columns.{part_narrow}
use Rattle.laws.proofs.FormedRows.{cancel}

-- a row is there, with a place for each answer
pub record RowAt (w : ℕ) (a b : Clock) (s t : List ℕ) (n : ℕ) : Type 0 where
  pub rows : Rows w s t a b
  pub some : 1 ≤ n
  pub long : 0 < length s
  pub source : length s ≡ n * wide w

-- a folder has one row more than its children
children_size : (y : Two Vec) (k : Pair) → size (folder y k end) ≡ suc (size k)
unfolding size
children_size y k = omega arith

module _ (w : ℕ) {a b : Clock} {ua ub : Vec} {s t : List ℕ} {n : ℕ} where
  -- from what the walk of a row takes for granted
  pub row_at : RowParts w a b ua ub s t n → w ≤ devices → RowAt w a b s t n
  row_at p few =
      let q = p.parts in
      let l = fit_long w a b ua ub q.pair q.fit in
      let z = single_size w q.pair p.single in
      let e = q.each in
      let ls : length s ≡ n * wide w = l.source ∙ ap (λ (k : ℕ). k * wide w) e in
      let lt : length t ≡ n * wide w = l.target ∙ ap (λ (k : ℕ). k * wide w) e in
      let some : 1 ≤ n = omega arith in
      let m : 1 * wide w ≤ n * wide w = mul-le-mul_right (wide w) some in
      record {
        rows = record { source = omega arith; target = omega arith; device_a = q.device_a; device_b = q.device_b; few = few };
        some = some;
        long = omega arith;
        source = ls;
      }

  -- every pair that the parts are the written forms of has as many rows
  pub size_is : (p : Pair) → Fit w a b ua ub p s t → length s ≡ n * wide w → size p ≡ n
  size_is p f e = cancel (wide w) (omega arith) (size p) n (sym (fit_long w a b ua ub p f).source ∙ e)

-- the children's parts, as loans state them once the folder's answer is written
pub below_parts : (w : ℕ) {a b : Clock} {ua ub ga gb va vb : Vec} (s t o : List ℕ) (v : ℕ) → RowParts w a b ua ub s t (length o) → kind_word s ≡ 3
    → ga ≡ floor_of w s → gb ≡ floor_of w t → va ≡ greatest ua ga → vb ≡ greatest ub gb
    → Parts w a b va vb (take (length s - wide w) (drop (wide w) s)) (take (length t - wide w) (drop (wide w) t)) (length (take (length (set o 0 v) - 1) (drop 1 (set o 0 v))))
below_parts w {a} {b} {ua} {ub} s t o v p h ra rb ea eb =
    let q = p.parts in
    let nu = q.narrow in
    let f = below w a b ua ub q.pair p.single q.fit h in
    let e : length (take (length (set o 0 v) - 1) (drop 1 (set o 0 v))) ≡ length o - 1 = ap length (tail_part 1 (set o 0 v)) ∙ length-drop 1 (set o 0 v) ∙ ap (λ (k : ℕ). k - 1) (length-set o 0 v) in
    record {
      narrow = λ j k. ap (λ x. x j) (ea ∙ ap (greatest ua) ra) ∙ omega (arith, nu j k, part_narrow w floor_at s j k);
      device_a = q.device_a;
      device_b = q.device_b;
      pair = f.children;
      fit = fit_below w a b ua ub q.device_a q.device_b nu q.pair f ra rb ea eb;
      each = let g = ap size f.whole ∙ children_size f.floors f.children in let n = q.each in omega arith;
    }

-- no more rows are looked at than there are places
pub passed_few : (w : ℕ) {a b : Clock} {ua ub : Vec} {s t : List ℕ} {n : ℕ} (p : Parts w a b ua ub s t n) (e o : List ℕ) (l : ℕ) → Passed w a b p.pair ua ub e o l → l ≤ n
passed_few w {a} {b} {ua} {ub} p e o l d = omega (arith, d.looked, looked_size w a b p.pair ua ub, p.each)
