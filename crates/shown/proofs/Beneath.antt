-- The rows beneath a folder: where they stand in the table, and what is shown of them.
use Prim.Native.Nat.{ℕ, zero, suc, ◌+◌, ◌-◌, ◌*◌, ◌≤◌, ◌<◌}
use mathlib.Core.Path.{◌≡◌, refl, sym, ap, ap₂, ◌∙◌}
use mathlib.Core.List.{List, []}
use mathlib.Core.Bool.{Bool, true, false, ◌||◌, cond}
use native.Mathlib.Omega.{arith}
use native.Mathlib.Nat.{add-mul, mul-le-mul_right}
use lib.Dec.{ltb}
use borrow.Author.Tests.{ltb-true, ltb-false, leb-false}
use lib.ListN.{length, get_or, take, drop, length-take}
use Rattle.paper.specs.Tree.{Forest, end, sheet, folder, size, subtree}
use Rattle.paper.specs.Words.{wide, table_of}
use Rattle.paper.specs.Check.{check_of}
use Rattle.paper.specs.Calls.{Answered, beneath_refused, beneath_part, beneath_of}
use Rattle.laws.proofs.Refusals.{first_both, when_none, unless_none, unless_some}
use Rattle.laws.proofs.Forests.{subtree_fits}
use Rattle.laws.proofs.Tables.{check_facts, checked_size}
use Rattle.order.proofs.RowPlaces.{Begins, begins}
use Rattle.two.proofs.Sizes.{size_word_lem}
use Rattle.paper.specs.Shown.{word_at, beneath_from}

-- WHERE NOTHING REFUSES
pub record FolderAt (w : ℕ) (t : List ℕ) (row : ℕ) : Type 0 where
  pub few : row < 256
  pub check : check_of w t ≡ 0
  pub there : row < get_or t 2 0
  pub some : 1 ≤ get_or t ((row + 1) * wide w + 1) 0
  pub small : get_or t ((row + 1) * wide w + 1) 0 ≤ 256
  pub room : (row + 1) * wide w + get_or t ((row + 1) * wide w + 1) 0 * wide w ≤ length t
  pub own : wide w ≤ get_or t ((row + 1) * wide w + 1) 0 * wide w

or_false : (a b : Bool) → (a || b) ≡ false → a ≡ false
or_false true b e = e
or_false false b e = refl

size_some : {X Y : Type 0} (f : Forest X Y) (i : ℕ) → i < size f → 1 ≤ size (subtree f i)
unfolding size subtree
size_some end i h = absurd (omega arith)
size_some (sheet x r) zero h = omega arith
size_some (sheet x r) (suc i) h = size_some r i (omega arith)
size_some (folder y k r) zero h = omega arith
size_some (folder y k r) (suc i) h = go (ltb i (size k)) refl (size_some k i) (size_some r (i - size k))
  where
    go : (t : Bool) → ltb i (size k) ≡ t → (i < size k → 1 ≤ size (subtree k i)) → (i - size k < size r → 1 ≤ size (subtree r (i - size k))) → 1 ≤ size (cond t (subtree k i) (subtree r (i - size k)))
    go true e p q = p (ltb-true i (size k) e)
    go false e p q = q (omega (arith, ltb-false i (size k) e))

module _ (w : ℕ) (t : List ℕ) (row : ℕ) where
  pub folder_at : beneath_refused w t row ≡ 0 → FolderAt w t row
  unfolding beneath_refused
  folder_at e =
      let a = first_both (check_of w t) _ e in
      let b = or_false _ _ (when_none _ 7 (first_both _ _ a.1).0) in
      let c = check_facts w t a.0 in
      let n = checked_size w t c in
      let h : row < size (table_of w t).tree = leb-false (size (table_of w t).tree) row b in
      let l : row < get_or t 2 0 = omega arith in
      let s = size_word_lem w t a.0 row l in
      let f = subtree_fits (table_of w t).tree row h in
      let m = mul-le-mul_right (wide w) f in
      record {
        few = omega (arith, c.head.few);
        check = a.0;
        there = l;
        own =
            let o : 1 ≤ get_or t ((row + 1) * wide w + 1) 0 = omega (arith, s, size_some (table_of w t).tree row h) in
            omega (arith, mul-le-mul_right (wide w) o);
        some = omega (arith, s, size_some (table_of w t).tree row h);
        small = omega (arith, s, f, n, c.head.few);
        room =
            let z : (row + size (subtree (table_of w t).tree row)) * wide w ≡ row * wide w + get_or t ((row + 1) * wide w + 1) 0 * wide w =
            add-mul row (size (subtree (table_of w t).tree row)) (wide w) ∙ ap (λ x. row * wide w + x * wide w) s in
            let y : size (table_of w t).tree * wide w ≡ get_or t 2 0 * wide w = ap (λ x. x * wide w) n in
            omega (arith, add-mul row 1 (wide w), m, z, y, c.head.long);
      }

  -- its row is there
  pub beneath_begins : w ≤ 16 → beneath_refused w t row ≡ 0 → Begins w t row
  beneath_begins l e = let f = folder_at e in begins w t row l f.check f.there

  -- the part, as the code cuts it
  pub beneath_cut : beneath_refused w t row ≡ 0
      → take ((row + 1) * wide w + get_or t ((row + 1) * wide w + 1) 0 * wide w - ((row + 1) * wide w + wide w)) (drop ((row + 1) * wide w + wide w) t) ≡ beneath_part w t row
  unfolding beneath_part
  beneath_cut e =
      let f = folder_at e in
      let s = size_word_lem w t f.check row f.there in
      let k = get_or t ((row + 1) * wide w + 1) 0 in
      let a : (row + 1) * wide w + k * wide w - ((row + 1) * wide w + wide w) ≡ (size (subtree (table_of w t).tree row) - 1) * wide w =
      let q : k ≡ (k - 1) + 1 = omega (arith, f.some) in
      omega (arith, ap (λ x. x * wide w) q, add-mul (k - 1) 1 (wide w)) ∙ ap (λ x. (x - 1) * wide w) (sym s) in
      let b : (row + 1) * wide w + wide w ≡ (row + 2) * wide w = omega (arith, add-mul row 1 (wide w), add-mul row 2 (wide w)) in
      ap₂ (λ x y. take x (drop y t)) a b ∙ sym (unless_none (beneath_refused w t row) _ _ e)

  -- it lies there in the table
  pub beneath_lies : beneath_refused w t row ≡ 0 → (p : ℕ × ℕ) → ◌≡◌ {A = ℕ × ℕ} (p.0, ((row + 1) * wide w + wide w) * 4 + p.1) (word_at p (beneath_from w t row))
  unfolding beneath_from
  beneath_lies e p =
      let a : ((row + 1) * wide w + wide w) * 4 + p.1 ≡ p.1 + (row + 2) * wide w * 4 = omega (arith, add-mul row 1 (wide w), add-mul row 2 (wide w)) in
      ap (λ (x : ℕ). let q : ℕ × ℕ = (p.0, x) in q) a ∙ ap (word_at p) (sym (unless_none (beneath_refused w t row) _ _ e))

  -- the empty part on a refusal
  pub beneath_none : (beneath_refused w t row ≡ 0 → ⊥) → [] ≡ beneath_part w t row
  unfolding beneath_part
  beneath_none h = sym (unless_some (beneath_refused w t row) _ _ h)

  pub beneath_nowhere : (beneath_refused w t row ≡ 0 → ⊥) → (p : ℕ × ℕ) → p ≡ word_at p (beneath_from w t row)
  unfolding beneath_from
  beneath_nowhere h p =
      let a : p.1 ≡ p.1 + 0 * 4 = omega arith in
      ap (λ (x : ℕ). let q : ℕ × ℕ = (p.0, x) in q) a ∙ ap (word_at p) (sym (unless_some (beneath_refused w t row) _ _ h))

  -- THE ANSWER: the number and the words in the part
  pub beneath_refused_answer : (beneath_refused w t row ≡ 0 → ⊥) → ◌≡◌ {A = Answered} (record { number = beneath_refused w t row; count = 0 }) (beneath_of w t row)
  unfolding beneath_of
  beneath_refused_answer h = ap (λ (l : List ℕ). record { number = beneath_refused w t row; count = length l }) (beneath_none h)

  pub beneath_answer : beneath_refused w t row ≡ 0 → (l : List ℕ) → l ≡ beneath_part w t row → ◌≡◌ {A = Answered} (record { number = 0; count = length l }) (beneath_of w t row)
  unfolding beneath_of
  beneath_answer e l q = ap₂ (λ (n : ℕ) (x : List ℕ). record { number = n; count = length x }) (sym e) q

  -- a part has no more words than 32 bits count
  pub beneath_length : beneath_refused w t row ≡ 0 → length (beneath_part w t row) ≤ 256 * wide w
  unfolding beneath_part
  beneath_length e =
      let f = folder_at e in
      let s = size_word_lem w t f.check row f.there in
      let k = size (subtree (table_of w t).tree row) - 1 in
      let m : k ≤ 256 = omega (arith, s, f.small) in
      let l = take (k * wide w) (drop ((row + 2) * wide w) t) in
      omega (arith, ap (λ (x : List ℕ). length x) (unless_none (beneath_refused w t row) [] l e), length-take (k * wide w) (drop ((row + 2) * wide w) t), mul-le-mul_right (wide w) m)
