-- The size of a row by its word, as large as the row with all beneath it.
use Prim.Native.Nat.{ℕ, zero, suc, ◌+◌, ◌-◌, ◌*◌, ◌<◌}
use mathlib.Core.Path.{◌≡◌, refl, sym, ap, ◌∙◌}
use mathlib.Core.List.{List, [], ◌++◌}
use mathlib.Core.Bool.{Bool, true, false, cond}
use native.Mathlib.Omega.{arith}
use lib.Dec.{ltb}
use borrow.Author.Tests.{ltb-true, ltb-false}
use lib.ListN.{length, get_or, drop, get_or-append}
use lib.Seq.{get_or-append-add}
use Rattle.paper.specs.Tree.{end, sheet, folder, size, subtree}
use Rattle.paper.specs.Order.{size_word, Raw, forest_of}
use Rattle.paper.specs.Words.{wide, sheet_of, floor_of, table_of}
use Rattle.paper.specs.Check.{check_of}
use Rattle.laws.proofs.Forests.{mapped_size, mapped_subtree}
use Rattle.laws.proofs.FormedRows.{Formed, ordered_formed}
use Rattle.laws.proofs.Tables.{check_facts, checked_size}
use Rattle.two.proofs.Listed.{listed, length_listed, rows_at, rows_all, word_at}

-- a row's size is that of the row with all beneath it
size_listed : (n lv : ℕ) (f : Raw) → Formed n lv f → (i : ℕ) → i < size f → size (subtree f i) ≡ size_word (get_or (listed f) i [])
unfolding subtree listed size
size_listed n lv end g i h = absurd (omega arith)
size_listed n lv (sheet r s) g zero h = sym g.1.one
size_listed n lv (sheet r s) g (suc i) h = size_listed n lv s g.2 i (omega arith)
size_listed n lv (folder r k s) g zero h = omega (arith, g.1.rows)
size_listed n lv (folder r k s) g (suc i) h = go (ltb i (size k)) refl (size_listed n (lv - 1) k g.2 i) (size_listed n lv s g.3 (i - size k))
  where
    go : (t : Bool) → ltb i (size k) ≡ t → (i < size k → size (subtree k i) ≡ size_word (get_or (listed k) i []))
        → (i - size k < size s → size (subtree s (i - size k)) ≡ size_word (get_or (listed s) (i - size k) []))
        → size (cond t (subtree k i) (subtree s (i - size k))) ≡ size_word (get_or (listed k ++ listed s) i [])
    go true e p q = p (ltb-true i (size k) e) ∙ ap size_word (sym (get_or-append (listed k) (listed s) [] i (omega (arith, length_listed k, ltb-true i (size k) e))))
    go false e p q =
        let l = ltb-false i (size k) e in
        let z : length (listed k) + (i - size k) ≡ i = omega (arith, length_listed k) in
        q (omega arith) ∙ ap size_word (sym (get_or-append-add (listed k) (listed s) (i - size k) []) ∙ ap (λ j. get_or (listed k ++ listed s) j []) z)

module _ (w : ℕ) (t : List ℕ) (e : check_of w t ≡ 0) (row : ℕ) (h : row < get_or t 2 0) where
  -- its size word is the size of the row with all beneath it
  pub size_word_lem : size (subtree (table_of w t).tree row) ≡ get_or t ((row + 1) * wide w + 1) 0
  unfolding table_of
  size_word_lem =
      let c = check_facts w t e in
      let f = forest_of (wide w) (drop (wide w) t) in
      let n : size f ≡ get_or t 2 0 = sym (mapped_size (sheet_of w) (floor_of w) f) ∙ checked_size w t c in
      ap (λ g. size g) (sym (mapped_subtree (sheet_of w) (floor_of w) f row))
      ∙ mapped_size (sheet_of w) (floor_of w) (subtree f row)
      ∙ size_listed (wide w) 16 f (ordered_formed (wide w) (omega arith) 16 (drop (wide w) t) c.order) row (omega arith)
      ∙ ap (λ l. size_word (get_or l row [])) (rows_all w t c) ∙ ap size_word (rows_at w t row h) ∙ word_at w t row 1 (omega arith)
