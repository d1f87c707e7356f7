-- Sizes and folder places are the same exactly where the plans are, row by row.
use Prim.Native.Nat.{ℕ, suc, ◌+◌, ◌-◌, ◌*◌, ◌≤◌, ◌<◌}
use mathlib.Core.Path.{◌≡◌, refl, sym, ap, ap₂, ◌∙◌}
use mathlib.Core.List.{List, [], ◌∷◌, ◌++◌}
use mathlib.Core.Bool.{Bool, true, false, ◌&&◌, and_assoc, false≢true}
use native.Mathlib.Omega.{arith}
use lib.Dec.{eqb}
use borrow.Author.Tests.{eqb-true, eqb-false, eq-eqb, ne_eqb}
use lib.ListN.{length, get_or, drop}
use Rattle.paper.specs.Tree.{Forest, end, sheet, folder, mapped, size, shaped}
use Rattle.paper.specs.Order.{kind_word, Raw, forest_of}
use Rattle.paper.specs.Words.{wide, sheet_of, floor_of, table_of}
use Rattle.paper.specs.Calls.{row_at}
use Rattle.laws.proofs.Bools.{and_both, not_so}
use Rattle.laws.proofs.FormedRows.{SheetRow, FolderRow, Formed, ordered_formed, cancel}
use Rattle.paper.specs.Check.{check_of}
use Rattle.laws.proofs.Tables.{Checked, check_facts}
use Rattle.two.specs.PlanNumber.{plan_number}
use Rattle.two.proofs.Listed.{listed, length_listed, word_at, rows_on, rows_next, rows_end, rows_count, rows_all}

pub sheet_number : (n : ℕ) (r : List ℕ) → SheetRow n r → plan_number r ≡ 0
unfolding plan_number
sheet_number n r s = rw (ne_eqb (kind_word r) 3 (omega (arith, s.kind)))

pub folder_number : (n k : ℕ) (r : List ℕ) → FolderRow n k r → plan_number r ≡ suc k
unfolding plan_number
folder_number n k r s = rw (eq-eqb (kind_word r) 3 s.kind) s.rows

-- by the words at its place in a table
module _ (w : ℕ) (t : List ℕ) (i : ℕ) where
  pub sheet_at : (get_or t ((i + 1) * wide w + 0) 0 ≡ 3 → ⊥) → plan_number (row_at w t i) ≡ 0
  unfolding plan_number
  sheet_at h = rw (ne_eqb (kind_word (row_at w t i)) 3 (λ e. h (sym (word_at w t i 0 (omega arith)) ∙ e)))

  pub folder_at : get_or t ((i + 1) * wide w + 0) 0 ≡ 3 → plan_number (row_at w t i) ≡ get_or t ((i + 1) * wide w + 1) 0
  unfolding plan_number
  folder_at h = rw (eq-eqb (kind_word (row_at w t i)) 3 (word_at w t i 0 (omega arith) ∙ h)) (word_at w t i 1 (omega arith))

-- the same plan, row by row
unfoldable pub same_plan : List (List ℕ) → List (List ℕ) → Bool
same_plan [] [] = true
same_plan [] (q ∷ qs) = false
same_plan (r ∷ rs) [] = false
same_plan (r ∷ rs) (q ∷ qs) = eqb (plan_number r) (plan_number q) && same_plan rs qs

same_length : (a b : List (List ℕ)) → same_plan a b ≡ true → length a ≡ length b
unfolding same_plan
same_length [] [] e = refl
same_length [] (q ∷ qs) e = absurd (false≢true e)
same_length (r ∷ rs) [] e = absurd (false≢true e)
same_length (r ∷ rs) (q ∷ qs) e = ap suc (same_length rs qs (and_both (eqb (plan_number r) (plan_number q)) _ e).1)

same_append : (a b c d : List (List ℕ)) → length a ≡ length b → same_plan (a ++ c) (b ++ d) ≡ (same_plan a b && same_plan c d)
unfolding same_plan
same_append [] [] c d h = refl
same_append [] (q ∷ qs) c d h = absurd (omega arith)
same_append (r ∷ rs) [] c d h = absurd (omega arith)
same_append (r ∷ rs) (q ∷ qs) c d h =
    ap (λ x. eqb (plan_number r) (plan_number q) && x) (same_append rs qs c d (omega arith)) ∙ sym (and_assoc (eqb (plan_number r) (plan_number q)) (same_plan rs qs) (same_plan c d))

-- what stands at the rows has no part in the shape
mapped_shaped : {X Y Z W : Type 0} (p : X → Z) (q : Y → W) (f g : Forest X Y) → shaped (mapped p q f) (mapped p q g) ≡ shaped f g
unfolding shaped mapped
mapped_shaped p q end end = refl
mapped_shaped p q end (sheet b s) = refl
mapped_shaped p q end (folder b l s) = refl
mapped_shaped p q (sheet a r) end = refl
mapped_shaped p q (sheet a r) (sheet b s) = mapped_shaped p q r s
mapped_shaped p q (sheet a r) (folder b l s) = refl
mapped_shaped p q (folder a k r) end = refl
mapped_shaped p q (folder a k r) (sheet b s) = refl
mapped_shaped p q (folder a k r) (folder b l s) = ap₂ ◌&&◌ (mapped_shaped p q k l) (mapped_shaped p q r s)

shaped_plan : (n lv lw : ℕ) (f g : Raw) → Formed n lv f → Formed n lw g → shaped f g ≡ same_plan (listed f) (listed g)
unfolding shaped listed same_plan
shaped_plan n lv lw end end a b = refl
shaped_plan n lv lw end (sheet q t) a b = refl
shaped_plan n lv lw end (folder q l t) a b = refl
shaped_plan n lv lw (sheet r s) end a b = refl
shaped_plan n lv lw (sheet r s) (sheet q t) a b = rw (sheet_number n r a.1, sheet_number n q b.1) (shaped_plan n lv lw s t a.2 b.2)
shaped_plan n lv lw (sheet r s) (folder q l t) a b = rw (sheet_number n r a.1, folder_number n (size l) q b.1, ne_eqb 0 (suc (size l)) (omega arith))
shaped_plan n lv lw (folder r k s) end a b = refl
shaped_plan n lv lw (folder r k s) (sheet q t) a b = rw (folder_number n (size k) r a.1, sheet_number n q b.1, ne_eqb (suc (size k)) 0 (omega arith))
shaped_plan n lv lw (folder r k s) (folder q l t) a b =
    ap₂ ◌&&◌ (shaped_plan n (lv - 1) (lw - 1) k l a.2 b.2) (shaped_plan n lv lw s t a.3 b.3)
    ∙ sym (ap₂ (λ x y. eqb x y && same_plan (listed k ++ listed s) (listed l ++ listed t)) (folder_number n (size k) r a.1) (folder_number n (size l) q b.1) ∙ go (eqb (size k) (size l)) refl)
  where
    go : (x : Bool) → eqb (size k) (size l) ≡ x
        → (eqb (suc (size k)) (suc (size l)) && same_plan (listed k ++ listed s) (listed l ++ listed t)) ≡ (same_plan (listed k) (listed l) && same_plan (listed s) (listed t))
    go true e =
        let h = eqb-true (size k) (size l) e in
        rw (eq-eqb (suc (size k)) (suc (size l)) (omega arith)) (same_append (listed k) (listed l) (listed s) (listed t) (length_listed k ∙ h ∙ sym (length_listed l)))
    go false e =
        let no : same_plan (listed k) (listed l) ≡ false = not_so _ (λ y. eqb-false (size k) (size l) e (sym (length_listed k) ∙ same_length (listed k) (listed l) y ∙ length_listed l)) in
        rw (ne_eqb (suc (size k)) (suc (size l)) (λ y. eqb-false (size k) (size l) e (omega (arith, y))), no)

-- THE SHAPES of two tables, asked row by row
module _ (w : ℕ) (s t : List ℕ) where
  -- of the rows from row i on
  abbrev pub same_plan_on : ℕ → Bool
  same_plan_on i = same_plan (rows_on w s i) (rows_on w t i)

  -- by what the check says of them, and where they pass it
  pub shaped_checked : Checked w s → Checked w t → shaped (table_of w s).tree (table_of w t).tree ≡ same_plan_on 0
  unfolding table_of
  shaped_checked a b =
      mapped_shaped (sheet_of w) (floor_of w) (forest_of (wide w) (drop (wide w) s)) (forest_of (wide w) (drop (wide w) t))
      ∙ shaped_plan (wide w) 16 16 (forest_of (wide w) (drop (wide w) s)) (forest_of (wide w) (drop (wide w) t))
      (ordered_formed (wide w) (omega arith) 16 (drop (wide w) s) a.order) (ordered_formed (wide w) (omega arith) 16 (drop (wide w) t) b.order)
      ∙ ap₂ same_plan (rows_all w s a) (rows_all w t b)

  pub shaped_all : check_of w s ≡ 0 → check_of w t ≡ 0 → shaped (table_of w s).tree (table_of w t).tree ≡ same_plan_on 0
  shaped_all d e = shaped_checked (check_facts w s d) (check_facts w t e)

  -- as many rows in one as in the other
  pub rows_checked : Checked w s → Checked w t → shaped (table_of w s).tree (table_of w t).tree ≡ true → get_or s 2 0 ≡ get_or t 2 0
  rows_checked a b e = omega (arith, same_length (rows_on w s 0) (rows_on w t 0) (sym (shaped_checked a b) ∙ e), rows_count w s 0, rows_count w t 0)

  pub same_rows : check_of w s ≡ 0 → check_of w t ≡ 0 → shaped (table_of w s).tree (table_of w t).tree ≡ true → get_or s 2 0 ≡ get_or t 2 0
  same_rows d e = rows_checked (check_facts w s d) (check_facts w t e)

  -- as many rows exactly where there are as many words
  pub rows_same : check_of w s ≡ 0 → check_of w t ≡ 0 → length s ≡ length t → get_or s 2 0 ≡ get_or t 2 0
  rows_same d e l = cancel (wide w) (omega arith) (get_or s 2 0) (get_or t 2 0) (omega (arith, (check_facts w s d).head.long, (check_facts w t e).head.long, l))

  pub not_as_long : check_of w s ≡ 0 → check_of w t ≡ 0 → (length s ≡ length t → ⊥) → shaped (table_of w s).tree (table_of w t).tree ≡ false
  not_as_long d e h = not_so _ (λ y. h (omega (arith, (check_facts w s d).head.long, (check_facts w t e).head.long, ap (λ k. k * wide w) (same_rows d e y))))

  module _ (i : ℕ) (h : i < get_or s 2 0) (k : i < get_or t 2 0) where
    pub same_next : plan_number (row_at w s i) ≡ plan_number (row_at w t i) → same_plan_on i ≡ same_plan_on (i + 1)
    unfolding same_plan
    same_next e = ap₂ same_plan (rows_next w s i h) (rows_next w t i k) ∙ rw (eq-eqb _ _ e)

    pub same_not : (plan_number (row_at w s i) ≡ plan_number (row_at w t i) → ⊥) → same_plan_on i ≡ false
    unfolding same_plan
    same_not e = ap₂ same_plan (rows_next w s i h) (rows_next w t i k) ∙ rw (ne_eqb _ _ e)

  pub same_end : (i : ℕ) → get_or s 2 0 ≤ i → get_or t 2 0 ≤ i → same_plan_on i ≡ true
  unfolding same_plan
  same_end i h k = ap₂ same_plan (rows_end w s i h) (rows_end w t i k)

-- for the loop over the rows
pub ruleset same_plans = (rows_same, not_as_long, shaped_all, same_next, same_not, same_end)
