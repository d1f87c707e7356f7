-- The answers beneath a passed-over folder, by the words of the rows.
use Prim.Native.Nat.{ℕ, zero, suc, ◌+◌, ◌-◌, ◌*◌, ◌<◌}
use mathlib.Core.Path.{◌≡◌, refl, sym, ap, ap₂, ◌∙◌, fun_ext}
use mathlib.Core.List.{List, [], ◌∷◌, ◌++◌, append_assoc, append-nil}
use mathlib.Core.Bool.{Bool, cond}
use native.Mathlib.Omega.{arith}
use native.Mathlib.Nat.{zero-add, suc-add, add-mul}
use borrow.Author.Tests.{ne_eqb, eq-eqb}
use lib.ListN.{length, get_or, get_or-append}
use lib.Seq.{get_or-append-add}
use Rattle.paper.specs.Columns.{Vec, columns}
use Rattle.paper.specs.Tree.{Forest, end, sheet, folder, mapped, size, levels, Tree}
use Rattle.paper.specs.Walk.{silent}
use Rattle.paper.specs.Order.{kind_word, Raw, words_of}
use Rattle.paper.specs.Words.{wide, rows_of}
use Rattle.laws.proofs.FormedRows.{Formed, formed_length}
use Rattle.laws.proofs.WrittenRows.{rows_size, rows_formed}
use Rattle.leaf.specs.Leaves.{silent_kind, silent_at}

-- columns in two parts
columns_add : (n m : ℕ) (v : Vec) → columns (n + m) v ≡ columns n v ++ columns m (λ j. v (n + j))
unfolding columns
columns_add zero m v = ap (λ (k : ℕ). columns k v) (zero-add m) ∙ ap (columns m) {x = v} {y = λ j. v (zero + j)} (fun_ext (λ j. ap v (sym (zero-add j))))
columns_add (suc n) m v =
    ap (λ (k : ℕ). columns k v) (suc-add n m)
    ∙ ap (λ (l : List ℕ). v 0 ∷ l)
    (columns_add n m (λ j. v (suc j))
    ∙ ap (λ (l : List ℕ). columns n (λ j. v (suc j)) ++ l)
    (ap (columns m) {x = λ j. v (suc (n + j))} {y = λ j. v (suc n + j)} (fun_ext (λ j. ap v (sym (suc-add n j))))))

module _ (n : ℕ) where
  -- the rows after k rows
  shift : (xs ys : List ℕ) (k : ℕ) → length xs ≡ k * n → ◌≡◌ {A = Vec} (λ (j : ℕ). silent_at n (xs ++ ys) (k + j)) (silent_at n ys)
  shift xs ys k e =
      fun_ext (λ j. ap silent_kind (ap (λ (i : ℕ). get_or (xs ++ ys) i 0) (add-mul k j n ∙ ap (λ (i : ℕ). i + j * n) (sym e)) ∙ get_or-append-add xs ys (j * n) 0))

  -- one row, then others
  one_more : (r q : List ℕ) (m : ℕ) → length r ≡ n → 0 < n → columns (suc m) (silent_at n (r ++ q)) ≡ silent_kind (kind_word r) ∷ columns m (silent_at n q)
  unfolding columns
  one_more r q m e h =
      ap₂ (λ (x : ℕ) (l : List ℕ). x ∷ l) (ap silent_kind (let z : 0 * n ≡ 0 = omega arith in ap (λ (i : ℕ). get_or (r ++ q) i 0) z ∙ get_or-append r q 0 0 (omega arith)))
      (ap (columns m) (fun_ext (λ j. let z : suc j ≡ 1 + j = omega arith in ap (silent_at n (r ++ q)) z) ∙ shift r q 1 (omega arith)))

  -- the rows of some siblings with all beneath them
  silent_words : (lv : ℕ) (f : Raw) (q : List ℕ) → 0 < n → Formed n lv f → columns (size f) (silent_at n (words_of f ++ q)) ≡ silent f
  unfolding size words_of silent columns
  silent_words lv end q h g = refl
  silent_words lv (sheet r s) q h g =
      ap (λ (l : List ℕ). columns (suc (size s)) (silent_at n l)) (append_assoc r (words_of s) q)
      ∙ one_more r (words_of s ++ q) (size s) g.1.long h
      ∙ ap₂ (λ (x : ℕ) (l : List ℕ). x ∷ l) (ap (λ (b : Bool). cond b 5 0) (ne_eqb (kind_word r) 3 (λ e. omega (arith, g.1.kind)))) (silent_words lv s q h g.2)
  silent_words lv (folder r k s) q h g =
      ap (λ (l : List ℕ). columns (suc (size k + size s)) (silent_at n l)) (append_assoc r (words_of k ++ words_of s) q)
      ∙ one_more r ((words_of k ++ words_of s) ++ q) (size k + size s) g.1.long h
      ∙ ap₂ (λ (x : ℕ) (l : List ℕ). x ∷ l) (ap (λ (b : Bool). cond b 5 0) (eq-eqb (kind_word r) 3 g.1.kind))
      (ap (λ (l : List ℕ). columns (size k + size s) (silent_at n l)) (append_assoc (words_of k) (words_of s) q)
      ∙ columns_add (size k) (size s) (silent_at n (words_of k ++ (words_of s ++ q)))
      ∙ ap₂ ◌++◌ (silent_words (lv - 1) k (words_of s ++ q) h g.2)
      (ap (columns (size s)) (shift (words_of k) (words_of s ++ q) (size k) (formed_length n (lv - 1) k g.2)) ∙ silent_words lv s q h g.3))

-- they depend on the shape alone
silent_rows : (w : ℕ) (t : Tree) → silent (rows_of w t) ≡ silent t
unfolding silent rows_of
silent_rows w end = refl
silent_rows w (sheet s r) = ap (λ (l : List ℕ). 0 ∷ l) (silent_rows w r)
silent_rows w (folder f k r) = ap₂ (λ (l m : List ℕ). 5 ∷ l ++ m) (silent_rows w k) (silent_rows w r)

-- whatever stands at the rows
pub silent_mapped : {X Y Z W : Type 0} (f : X → Z) (g : Y → W) (t : Forest X Y) → silent (mapped f g t) ≡ silent t
unfolding silent mapped
silent_mapped f g end = refl
silent_mapped f g (sheet x r) = ap (λ (l : List ℕ). 0 ∷ l) (silent_mapped f g r)
silent_mapped f g (folder y k r) = ap₂ (λ (l m : List ℕ). 5 ∷ l ++ m) (silent_mapped f g k) (silent_mapped f g r)

-- the answers that are worked out from a tree's words
pub silent_tree : (w : ℕ) (t : Tree) → columns (size t) (silent_at (wide w) (words_of (rows_of w t))) ≡ silent t
silent_tree w t =
    ap (λ (m : ℕ). columns m (silent_at (wide w) (words_of (rows_of w t)))) (sym (rows_size w t))
    ∙ ap (λ (l : List ℕ). columns (size (rows_of w t)) (silent_at (wide w) l)) (sym (append-nil (words_of (rows_of w t))))
    ∙ silent_words (wide w) (levels t) (rows_of w t) [] (omega arith) (rows_formed w t (levels t) (omega arith))
    ∙ silent_rows w t
