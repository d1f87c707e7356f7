-- Rows one after another, as a run over a table meets them: the rows of a forest listed, and rows of n words cut off the
-- front of words.
use Prim.Native.Nat.{ℕ, zero, suc, ◌+◌, ◌-◌, ◌*◌, ◌≤◌, ◌<◌}
use mathlib.Core.Path.{◌≡◌, refl, sym, ap, ap₂, ◌∙◌}
use mathlib.Core.List.{List, [], ◌∷◌, ◌++◌, append_assoc, append-nil}
use native.Mathlib.Nat.{zero-mul, zero-add, suc-add}
use native.Mathlib.Omega.{arith}
use lib.ListN.{length, get_or, take, drop, length-append}
use lib.Seq.{take_at, drop_at, drop-drop, get_or-take, get_or-drop}
use Rattle.paper.specs.Tree.{end, sheet, folder, size}
use Rattle.paper.specs.Order.{Raw, forest_of, words_of}
use Rattle.paper.specs.Words.{wide, sheet_of, floor_of, table_of}
use Rattle.paper.specs.Calls.{row_at}
use Rattle.laws.proofs.FormedRows.{Formed, formed_length, ordered_formed, ordered_words}
use Rattle.laws.proofs.Forests.{mapped_size}
use Rattle.laws.proofs.Tables.{Checked, checked_size}

unfoldable pub listed : Raw → List (List ℕ)
listed end = []
listed (sheet r s) = r ∷ listed s
listed (folder r k s) = r ∷ (listed k ++ listed s)

pub length_listed : (f : Raw) → length (listed f) ≡ size f
unfolding listed size
length_listed end = refl
length_listed (sheet r s) = ap suc (length_listed s)
length_listed (folder r k s) = ap suc (length-append (listed k) (listed s) ∙ ap₂ ◌+◌ (length_listed k) (length_listed s))

-- the first m rows
unfoldable pub rows_from : (n m : ℕ) → List ℕ → List (List ℕ)
rows_from n zero t = []
rows_from n (suc m) t = take n t ∷ rows_from n m (drop n t)

rows_plus : (n a b : ℕ) (t : List ℕ) → rows_from n (a + b) t ≡ rows_from n a t ++ rows_from n b (drop (a * n) t)
unfolding rows_from
rows_plus n zero b t = rw (zero-add, zero-mul)
rows_plus n (suc a) b t =
    let e : n + a * n ≡ suc a * n = omega arith in
    rw suc-add (ap (◌∷◌ (take n t)) (rows_plus n a b (drop n t) ∙ ap (λ l. rows_from n a (drop n t) ++ rows_from n b l) (drop-drop (a * n) n t ∙ ap (λ z. drop z t) e)))

-- well-formed rows are those of their words
listed_from : (n lv : ℕ) (f : Raw) → Formed n lv f → (q : List ℕ) → listed f ≡ rows_from n (size f) (words_of f ++ q)
unfolding listed rows_from words_of size
listed_from n lv end g q = refl
listed_from n lv (sheet r s) g q =
    rw append_assoc (ap₂ ◌∷◌ (sym (take_at r (words_of s ++ q) n g.1.long)) (listed_from n lv s g.2 q ∙ ap (rows_from n (size s)) (sym (drop_at r (words_of s ++ q) n g.1.long))))
listed_from n lv (folder r k s) g q =
    let long = formed_length n (lv - 1) k g.2 in
    rw append_assoc
    (ap₂ ◌∷◌ (sym (take_at r ((words_of k ++ words_of s) ++ q) n g.1.long))
    (ap₂ ◌++◌ (listed_from n (lv - 1) k g.2 (words_of s ++ q)) (listed_from n lv s g.3 q ∙ ap (rows_from n (size s)) (sym (drop_at (words_of k) (words_of s ++ q) (size k * n) long)))
    ∙ sym (rows_plus n (size k) (size s) (words_of k ++ (words_of s ++ q)))
    ∙ ap (rows_from n (size k + size s)) (sym (append_assoc (words_of k) (words_of s) q) ∙ sym (drop_at r ((words_of k ++ words_of s) ++ q) n g.1.long))))

rows_length : (n m : ℕ) (t : List ℕ) → length (rows_from n m t) ≡ m
unfolding rows_from
rows_length n zero t = refl
rows_length n (suc m) t = ap suc (rows_length n m (drop n t))

-- one of them
rows_from_at : (n m : ℕ) (t : List ℕ) (i : ℕ) → i < m → get_or (rows_from n m t) i [] ≡ take n (drop (i * n) t)
unfolding rows_from
rows_from_at n zero t i h = absurd (omega arith)
rows_from_at n (suc m) t zero h = rw zero-mul
rows_from_at n (suc m) t (suc i) h =
    let e : n + i * n ≡ suc i * n = omega arith in
    rows_from_at n m (drop n t) i (omega arith) ∙ ap (take n) (drop-drop (i * n) n t ∙ ap (λ z. drop z t) e)

-- a word of a row, by its place in the table
pub word_at : (w : ℕ) (t : List ℕ) (i j : ℕ) → j < wide w → get_or (row_at w t i) j 0 ≡ get_or t ((i + 1) * wide w + j) 0
word_at w t i j h = get_or-take (wide w) (drop ((i + 1) * wide w) t) j 0 h ∙ get_or-drop ((i + 1) * wide w) t j 0

-- a row as the code cuts it
pub row_cut : (w : ℕ) (t : List ℕ) (i : ℕ) → take ((i + 1) * wide w + wide w - (i + 1) * wide w) (drop ((i + 1) * wide w) t) ≡ row_at w t i
row_cut w t i = let e : (i + 1) * wide w + wide w - (i + 1) * wide w ≡ wide w = omega arith in ap (λ n. take n (drop ((i + 1) * wide w) t)) e

-- THE ROWS OF A TABLE from row i on
abbrev pub rows_on : ℕ → List ℕ → ℕ → List (List ℕ)
rows_on w t i = rows_from (wide w) (get_or t 2 0 - i) (drop ((i + 1) * wide w) t)

module _ (w : ℕ) (t : List ℕ) where
  pub rows_next : (i : ℕ) → i < get_or t 2 0 → rows_on w t i ≡ row_at w t i ∷ rows_on w t (i + 1)
  unfolding rows_from
  rows_next i h =
      let e : get_or t 2 0 - i ≡ suc (get_or t 2 0 - (i + 1)) = omega arith in
      let p : (i + 1) * wide w + wide w ≡ (i + 1 + 1) * wide w = omega arith in
      ap (λ m. rows_from (wide w) m (drop ((i + 1) * wide w) t)) e
      ∙ ap (λ l. row_at w t i ∷ rows_from (wide w) (get_or t 2 0 - (i + 1)) l) (drop-drop (wide w) ((i + 1) * wide w) t ∙ ap (λ z. drop z t) p)

  pub rows_end : (i : ℕ) → get_or t 2 0 ≤ i → rows_on w t i ≡ []
  unfolding rows_from
  rows_end i h =
      let e : get_or t 2 0 - i ≡ 0 = omega arith in
      ap (λ m. rows_from (wide w) m (drop ((i + 1) * wide w) t)) e

  pub rows_count : (i : ℕ) → length (rows_on w t i) ≡ get_or t 2 0 - i
  rows_count i = rows_length (wide w) (get_or t 2 0 - i) (drop ((i + 1) * wide w) t)

  pub rows_at : (i : ℕ) → i < get_or t 2 0 → get_or (rows_on w t 0) i [] ≡ row_at w t i
  rows_at i h =
      let e : (0 + 1) * wide w + i * wide w ≡ (i + 1) * wide w = omega arith in
      rows_from_at (wide w) (get_or t 2 0 - 0) (drop ((0 + 1) * wide w) t) i (omega arith) ∙ ap (take (wide w)) (drop-drop (i * wide w) ((0 + 1) * wide w) t ∙ ap (λ z. drop z t) e)

  -- all of them
  pub rows_all : Checked w t → listed (forest_of (wide w) (drop (wide w) t)) ≡ rows_on w t 0
  unfolding table_of
  rows_all c =
      let f = forest_of (wide w) (drop (wide w) t) in
      let n : size f ≡ get_or t 2 0 - 0 = sym (mapped_size (sheet_of w) (floor_of w) f) ∙ checked_size w t c ∙ omega arith in
      let e : wide w ≡ (0 + 1) * wide w = omega arith in
      listed_from (wide w) 16 f (ordered_formed (wide w) (omega arith) 16 (drop (wide w) t) c.order) []
      ∙ ap₂ (rows_from (wide w)) n (append-nil (words_of f) ∙ ordered_words (wide w) (omega arith) 16 (drop (wide w) t) c.order ∙ ap (λ z. drop z t) e)
