-- Well-formed rows, of n words each, and words in order are the same thing: the words of well-formed rows are in order
-- and are read back, and words in order are the words of well-formed rows.
use Prim.{Unit, tt}
use Prim.Native.Nat.{ℕ, zero, suc, ◌+◌, ◌-◌, ◌*◌, ◌/◌, ◌≤◌, ◌<◌}
use mathlib.Core.Path.{◌≡◌, refl, sym, ap, ap₂, ◌∙◌}
use mathlib.Core.List.{List, [], ◌∷◌, ◌++◌}
use mathlib.Core.Bool.{Bool, true, false, ◌&&◌, ◌||◌, or-true, false≢true}
use native.Mathlib.Nat.{mul-le-mul_left, zero-mul, mul-div_cancel}
use native.Mathlib.Omega.{arith}
use lib.Dec.{eqb}
use borrow.Author.Tests.{eqb-true, eqb-false, eq-eqb, ne_eqb}
use lib.ListN.{length, take, drop, length-append, get_or-append}
use lib.Seq.{take_at, drop_at, get_or-take, drop-drop}
use Rattle.paper.specs.Tree.{end, sheet, folder, size}
use Rattle.paper.specs.Order.{kind_word, size_word, beneath, after, row_fits, in_order, ordered, Raw, placed, parse, forest_of, words_of}
use Rattle.laws.proofs.Bools.{and_both, both_and}
use Rattle.laws.proofs.Order.{RowFits, fits_facts, facts_fit, row_room, row_length, beneath_length, split_part, nil_order, nil_parse}

-- a sheet's row, and a folder's row with k rows beneath it
pub record SheetRow (n : ℕ) (r : List ℕ) : Type 0 where
  pub long : length r ≡ n
  pub kind : kind_word r ≤ 2
  pub one : size_word r ≡ 1

pub record FolderRow (n k : ℕ) (r : List ℕ) : Type 0 where
  pub long : length r ≡ n
  pub kind : kind_word r ≡ 3
  pub rows : size_word r ≡ suc k

-- rows that are well formed, of at most lv levels
abbrev pub Formed : ℕ → ℕ → Raw → Type 0
Formed n lv end = Unit {0}
Formed n lv (sheet r s) = (0 < lv) × SheetRow n r × Formed n lv s
Formed n lv (folder r k s) = (0 < lv) × FolderRow n (size k) r × Formed n (lv - 1) k × Formed n lv s

pub formed_length : (n lv : ℕ) (f : Raw) → Formed n lv f → length (words_of f) ≡ size f * n
unfolding words_of size
formed_length n lv end g = sym (zero-mul n)
formed_length n lv (sheet r s) g = omega (arith, length-append r (words_of s), g.1.long, formed_length n lv s g.2)
formed_length n lv (folder r k s) g =
    omega (arith, length-append r (words_of k ++ words_of s), length-append (words_of k) (words_of s), g.1.long, formed_length n (lv - 1) k g.2, formed_length n lv s g.3)

-- as many words, as many rows
pub cancel : (n : ℕ) → 0 < n → (a b : ℕ) → a * n ≡ b * n → a ≡ b
cancel n h a b e = sym (mul-div_cancel a h) ∙ ap (λ z. z / n) e ∙ mul-div_cancel b h

module _ (n : ℕ) (wide : 1 < n) where
  -- a row r with the words k of c rows beneath it and s after
  module _ (r k s : List ℕ) (c : ℕ) (long : length r ≡ n) (rows : size_word r ≡ suc c) (under : length k ≡ c * n) where
    pub kind_at : kind_word (r ++ (k ++ s)) ≡ kind_word r
    kind_at = get_or-append r (k ++ s) 0 0 (omega arith)

    pub size_at : size_word (r ++ (k ++ s)) ≡ suc c
    size_at = get_or-append r (k ++ s) 0 1 (omega arith) ∙ rows

    pub beneath_at_lem : beneath n (r ++ (k ++ s)) ≡ k
    beneath_at_lem = ap₂ take (ap (λ z. z * n - n) size_at) (drop_at r (k ++ s) n long) ∙ take_at k s (suc c * n - n) (omega arith)

    pub after_at : after n (r ++ (k ++ s)) ≡ s
    after_at =
        let e : size_word (r ++ (k ++ s)) * n ≡ n + c * n = omega (arith, ap (λ z. z * n) size_at) in
        ap (λ z. drop z (r ++ (k ++ s))) e
        ∙ sym (drop-drop (c * n) n (r ++ (k ++ s))) ∙ ap (drop (c * n)) (drop_at r (k ++ s) n long) ∙ drop_at k s (c * n) under

    pub fits_at : (lv : ℕ) → 0 < lv → kind_word r ≤ 3 → (eqb (kind_word r) 3 || eqb (suc c) 1) ≡ true → row_fits n lv (r ++ (k ++ s)) ≡ true
    fits_at lv h l e =
        facts_fit n lv (r ++ (k ++ s)) h (omega (arith, kind_at)) (omega (arith, size_at)) (ap₂ (λ x y. eqb x 3 || eqb y 1) kind_at size_at ∙ e)
        (omega (arith, ap (λ z. z * n) size_at, length-append r (k ++ s), length-append k s))

    order_cons : (m lv : ℕ) (q : List ℕ) → in_order n (suc m) lv (r ++ q) ≡ (row_fits n lv (r ++ q) && (in_order n m (lv - 1) (beneath n (r ++ q)) && in_order n m lv (after n (r ++ q))))
    unfolding in_order
    order_cons m lv q = go r long
      where
        go : (r : List ℕ) → length r ≡ n → in_order n (suc m) lv (r ++ q) ≡ (row_fits n lv (r ++ q) && (in_order n m (lv - 1) (beneath n (r ++ q)) && in_order n m lv (after n (r ++ q))))
        go [] h = absurd (omega arith)
        go (x ∷ xs) h = refl

    parse_cons : (m : ℕ) (q : List ℕ) → parse n (suc m) (r ++ q) ≡ placed (eqb (kind_word (r ++ q)) 3) (take n (r ++ q)) (parse n m (beneath n (r ++ q))) (parse n m (after n (r ++ q)))
    unfolding parse
    parse_cons m q = go r long
      where
        go : (r : List ℕ) → length r ≡ n → parse n (suc m) (r ++ q) ≡ placed (eqb (kind_word (r ++ q)) 3) (take n (r ++ q)) (parse n m (beneath n (r ++ q))) (parse n m (after n (r ++ q)))
        go [] h = absurd (omega arith)
        go (x ∷ xs) h = refl

    order_at : (m lv : ℕ) → 0 < lv → kind_word r ≤ 3 → (eqb (kind_word r) 3 || eqb (suc c) 1) ≡ true → in_order n m (lv - 1) k ≡ true → in_order n m lv s ≡ true
        → in_order n (suc m) lv (r ++ (k ++ s)) ≡ true
    order_at m lv h l e a b =
        order_cons m lv (k ++ s)
        ∙ both_and (fits_at lv h l e) (both_and (ap (in_order n m (lv - 1)) beneath_at_lem ∙ a) (ap (in_order n m lv) after_at ∙ b))

    parse_at : (m : ℕ) (t : Bool) → eqb (kind_word r) 3 ≡ t → parse n (suc m) (r ++ (k ++ s)) ≡ placed t r (parse n m k) (parse n m s)
    parse_at m t e = parse_cons m (k ++ s) ∙ rw (kind_at, e, take_at r (k ++ s) n long, beneath_at_lem, after_at)

  -- well-formed rows are words in order
  formed_order : (f : Raw) (m lv : ℕ) → size f ≤ m → Formed n lv f → in_order n m lv (words_of f) ≡ true
  unfolding words_of size
  formed_order end m lv h g = nil_order n m lv
  formed_order (sheet r s) zero lv h g = absurd (omega arith)
  formed_order (sheet r s) (suc m) lv h g =
      order_at r [] (words_of s) 0 g.1.long g.1.one (sym (zero-mul n)) m lv g.0 (omega (arith, g.1.kind)) (or-true (eqb (kind_word r) 3))
      (nil_order n m (lv - 1)) (formed_order s m lv (omega arith) g.2)
  formed_order (folder r k s) zero lv h g = absurd (omega arith)
  formed_order (folder r k s) (suc m) lv h g =
      order_at r (words_of k) (words_of s) (size k) g.1.long g.1.rows (formed_length n (lv - 1) k g.2) m lv g.0 (omega (arith, g.1.kind)) (rw (eq-eqb _ _ g.1.kind))
      (formed_order k m (lv - 1) (omega arith) g.2) (formed_order s m lv (omega arith) g.3)

  -- and are read back
  formed_parse : (f : Raw) (m lv : ℕ) → size f ≤ m → Formed n lv f → parse n m (words_of f) ≡ f
  unfolding words_of size
  formed_parse end m lv h g = nil_parse n m
  formed_parse (sheet r s) zero lv h g = absurd (omega arith)
  formed_parse (sheet r s) (suc m) lv h g =
      parse_at r [] (words_of s) 0 g.1.long g.1.one (sym (zero-mul n)) m false (ne_eqb (kind_word r) 3 (omega (arith, g.1.kind)))
      ∙ ap (sheet r) (formed_parse s m lv (omega arith) g.2)
  formed_parse (folder r k s) zero lv h g = absurd (omega arith)
  formed_parse (folder r k s) (suc m) lv h g =
      parse_at r (words_of k) (words_of s) (size k) g.1.long g.1.rows (formed_length n (lv - 1) k g.2) m true (eq-eqb _ _ g.1.kind)
      ∙ ap₂ (folder r) (formed_parse k m (lv - 1) (omega arith) g.2) (formed_parse s m lv (omega arith) g.3)

  -- the length is fuel enough
  enough : (f : Raw) (lv : ℕ) → Formed n lv f → size f ≤ length (words_of f)
  enough f lv g = omega (arith, formed_length n lv f g, mul-le-mul_left (size f) wide)

  pub formed_ordered : (f : Raw) (lv : ℕ) → Formed n lv f → ordered n lv (words_of f) ≡ true
  formed_ordered f lv g = formed_order f (length (words_of f)) lv (enough f lv g) g

  pub formed_read : (f : Raw) (lv : ℕ) → Formed n lv f → forest_of n (words_of f) ≡ f
  formed_read f lv g = formed_parse f (length (words_of f)) lv (enough f lv g) g

  -- the first row of a part in order, with what was read beneath it and after
  module _ (lv : ℕ) (t : List ℕ) (f : RowFits n lv t) (k s : Raw) (gk : Formed n (lv - 1) k) (gs : Formed n lv s) (wk : words_of k ≡ beneath n t) (ws : words_of s ≡ after n t) where
    row_kind : kind_word (take n t) ≡ kind_word t
    row_kind = get_or-take n t 0 0 (omega arith)

    row_size : size_word (take n t) ≡ size_word t
    row_size = get_or-take n t 1 0 (omega arith)

    placed_back : (b : Bool) → eqb (kind_word t) 3 ≡ b → Formed n lv (placed b (take n t) k s) × (words_of (placed b (take n t) k s) ≡ t)
    unfolding words_of
    placed_back true e =
        let c : suc (size k) ≡ size_word t = cancel n (omega arith) (suc (size k)) (size_word t)
        (omega (arith, formed_length n (lv - 1) k gk, ap length wk, beneath_length n lv t f, row_room n lv t f)) in
        ((f.level, record { long = row_length n lv t f; kind = row_kind ∙ eqb-true _ _ e; rows = row_size ∙ sym c }, gk, gs), ap₂ (λ x y. take n t ++ (x ++ y)) wk ws ∙ sym (split_part n lv t f))
    placed_back false e =
        let c = f.sheet (eqb-false (kind_word t) 3 e) in
        let z : size_word t * n - n ≡ 0 = omega (arith, ap (λ z. z * n) c) in (
          (f.level, record { long = row_length n lv t f; kind = omega (arith, row_kind, f.kind, eqb-false (kind_word t) 3 e); one = row_size ∙ c }, gs),
          ap (λ x. take n t ++ x) (ws ∙ ap (λ x. take x (drop n t) ++ after n t) (sym z)) ∙ sym (split_part n lv t f),
        )

  -- words in order are well-formed rows, and their words again
  order_formed : (m lv : ℕ) (t : List ℕ) → in_order n m lv t ≡ true → Formed n lv (parse n m t) × (words_of (parse n m t) ≡ t)
  unfolding in_order parse words_of
  order_formed zero lv [] e = (tt, refl)
  order_formed zero lv (x ∷ xs) e = absurd (false≢true e)
  order_formed (suc m) lv [] e = (tt, refl)
  order_formed (suc m) lv (x ∷ xs) e =
      let a = and_both (row_fits n lv (x ∷ xs)) _ e in
      let b = and_both (in_order n m (lv - 1) (beneath n (x ∷ xs))) _ a.1 in
      let k = order_formed m (lv - 1) (beneath n (x ∷ xs)) b.0 in
      let s = order_formed m lv (after n (x ∷ xs)) b.1 in
      placed_back lv (x ∷ xs) (fits_facts n lv (x ∷ xs) a.0) _ _ k.0 s.0 k.1 s.1 (eqb x 3) refl

  pub ordered_formed : (lv : ℕ) (t : List ℕ) → ordered n lv t ≡ true → Formed n lv (forest_of n t)
  ordered_formed lv t e = (order_formed (length t) lv t e).0

  pub ordered_words : (lv : ℕ) (t : List ℕ) → ordered n lv t ≡ true → words_of (forest_of n t) ≡ t
  ordered_words lv t e = (order_formed (length t) lv t e).1
