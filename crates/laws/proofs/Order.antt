-- Laws of the order of rows, for rows of n words: what it takes for a row to fit, how a part falls into its first row,
-- the rows beneath it and the rows after; order and forest told step by step; induction over words in order.
use Prim.Native.Nat.{ℕ, zero, suc, ◌+◌, ◌-◌, ◌*◌, ◌≤◌, ◌<◌}
use mathlib.Core.Path.{◌≡◌, refl, sym, ap, ap₂, ◌∙◌}
use mathlib.Core.List.{List, [], ◌∷◌, ◌++◌}
use mathlib.Core.Bool.{Bool, true, false, ◌&&◌, ◌||◌}
use native.Mathlib.Nat.{mul-le-mul_right, one-mul}
use native.Mathlib.Omega.{arith}
use lib.Dec.{eqb}
use borrow.Author.Tests.{ltb-true, leb-true, eqb-true, lt-ltb, le-leb, ne_eqb}
use lib.ListN.{length, take, drop, length-take, length-drop, take-append-drop}
use lib.Seq.{length-take-le, drop-drop}
use Rattle.paper.specs.Tree.{end}
use Rattle.paper.specs.Order.{kind_word, size_word, beneath, after, row_fits, in_order, ordered, placed, parse, forest_of}
use Rattle.laws.proofs.Bools.{and_both, or_right}

-- what `row_fits` says
pub record RowFits (n lv : ℕ) (t : List ℕ) : Type 0 where
  pub level : 0 < lv
  pub kind : kind_word t ≤ 3
  pub some : 0 < size_word t
  pub sheet : (kind_word t ≡ 3 → ⊥) → size_word t ≡ 1
  pub room : size_word t * n ≤ length t

pub fits_facts : (n lv : ℕ) (t : List ℕ) → row_fits n lv t ≡ true → RowFits n lv t
unfolding row_fits
fits_facts n lv t e =
    let a = and_both _ _ e in
    let b = and_both _ _ a.1 in
    let d = and_both _ _ b.1 in
    let f = and_both _ _ d.1 in
    record {
      level = ltb-true _ _ a.0;
      kind = leb-true _ _ b.0;
      some = ltb-true _ _ d.0;
      sheet = λ k. eqb-true _ _ (or_right _ _ f.0 (ne_eqb _ _ k));
      room = leb-true _ _ f.1;
    }

pub facts_fit : (n lv : ℕ) (t : List ℕ) → 0 < lv → kind_word t ≤ 3 → 0 < size_word t → (eqb (kind_word t) 3 || eqb (size_word t) 1) ≡ true → size_word t * n ≤ length t → row_fits n lv t ≡ true
unfolding row_fits
facts_fit n lv t a b d e f = rw (lt-ltb _ _ a, le-leb _ _ b, lt-ltb _ _ d, e, le-leb _ _ f)

-- THE PARTS OF A PART

-- its first row fits
module _ (n lv : ℕ) (t : List ℕ) (f : RowFits n lv t) where
  pub row_room : n ≤ size_word t * n
  row_room = rw one-mul at (mul-le-mul_right n f.some)

  pub row_length : length (take n t) ≡ n
  row_length = length-take-le n t (omega (arith, row_room, f.room))

  pub beneath_length : length (beneath n t) ≡ size_word t * n - n
  beneath_length = simp (length-take, length-drop) (omega (arith, f.room, row_room))

  pub after_length : length (after n t) ≡ length t - size_word t * n
  after_length = length-drop (size_word t * n) t

  -- row, beneath, after
  pub split_part : t ≡ take n t ++ (beneath n t ++ after n t)
  split_part =
      let h : n + (size_word t * n - n) ≡ size_word t * n = omega (arith, row_room) in
      sym (take-append-drop n t)
      ∙ ap (λ l. take n t ++ l)
      (sym (take-append-drop (size_word t * n - n) (drop n t))
      ∙ ap (λ l. beneath n t ++ l) (drop-drop (size_word t * n - n) n t ∙ ap (λ k. drop k t) h))

-- ORDER AND FOREST, STEP BY STEP

pub nil_order : (n m lv : ℕ) → in_order n m lv [] ≡ true
unfolding in_order
nil_order n zero lv = refl
nil_order n (suc m) lv = refl

pub nil_parse : (n m : ℕ) → parse n m [] ≡ end
unfolding parse
nil_parse n zero = refl
nil_parse n (suc m) = refl

module _ (n : ℕ) (wide : 0 < n) where
  -- what is left to look at is shorter
  beneath_less : (lv m : ℕ) (t : List ℕ) → RowFits n lv t → length t ≤ suc m → length (beneath n t) ≤ m
  beneath_less lv m t f h = omega (arith, beneath_length n lv t f, row_room n lv t f, f.room)

  after_less : (lv m : ℕ) (t : List ℕ) → RowFits n lv t → length t ≤ suc m → length (after n t) ≤ m
  after_less lv m t f h = omega (arith, after_length n lv t f, row_room n lv t f, f.room)

  -- fuel that is enough is as good as any other
  order_fuel : (m m' lv : ℕ) (t : List ℕ) → length t ≤ m → length t ≤ m' → in_order n m lv t ≡ in_order n m' lv t
  unfolding in_order
  order_fuel zero m' lv [] h k = sym (nil_order n m' lv)
  order_fuel zero m' lv (x ∷ xs) h k = absurd (omega arith)
  order_fuel (suc m) m' lv [] h k = sym (nil_order n m' lv)
  order_fuel (suc m) zero lv (x ∷ xs) h k = absurd (omega arith)
  order_fuel (suc m) (suc m') lv (x ∷ xs) h k = go (row_fits n lv (x ∷ xs)) refl (order_fuel m m' (lv - 1) (beneath n (x ∷ xs))) (order_fuel m m' lv (after n (x ∷ xs)))
    where
      go : (b : Bool) → row_fits n lv (x ∷ xs) ≡ b
          → (length (beneath n (x ∷ xs)) ≤ m → length (beneath n (x ∷ xs)) ≤ m' → in_order n m (lv - 1) (beneath n (x ∷ xs)) ≡ in_order n m' (lv - 1) (beneath n (x ∷ xs)))
          → (length (after n (x ∷ xs)) ≤ m → length (after n (x ∷ xs)) ≤ m' → in_order n m lv (after n (x ∷ xs)) ≡ in_order n m' lv (after n (x ∷ xs)))
          → (b && (in_order n m (lv - 1) (beneath n (x ∷ xs)) && in_order n m lv (after n (x ∷ xs)))) ≡ (b && (in_order n m' (lv - 1) (beneath n (x ∷ xs)) && in_order n m' lv (after n (x ∷ xs))))
      go false e p q = refl
      go true e p q =
          let f = fits_facts n lv (x ∷ xs) e in
          ap₂ ◌&&◌ (p (beneath_less lv m _ f h) (beneath_less lv m' _ f k)) (q (after_less lv m _ f h) (after_less lv m' _ f k))

  -- a part that is not empty is in order where its first row fits and the two parts behind that row are
  pub ordered_step : (lv : ℕ) (t : List ℕ) → 0 < length t → ordered n lv t ≡ (row_fits n lv t && (ordered n (lv - 1) (beneath n t) && ordered n lv (after n t)))
  unfolding in_order
  ordered_step lv [] h = absurd (omega arith)
  ordered_step lv (x ∷ xs) h = go (row_fits n lv (x ∷ xs)) refl
    where
      go : (b : Bool) → row_fits n lv (x ∷ xs) ≡ b
          → (b && (in_order n (length xs) (lv - 1) (beneath n (x ∷ xs)) && in_order n (length xs) lv (after n (x ∷ xs))))
          ≡ (b && (ordered n (lv - 1) (beneath n (x ∷ xs)) && ordered n lv (after n (x ∷ xs))))
      go false e = refl
      go true e =
          let f = fits_facts n lv (x ∷ xs) e in
          ap₂ ◌&&◌ (order_fuel (length xs) (length (beneath n (x ∷ xs))) (lv - 1) (beneath n (x ∷ xs)) (beneath_less lv (length xs) _ f (omega arith)) (omega arith))
          (order_fuel (length xs) (length (after n (x ∷ xs))) lv (after n (x ∷ xs)) (after_less lv (length xs) _ f (omega arith)) (omega arith))

  -- what a part in order gives
  pub record Step (lv : ℕ) (t : List ℕ) : Type 0 where
    pub fits : RowFits n lv t
    pub beneath : ordered n (lv - 1) (beneath n t) ≡ true
    pub after : ordered n lv (after n t) ≡ true

  pub ordered_facts : (lv : ℕ) (t : List ℕ) → 0 < length t → ordered n lv t ≡ true → Step lv t
  ordered_facts lv t h e =
      let a = and_both (row_fits n lv t) _ (sym (ordered_step lv t h) ∙ e) in
      let b = and_both (ordered n (lv - 1) (beneath n t)) _ a.1 in
      record { fits = fits_facts n lv t a.0; beneath = b.0; after = b.1 }

  -- INDUCTION over words in order: of nothing, and of a row with what holds beneath it and after
  pub ordered_induction : (P : ℕ → List ℕ → Type 0)
      → ((lv : ℕ) → P lv [])
      → ((lv : ℕ) (t : List ℕ) → 0 < length t → Step lv t → P (lv - 1) (beneath n t) → P lv (after n t) → P lv t)
      → (lv : ℕ) (t : List ℕ) → ordered n lv t ≡ true → P lv t
  ordered_induction P none some lv t e = go (length t) lv t (omega arith) e
    where
      go : (m lv : ℕ) (t : List ℕ) → length t ≤ m → ordered n lv t ≡ true → P lv t
      go zero lv [] h e = none lv
      go zero lv (x ∷ xs) h e = absurd (omega arith)
      go (suc m) lv [] h e = none lv
      go (suc m) lv (x ∷ xs) h e =
          let s = ordered_facts lv (x ∷ xs) (omega arith) e in
          some lv (x ∷ xs) (omega arith) s (go m (lv - 1) _ (beneath_less lv m _ s.fits h) s.beneath) (go m lv _ (after_less lv m _ s.fits h) s.after)

  -- the forest of a part in order, likewise
  parse_fuel : (m m' lv : ℕ) (t : List ℕ) → length t ≤ m → length t ≤ m' → ordered n lv t ≡ true → parse n m t ≡ parse n m' t
  unfolding parse
  parse_fuel zero m' lv [] h k e = sym (nil_parse n m')
  parse_fuel zero m' lv (x ∷ xs) h k e = absurd (omega arith)
  parse_fuel (suc m) m' lv [] h k e = sym (nil_parse n m')
  parse_fuel (suc m) zero lv (x ∷ xs) h k e = absurd (omega arith)
  parse_fuel (suc m) (suc m') lv (x ∷ xs) h k e =
      let s = ordered_facts lv (x ∷ xs) (omega arith) e in
      ap₂ (placed (eqb x 3) (take n (x ∷ xs)))
      (parse_fuel m m' (lv - 1) (beneath n (x ∷ xs)) (beneath_less lv m _ s.fits h) (beneath_less lv m' _ s.fits k) s.beneath)
      (parse_fuel m m' lv (after n (x ∷ xs)) (after_less lv m _ s.fits h) (after_less lv m' _ s.fits k) s.after)

  pub forest_step : (lv : ℕ) (t : List ℕ) → 0 < length t → ordered n lv t ≡ true
      → forest_of n t ≡ placed (eqb (kind_word t) 3) (take n t) (forest_of n (beneath n t)) (forest_of n (after n t))
  unfolding parse
  forest_step lv [] h e = absurd (omega arith)
  forest_step lv (x ∷ xs) h e =
      let s = ordered_facts lv (x ∷ xs) (omega arith) e in
      ap₂ (placed (eqb x 3) (take n (x ∷ xs)))
      (parse_fuel (length xs) (length (beneath n (x ∷ xs))) (lv - 1) (beneath n (x ∷ xs)) (beneath_less lv (length xs) _ s.fits (omega arith)) (omega arith) s.beneath)
      (parse_fuel (length xs) (length (after n (x ∷ xs))) lv (after n (x ∷ xs)) (after_less lv (length xs) _ s.fits (omega arith)) (omega arith) s.after)
