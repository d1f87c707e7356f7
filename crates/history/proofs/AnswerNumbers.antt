-- The numbers of an answer list at the folders, and how many rows lie beneath no 5.
use Prim.Native.Nat.{ℕ, zero, suc, ◌+◌, ◌-◌, ◌≤◌, ◌<◌, max}
use mathlib.Core.Path.{◌≡◌, refl, sym, ap, ap₂, ◌∙◌}
use mathlib.Core.Bool.{Bool, true, false, not, ◌||◌, cond, false≢true}
use mathlib.Core.List.{List, [], ◌∷◌, ◌++◌}
use native.Mathlib.Nat.{zero-add, suc-add}
use native.Mathlib.Omega.{arith}
use lib.Dec.{ltb, eqb}
use lib.ListN.{length, get_or, drop, length-drop, get_or-append}
use lib.Seq.{drop-append-le, drop_at}
use borrow.Author.Tests.{ltb-true, ltb-false, lt-ltb, le-ltb}
use Rattle.paper.specs.declared.Clock.{Clock}
use Rattle.paper.specs.Columns.{Vec, zeros, greatest}
use Rattle.paper.specs.Tree.{Forest, end, sheet, folder, mapped, size, subtree, sheet_here, Tree, above, newest, smallest_of, greatest_of, full_least, full_most, level}
use Rattle.paper.specs.Walk.{Two, Pair, zip, left, right, silent, over, answers, looked}
use Rattle.paper.specs.Words.{Table}
use Rattle.paper.specs.Calls.{is_folder, pair_at}
use Rattle.laws.proofs.Bools.{both_and}
use Rattle.laws.proofs.Columns.{at_covered, at_alike}
use Rattle.laws.proofs.Forests.{mapped_mapped, shape, shape_size, subtree_fits, zip_right, mapped_size}
use Rattle.history.specs.Look.{over_first, over_at, beneath_five, tally}
use Rattle.history.proofs.SheetsOfForests.{shape_folder}
use Rattle.history.proofs.Cells.{greatest_zeros, greatest_assoc, zeros_greatest}
use Rattle.history.proofs.Bridge.{left_size, right_size, silent_length, answers_length, get_d_two}
use Rattle.history.proofs.CallEffects.{pair_size}
use Rattle.history.proofs.CallsAccepted.{TwoGood, pair_left, pair_right}

-- A SUBTREE OF A SUBTREE
module _ {X Y : Type 0} where
  -- its rows are rows of the tree
  pub subtree_subtree : (t : Forest X Y) (i j : ℕ) → i < size t → j < size (subtree t i) → subtree t (i + j) ≡ subtree (subtree t i) j
  unfolding subtree size
  subtree_subtree end i j h l = absurd (omega arith)
  subtree_subtree (sheet x r) zero zero h l = refl
  subtree_subtree (sheet x r) zero (suc j) h l = absurd (omega arith)
  subtree_subtree (sheet x r) (suc i) j h l = rw suc-add (subtree_subtree r i j (omega arith) l)
  subtree_subtree (folder y k r) zero zero h l = refl
  subtree_subtree (folder y k r) zero (suc j) h l = rw (zero-add, lt-ltb j (size k) (omega arith))
  subtree_subtree (folder y k r) (suc i) j h l = rw suc-add (go (ltb i (size k)) refl (subtree_subtree k i j) (subtree_subtree r (i - size k) j) l)
    where
      go : (t : Bool) → ltb i (size k) ≡ t → (i < size k → j < size (subtree k i) → subtree k (i + j) ≡ subtree (subtree k i) j)
          → (i - size k < size r → j < size (subtree r (i - size k)) → subtree r (i - size k + j) ≡ subtree (subtree r (i - size k)) j)
          → j < size (cond t (subtree k i) (subtree r (i - size k)))
          → cond (ltb (i + j) (size k)) (subtree k (i + j)) (subtree r (i + j - size k)) ≡ subtree (cond t (subtree k i) (subtree r (i - size k))) j
      go true e p q l =
          let m : i < size k = ltb-true i (size k) e in
          rw (lt-ltb (i + j) (size k) (omega (arith, subtree_fits k i m))) (p m l)
      go false e p q l =
          let m : size k ≤ i = ltb-false i (size k) e in
          let z : i + j - size k ≡ i - size k + j = omega arith in
          rw (le-ltb (i + j) (size k) (omega arith), z) (q (omega arith) l)

-- and the floors above them are gathered
pub above_subtree : (t : Tree) (i j : ℕ) → i < size t → j < size (subtree t i) → above t (i + j) ≡ greatest (above t i) (above (subtree t i) j)
unfolding subtree size above
above_subtree end i j h l = absurd (omega arith)
above_subtree (sheet s r) zero zero h l = sym (zeros_greatest zeros)
above_subtree (sheet s r) zero (suc j) h l = absurd (omega arith)
above_subtree (sheet s r) (suc i) j h l = rw suc-add (above_subtree r i j (omega arith) l)
above_subtree (folder f k r) zero zero h l = sym (zeros_greatest zeros)
above_subtree (folder f k r) zero (suc j) h l = rw (zero-add, lt-ltb j (size k) (omega arith)) (sym (zeros_greatest (greatest f (above k j))))
above_subtree (folder f k r) (suc i) j h l = rw suc-add (go (ltb i (size k)) refl (above_subtree k i j) (above_subtree r (i - size k) j) l)
  where
    go : (t : Bool) → ltb i (size k) ≡ t → (i < size k → j < size (subtree k i) → above k (i + j) ≡ greatest (above k i) (above (subtree k i) j))
        → (i - size k < size r → j < size (subtree r (i - size k)) → above r (i - size k + j) ≡ greatest (above r (i - size k)) (above (subtree r (i - size k)) j))
        → j < size (cond t (subtree k i) (subtree r (i - size k)))
        → ◌≡◌ {A = Vec} (cond (ltb (i + j) (size k)) (greatest f (above k (i + j))) (above r (i + j - size k)))
        (greatest (cond t (greatest f (above k i)) (above r (i - size k))) (above (cond t (subtree k i) (subtree r (i - size k))) j))
    go true e p q l =
        let m : i < size k = ltb-true i (size k) e in
        rw (lt-ltb (i + j) (size k) (omega (arith, subtree_fits k i m))) (ap (greatest f) (p m l) ∙ sym (greatest_assoc f (above k i) (above (subtree k i) j)))
    go false e p q l =
        let m : size k ≤ i = ltb-false i (size k) e in
        let z : i + j - size k ≡ i - size k + j = omega arith in
        rw (le-ltb (i + j) (size k) (omega arith), z) (q (omega arith) l)

-- BENEATH A 5, in the parts of a list
module _ {X Y : Type 0} where
  -- what stands after a forest's numbers doesn't matter
  beneath_front : (t : Forest X Y) (l m : List ℕ) (j : ℕ) → size t ≤ length l → beneath_five t (l ++ m) j ≡ beneath_five t l j
  unfolding beneath_five size
  beneath_front end l m j h = refl
  beneath_front (sheet x r) [] m j h = absurd (omega arith)
  beneath_front (sheet x r) (n ∷ l) m zero h = refl
  beneath_front (sheet x r) (n ∷ l) m (suc j) h = beneath_front r l m j (omega arith)
  beneath_front (folder y k r) [] m j h = absurd (omega arith)
  beneath_front (folder y k r) (n ∷ l) m zero h = refl
  beneath_front (folder y k r) (n ∷ l) m (suc j) h =
      ap₂ (cond (ltb j (size k))) (ap (λ b. eqb n 5 || b) (beneath_front k l m j (omega arith)))
      (ap (λ z. beneath_five r z (j - size k)) (drop-append-le (size k) l m (omega arith)) ∙ beneath_front r (drop (size k) l) m (j - size k) (omega (arith, length-drop (size k) l)))

  module _ (y : Y) (k r : Forest X Y) (n : ℕ) (K R : List ℕ) (long : length K ≡ size k) where
    beneath_first : (j : ℕ) → j < size k → beneath_five (folder y k r) (n ∷ (K ++ R)) (suc j) ≡ (eqb n 5 || beneath_five k K j)
    unfolding beneath_five
    beneath_first j h = rw (lt-ltb j (size k) h) (ap (λ b. eqb n 5 || b) (beneath_front k K R j (omega arith)))

    beneath_rest : (j : ℕ) → size k ≤ j → beneath_five (folder y k r) (n ∷ (K ++ R)) (suc j) ≡ beneath_five r R (j - size k)
    unfolding beneath_five
    beneath_rest j h = rw (le-ltb j (size k) h) (ap (λ z. beneath_five r z (j - size k)) (drop_at K R (size k) long))

-- it is a matter of shape
pub beneath_mapped : {X Y Z W : Type 0} (f : X → Z) (g : Y → W) (t : Forest X Y) (l : List ℕ) (j : ℕ) → beneath_five (mapped f g t) l j ≡ beneath_five t l j
unfolding beneath_five mapped
beneath_mapped f g end l j = refl
beneath_mapped f g (sheet x r) l zero = refl
beneath_mapped f g (sheet x r) l (suc j) = beneath_mapped f g r (drop 1 l) j
beneath_mapped f g (folder y k r) l zero = refl
beneath_mapped f g (folder y k r) l (suc j) =
    rw (mapped_size f g k) (ap₂ (cond (ltb j (size k))) (ap (λ b. eqb (get_or l 0 0) 5 || b) (beneath_mapped f g k (drop 1 l) j)) (beneath_mapped f g r (drop (suc (size k)) l) (j - size k)))

-- TALLIES
pub tally_same : (n : ℕ) (f g : ℕ → Bool) → ((j : ℕ) → j < n → f j ≡ g j) → tally n f ≡ tally n g
unfolding tally
tally_same zero f g h = refl
tally_same (suc n) f g h = ap₂ (λ b m. cond b 1 0 + m) (h 0 (omega arith)) (tally_same n (λ j. f (suc j)) (λ j. g (suc j)) (λ j l. h (suc j) (omega arith)))

tally_none : (n : ℕ) → tally n (λ j. false) ≡ 0
unfolding tally
tally_none zero = refl
tally_none (suc n) = zero-add _ ∙ tally_none n

-- of a first and a second part
pub tally_plus : (m n : ℕ) (f : ℕ → Bool) → tally (m + n) f ≡ tally m f + tally n (λ j. f (m + j))
unfolding tally
tally_plus zero n f = rw (zero-add n, zero-add) (tally_same n f (λ j. f (0 + j)) (λ j l. ap f (sym (zero-add j))))
tally_plus (suc m) n f =
    rw suc-add
    (let e : tally n (λ j. f (suc (m + j))) ≡ tally n (λ j. f (suc m + j)) = tally_same n _ _ (λ j l. ap f (sym (suc-add m j))) in
    omega (arith, tally_plus m n (λ j. f (suc j))))

module _ (w : ℕ) (a b : Clock) where
  -- the condition at a row, with the floors above gathered on the way
  unfoldable pub over_in : Pair → Vec → Vec → ℕ → Bool
  over_in end ua ub j = false
  over_in (sheet x r) ua ub zero = false
  over_in (sheet x r) ua ub (suc j) = over_in r ua ub j
  over_in (folder y k r) ua ub zero = over w a b ua ub y k
  over_in (folder y k r) ua ub (suc j) = cond (ltb j (size k)) (over_in k (greatest ua y.a) (greatest ub y.b) j) (over_in r ua ub (j - size k))

  over_here : (p : Pair) (ua ub : Vec) (j : ℕ) → over_in p ua ub j ≡ over_first w a b (greatest ua (above (left p) j)) (greatest ub (above (right p) j)) (subtree p j)
  unfolding over_in over_first above subtree mapped
  over_here end ua ub j = refl
  over_here (sheet x r) ua ub zero = refl
  over_here (sheet x r) ua ub (suc j) = over_here r ua ub j
  over_here (folder y k r) ua ub zero = ap₂ (λ u v. over w a b u v y k) (sym (greatest_zeros ua)) (sym (greatest_zeros ub))
  over_here (folder y k r) ua ub (suc j) =
      rw (left_size k, right_size k) (go (ltb j (size k)) (over_here k (greatest ua y.a) (greatest ub y.b) j) (over_here r ua ub (j - size k)))
    where
      go : (t : Bool)
          → over_in k (greatest ua y.a) (greatest ub y.b) j ≡ over_first w a b (greatest (greatest ua y.a) (above (left k) j)) (greatest (greatest ub y.b) (above (right k) j)) (subtree k j)
          → over_in r ua ub (j - size k) ≡ over_first w a b (greatest ua (above (left r) (j - size k))) (greatest ub (above (right r) (j - size k))) (subtree r (j - size k))
          → cond t (over_in k (greatest ua y.a) (greatest ub y.b) j) (over_in r ua ub (j - size k))
          ≡ over_first w a b (greatest ua (cond t (greatest y.a (above (left k) j)) (above (left r) (j - size k))))
          (greatest ub (cond t (greatest y.b (above (right k) j)) (above (right r) (j - size k)))) (cond t (subtree k j) (subtree r (j - size k)))
      go true p q = p ∙ ap₂ (λ u v. over_first w a b u v (subtree k j)) (greatest_assoc ua y.a (above (left k) j)) (greatest_assoc ub y.b (above (right k) j))
      go false p q = q

  -- folders beneath a passed-over folder
  silent_folder : {X Y : Type 0} (k : Forest X Y) (j : ℕ) → j < size k → is_folder (sheet_here (subtree k j)) ≡ true → get_or (silent k) j 0 ≡ 5
  unfolding silent subtree sheet_here size
  silent_folder end j h e = absurd (omega arith)
  silent_folder (sheet x r) zero h e = absurd (false≢true e)
  silent_folder (sheet x r) (suc j) h e = silent_folder r j (omega arith) e
  silent_folder (folder y k r) zero h e = refl
  silent_folder (folder y k r) (suc j) h e =
      get_d_two (silent k) (silent r) (size k) j 0 (silent_length k) ∙ go (ltb j (size k)) refl (silent_folder k j) (silent_folder r (j - size k)) e
    where
      go : (t : Bool) → ltb j (size k) ≡ t → (j < size k → is_folder (sheet_here (subtree k j)) ≡ true → get_or (silent k) j 0 ≡ 5)
          → (j - size k < size r → is_folder (sheet_here (subtree r (j - size k))) ≡ true → get_or (silent r) (j - size k) 0 ≡ 5)
          → is_folder (sheet_here (cond t (subtree k j) (subtree r (j - size k)))) ≡ true → cond t (get_or (silent k) j 0) (get_or (silent r) (j - size k) 0) ≡ 5
      go true q p₁ p₂ e = p₁ (ltb-true j (size k) q) e
      go false q p₁ p₂ e = let m : size k ≤ j = ltb-false j (size k) q in p₂ (omega arith) e

  -- AT A FOLDER: 5 beneath a 5 and where the condition holds, else 4
  pub folder_number : (p : Pair) (ua ub : Vec) (j : ℕ) → j < size p → is_folder (sheet_here (subtree p j)) ≡ true
      → get_or (answers w a b p ua ub) j 0 ≡ cond (beneath_five p (answers w a b p ua ub) j || over_in p ua ub j) 5 4
  unfolding answers subtree sheet_here size beneath_five over_in
  folder_number end ua ub j h e = absurd (omega arith)
  folder_number (sheet x r) ua ub zero h e = absurd (false≢true e)
  folder_number (sheet x r) ua ub (suc j) h e = folder_number r ua ub j (omega arith) e
  folder_number (folder y k r) ua ub zero h e = go (over w a b ua ub y k)
    where
      go : (t : Bool) → get_or (cond t (5 ∷ silent k ++ answers w a b r ua ub) (4 ∷ answers w a b k (greatest ua y.a) (greatest ub y.b) ++ answers w a b r ua ub)) 0 0 ≡ cond t 5 4
      go true = refl
      go false = refl
  folder_number (folder y k r) ua ub (suc j) h e = go (over w a b ua ub y k) (ltb j (size k)) refl (folder_number k (greatest ua y.a) (greatest ub y.b) j) (folder_number r ua ub (j - size k)) e
    where
      go : (t u : Bool) → ltb j (size k) ≡ u
          → (j < size k → is_folder (sheet_here (subtree k j)) ≡ true
          → get_or (answers w a b k (greatest ua y.a) (greatest ub y.b)) j 0
          ≡ cond (beneath_five k (answers w a b k (greatest ua y.a) (greatest ub y.b)) j || over_in k (greatest ua y.a) (greatest ub y.b) j) 5 4)
          → (j - size k < size r → is_folder (sheet_here (subtree r (j - size k))) ≡ true
          → get_or (answers w a b r ua ub) (j - size k) 0 ≡ cond (beneath_five r (answers w a b r ua ub) (j - size k) || over_in r ua ub (j - size k)) 5 4)
          → is_folder (sheet_here (cond u (subtree k j) (subtree r (j - size k)))) ≡ true
          → get_or (cond t (5 ∷ silent k ++ answers w a b r ua ub) (4 ∷ answers w a b k (greatest ua y.a) (greatest ub y.b) ++ answers w a b r ua ub)) (suc j) 0
          ≡ cond (beneath_five (folder y k r) (cond t (5 ∷ silent k ++ answers w a b r ua ub) (4 ∷ answers w a b k (greatest ua y.a) (greatest ub y.b) ++ answers w a b r ua ub)) (suc j)
          || cond u (over_in k (greatest ua y.a) (greatest ub y.b) j) (over_in r ua ub (j - size k))) 5 4
      go true true q p₁ p₂ e =
          let m : j < size k = ltb-true j (size k) q in
          get_or-append (silent k) (answers w a b r ua ub) 0 j (omega (arith, silent_length k)) ∙ silent_folder k j m e
          ∙ sym (ap (λ z. cond (z || over_in k (greatest ua y.a) (greatest ub y.b) j) 5 4) (beneath_first y k r 5 (silent k) (answers w a b r ua ub) (silent_length k) j m))
      go true false q p₁ p₂ e =
          let m : size k ≤ j = ltb-false j (size k) q in
          get_d_two (silent k) (answers w a b r ua ub) (size k) j 0 (silent_length k) ∙ rw q (p₂ (omega arith) e)
          ∙ sym (ap (λ z. cond (z || over_in r ua ub (j - size k)) 5 4) (beneath_rest y k r 5 (silent k) (answers w a b r ua ub) (silent_length k) j m))
      go false true q p₁ p₂ e =
          let m : j < size k = ltb-true j (size k) q in
          let l = answers_length w a b k (greatest ua y.a) (greatest ub y.b) in
          get_d_two (answers w a b k (greatest ua y.a) (greatest ub y.b)) (answers w a b r ua ub) (size k) j 0 l ∙ rw q (p₁ m e)
          ∙ sym (ap (λ z. cond (z || over_in k (greatest ua y.a) (greatest ub y.b) j) 5 4)
          (beneath_first y k r 4 (answers w a b k (greatest ua y.a) (greatest ub y.b)) (answers w a b r ua ub) l j m))
      go false false q p₁ p₂ e =
          let m : size k ≤ j = ltb-false j (size k) q in
          let l = answers_length w a b k (greatest ua y.a) (greatest ub y.b) in
          get_d_two (answers w a b k (greatest ua y.a) (greatest ub y.b)) (answers w a b r ua ub) (size k) j 0 l ∙ rw q (p₂ (omega arith) e)
          ∙ sym (ap (λ z. cond (z || over_in r ua ub (j - size k)) 5 4) (beneath_rest y k r 4 (answers w a b k (greatest ua y.a) (greatest ub y.b)) (answers w a b r ua ub) l j m))

  -- THE COUNT is that of the rows beneath no 5
  pub looked_tally : (p : Pair) (ua ub : Vec) → looked w a b p ua ub ≡ tally (size p) (λ j. not (beneath_five p (answers w a b p ua ub) j))
  unfolding looked answers size tally beneath_five
  looked_tally end ua ub = refl
  looked_tally (sheet x r) ua ub = omega (arith, looked_tally r ua ub)
  looked_tally (folder y k r) ua ub = go (over w a b ua ub y k) (looked_tally k (greatest ua y.a) (greatest ub y.b)) (looked_tally r ua ub)
    where
      -- the rows beneath no 5, where the folder's number is n
      parts : (n : ℕ) (K : List ℕ) → length K ≡ size k
          → tally (size k + size r) (λ j. not (beneath_five (folder y k r) (n ∷ (K ++ answers w a b r ua ub)) (suc j)))
          ≡ tally (size k) (λ j. not (eqb n 5 || beneath_five k K j)) + tally (size r) (λ j. not (beneath_five r (answers w a b r ua ub) j))
      parts n K l =
          tally_plus (size k) (size r) (λ j. not (beneath_five (folder y k r) (n ∷ (K ++ answers w a b r ua ub)) (suc j)))
          ∙ ap₂ ◌+◌ (tally_same (size k) _ _ (λ j h. ap not (beneath_first y k r n K (answers w a b r ua ub) l j h)))
          (tally_same (size r) _ _ (λ j h. ap not (beneath_rest y k r n K (answers w a b r ua ub) l (size k + j) (omega arith) ∙ ap (beneath_five r (answers w a b r ua ub)) (omega arith))))

      go : (t : Bool) → looked w a b k (greatest ua y.a) (greatest ub y.b) ≡ tally (size k) (λ j. not (beneath_five k (answers w a b k (greatest ua y.a) (greatest ub y.b)) j))
          → looked w a b r ua ub ≡ tally (size r) (λ j. not (beneath_five r (answers w a b r ua ub) j))
          → suc (cond t 0 (looked w a b k (greatest ua y.a) (greatest ub y.b)) + looked w a b r ua ub)
          ≡ 1 + tally (size k + size r) (λ j. not (beneath_five (folder y k r)
          (cond t (5 ∷ silent k ++ answers w a b r ua ub) (4 ∷ answers w a b k (greatest ua y.a) (greatest ub y.b) ++ answers w a b r ua ub)) (suc j)))
      go true p q = omega (arith, parts 5 (silent k) (silent_length k), tally_none (size k))
      go false p q = omega (arith, parts 4 (answers w a b k (greatest ua y.a) (greatest ub y.b)) (answers_length w a b k (greatest ua y.a) (greatest ub y.b)))

-- AN EMPTY FOLDER is always level and passed over
module _ (w : ℕ) (a b : Clock) where
  empty_over : (ua ub : Vec) (y : Two Vec) → over w a b ua ub y end ≡ true
  unfolding over level newest greatest_of smallest_of mapped
  empty_over ua ub y =
      both_and (at_covered w zeros (full_least b ub y.b end) (λ j l. omega arith))
      (at_alike w (full_least a ua y.a end) (full_most a ua y.a end) (λ j l. ap (λ n. cond (eqb j a.device) a.counter (max (ua j) n)) (omega arith)))

  pub empty_first : (ua ub : Vec) (p : Pair) → is_folder (sheet_here p) ≡ true → size p ≡ 1 → over_first w a b ua ub p ≡ true
  unfolding over_first sheet_here size
  empty_first ua ub end f e = absurd (omega arith)
  empty_first ua ub (sheet x r) f e = absurd (false≢true f)
  empty_first ua ub (folder y end r) f e = empty_over ua ub y
  empty_first ua ub (folder y (sheet x k) r) f e = absurd (omega arith)
  empty_first ua ub (folder y (folder z l k) r) f e = absurd (omega arith)

-- THE CONDITION, read from the tables at the row
module _ (w : ℕ) (a b : Table) (row : ℕ) (g : TwoGood w a b row) where
  -- it is the one that the walk reads
  pub over_table : (j : ℕ) → j < size (subtree b.tree row) → over_at w a b (row + j) ≡ over_in w a.clock b.clock (pair_at a b row) (above a.tree row) (above b.tree row) j
  unfolding over_at
  over_table j h =
      rw (
        above_subtree a.tree row j here_a in_a,
        above_subtree b.tree row j g.here h,
        subtree_subtree (zip a.tree b.tree) row j here_p in_p,
        ← pair_left w a b row g,
        ← pair_right w a b row g,
      )
      (sym (over_here w a.clock b.clock (pair_at a b row) (above a.tree row) (above b.tree row) j))
    where
      in_p : j < size (pair_at a b row)
      in_p = omega (arith, pair_size w a b row g)

      in_a : j < size (subtree a.tree row)
      in_a = omega (arith, pair_size w a b row g, left_size (pair_at a b row), ap size (pair_left w a b row g))

      here_a : row < size a.tree
      here_a = omega (arith, g.here, shape_size a.tree, ap size g.shapes, shape_size b.tree)

      here_p : row < size (zip a.tree b.tree)
      here_p = omega (arith, g.here, right_size (zip a.tree b.tree), ap size (zip_right a.tree b.tree g.shapes))

-- a folder of the target's subtree is one of the pair's
pub here_folder : (w : ℕ) (a b : Table) (row : ℕ) (g : TwoGood w a b row) (j : ℕ) → j < size (subtree b.tree row)
    → is_folder (sheet_here (subtree b.tree (row + j))) ≡ true → is_folder (sheet_here (subtree (pair_at a b row) j)) ≡ true
here_folder w a b row g j l e =
    sym (shape_folder (pair_at a b row) j)
    ∙ ap (λ t. is_folder (sheet_here (subtree t j))) (sym (shape_right (pair_at a b row)) ∙ ap shape (pair_right w a b row g))
    ∙ shape_folder (subtree b.tree row) j
    ∙ ap (λ t. is_folder (sheet_here t)) (sym (subtree_subtree b.tree row j g.here l)) ∙ e
  where
    shape_right : (p : Pair) → shape (right p) ≡ shape p
    shape_right p = mapped_mapped _ _ _ _ p
