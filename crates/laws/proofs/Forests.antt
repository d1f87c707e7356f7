-- Laws of forests: rows cut out and put back, replaced one by one, and two forests of one shape side by side.
use Prim.{Unit, tt}
use Prim.Native.Nat.{ℕ, zero, suc, ◌+◌, ◌-◌, ◌≤◌, ◌<◌, max}
use mathlib.Core.Path.{◌≡◌, refl, ap, ap₂, ◌∙◌}
use mathlib.Core.Bool.{Bool, true, false, cond, false≢true}
use mathlib.Core.Option.{some, map}
use native.Mathlib.Omega.{arith}
use lib.Dec.{ltb}
use borrow.Author.Tests.{ltb-true, ltb-false}
use Rattle.paper.specs.Tree.{Forest, end, sheet, folder, mapped, size, levels, plus, subtree, graft, sheet_here, shaped, Tree}
use Rattle.paper.specs.Walk.{zip, left, right}
use Rattle.paper.specs.Good.{rooted}
use Rattle.laws.proofs.Bools.{and_both, both_and}

-- a folder told by its three parts
pub folder_same : {X Y : Type 0} {a b : Y} {k l r s : Forest X Y} → a ≡ b → k ≡ l → r ≡ s → folder a k r ≡ folder b l s
folder_same p q e = cc

-- REPLACED

module _ {X Y Z W : Type 0} (f : X → Z) (g : Y → W) where
  pub mapped_size : (t : Forest X Y) → size (mapped f g t) ≡ size t
  unfolding size mapped
  mapped_size end = refl
  mapped_size (sheet x r) = ap suc (mapped_size r)
  mapped_size (folder y k r) = ap suc (ap₂ ◌+◌ (mapped_size k) (mapped_size r))

  pub mapped_levels : (t : Forest X Y) → levels (mapped f g t) ≡ levels t
  unfolding levels mapped
  mapped_levels end = refl
  mapped_levels (sheet x r) = ap (max 1) (mapped_levels r)
  mapped_levels (folder y k r) = ap₂ (λ a b. max (suc a) b) (mapped_levels k) (mapped_levels r)

  pub mapped_plus : (t s : Forest X Y) → mapped f g (plus t s) ≡ plus (mapped f g t) (mapped f g s)
  unfolding plus mapped
  mapped_plus end s = refl
  mapped_plus (sheet x r) s = ap (sheet (f x)) (mapped_plus r s)
  mapped_plus (folder y k r) s = ap (folder (g y) (mapped f g k)) (mapped_plus r s)

  pub mapped_subtree : (t : Forest X Y) (i : ℕ) → mapped f g (subtree t i) ≡ subtree (mapped f g t) i
  unfolding subtree mapped
  mapped_subtree end i = refl
  mapped_subtree (sheet x r) zero = refl
  mapped_subtree (sheet x r) (suc i) = mapped_subtree r i
  mapped_subtree (folder y k r) zero = refl
  mapped_subtree (folder y k r) (suc i) = rw (mapped_size k) (go (ltb i (size k)) (mapped_subtree k i) (mapped_subtree r (i - size k)))
    where
      go : (t : Bool) → mapped f g (subtree k i) ≡ subtree (mapped f g k) i → mapped f g (subtree r (i - size k)) ≡ subtree (mapped f g r) (i - size k)
          → mapped f g (cond t (subtree k i) (subtree r (i - size k))) ≡ cond t (subtree (mapped f g k) i) (subtree (mapped f g r) (i - size k))
      go true p q = p
      go false p q = q

  pub mapped_graft : (t : Forest X Y) (i : ℕ) (h : Forest X Y) → mapped f g (graft t i h) ≡ graft (mapped f g t) i (mapped f g h)
  unfolding graft mapped
  mapped_graft end i h = refl
  mapped_graft (sheet x r) zero h = mapped_plus h r
  mapped_graft (sheet x r) (suc i) h = ap (sheet (f x)) (mapped_graft r i h)
  mapped_graft (folder y k r) zero h = mapped_plus h r
  mapped_graft (folder y k r) (suc i) h = rw (mapped_size k) (go (ltb i (size k)) (mapped_graft k i h) (mapped_graft r (i - size k) h))
    where
      go : (t : Bool) → mapped f g (graft k i h) ≡ graft (mapped f g k) i (mapped f g h) → mapped f g (graft r (i - size k) h) ≡ graft (mapped f g r) (i - size k) (mapped f g h)
          → mapped f g (cond t (folder y (graft k i h) r) (folder y k (graft r (i - size k) h)))
          ≡ cond t (folder (g y) (graft (mapped f g k) i (mapped f g h)) (mapped f g r)) (folder (g y) (mapped f g k) (graft (mapped f g r) (i - size k) (mapped f g h)))
      go true p q = ap (λ z. folder (g y) z (mapped f g r)) p
      go false p q = ap (folder (g y) (mapped f g k)) q

  pub mapped_here : (t : Forest X Y) → sheet_here (mapped f g t) ≡ map f (sheet_here t)
  unfolding sheet_here mapped
  mapped_here end = refl
  mapped_here (sheet x r) = refl
  mapped_here (folder y k r) = refl

pub mapped_mapped : {X Y Z W P Q : Type 0} (f : X → Z) (g : Y → W) (h : Z → P) (i : W → Q) (t : Forest X Y) → mapped h i (mapped f g t) ≡ mapped (λ x. h (f x)) (λ y. i (g y)) t
unfolding mapped
mapped_mapped f g h i end = refl
mapped_mapped f g h i (sheet x r) = ap (sheet (h (f x))) (mapped_mapped f g h i r)
mapped_mapped f g h i (folder y k r) = ap₂ (folder (i (g y))) (mapped_mapped f g h i k) (mapped_mapped f g h i r)

-- CUT OUT AND PUT BACK

module _ {X Y : Type 0} where
  pub plus_size : (t s : Forest X Y) → size (plus t s) ≡ size t + size s
  unfolding plus size
  plus_size end s = omega arith
  plus_size (sheet x r) s = omega (arith, plus_size r s)
  plus_size (folder y k r) s = omega (arith, plus_size r s)

  -- what is cut out is put back
  pub graft_same : (t : Forest X Y) (i : ℕ) → graft t i (subtree t i) ≡ t
  unfolding graft subtree plus
  graft_same end i = refl
  graft_same (sheet x r) zero = refl
  graft_same (sheet x r) (suc i) = ap (sheet x) (graft_same r i)
  graft_same (folder y k r) zero = refl
  graft_same (folder y k r) (suc i) = go (ltb i (size k)) (graft_same k i) (graft_same r (i - size k))
    where
      go : (t : Bool) → graft k i (subtree k i) ≡ k → graft r (i - size k) (subtree r (i - size k)) ≡ r
          → cond t (folder y (graft k i (cond t (subtree k i) (subtree r (i - size k)))) r) (folder y k (graft r (i - size k) (cond t (subtree k i) (subtree r (i - size k))))) ≡ folder y k r
      go true p q = ap (λ z. folder y z r) p
      go false p q = ap (folder y k) q

  -- the rows beneath a row lie in the tree
  pub subtree_fits : (t : Forest X Y) (i : ℕ) → i < size t → i + size (subtree t i) ≤ size t
  unfolding size subtree
  subtree_fits end i h = absurd (omega arith)
  subtree_fits (sheet x r) zero h = omega arith
  subtree_fits (sheet x r) (suc i) h = omega (arith, subtree_fits r i (omega arith))
  subtree_fits (folder y k r) zero h = omega arith
  subtree_fits (folder y k r) (suc i) h = go (ltb i (size k)) refl (subtree_fits k i) (subtree_fits r (i - size k))
    where
      go : (t : Bool) → ltb i (size k) ≡ t → (i < size k → i + size (subtree k i) ≤ size k) → (i - size k < size r → i - size k + size (subtree r (i - size k)) ≤ size r)
          → suc i + size (cond t (subtree k i) (subtree r (i - size k))) ≤ suc (size k + size r)
      go true e p q = omega (arith, p (ltb-true _ _ e))
      go false e p q = let l : size k ≤ i = ltb-false _ _ e in omega (arith, q (omega arith))

  pub graft_size : (t : Forest X Y) (i : ℕ) (h : Forest X Y) → size h ≡ size (subtree t i) → size (graft t i h) ≡ size t
  unfolding size subtree graft
  graft_size end i h e = refl
  graft_size (sheet x r) zero h e = omega (arith, plus_size h r)
  graft_size (sheet x r) (suc i) h e = ap suc (graft_size r i h e)
  graft_size (folder y k r) zero h e = omega (arith, plus_size h r)
  graft_size (folder y k r) (suc i) h e = go (ltb i (size k)) (graft_size k i h) (graft_size r (i - size k) h) e
    where
      go : (t : Bool) → (size h ≡ size (subtree k i) → size (graft k i h) ≡ size k) → (size h ≡ size (subtree r (i - size k)) → size (graft r (i - size k) h) ≡ size r)
          → size h ≡ size (cond t (subtree k i) (subtree r (i - size k)))
          → size (cond t (folder y (graft k i h) r) (folder y k (graft r (i - size k) h))) ≡ suc (size k + size r)
      go true p q e = omega (arith, p e)
      go false p q e = omega (arith, q e)

  -- a row that is a sheet has nothing beneath it
  pub sheet_alone : (t : Forest X Y) (i : ℕ) (x : X) → sheet_here (subtree t i) ≡ some x → subtree t i ≡ sheet x end
  unfolding subtree sheet_here
  sheet_alone end i x e = cc
  sheet_alone (sheet z r) zero x e = cc
  sheet_alone (sheet z r) (suc i) x e = sheet_alone r i x e
  sheet_alone (folder y k r) zero x e = cc
  sheet_alone (folder y k r) (suc i) x e = go (ltb i (size k)) (sheet_alone k i x) (sheet_alone r (i - size k) x) e
    where
      go : (t : Bool) → (sheet_here (subtree k i) ≡ some x → subtree k i ≡ sheet x end) → (sheet_here (subtree r (i - size k)) ≡ some x → subtree r (i - size k) ≡ sheet x end)
          → sheet_here (cond t (subtree k i) (subtree r (i - size k))) ≡ some x → cond t (subtree k i) (subtree r (i - size k)) ≡ sheet x end
      go true p q e = p e
      go false p q e = q e

-- THE BARE SHAPE

abbrev pub shape : {X Y : Type 0} → Forest X Y → Forest (Unit {0}) (Unit {0})
shape t = mapped (λ x. tt) (λ y. tt) t

module _ {X Y : Type 0} where
  pub shape_size : (t : Forest X Y) → size (shape t) ≡ size t
  shape_size t = mapped_size (λ x. tt {0}) (λ y. tt {0}) t

  pub shape_levels : (t : Forest X Y) → levels (shape t) ≡ levels t
  shape_levels t = mapped_levels (λ x. tt {0}) (λ y. tt {0}) t

  pub shape_rooted : (t : Forest X Y) → rooted (shape t) ≡ rooted t
  unfolding rooted mapped
  shape_rooted end = refl
  shape_rooted (sheet x r) = refl
  shape_rooted (folder y k end) = refl
  shape_rooted (folder y k (sheet x r)) = refl
  shape_rooted (folder y k (folder z l r)) = refl

  -- what is put in keeps the shape, if it has the shape of what it replaces
  pub graft_shape : (t : Forest X Y) (i : ℕ) (h : Forest X Y) → shape h ≡ shape (subtree t i) → shape (graft t i h) ≡ shape t
  graft_shape t i h e =
      mapped_graft _ _ t i h ∙ ap (graft (shape t) i) (e ∙ mapped_subtree _ _ t i) ∙ graft_same (shape t) i

  pub shape_shaped : (a b : Forest X Y) → shape a ≡ shape b → shaped a b ≡ true
  unfolding shaped mapped
  shape_shaped end end e = refl
  shape_shaped end (sheet b s) e = cc
  shape_shaped end (folder b l s) e = cc
  shape_shaped (sheet a r) end e = cc
  shape_shaped (sheet a r) (sheet b s) e = let q : shape r ≡ shape s = cc in shape_shaped r s q
  shape_shaped (sheet a r) (folder b l s) e = cc
  shape_shaped (folder a k r) end e = cc
  shape_shaped (folder a k r) (sheet b s) e = cc
  shape_shaped (folder a k r) (folder b l s) e =
      let p : shape k ≡ shape l = cc in
      let q : shape r ≡ shape s = cc in
      both_and (shape_shaped k l p) (shape_shaped r s q)

  pub shaped_shape : (a b : Forest X Y) → shaped a b ≡ true → shape a ≡ shape b
  unfolding shaped mapped
  shaped_shape end end e = refl
  shaped_shape end (sheet b s) e = absurd (false≢true e)
  shaped_shape end (folder b l s) e = absurd (false≢true e)
  shaped_shape (sheet a r) end e = absurd (false≢true e)
  shaped_shape (sheet a r) (sheet b s) e = ap (sheet tt) (shaped_shape r s e)
  shaped_shape (sheet a r) (folder b l s) e = absurd (false≢true e)
  shaped_shape (folder a k r) end e = absurd (false≢true e)
  shaped_shape (folder a k r) (sheet b s) e = absurd (false≢true e)
  shaped_shape (folder a k r) (folder b l s) e = let q = and_both (shaped k l) _ e in ap₂ (folder tt) (shaped_shape k l q.0) (shaped_shape r s q.1)

-- SIDE BY SIDE

pub zip_left : (a b : Tree) → shape a ≡ shape b → left (zip a b) ≡ a
unfolding zip mapped
zip_left end end e = refl
zip_left end (sheet b s) e = cc
zip_left end (folder b l s) e = cc
zip_left (sheet a r) end e = cc
zip_left (sheet a r) (sheet b s) e = let q : shape r ≡ shape s = cc in ap (sheet a) (zip_left r s q)
zip_left (sheet a r) (folder b l s) e = cc
zip_left (folder a k r) end e = cc
zip_left (folder a k r) (sheet b s) e = cc
zip_left (folder a k r) (folder b l s) e =
    let p : shape k ≡ shape l = cc in
    let q : shape r ≡ shape s = cc in
    ap₂ (folder a) (zip_left k l p) (zip_left r s q)

pub zip_right : (a b : Tree) → shape a ≡ shape b → right (zip a b) ≡ b
unfolding zip mapped
zip_right end end e = refl
zip_right end (sheet b s) e = cc
zip_right end (folder b l s) e = cc
zip_right (sheet a r) end e = cc
zip_right (sheet a r) (sheet b s) e = let q : shape r ≡ shape s = cc in ap (sheet b) (zip_right r s q)
zip_right (sheet a r) (folder b l s) e = cc
zip_right (folder a k r) end e = cc
zip_right (folder a k r) (sheet b s) e = cc
zip_right (folder a k r) (folder b l s) e =
    let p : shape k ≡ shape l = cc in
    let q : shape r ≡ shape s = cc in
    ap₂ (folder b) (zip_right k l p) (zip_right r s q)
