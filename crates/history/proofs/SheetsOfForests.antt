-- Laws of forests besides the paper's: siblings and the most children, and which rows are sheets.
use Prim.{tt}
use Prim.Native.Nat.{ℕ, zero, suc, ◌-◌, ◌≤◌, max}
use mathlib.Core.Path.{◌≡◌, refl, sym, ap, ap₂, ◌∙◌}
use mathlib.Core.Bool.{Bool, true, false, cond}
use mathlib.Core.Option.{Option, none, some, map}
use native.Mathlib.Omega.{arith}
use lib.Dec.{ltb}
use Rattle.paper.specs.Tree.{Forest, end, sheet, folder, mapped, size, subtree, sheet_here}
use Rattle.paper.specs.Calls.{is_folder}
use Rattle.laws.proofs.Forests.{mapped_subtree, mapped_here, shape}
use Rattle.history.specs.Look.{siblings, widest}

module _ {X Y Z W : Type 0} (f : X → Z) (g : Y → W) where
  mapped_siblings : (t : Forest X Y) → siblings (mapped f g t) ≡ siblings t
  unfolding siblings mapped
  mapped_siblings end = refl
  mapped_siblings (sheet x r) = ap suc (mapped_siblings r)
  mapped_siblings (folder y k r) = ap suc (mapped_siblings r)

  -- and of children
  pub mapped_widest : (t : Forest X Y) → widest (mapped f g t) ≡ widest t
  unfolding widest mapped
  mapped_widest end = refl
  mapped_widest (sheet x r) = mapped_widest r
  mapped_widest (folder y k r) = ap₂ max (mapped_siblings k) (ap₂ max (mapped_widest k) (mapped_widest r))

module _ {X Y : Type 0} where
  -- a row with all beneath it is one row among its siblings
  pub subtree_siblings : (t : Forest X Y) (i : ℕ) → siblings (subtree t i) ≤ 1
  unfolding siblings subtree
  subtree_siblings end i = omega arith
  subtree_siblings (sheet x r) zero = omega arith
  subtree_siblings (sheet x r) (suc i) = subtree_siblings r i
  subtree_siblings (folder y k r) zero = omega arith
  subtree_siblings (folder y k r) (suc i) = go (ltb i (size k)) (subtree_siblings k i) (subtree_siblings r (i - size k))
    where
      go : (t : Bool) → siblings (subtree k i) ≤ 1 → siblings (subtree r (i - size k)) ≤ 1 → siblings (cond t (subtree k i) (subtree r (i - size k))) ≤ 1
      go true p q = p
      go false p q = q

-- which rows are sheets is a matter of shape
pub shape_folder : {X Y : Type 0} (t : Forest X Y) (i : ℕ) → is_folder (sheet_here (subtree (shape t) i)) ≡ is_folder (sheet_here (subtree t i))
shape_folder {X} t i = ap is_folder (ap sheet_here (sym (mapped_subtree _ _ t i)) ∙ mapped_here _ _ (subtree t i)) ∙ same (sheet_here (subtree t i))
  where
    same : (o : Option X) → is_folder (map (λ x. tt {0}) o) ≡ is_folder o
    same none = refl
    same (some x) = refl
