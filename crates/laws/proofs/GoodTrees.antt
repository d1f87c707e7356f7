-- Subtrees of good trees, and the shape and size of a tree that was walked.
use Prim.{tt}
use Prim.Native.Nat.{ℕ, zero, suc, ◌-◌}
use mathlib.Core.Path.{◌≡◌, refl, sym, ap, ap₂, ◌∙◌, subst, fun_ext}
use mathlib.Core.Bool.{Bool, true, false, cond}
use native.Mathlib.Omega.{arith}
use lib.Dec.{ltb}
use Rattle.paper.specs.declared.Clock.{Clock}
use Rattle.paper.specs.Columns.{Vec, greatest}
use Rattle.paper.specs.Tree.{end, sheet, folder, mapped, size, subtree, Tree, above, full_least}
use Rattle.paper.specs.Walk.{Pair, left, right, raised, over, walk}
use Rattle.paper.specs.Good.{Good}
use Rattle.laws.proofs.Forests.{mapped_size, shape, shape_size}

-- a subtree is good under the floors above it
pub good_subtree : (w : ℕ) (c : Clock) (t : Tree) (i : ℕ) (u : Vec) → Good w c t u → Good w c (subtree t i) (greatest u (above t i))
unfolding subtree above
good_subtree w c end i u g = tt
good_subtree w c (sheet s r) zero u g = subst (Good w c (sheet s end)) (fun_ext (λ j. omega arith)) (g.0, tt)
good_subtree w c (sheet s r) (suc i) u g = good_subtree w c r i u g.1
good_subtree w c (folder f k r) zero u g = subst (Good w c (folder f k end)) (fun_ext (λ j. omega arith)) (g.0, g.1, tt)
good_subtree w c (folder f k r) (suc i) u g = go (ltb i (size k)) (good_subtree w c k i (greatest u f) g.1) (good_subtree w c r (i - size k) u g.2)
  where
    go : (b : Bool) → Good w c (subtree k i) (greatest (greatest u f) (above k i)) → Good w c (subtree r (i - size k)) (greatest u (above r (i - size k)))
        → Good w c (cond b (subtree k i) (subtree r (i - size k))) (greatest u (cond b (greatest f (above k i)) (above r (i - size k))))
    go true p q = subst (Good w c (subtree k i)) (fun_ext (λ j. omega arith)) p
    go false p q = q

-- the walk keeps the target's shape
pub walk_shape : (w : ℕ) (a b : Clock) (p : Pair) (ua ub : Vec) → shape (walk w a b p ua ub) ≡ shape (right p)
unfolding walk mapped
walk_shape w a b end ua ub = refl
walk_shape w a b (sheet x r) ua ub = ap (sheet tt) (walk_shape w a b r ua ub)
walk_shape w a b (folder y k r) ua ub = go (over w a b ua ub y k) (walk_shape w a b k (greatest ua y.a) (greatest ub y.b)) (walk_shape w a b r ua ub)
  where
    go : (t : Bool) → shape (walk w a b k (greatest ua y.a) (greatest ub y.b)) ≡ shape (right k) → shape (walk w a b r ua ub) ≡ shape (right r)
        → shape (cond t (folder (raised b y.b (full_least a ua y.a (left k))) (right k) (walk w a b r ua ub))
        (folder y.b (walk w a b k (greatest ua y.a) (greatest ub y.b)) (walk w a b r ua ub)))
        ≡ folder tt (shape (right k)) (shape (right r))
    go true p q = ap (folder tt (shape (right k))) q
    go false p q = ap₂ (folder tt) p q

-- and the number of rows
pub walk_size : (w : ℕ) (a b : Clock) (p : Pair) (ua ub : Vec) → size (walk w a b p ua ub) ≡ size p
walk_size w a b p ua ub = sym (shape_size (walk w a b p ua ub)) ∙ ap size (walk_shape w a b p ua ub) ∙ shape_size (right p) ∙ mapped_size _ _ p
