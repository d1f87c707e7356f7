-- A fact that holds at every row of a tree, under the floors above it, and what keeps it: cutting out, putting in.
use Prim.{Unit, tt}
use Prim.Native.Nat.{ℕ, zero, suc, ◌-◌, ◌≤◌}
use mathlib.Core.Path.{◌≡◌, refl, sym, subst}
use mathlib.Core.Bool.{Bool, true, false, cond}
use native.Mathlib.Omega.{arith}
use lib.Dec.{ltb}
use borrow.Author.Tests.{le-ltb}
use Rattle.paper.specs.declared.Clock.{Clock}
use Rattle.paper.specs.Columns.{Vec, zeros, greatest, Narrow}
use Rattle.paper.specs.Tree.{end, sheet, folder, size, plus, subtree, graft, Sheet, Tree, above, later}
use Rattle.paper.specs.Good.{GoodFloor, GoodSheet, Good}
use Rattle.laws.proofs.Bools.{both_or}
use Rattle.history.proofs.Cells.{greatest_zeros, greatest_assoc}
use Rattle.history.proofs.Summaries.{later_sheet, later_folder}

module _ (P : Vec → Sheet → Type 0) (Q : Vec → Type 0) where
  -- P of every sheet under the floors above it, Q of every folder's floor
  abbrev pub Every : Tree → Vec → Type 0
  Every end u = Unit {0}
  Every (sheet s r) u = P u s × Every r u
  Every (folder f k r) u = Q f × Every k (greatest u f) × Every r u

  -- it holds in a subtree
  pub every_subtree : (t : Tree) (i : ℕ) (u : Vec) → Every t u → Every (subtree t i) (greatest u (above t i))
  unfolding subtree above
  every_subtree end i u e = tt
  every_subtree (sheet s r) zero u e = (subst (λ v. P v s) (sym (greatest_zeros u)) e.0, tt)
  every_subtree (sheet s r) (suc i) u e = every_subtree r i u e.1
  every_subtree (folder f k r) zero u e = (e.0, subst (λ v. Every k (greatest v f)) (sym (greatest_zeros u)) e.1, tt)
  every_subtree (folder f k r) (suc i) u e = go (ltb i (size k)) (every_subtree k i (greatest u f) e.1) (every_subtree r (i - size k) u e.2)
    where
      go : (t : Bool) → Every (subtree k i) (greatest (greatest u f) (above k i)) → Every (subtree r (i - size k)) (greatest u (above r (i - size k)))
          → Every (cond t (subtree k i) (subtree r (i - size k))) (greatest u (cond t (greatest f (above k i)) (above r (i - size k))))
      go true p q = subst (Every (subtree k i)) (greatest_assoc u f (above k i)) p
      go false p q = q

  every_plus : (g r : Tree) (u : Vec) → Every g u → Every r u → Every (plus g r) u
  unfolding plus
  every_plus end r u e h = h
  every_plus (sheet s g) r u e h = (e.0, every_plus g r u e.1 h)
  every_plus (folder f k g) r u e h = (e.0, e.1, every_plus g r u e.2 h)

  -- and with a subtree put in of which it holds
  pub every_graft : (t : Tree) (i : ℕ) (g : Tree) (u : Vec) → Every t u → Every g (greatest u (above t i)) → Every (graft t i g) u
  unfolding graft above
  every_graft end i g u e h = tt
  every_graft (sheet s r) zero g u e h = every_plus g r u (subst (Every g) (greatest_zeros u) h) e.1
  every_graft (sheet s r) (suc i) g u e h = (e.0, every_graft r i g u e.1 h)
  every_graft (folder f k r) zero g u e h = every_plus g r u (subst (Every g) (greatest_zeros u) h) e.2
  every_graft (folder f k r) (suc i) g u e h = go (ltb i (size k)) (every_graft k i g (greatest u f) e.1) (every_graft r (i - size k) g u e.2) h
    where
      go : (t : Bool) → (Every g (greatest (greatest u f) (above k i)) → Every (graft k i g) (greatest u f)) → (Every g (greatest u (above r (i - size k))) → Every (graft r (i - size k) g) u)
          → Every g (greatest u (cond t (greatest f (above k i)) (above r (i - size k))))
          → Every (cond t (folder f (graft k i g) r) (folder f k (graft r (i - size k) g))) u
      go true p q h = (e.0, p (subst (Every g) (sym (greatest_assoc u f (above k i))) h), e.2)
      go false p q h = (e.0, e.1, q h)

  -- a fact of all floors that passes to the greatest of two holds of the floors above a row
  pub every_above : Q zeros → ((f g : Vec) → Q f → Q g → Q (greatest f g)) → (t : Tree) (i : ℕ) (u : Vec) → Every t u → Q (above t i)
  unfolding above
  every_above z m end i u e = z
  every_above z m (sheet s r) zero u e = z
  every_above z m (sheet s r) (suc i) u e = every_above z m r i u e.1
  every_above z m (folder f k r) zero u e = z
  every_above z m (folder f k r) (suc i) u e = go (ltb i (size k)) (every_above z m k i (greatest u f) e.1) (every_above z m r (i - size k) u e.2)
    where
      go : (t : Bool) → Q (above k i) → Q (above r (i - size k)) → Q (cond t (greatest f (above k i)) (above r (i - size k)))
      go true p q = m f (above k i) e.0 p
      go false p q = q

-- a weaker fact
pub every_map : {P P' : Vec → Sheet → Type 0} {Q Q' : Vec → Type 0} → ((u : Vec) (s : Sheet) → P u s → P' u s) → ((f : Vec) → Q f → Q' f) → (t : Tree) (u : Vec) → Every P Q t u → Every P' Q' t u
every_map p q end u e = tt
every_map p q (sheet s r) u e = (p u s e.0, every_map p q r u e.1)
every_map p q (folder f k r) u e = (q f e.0, every_map p q k (greatest u f) e.1, every_map p q r u e.2)

-- NO LATER COUNT: no floor names a later count of the clock's device than its counter
abbrev pub EarlyFloor : Clock → Vec → Type 0
EarlyFloor c f = f c.device ≤ c.counter

-- it is a fact of every floor
pub later_every : (c : Clock) (t : Tree) (u : Vec) → later c t ≡ false → Every (λ u s. EarlyFloor c s.floor) (EarlyFloor c) t u
later_every c end u e = tt
later_every c (sheet s r) u e = let o = later_sheet c s r e in (o.0, later_every c r u o.1)
later_every c (folder f k r) u e = let o = later_folder c f k r e in (o.0, later_every c k (greatest u f) o.1, later_every c r u o.2)

-- and the other way
pub every_later : (c : Clock) (t : Tree) (u : Vec) → Every (λ u s. EarlyFloor c s.floor) (EarlyFloor c) t u → later c t ≡ false
unfolding later
every_later c end u e = refl
every_later c (sheet s r) u e = both_or (le-ltb _ _ e.0) (every_later c r u e.1)
every_later c (folder f k r) u e = both_or (le-ltb _ _ e.0) (both_or (every_later c k (greatest u f) e.1) (every_later c r u e.2))

-- so it holds in a subtree
pub later_subtree : (c : Clock) (t : Tree) (i : ℕ) → later c t ≡ false → later c (subtree t i) ≡ false
later_subtree c t i e = every_later c (subtree t i) _ (every_subtree (λ u s. EarlyFloor c s.floor) (EarlyFloor c) t i zeros (later_every c t zeros e))

-- and of the floors above a row
pub later_above : (c : Clock) (t : Tree) (i : ℕ) → later c t ≡ false → above t i c.device ≤ c.counter
later_above c t i e = every_above (λ u s. EarlyFloor c s.floor) (EarlyFloor c) (omega arith) (λ f g p q. omega arith) t i zeros (later_every c t zeros e)

-- good trees are those whose every sheet and floor is good
module _ (w : ℕ) (c : Clock) where
  -- one way
  pub good_every : (t : Tree) (u : Vec) → Good w c t u → Every (GoodSheet w c) (GoodFloor w c) t u
  good_every end u g = tt
  good_every (sheet s r) u g = (g.0, good_every r u g.1)
  good_every (folder f k r) u g = (g.0, good_every k (greatest u f) g.1, good_every r u g.2)

  -- and the other
  pub every_good : (t : Tree) (u : Vec) → Every (GoodSheet w c) (GoodFloor w c) t u → Good w c t u
  every_good end u g = tt
  every_good (sheet s r) u g = (g.0, every_good r u g.1)
  every_good (folder f k r) u g = (g.0, every_good k (greatest u f) g.1, every_good r u g.2)

  -- so a tree with a good subtree put in is good
  pub good_graft : (t : Tree) (i : ℕ) (g : Tree) (u : Vec) → Good w c t u → Good w c g (greatest u (above t i)) → Good w c (graft t i g) u
  good_graft t i g u e h = every_good (graft t i g) u (every_graft (GoodSheet w c) (GoodFloor w c) t i g u (good_every t u e) (good_every g (greatest u (above t i)) h))

  -- and the floors above a row have no more columns
  pub good_above : (t : Tree) (i : ℕ) (u : Vec) → Good w c t u → Narrow w (above t i)
  good_above t i u g =
      every_above (GoodSheet w c) (Narrow w) (λ j h. refl) (λ f g p q j h. omega (arith, p j h, q j h)) t i u
      (every_map (λ u s x. x) (λ f x. x.narrow) t u (good_every t u g))
