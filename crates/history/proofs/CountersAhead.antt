-- In a run no floor names an event that was not made yet: every floor is at most `count`, which says how many events each
-- device has made. Floors of empty folders too: no sheet sees those, but refusals 6 and 7 do.
use Prim.{tt}
use Prim.Native.Nat.{ℕ, ◌≤◌, max}
use mathlib.Core.Path.{◌≡◌, refl, ap}
use mathlib.Core.Bool.{Bool, true, false, cond}
use native.Mathlib.Nat.{le_trans}
use native.Mathlib.Omega.{arith}
use lib.Dec.{eqb}
use borrow.Author.Tests.{eqb-true}
use Rattle.paper.specs.declared.Clock.{Clock}
use Rattle.paper.specs.declared.Ruling.{Ruling}
use Rattle.paper.specs.declared.Ruling.TheVariants.{KeepOwn, KeepTheirs, Copy, Remove, Conflict}
use Rattle.paper.specs.Columns.{Vec, zeros, greatest, full}
use Rattle.paper.specs.Tree.{end, sheet, folder, mapped, subtree, graft, Sheet, Tree, above, later, greatest_of, least, full_least}
use Rattle.paper.specs.Walk
use Rattle.paper.specs.Walk.{Two, Pair, left, right, raised, rule_at, over, walk}
use Rattle.history.proofs.Summaries.{least_most}
use Rattle.history.proofs.EveryRow.{Every, every_subtree, every_graft, every_above, every_map, every_later}

module _ (count : Vec) where
  abbrev pub Made : Vec → Type 0
  Made f = (j : ℕ) → f j ≤ count j

  -- every floor of a tree
  abbrev pub Early : Tree → Vec → Type 0
  Early t u = Every (λ u s. Made s.floor) Made t u

  -- the floors above don't matter
  pub early_any : (t : Tree) (u u' : Vec) → Early t u → Early t u'
  early_any end u u' e = tt
  early_any (sheet s r) u u' e = (e.0, early_any r u u' e.1)
  early_any (folder f k r) u u' e = (e.0, early_any k (greatest u f) (greatest u' f) e.1, early_any r u u' e.2)

  -- a subtree of such a tree
  pub early_subtree : (t : Tree) (i : ℕ) → Early t zeros → Early (subtree t i) zeros
  early_subtree t i e = early_any (subtree t i) _ zeros (every_subtree (λ u s. Made s.floor) Made t i zeros e)

  -- such a subtree put in
  pub early_graft : (t : Tree) (i : ℕ) (g : Tree) → Early t zeros → Early g zeros → Early (graft t i g) zeros
  early_graft t i g e h = every_graft (λ u s. Made s.floor) Made t i g zeros e (early_any g zeros _ h)

  -- the floors above a row
  pub early_above : (t : Tree) (i : ℕ) → Early t zeros → Made (above t i)
  early_above t i e = every_above (λ u s. Made s.floor) Made (λ j. omega arith) (λ f g p q j. omega (arith, p j, q j)) t i zeros e

  -- so refusals 6 and 7 don't apply
  pub early_later : (c : Clock) → count c.device ≡ c.counter → (t : Tree) → Early t zeros → later c t ≡ false
  early_later c e t h = every_later c t zeros (every_map (λ u s p. omega (arith, p c.device)) (λ f p. omega (arith, p c.device)) t zeros h)

  -- A's clock is right
  module _ (a b : Clock) (right_count : a.counter ≤ count a.device) where
    -- what A knows was made
    pub full_made : (u v : Vec) → Made u → Made v → Made (full a u v)
    full_made u v p q j = go (eqb j a.device) refl
      where
        go : (t : Bool) → eqb j a.device ≡ t → cond t a.counter (max (u j) (v j)) ≤ count j
        go true e = omega (arith, ap count (eqb-true j a.device e))
        go false e = omega (arith, p j, q j)

    -- and so is a floor raised by it
    pub raised_made : (f v : Vec) → Made f → Made v → Made (raised b f v)
    raised_made f v p q j = go (eqb j b.device)
      where
        go : (t : Bool) → cond t 0 (max (f j) (v j)) ≤ count j
        go true = omega arith
        go false = omega (arith, p j, q j)

    greatest_made : (t : Tree) (u : Vec) → Early t u → Made (greatest_of t)
    unfolding greatest_of
    greatest_made end u e j = omega arith
    greatest_made (sheet s r) u e j = omega (arith, e.0 j, greatest_made r u e.1 j)
    greatest_made (folder f k r) u e j = omega (arith, e.0 j, greatest_made k (greatest u f) e.1 j, greatest_made r u e.2 j)

    ruled_made : (ua : Vec) (r : Ruling) (x : Two Sheet) → Made ua → Made x.a.floor → Made x.b.floor → Made (Walk.ruled a b ua r x).floor
    unfolding Walk.ruled
    ruled_made ua KeepOwn x u p q = raised_made x.b.floor (full a ua x.a.floor) q (full_made ua x.a.floor u p)
    ruled_made ua KeepTheirs x u p q = raised_made x.b.floor (full a ua x.a.floor) q (full_made ua x.a.floor u p)
    ruled_made ua Copy x u p q = raised_made x.b.floor (full a ua x.a.floor) q (full_made ua x.a.floor u p)
    ruled_made ua Remove x u p q = raised_made x.b.floor (full a ua x.a.floor) q (full_made ua x.a.floor u p)
    ruled_made ua Conflict x u p q = q

    -- a walk keeps it
    pub walk_early : (w : ℕ) (p : Pair) (ua ub : Vec) → Early (left p) ua → Early (right p) ub → Made ua → Early (walk w a b p ua ub) ub
    unfolding walk mapped
    walk_early w end ua ub s t u = tt
    walk_early w (sheet x r) ua ub s t u = (ruled_made ua (rule_at a b ua ub x) x u s.0 t.0, walk_early w r ua ub s.1 t.1 u)
    walk_early w (folder y k r) ua ub s t u =
        go (over w a b ua ub y k) (walk_early w k (greatest ua y.a) (greatest ub y.b) s.1 t.1 (λ j. omega (arith, u j, s.0 j))) (walk_early w r ua ub s.2 t.2 u)
      where
        low : Made (least y.a (left k))
        low j = omega (arith, least_most (left k) y.a j, s.0 j, greatest_made (left k) (greatest ua y.a) s.1 j)

        go : (c : Bool) → Early (walk w a b k (greatest ua y.a) (greatest ub y.b)) (greatest ub y.b) → Early (walk w a b r ua ub) ub
            → Early (cond c (folder (raised b y.b (full_least a ua y.a (left k))) (right k) (walk w a b r ua ub))
            (folder y.b (walk w a b k (greatest ua y.a) (greatest ub y.b)) (walk w a b r ua ub))) ub
        go true p q = (
          raised_made y.b (full_least a ua y.a (left k)) t.0 (full_made ua (least y.a (left k)) u low),
          early_any (right k) (greatest ub y.b) (greatest ub (raised b y.b (full_least a ua y.a (left k)))) t.1,
          q,
        )
        go false p q = (t.0, p, q)

-- counts only go up
pub early_more : (count count' : Vec) → ((j : ℕ) → count j ≤ count' j) → (t : Tree) (u : Vec) → Early count t u → Early count' t u
early_more count count' h t u e = every_map (λ u s p j. le_trans (p j) (h j)) (λ f p j. le_trans (p j) (h j)) t u e
