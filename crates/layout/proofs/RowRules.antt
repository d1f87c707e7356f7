-- A row's rules: the layout of a live row, the columns that its stamps name, and what its floor covers.
use Prim.Native.Nat.{ℕ, ◌+◌, ◌<◌, max}
use native.Mathlib.Omega.{arith}
use mathlib.Core.Path.{◌≡◌, refl, sym, ap, ap₂, ◌∙◌}
use mathlib.Core.List.{List}
use mathlib.Core.Bool.{Bool, true, false, ◌&&◌}
use lib.Dec.{leb}
use borrow.Author.Tests.{eq-eqb, ne_eqb, ltb-true, le-leb, lt-leb, leb-true, leb-false}
use lib.ListN.{get_or, drop}
use lib.Seq.{get_or-take, get_or-drop}
use Rattle.paper.specs.declared.Clock.{Clock}
use Rattle.paper.specs.declared.Stamp.{Stamp}
use Rattle.paper.specs.declared.Content.{Content}
use Rattle.paper.specs.Columns.{Vec, full, covers, part}
use Rattle.paper.specs.declared.Kind.TheVariants.{Live as live}
use Rattle.paper.specs.Words.{floor_at, kind_of, row_of, floor_of}
use Rattle.paper.specs.Check.{proper, content_fits, laid}
use Rattle.laws.proofs.Bools.{and_both}
use Rattle.summary.proofs.Narrow.{laid_device}

-- a kind word of 1
module _ (r : List ℕ) where
  kind_live : get_or r 0 0 ≡ 1 → (row_of r).kind ≡ live
  unfolding row_of kind_of
  kind_live h = rw (eq-eqb _ _ h)

  -- the layout by the kind word, and by the stamp, the birth and the content that were read
  pub laid_live : (w : ℕ) (s b : Stamp) (m : Content) → get_or r 0 0 ≡ 1 → s ≡ (row_of r).stamp → b ≡ (row_of r).birth → m ≡ (row_of r).content
      → laid w (row_of r).kind (row_of r) ≡ (proper w s && (proper w b && content_fits m))
  unfolding laid
  laid_live w s b m h p q z =
      ap (λ k. laid w k (row_of r)) (kind_live h) ∙ ap₂ (λ x y. proper w x && (proper w y && content_fits (row_of r).content)) (sym p) (sym q)
      ∙ ap (λ y. proper w s && (proper w b && content_fits y)) (sym z)

-- what is above the first of two is at most their greatest where it is at most the second
leb_max : (n a b : ℕ) → a < n → leb n (max a b) ≡ leb n b
leb_max n a b h = go (leb n b) refl
  where
    go : (t : Bool) → leb n b ≡ t → leb n (max a b) ≡ t
    go true e = le-leb n (max a b) (omega (arith, leb-true n b e))
    go false e = lt-leb n (max a b) (omega (arith, leb-false n b e))

-- a column of a row's floor is one of its words
pub floor_word : (w : ℕ) (r : List ℕ) (d : ℕ) → d < w → floor_of w r d ≡ get_or r (floor_at + d) 0
unfolding part
floor_word w r d h = get_or-take w (drop floor_at r) d 0 h ∙ get_or-drop floor_at r d 0

-- a row that is laid out as its kind says names columns in its stamp and in its birth
module _ (w : ℕ) (r : List ℕ) (e : laid w (row_of r).kind (row_of r) ≡ true) where
  pub stamp_column : 0 < w → (row_of r).stamp.device < w
  stamp_column h = laid_device w (row_of r).kind (row_of r) h e

  pub birth_column : get_or r 0 0 ≡ 1 → (row_of r).birth.device < w
  unfolding proper
  birth_column k =
      let a = and_both (proper w (row_of r).stamp) _ (sym (laid_live r w (row_of r).stamp (row_of r).birth (row_of r).content k refl refl refl) ∙ e) in
      ltb-true _ _ (and_both _ _ (and_both (proper w (row_of r).birth) _ a.1).0).0

-- a stamp of another device that the floors u above don't cover is covered by the known time of the row r where its floor covers it
pub covers_floor : (w : ℕ) (c : Clock) (u : Vec) (r : List ℕ) (s : Stamp) → (s.device ≡ c.device → ⊥) → s.device < w → u s.device < s.count
    → covers (full c u (floor_of w r)) s ≡ leb s.count (get_or r (floor_at + s.device) 0)
covers_floor w c u r s other d l =
    rw (ne_eqb _ _ other) (leb_max s.count (u s.device) (floor_of w r s.device) l ∙ ap (leb s.count) (floor_word w r s.device d))
