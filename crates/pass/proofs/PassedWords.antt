-- A pass at the words: what its walk takes for granted of the two tables, and the words afterwards.
use Prim.Native.Nat.{ℕ, zero, suc, ◌+◌, ◌-◌, ◌*◌, ◌≤◌, ◌<◌}
use mathlib.Core.Path.{◌≡◌, refl, sym, ap, ap₂, subst, ◌∙◌}
use mathlib.Core.Bool.{Bool, true, false, cond}
use mathlib.Core.List.{List}
use native.Mathlib.Omega.{arith}
use lib.Dec.{ltb}
use borrow.Author.Tests.{ltb-true, ltb-false}
use lib.ListN.{length, take, drop}
use borrow.Rule.Slice.PartMut.{put_mid}
use Rattle.paper.specs.declared.Clock.{Clock}
use Rattle.paper.specs.Columns.{Vec}
use Rattle.paper.specs.Tree.{Forest, end, sheet, folder, subtree, size, Tree, above}
use Rattle.paper.specs.Walk.{Pair, zip, left, right, walk}
use Rattle.paper.specs.Words.{wide, Table, table_of, written, tree_words}
use Rattle.paper.specs.Calls.{passed, done, two_refused, pair_at, pass_refused, pass_done, pass_of}
use Rattle.laws.proofs.Refusals.{first_both}
use Rattle.laws.proofs.Forests.{shape, shaped_shape, zip_left, zip_right, mapped_size, mapped_subtree, subtree_fits}
use Rattle.laws.proofs.GoodTrees.{walk_shape, walk_size}
use Rattle.laws.proofs.Calls.{pass_accepted, pass_done_lem}
use Rattle.two.proofs.TwoTables.{Paired, paired}
use Rattle.walk.specs.Parts.{Single, one_sheet, one_folder, Fit, RowParts}
use Rattle.walk.specs.Parts as parts
use Rattle.walk.proofs.SiblingsWalked.{looked_size}
use Rattle.walk.proofs.ChildrenWalked.{fine_walk}
use Rattle.mend.proofs.PutInPlace.{There, Changed, there, good, good_there, fine_there, narrow_above, part_there, room_there, put_changed}

-- a row that is there is one row with all beneath it
single_subtree : {X Y : Type 0} (t : Forest X Y) (i : ℕ) → i < size t → Single (subtree t i)
unfolding size subtree
single_subtree end i h = absurd (omega arith)
single_subtree (sheet x r) zero h = one_sheet x
single_subtree (sheet x r) (suc i) h = single_subtree r i (omega arith)
single_subtree (folder y k r) zero h = one_folder y k
single_subtree (folder y k r) (suc i) h = go (ltb i (size k)) refl (single_subtree k i) (single_subtree r (i - size k))
  where
    go : (b : Bool) → ltb i (size k) ≡ b → (i < size k → Single (subtree k i)) → (i - size k < size r → Single (subtree r (i - size k))) → Single (cond b (subtree k i) (subtree r (i - size k)))
    go true e p q = p (ltb-true i (size k) e)
    go false e p q = q (omega (arith, ltb-false i (size k) e))

-- the clocks c and d and the floors u and v above the row, as they were read
pub record Begun (a b : Table) (row : ℕ) (c d : Clock) (u v : Vec) : Type 0 where
  pub source : c ≡ a.clock
  pub target : d ≡ b.clock
  pub above_a : u ≡ above a.tree row
  pub above_b : v ≡ above b.tree row

-- what holds of four things holds of those that equal them
at_four : (F : Clock → Clock → Vec → Vec → Type 0) {c c' d d' : Clock} {u u' v v' : Vec} → c ≡ c' → d ≡ d' → u ≡ u' → v ≡ v' → F c d u v → F c' d' u' v'
at_four F {c} {c'} {d} {d'} {u} {u'} {v} {v'} p q x y h =
    subst (λ (z : Vec). F c' d' u' z) y (subst (λ (z : Vec). F c' d' z v) x (subst (λ (z : Clock). F c' z u v) q (subst (λ (z : Clock). F z d u v) p h)))

-- the rows of the subtree are there on either side
pub record Room (n : ℕ) (s t : List ℕ) (row places : ℕ) : Type 0 where
  pub few : row < 256
  pub small : places ≤ 256
  pub in_source : (row + 1) * n + places * n ≤ length s
  pub in_target : (row + 1) * n + places * n ≤ length t

-- AN ACCEPTED PASS
module _ (w : ℕ) (s t : List ℕ) (row : ℕ) (list : List ℕ) (e : pass_refused w s t row list ≡ 0) where
  abbrev n : ℕ
  n = wide w

  abbrev from : ℕ
  from = (row + 1) * n

  abbrev a : Table
  a = table_of w s

  abbrev b : Table
  b = table_of w t

  abbrev pub both : Pair
  both = pair_at a b row

  pub accepted : Paired w s t row
  unfolding pass_refused
  accepted = paired w s t row (first_both (two_refused w s t row) _ e).0

  source_at : There w s row
  source_at = there w s row accepted.source accepted.in_source

  target_at : There w t row
  target_at = there w t row accepted.target accepted.in_target

  shapes : shape a.tree ≡ shape b.tree
  shapes = shaped_shape a.tree b.tree accepted.shaped

  both_left : left both ≡ subtree a.tree row
  both_left = mapped_subtree _ _ (zip a.tree b.tree) row ∙ ap (λ t. subtree t row) (zip_left a.tree b.tree shapes)

  both_right : right both ≡ subtree b.tree row
  both_right = mapped_subtree _ _ (zip a.tree b.tree) row ∙ ap (λ t. subtree t row) (zip_right a.tree b.tree shapes)

  -- as many rows on either side as the list has places
  size_left : size (subtree a.tree row) ≡ size both
  size_left = ap size (sym both_left) ∙ mapped_size _ _ both

  size_right : size (subtree b.tree row) ≡ size both
  size_right = ap size (sym both_right) ∙ mapped_size _ _ both

  each : size both ≡ length list
  each = sym size_right ∙ sym (pass_accepted w s t row list e).1

  pub single_both : Single both
  single_both =
      single_subtree (zip a.tree b.tree) row
      (omega (arith, target_at.there, ap size (zip_right a.tree b.tree shapes), mapped_size (λ x. x.b) (λ y. y.b) (zip a.tree b.tree)))

  pub pass_room : Room n s t row (length list)
  pass_room =
      let fits = subtree_fits b.tree row target_at.there in
      record {
        few = omega (arith, (good w t row target_at).few, target_at.there);
        small = omega (arith, (good w t row target_at).few, size_right, each);
        in_source = subst (λ (m : ℕ). from + m * n ≤ length s) (size_left ∙ each) (room_there w s row source_at);
        in_target = subst (λ (m : ℕ). from + m * n ≤ length t) (size_right ∙ each) (room_there w t row target_at);
      }

  -- what the walk takes for granted of the parts, as the code cuts them
  module _ {c d : Clock} {u v : Vec} (begun : Begun a b row c d u v) where
    pub pass_fits : Fit w c d u v both (take (from + length list * n - from) (drop from s)) (take (from + length list * n - from) (drop from t))
    pass_fits =
        at_four (λ c d u v. Fit w c d u v both (take (from + length list * n - from) (drop from s)) (take (from + length list * n - from) (drop from t)))
        (sym begun.source) (sym begun.target) (sym begun.above_a) (sym begun.above_b)
        (record {
          good_a = rw both_left (good_there w s row source_at);
          good_b = rw both_right (good_there w t row target_at);
          source = ap (tree_words w) both_left ∙ sym (part_there w s row source_at (length list * n) (ap (λ m. m * n) (size_left ∙ each)));
          target = ap (tree_words w) both_right ∙ sym (part_there w t row target_at (length list * n) (ap (λ m. m * n) (size_right ∙ each)));
        })

    pub pass_begins : RowParts w c d u v (take (from + length list * n - from) (drop from s)) (take (from + length list * n - from) (drop from t)) (length list)
    pass_begins = record {
      parts = record {
        narrow = rw begun.above_a (narrow_above w s row source_at);
        device_a = rw begun.source (good w s row source_at).device;
        device_b = rw begun.target (good w t row target_at).device;
        pair = both;
        fit = pass_fits;
        each = each;
      };
      single = single_both;
    }

    -- A PASS IN PLACE: the part came back walked
    module _ {e' list' : List ℕ} {count : ℕ} (walked : parts.Passed w c d both u v e' list' count) where
      abbrev after : Tree
      after = walk w a.clock b.clock both (above a.tree row) (above b.tree row)

      back : parts.Passed w a.clock b.clock both (above a.tree row) (above b.tree row) e' list' count
      back = at_four (λ c d u v. parts.Passed w c d both u v e' list' count) begun.source begun.target begun.above_a begun.above_b walked

      -- no more rows are looked at than there are
      pub count_few : count ≤ 256
      count_few = omega (arith, back.looked, looked_size w a.clock b.clock both (above a.tree row) (above b.tree row), each, pass_room.small)

      pub pass_changed : Changed w t (put_mid from (from + length list * n - from) t e') row (pass_done w a b row)
      unfolding pass_done
      pass_changed =
          put_changed w t row target_at after (walk_shape w a.clock b.clock both (above a.tree row) (above b.tree row) ∙ ap shape both_right)
          (fine_walk w a.clock b.clock (good w s row source_at).device (good w t row target_at).device both (above a.tree row) (above b.tree row)
          (narrow_above w s row source_at) (rw both_left (fine_there w s row source_at)) (rw both_right (fine_there w t row target_at)))
          (length list * n) e' back.words (ap (λ m. m * n) (walk_size w a.clock b.clock both (above a.tree row) (above b.tree row) ∙ each))

      pub passed_all : (words : List ℕ) → words ≡ written w (pass_done w a b row) → passed (done count) words list' ≡ pass_of w s t row list
      passed_all words q =
          ap₂ (λ (k : ℕ) (z : List ℕ × List ℕ). record { number = 0; count = k; target = z.0; answers = z.1 }) back.looked (ap₂ (λ x y. let z : List ℕ × List ℕ = (x, y) in z) q back.answers)
          ∙ sym (pass_done_lem w s t row list e)
