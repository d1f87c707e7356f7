-- What the calls in the walk come to: a sheet, a folder that is passed over, a folder that is walked, no rows, and a row
-- with those after it.
use Prim.Native.Nat.{ℕ, suc, ◌+◌, ◌-◌, ◌≤◌, ◌<◌}
use mathlib.Core.Path.{◌≡◌, refl, sym, ap, ap₂, subst, ◌∙◌}
use mathlib.Core.List.{List, [], ◌∷◌, ◌++◌, append-nil}
use mathlib.Core.Bool.{Bool, true, false, cond}
use native.Mathlib.Omega.{arith}
use lib.ListN.{length, take, drop, set}
use lib.Seq.{take_at, drop_at}
use borrow.Rule.Slice.PartMut.{put_mid}
use Rattle.paper.specs.declared.Clock.{Clock}
use Rattle.paper.specs.Columns.{Vec, Narrow, greatest, columns}
use Rattle.paper.specs.Rules.{number_of}
use Rattle.paper.specs.Tree.{end, folder, mapped, size, plus, Sheet, Tree, full_least}
use Rattle.paper.specs.Walk.{Two, Pair, left, right, raised, silent, rule_at, over, walk, answers, looked}
use Rattle.paper.specs.Order.{kind_word, words_of, forest_of}
use Rattle.paper.specs.Words.{wide, floor_of, folder_row, rows_of, tree_words}
use Rattle.laws.proofs.Forests.{mapped_size}
use Rattle.laws.proofs.WrittenRows.{folder_long}
use Rattle.summary.specs.Sums.{stored, mended, Siblings}
use Rattle.summary.proofs.Narrow.{Fine, good_fine, narrow_row, narrow_greatest}
use Rattle.summary.proofs.FolderRows.{folder_says_floor}
use Rattle.leaf.specs.Leaves.{OverDone, over_rows, over_row, ruled_row, sheets_of, silent_at}
use Rattle.leaf.proofs.SilentAnswers.{silent_tree, silent_mapped}
use Rattle.leaf.proofs.TreeSteps.{sheet_number, sheet_step, over_rows_lem, over_step}
use Rattle.walk.specs.Parts.{Single, Fit, RowParts, Passed}
use Rattle.vector.proofs.Parts.{tail_part}
use Rattle.walk.proofs.LentLists.{put_tail}
use Rattle.walk.proofs.SiblingsWalked.{tree_plus, walk_plus, answers_plus, looked_plus}
use Rattle.laws.proofs.GoodTrees.{walk_size}
use Rattle.walk.proofs.PartsCut.{no_rows, Leaf, leaf, Below, below}
use Rattle.walk.proofs.ChildrenWalked.{fine_walk, fine_siblings, fine_mended}

-- one answer
one_answer : (o : List ℕ) (v : ℕ) → length o ≡ 1 → set o 0 v ≡ v ∷ []
one_answer [] v e = absurd (omega arith)
one_answer (x ∷ []) v e = refl
one_answer (x ∷ y ∷ o) v e = absurd (omega arith)

-- the first of many
first_answer : (o : List ℕ) (v : ℕ) → 1 ≤ length o → take 1 (set o 0 v) ≡ v ∷ []
first_answer [] v e = absurd (omega arith)
first_answer (x ∷ o) v e = refl

module _ (w : ℕ) (a b : Clock) (ua ub : Vec) where
  -- A SHEET
  sheet_of_lem : (p : Pair) {s t : List ℕ} (o t' : List ℕ) (v : ℕ) → Leaf w a b ua ub p s t → size p ≡ length o
      → v ≡ number_of (rule_at a b ua ub (sheets_of w s t)) → t' ≡ ruled_row w a b ua (rule_at a b ua ub (sheets_of w s t)) s t → Passed w a b p ua ub t' (set o 0 v) 1
  unfolding walk answers looked size rows_of words_of
  sheet_of_lem p {s} {t} o t' v f n number row =
      let x = f.at in
      let na = f.good_a.floor.narrow in
      let nb = f.good_b.floor.narrow in
      subst (λ (z : Pair). Passed w a b z ua ub t' (set o 0 v) 1) (sym f.whole)
      (record {
        words = row ∙ ap₂ (λ (y z : List ℕ). ruled_row w a b ua (rule_at a b ua ub (sheets_of w y z)) y z) f.source f.target ∙ sheet_step w a b ua ub x na nb [] [];
        answers = one_answer o v (sym n ∙ ap size f.whole)
            ∙ ap (λ (y : ℕ). y ∷ []) (number ∙ ap₂ (λ (y z : List ℕ). number_of (rule_at a b ua ub (sheets_of w y z))) f.source f.target ∙ sheet_number w a b ua ub x na nb [] []);
        looked = refl;
      })

  -- a row whose kind is no folder's
  pub sheet_passed : (p : Pair) {s t : List ℕ} (o t' : List ℕ) (v : ℕ) → Single p → Fit w a b ua ub p s t → (kind_word s ≡ 3 → ⊥) → size p ≡ length o
      → v ≡ number_of (rule_at a b ua ub (sheets_of w s t)) → t' ≡ ruled_row w a b ua (rule_at a b ua ub (sheets_of w s t)) s t → Passed w a b p ua ub t' (set o 0 v) 1
  sheet_passed p o t' v x f h n number row = sheet_of_lem p o t' v (leaf w a b ua ub p x f h) n number row

  module _ (da : a.device < w) (db : b.device < w) (nu : Narrow w ua) where
    -- A FOLDER
    module _ (y : Two Vec) (k : Pair) (na : Narrow w y.a) (nb : Narrow w y.b) (fa : Fine w (left k)) (fb : Fine w (right k)) where
      abbrev row_a : List ℕ
      row_a = folder_row w y.a (left k) ++ tree_words w (left k)

      abbrev row_b : List ℕ
      row_b = folder_row w y.b (right k) ++ tree_words w (right k)

      over_is : (o : Bool) → over_rows w a b ua ub row_a row_b ≡ o → over w a b ua ub y k ≡ o
      unfolding over
      over_is o e =
          sym (over_rows_lem w a b ua ub y (left k) (right k) (narrow_row w y.a (left k) na fa) (narrow_row w y.b (right k) nb fb) (tree_words w (left k)) (tree_words w (right k))) ∙ e

      abbrev lifted : Vec
      lifted = raised b y.b (full_least a ua y.a (left k))

      abbrev va : Vec
      va = greatest ua y.a

      abbrev vb : Vec
      vb = greatest ub y.b

      -- what the definitions say, by the test
      walk_folder : (o : Bool) → over w a b ua ub y k ≡ o → walk w a b (folder y k end) ua ub ≡ cond o (folder lifted (right k) end) (folder y.b (walk w a b k va vb) end)
      unfolding walk
      walk_folder o e = ap (λ (o : Bool). cond o (folder lifted (right k) end) (folder y.b (walk w a b k va vb) end)) e

      answers_folder : (o : Bool) → over w a b ua ub y k ≡ o → answers w a b (folder y k end) ua ub ≡ cond o (5 ∷ silent k ++ []) (4 ∷ answers w a b k va vb ++ [])
      unfolding answers
      answers_folder o e = ap (λ (o : Bool). cond o (5 ∷ silent k ++ []) (4 ∷ answers w a b k va vb ++ [])) e

      looked_folder : (o : Bool) → over w a b ua ub y k ≡ o → looked w a b (folder y k end) ua ub ≡ suc (cond o 0 (looked w a b k va vb) + 0)
      unfolding looked
      looked_folder o e = ap (λ (o : Bool). suc (cond o 0 (looked w a b k va vb) + 0)) e

      folder_words_lem : (f : Vec) (m : Tree) → tree_words w (folder f m end) ≡ folder_row w f m ++ tree_words w m
      unfolding rows_of words_of
      folder_words_lem f m = ap (λ (l : List ℕ). folder_row w f m ++ l) (append-nil (tree_words w m))

      silent_folder : (places : ℕ) → size (folder y k end) ≡ places → columns places (silent_at (wide w) row_a) ≡ 5 ∷ silent k ++ []
      unfolding silent mapped
      silent_folder places n =
          ap₂ (λ (m : ℕ) (l : List ℕ). columns m (silent_at (wide w) l))
          (sym n ∙ sym (mapped_size (λ (x : Two Sheet). x.a) (λ (z : Two Vec). z.a) (folder y k end))) (sym (folder_words_lem y.a (left k)))
          ∙ silent_tree w (left (folder y k end))
          ∙ silent_mapped (λ (x : Two Sheet). x.a) (λ (z : Two Vec). z.a) (folder y k end)

      -- passed over
      over_folder : (t' l o' : List ℕ) → y.b b.device ≡ 0 → over_rows w a b ua ub row_a row_b ≡ true
          → size (folder y k end) ≡ length l → OverDone w a b ua row_a row_b t' l o' → Passed w a b (folder y k end) ua ub t' o' 1
      over_folder t' l o' own e n d =
          let o = over_is true e in
          record {
            words = d.row
                ∙ over_step w a b ua ub y (left k) (right k) (narrow_row w y.a (left k) na fa) (narrow_row w y.b (right k) nb fb) (tree_words w (left k)) (tree_words w (right k)) da db nu own
                ∙ sym (folder_words_lem lifted (right k))
                ∙ ap (tree_words w) (sym (walk_folder true o));
            answers = d.answers ∙ silent_folder (length l) n ∙ sym (answers_folder true o);
            looked = sym (looked_folder true o);
          }

      -- what the walk of the children leaves
      walked_fine : Fine w (walk w a b k va vb)
      walked_fine = fine_walk w a b da db k va vb (narrow_greatest nu na) fa fb

      -- walked: the children's part came back as e, their answers as o₁
      walked_folder : (e o o₁ t' : List ℕ) (l : ℕ) → over_rows w a b ua ub row_a row_b ≡ false → 1 ≤ length o → Passed w a b k va vb e o₁ l
          → t' ≡ mended w (stored w (forest_of (wide w) e)) (folder_row w y.b (right k) ++ e) → Passed w a b (folder y k end) ua ub t' (take 1 (set o 0 4) ++ o₁) (l + 1)
      walked_folder e o o₁ t' l q n d m =
          let W = walk w a b k va vb in
          let so = over_is false q in
          record {
            words = m
                ∙ ap (λ (x : List ℕ). mended w (stored w (forest_of (wide w) x)) (folder_row w y.b (right k) ++ x)) d.words
                ∙ fine_mended w y.b (right k) W nb (mapped_size _ _ k ∙ sym (walk_size w a b k va vb)) walked_fine
                ∙ sym (folder_words_lem y.b W)
                ∙ ap (tree_words w) (sym (walk_folder false so));
            answers = ap₂ (λ (x y : List ℕ). x ++ y) (first_answer o 4 n) (d.answers ∙ sym (append-nil (answers w a b k va vb))) ∙ sym (answers_folder false so);
            looked = ap (λ (x : ℕ). x + 1) d.looked ∙ more (looked w a b k va vb) ∙ sym (looked_folder false so);
          }
        where
          more : (x : ℕ) → x + 1 ≡ suc (x + 0)
          more x = omega arith

    -- the children of a folder are fine
    module _ (p : Pair) {s t : List ℕ} (f : Below w a b ua ub p s t) where
      fine_a : Fine w (left f.children)
      fine_a = good_fine w a (omega arith) (left f.children) (greatest ua f.floors.a) f.fit.good_a

      fine_b : Fine w (right f.children)
      fine_b = good_fine w b (omega arith) (right f.children) (greatest ub f.floors.b) f.fit.good_b

      over_of : (t' l o' : List ℕ) → over_rows w a b ua ub s t ≡ true → size p ≡ length l → OverDone w a b ua s t t' l o' → Passed w a b p ua ub t' o' 1
      over_of t' l o' e n d =
          let y = f.floors in
          let k = f.children in
          subst (λ (z : Pair). Passed w a b z ua ub t' o' 1) (sym f.whole)
          (over_folder y k f.good_a.narrow f.good_b.narrow fine_a fine_b t' l o' f.good_b.own
          (sym (ap₂ (over_rows w a b ua ub) f.source f.target) ∙ e)
          (ap size (sym f.whole) ∙ n)
          (record { answers = d.answers ∙ ap (λ (x : List ℕ). columns (length l) (silent_at (wide w) x)) f.source; row = d.row ∙ ap₂ (over_row w a b ua) f.source f.target }))

      -- the floors below a folder, as its rows say
      floor_a : floor_of w s ≡ f.floors.a
      floor_a = ap (floor_of w) f.source ∙ folder_says_floor w _ f.floors.a _ _ _ _ f.good_a.narrow

      floor_b : floor_of w t ≡ f.floors.b
      floor_b = ap (floor_of w) f.target ∙ folder_says_floor w _ f.floors.b _ _ _ _ f.good_b.narrow

      -- the children's parts as loans state them
      pub fit_below : {ga gb va vb : Vec} → ga ≡ floor_of w s → gb ≡ floor_of w t → va ≡ greatest ua ga → vb ≡ greatest ub gb
          → Fit w a b va vb f.children (take (length s - wide w) (drop (wide w) s)) (take (length t - wide w) (drop (wide w) t))
      fit_below ra rb ea eb =
          rw (tail_part (wide w) s, tail_part (wide w) t, ea, eb, ra, rb, floor_a, floor_b) f.fit

      -- the children's part came back as e, their answers as o₁
      module _ {ga gb va vb : Vec} (e o₁ : List ℕ) (l : ℕ) (ra : ga ≡ floor_of w s) (rb : gb ≡ floor_of w t) (ea : va ≡ greatest ua ga) (eb : vb ≡ greatest ub gb)
          (g : (q : Pair) → Fit w a b va vb q (take (length s - wide w) (drop (wide w) s)) (take (length t - wide w) (drop (wide w) t)) → Passed w a b q va vb e o₁ l) where
        kids : Passed w a b f.children (greatest ua f.floors.a) (greatest ub f.floors.b) e o₁ l
        kids = rw (ea, eb, ra, rb, floor_a, floor_b) at (g f.children (fit_below ra rb ea eb))

        -- the folder's words with them
        back : put_mid (wide w) (length t - wide w) t e ≡ folder_row w f.floors.b (right f.children) ++ e
        back =
            put_tail t e (wide w)
            ∙ ap (λ (x : List ℕ). take (wide w) x ++ e) f.target
            ∙ ap (λ (x : List ℕ). x ++ e) (take_at (folder_row w f.floors.b (right f.children)) (tree_words w (right f.children)) (wide w) (folder_long w _ _ _ _ _))

        beneath_back : drop (wide w) (put_mid (wide w) (length t - wide w) t e) ≡ e
        beneath_back = ap (drop (wide w)) back ∙ drop_at (folder_row w f.floors.b (right f.children)) e (wide w) (folder_long w _ _ _ _ _)

        walked_of : (o t' : List ℕ) → over_rows w a b ua ub s t ≡ false → 1 ≤ length o
            → t' ≡ mended w (stored w (forest_of (wide w) (drop (wide w) (put_mid (wide w) (length t - wide w) t e)))) (put_mid (wide w) (length t - wide w) t e)
            → Passed w a b p ua ub t' (put_mid 1 (length (set o 0 4) - 1) (set o 0 4) o₁) (l + 1)
        walked_of o t' q n m =
            let y = f.floors in
            let k = f.children in
            subst (λ (x : Pair). Passed w a b x ua ub t' (put_mid 1 (length (set o 0 4) - 1) (set o 0 4) o₁) (l + 1)) (sym f.whole)
            (subst (λ (x : List ℕ). Passed w a b (folder y k end) ua ub t' x (l + 1)) (sym (put_tail (set o 0 4) o₁ 1))
            (walked_folder y k f.good_a.narrow f.good_b.narrow fine_a fine_b e o o₁ t' l (sym (ap₂ (over_rows w a b ua ub) f.source f.target) ∙ q) n kids
            (m ∙ ap₂ (λ (x z : List ℕ). mended w (stored w (forest_of (wide w) x)) z) beneath_back back)))

    -- a folder that the test passes over
    pub over_passed : (p : Pair) {s t : List ℕ} {r : Bool} (t' l o' : List ℕ) → Single p → Fit w a b ua ub p s t → kind_word s ≡ 3 → r ≡ over_rows w a b ua ub s t → r ≡ true
        → size p ≡ length l → OverDone w a b ua s t t' l o' → Passed w a b p ua ub t' o' 1
    over_passed p t' l o' x f h r e n d = over_of p (below w a b ua ub p x f h) t' l o' (sym r ∙ e) n d

    -- a folder that the test does not pass over
    pub walked_passed : (p : Pair) {s t : List ℕ} {r : Bool} {ga gb va vb : Vec} (e o o₁ t' : List ℕ) (l : ℕ) → Single p → Fit w a b ua ub p s t → kind_word s ≡ 3
        → r ≡ over_rows w a b ua ub s t → r ≡ false → 1 ≤ length o → ga ≡ floor_of w s → gb ≡ floor_of w t → va ≡ greatest ua ga → vb ≡ greatest ub gb
        → ((q : Pair) → Fit w a b va vb q (take (length s - wide w) (drop (wide w) s)) (take (length t - wide w) (drop (wide w) t)) → Passed w a b q va vb e o₁ l)
        → t' ≡ mended w (stored w (forest_of (wide w) (drop (wide w) (put_mid (wide w) (length t - wide w) t e)))) (put_mid (wide w) (length t - wide w) t e)
        → Passed w a b p ua ub t' (put_mid 1 (length (set o 0 4) - 1) (set o 0 4) o₁) (l + 1)
    walked_passed p e o o₁ t' l x f h r q n ra rb ea eb g m = walked_of p (below w a b ua ub p x f h) e o₁ l ra rb ea eb g o t' (sym r ∙ q) n m

  -- NO ROWS
  words_end : [] ≡ tree_words w (walk w a b end ua ub)
  unfolding walk rows_of words_of
  words_end = refl

  answers_end : [] ≡ answers w a b end ua ub
  unfolding answers
  answers_end = refl

  looked_end : 0 ≡ looked w a b end ua ub
  unfolding looked
  looked_end = refl

  pub end_passed : Passed w a b end ua ub [] [] 0
  end_passed = record { words = words_end; answers = answers_end; looked = looked_end }

  -- nothing is done
  pub none_passed : (p : Pair) {s t : List ℕ} (o : List ℕ) → Fit w a b ua ub p s t → length s ≡ 0 → length o ≡ 0 → Passed w a b p ua ub t o 0
  none_passed p {s} {t} o f e n =
      let h = no_rows w a b ua ub p f e in
      subst (λ (x : Pair). Passed w a b x ua ub t o 0) (sym h.0) (rw (h.1, no_list o n) end_passed)
    where
      no_list : (o : List ℕ) → length o ≡ 0 → o ≡ []
      no_list [] n = refl
      no_list (x ∷ o) n = absurd (omega arith)

  -- A ROW AND THOSE AFTER IT
  pub plus_passed : (h r : Pair) (e₁ e₂ o₁ o₂ : List ℕ) (l₁ l₂ : ℕ) → Passed w a b h ua ub e₁ o₁ l₁ → Passed w a b r ua ub e₂ o₂ l₂ → Passed w a b (plus h r) ua ub (e₁ ++ e₂) (o₁ ++ o₂) (l₁ + l₂)
  plus_passed h r e₁ e₂ o₁ o₂ l₁ l₂ p q = record {
    words = ap₂ (λ (x y : List ℕ). x ++ y) p.words q.words ∙ sym (tree_plus w (walk w a b h ua ub) (walk w a b r ua ub)) ∙ ap (tree_words w) (sym (walk_plus w a b h r ua ub));
    answers = ap₂ (λ (x y : List ℕ). x ++ y) p.answers q.answers ∙ sym (answers_plus w a b h r ua ub);
    looked = ap₂ (λ (x y : ℕ). x + y) p.looked q.looked ∙ sym (looked_plus w a b h r ua ub);
  }

-- the children's rows once they came back as e
pub walked_siblings : (w : ℕ) {a b : Clock} {ua ub : Vec} {s t : List ℕ} {n : ℕ} {ga gb va vb : Vec} (e o₁ : List ℕ) (l : ℕ) → RowParts w a b ua ub s t n → Narrow w ua → kind_word s ≡ 3
    → ga ≡ floor_of w s → gb ≡ floor_of w t → va ≡ greatest ua ga → vb ≡ greatest ub gb
    → ((q : Pair) → Fit w a b va vb q (take (length s - wide w) (drop (wide w) s)) (take (length t - wide w) (drop (wide w) t)) → Passed w a b q va vb e o₁ l)
    → Siblings w (drop (wide w) (put_mid (wide w) (length t - wide w) t e))
walked_siblings w {a} {b} {ua} {ub} e o₁ l r nu h ra rb ea eb g =
    let q = r.parts in
    let z = below w a b ua ub q.pair r.single q.fit h in
    subst (Siblings w) (sym (beneath_back w a b ua ub q.device_a q.device_b nu q.pair z e o₁ l ra rb ea eb g
    ∙ (kids w a b ua ub q.device_a q.device_b nu q.pair z e o₁ l ra rb ea eb g).words))
    (fine_siblings w (walk w a b z.children (greatest ua z.floors.a) (greatest ub z.floors.b))
    (walked_fine w a b ua ub q.device_a q.device_b nu z.floors z.children z.good_a.narrow z.good_b.narrow
    (fine_a w a b ua ub q.device_a q.device_b nu q.pair z) (fine_b w a b ua ub q.device_a q.device_b nu q.pair z)))
