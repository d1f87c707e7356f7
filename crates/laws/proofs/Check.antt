-- The rules of rows: the rows of a good tree pass, and rows that pass are the rows of a good tree.
use Prim.{tt}
use Prim.Native.Nat.{ℕ, suc, ◌+◌, ◌-◌, ◌*◌, ◌≤◌, ◌<◌}
use mathlib.Core.Path.{◌≡◌, refl, sym, ap, ap₂, ◌∙◌}
use mathlib.Core.List.{List, ◌∷◌, ◌++◌}
use mathlib.Core.Bool.{true}
use native.Mathlib.Omega.{arith}
use lib.Dec.{eqb}
use borrow.Author.Tests.{eqb-true, eq-eqb}
use lib.ListN.{length, get_or, take, drop, replicate, length-drop, take-append-drop}
use lib.Seq.{take_all, get_or-take, get_or-drop}
use Rattle.paper.specs.declared.Clock.{Clock}
use Rattle.paper.specs.Columns.{Vec, greatest, full, alike, vec, part, columns}
use Rattle.paper.specs.Tree.{end, sheet, folder, mapped, size, Sheet, Tree, newest, least, most}
use Rattle.paper.specs.Order.{Raw}
use Rattle.paper.specs.Words.{wide, row_of, floor_at, newest_at, least_at, most_at, floor_of, sheet_of, tree_from, sheet_words, folder_words, folder_row, rows_of}
use Rattle.paper.specs.Check.{blank, laid, known, sheet_fits, folder_fits, rows_fit}
use Rattle.paper.specs.Good.{GoodFloor, GoodSheet, Good}
use Rattle.laws.proofs.Bools.{and_both, both_and}
use Rattle.laws.proofs.Columns.{columns_at, alike_at, at_alike, columns_same, columns_part, part_narrow}
use Rattle.laws.proofs.FormedRows.{SheetRow, FolderRow, Formed}
use Rattle.laws.proofs.BlankWords.{zeros_blank, blank_zeros, blank_at, skip, eight}
use Rattle.laws.proofs.Forests.{folder_same, mapped_size}
use Rattle.laws.proofs.WrittenRows.{number_kind, sheet_row, sheet_floor, sheet_rest, row_newest, row_least, row_most, folder_floor, Thin, rows_read}

-- WHAT THE TESTS SAY

pub record SheetFits (w : ℕ) (c : Clock) (u : Vec) (r : List ℕ) : Type 0 where
  pub laid : laid w (row_of r).kind (row_of r) ≡ true
  pub own : floor_of w r c.device ≡ 0
  pub rest : blank (drop (newest_at w) r) ≡ true
  pub known : known (full c u (floor_of w r)) (row_of r).kind (row_of r) ≡ true

pub record FolderFits (w : ℕ) (c : Clock) (r : List ℕ) (k : Tree) : Type 0 where
  pub six : blank (take 6 (drop 2 r)) ≡ true
  pub own : floor_of w r c.device ≡ 0
  pub newest : alike w (part w (newest_at w) r) (newest k) ≡ true
  pub least : alike w (part w (least_at w) r) (least (floor_of w r) k) ≡ true
  pub most : alike w (part w (most_at w) r) (most (floor_of w r) k) ≡ true

module _ (w : ℕ) (c : Clock) where
  pub sheet_facts : (u : Vec) (r : List ℕ) → sheet_fits w c u r ≡ true → SheetFits w c u r
  unfolding sheet_fits
  sheet_facts u r e =
      let a = and_both (laid w (row_of r).kind (row_of r)) _ e in
      let f = and_both (eqb (floor_of w r c.device) 0) _ a.1 in
      let g = and_both (blank (drop (newest_at w) r)) _ f.1 in
      record { laid = a.0; own = eqb-true _ _ f.0; rest = g.0; known = g.1 }

  pub facts_sheet : (u : Vec) (r : List ℕ) → SheetFits w c u r → sheet_fits w c u r ≡ true
  unfolding sheet_fits
  facts_sheet u r f = both_and f.laid (both_and (eq-eqb _ _ f.own) (both_and f.rest f.known))

  pub folder_facts : (r : List ℕ) (k : Tree) → folder_fits w c r k ≡ true → FolderFits w c r k
  unfolding folder_fits
  folder_facts r k e =
      let a = and_both (blank (take 6 (drop 2 r))) _ e in
      let b = and_both (eqb (floor_of w r c.device) 0) _ a.1 in
      let f = and_both (alike w (part w (newest_at w) r) (newest k)) _ b.1 in
      let g = and_both (alike w (part w (least_at w) r) (least (floor_of w r) k)) _ f.1 in
      record { six = a.0; own = eqb-true _ _ b.0; newest = f.0; least = g.0; most = g.1 }

  pub facts_folder : (r : List ℕ) (k : Tree) → FolderFits w c r k → folder_fits w c r k ≡ true
  unfolding folder_fits
  facts_folder r k f = both_and f.six (both_and (eq-eqb _ _ f.own) (both_and f.newest (both_and f.least f.most)))

  -- WHAT IS WRITTEN PASSES

  pub good_thin : (t : Tree) (u : Vec) → Good w c t u → Thin w t
  good_thin end u g = tt
  good_thin (sheet s r) u g = (g.0.floor.narrow, good_thin r u g.1)
  good_thin (folder f k r) u g = (g.0.narrow, good_thin k (greatest u f) g.1, good_thin r u g.2)

  pub sheet_passes : (u : Vec) (s : Sheet) → GoodSheet w c u s → SheetFits w c u (sheet_words w s)
  sheet_passes u s g =
      let r = sheet_row w s in
      let f = sheet_floor w s g.floor.narrow in
      record {
        laid = rw r g.laid;
        own = rw f g.floor.own;
        rest = rw (sheet_rest w s) (zeros_blank (3 * w));
        known = rw (r, f) g.known;
      }

  six : (n : ℕ) (floor newest least most : Vec) → blank (take 6 (drop 2 (folder_words w n floor newest least most))) ≡ true
  unfolding folder_words blank
  six n floor newest least most = refl

  alike_columns : (v : Vec) → alike w (vec (columns w v)) v ≡ true
  alike_columns v = at_alike w (vec (columns w v)) v (λ j h. columns_at w v j h)

  pub folder_passes : (f : Vec) (k : Tree) → GoodFloor w c f → FolderFits w c (folder_row w f k) k
  folder_passes f k g =
      let n = suc (size k) in
      let new = newest k in
      let low = least f k in
      let high = most f k in
      let e = folder_floor w n f new low high g.narrow in
      record {
        six = six n f new low high;
        own = rw e g.own;
        newest = rw (row_newest w n f new low high) (alike_columns new);
        least = rw (row_least w n f new low high, e) (alike_columns low);
        most = rw (row_most w n f new low high, e) (alike_columns high);
      }

  pub rows_pass : (t : Tree) (u : Vec) → Good w c t u → rows_fit w c (rows_of w t) u ≡ true
  unfolding rows_fit rows_of
  rows_pass end u g = refl
  rows_pass (sheet s r) u g = both_and (facts_sheet u (sheet_words w s) (sheet_passes u s g.0)) (rows_pass r u g.1)
  rows_pass (folder f k r) u g =
      both_and (ap (folder_fits w c (folder_row w f k)) (rows_read w k (good_thin k (greatest u f) g.1)) ∙ facts_folder (folder_row w f k) k (folder_passes f k g.0))
      (both_and (ap (λ v. rows_fit w c (rows_of w k) (greatest u v)) (folder_floor w (suc (size k)) f (newest k) (least f k) (most f k) g.0.narrow) ∙ rows_pass k (greatest u f) g.1)
      (rows_pass r u g.2))

  -- WHAT PASSES IS WRITTEN

  sheet_back : (u : Vec) (r : List ℕ) → SheetRow (wide w) r → SheetFits w c u r → sheet_words w (sheet_of w r) ≡ r
  unfolding sheet_words row_of
  sheet_back u r s f =
      let z : length (drop (newest_at w) r) ≡ 3 * w = omega (arith, length-drop (newest_at w) r, s.long) in
      ap₂ (λ x y. x ∷ 1 ∷ get_or r 2 0 ∷ get_or r 3 0 ∷ get_or r 4 0 ∷ get_or r 5 0 ∷ get_or r 6 0 ∷ get_or r 7 0 ∷ y) (number_kind (get_or r 0 0) s.kind)
      (ap₂ ◌++◌ (columns_part w floor_at r (omega (arith, s.long))) (ap (λ n. replicate n 0) (sym z) ∙ sym (blank_zeros (drop (newest_at w) r) f.rest) ∙ skip floor_at w r)
      ∙ take-append-drop w (drop floor_at r))
      ∙ ap (λ x. get_or r 0 0 ∷ x ∷ get_or r 2 0 ∷ get_or r 3 0 ∷ get_or r 4 0 ∷ get_or r 5 0 ∷ get_or r 6 0 ∷ get_or r 7 0 ∷ drop floor_at r) (sym s.one)
      ∙ sym (eight r (omega (arith, s.long)))

  -- a vector's words, where the vector is alike to v
  alike_part : (i : ℕ) (r : List ℕ) (v : Vec) → i + w ≤ length r → alike w (part w i r) v ≡ true → columns w v ≡ take w (drop i r)
  alike_part i r v h a = columns_same w v (part w i r) (record { at = λ j l. sym (alike_at w (part w i r) v a j l) }) ∙ columns_part w i r h

  -- four vectors are what stands after eight words
  four : (r : List ℕ) → length r ≡ wide w → take w (drop floor_at r) ++ (take w (drop (newest_at w) r) ++ (take w (drop (least_at w) r) ++ take w (drop (most_at w) r))) ≡ drop floor_at r
  four r e =
      let p : least_at w ≡ newest_at w + w = omega arith in
      let q : most_at w ≡ least_at w + w = omega arith in
      ap (λ x. take w (drop floor_at r) ++ (take w (drop (newest_at w) r) ++ (take w (drop (least_at w) r) ++ x)))
      (take_all w (drop (most_at w) r) (omega (arith, length-drop (most_at w) r)) ∙ ap (λ z. drop z r) q ∙ skip (least_at w) w r)
      ∙ ap (λ x. take w (drop floor_at r) ++ (take w (drop (newest_at w) r) ++ x)) (take-append-drop w (drop (least_at w) r) ∙ ap (λ z. drop z r) p ∙ skip (newest_at w) w r)
      ∙ ap (λ x. take w (drop floor_at r) ++ x) (take-append-drop w (drop (newest_at w) r) ∙ skip floor_at w r)
      ∙ take-append-drop w (drop floor_at r)

  cons_eight : {a₀ a₁ a₂ a₃ a₄ a₅ a₆ a₇ b₀ b₁ b₂ b₃ b₄ b₅ b₆ b₇ : ℕ} {x y : List ℕ} → a₀ ≡ b₀ → a₁ ≡ b₁ → a₂ ≡ b₂ → a₃ ≡ b₃ → a₄ ≡ b₄ → a₅ ≡ b₅ → a₆ ≡ b₆ → a₇ ≡ b₇ → x ≡ y
      → a₀ ∷ a₁ ∷ a₂ ∷ a₃ ∷ a₄ ∷ a₅ ∷ a₆ ∷ a₇ ∷ x ≡ b₀ ∷ b₁ ∷ b₂ ∷ b₃ ∷ b₄ ∷ b₅ ∷ b₆ ∷ b₇ ∷ y
  cons_eight e₀ e₁ e₂ e₃ e₄ e₅ e₆ e₇ z = cc

  folder_back : (r : List ℕ) (k : Tree) (n : ℕ) → FolderRow (wide w) n r → FolderFits w c r k
      → folder_words w (suc n) (floor_of w r) (newest k) (least (floor_of w r) k) (most (floor_of w r) k) ≡ r
  unfolding folder_words
  folder_back r k n s f =
      let at : (i : ℕ) → i < 6 → 0 ≡ get_or r (2 + i) 0 = λ i h. sym (blank_at (take 6 (drop 2 r)) f.six i) ∙ get_or-take 6 (drop 2 r) i 0 h ∙ get_or-drop 2 r i 0 in
      cons_eight (sym s.kind) (sym s.rows) (at 0 (omega arith)) (at 1 (omega arith)) (at 2 (omega arith)) (at 3 (omega arith)) (at 4 (omega arith)) (at 5 (omega arith))
      (ap₂ ◌++◌ (columns_part w floor_at r (omega (arith, s.long)))
      (ap₂ ◌++◌ (alike_part (newest_at w) r (newest k) (omega (arith, s.long)) f.newest)
      (ap₂ ◌++◌ (alike_part (least_at w) r (least (floor_of w r) k) (omega (arith, s.long)) f.least) (alike_part (most_at w) r (most (floor_of w r) k) (omega (arith, s.long)) f.most)))
      ∙ four r s.long)
      ∙ sym (eight r (omega (arith, s.long)))

  -- rows that fit are the rows of the tree that they write down
  pub rows_back : (lv : ℕ) (f : Raw) (u : Vec) → Formed (wide w) lv f → rows_fit w c f u ≡ true → rows_of w (tree_from w f) ≡ f
  unfolding rows_fit rows_of mapped
  rows_back lv end u g e = refl
  rows_back lv (sheet r s) u g e =
      let a = and_both (sheet_fits w c u r) _ e in
      ap₂ sheet (sheet_back u r g.1 (sheet_facts u r a.0)) (rows_back lv s u g.2 a.1)
  rows_back lv (folder r k s) u g e =
      let a = and_both (folder_fits w c r (tree_from w k)) _ e in
      let b = and_both (rows_fit w c k (greatest u (floor_of w r))) _ a.1 in
      folder_same
      (ap (λ n. folder_words w (suc n) (floor_of w r) (newest (tree_from w k)) (least (floor_of w r) (tree_from w k)) (most (floor_of w r) (tree_from w k))) (mapped_size (sheet_of w) (floor_of w) k)
      ∙ folder_back r (tree_from w k) (size k) g.1 (folder_facts r (tree_from w k) a.0))
      (rows_back (lv - 1) k (greatest u (floor_of w r)) g.2 b.0) (rows_back lv s u g.3 b.1)

  floor_good : (r : List ℕ) → floor_of w r c.device ≡ 0 → GoodFloor w c (floor_of w r)
  floor_good r e = record { narrow = part_narrow w floor_at r; own = e }

  -- and that tree is good
  pub rows_good : (f : Raw) (u : Vec) → rows_fit w c f u ≡ true → Good w c (tree_from w f) u
  unfolding rows_fit mapped
  rows_good end u e = tt
  rows_good (sheet r s) u e =
      let a = and_both (sheet_fits w c u r) _ e in
      let h = sheet_facts u r a.0 in
      (record { floor = floor_good r h.own; laid = h.laid; known = h.known }, rows_good s u a.1)
  rows_good (folder r k s) u e =
      let a = and_both (folder_fits w c r (tree_from w k)) _ e in
      let b = and_both (rows_fit w c k (greatest u (floor_of w r))) _ a.1 in
      (floor_good r (folder_facts r (tree_from w k) a.0).own, rows_good k (greatest u (floor_of w r)) b.0, rows_good s u b.1)
