-- The sheet at a row of a table, by the row's words, and the ruling and the masks at a row of two tables.
use Prim.Native.Nat.{ℕ, zero, suc, ◌+◌, ◌-◌, ◌*◌, ◌<◌}
use mathlib.Core.Path.{◌≡◌, refl, sym, ap, ap₂, ◌∙◌}
use mathlib.Core.List.{List, [], ◌++◌}
use mathlib.Core.Bool.{Bool, true, false, cond, false≢true}
use mathlib.Core.Option.{Option, none, some, map}
use native.Mathlib.Omega.{arith}
use lib.Dec.{ltb, eqb}
use borrow.Author.Tests.{ltb-true, ltb-false, eq-eqb, ne_eqb, eqb-false}
use lib.ListN.{length, get_or, drop, get_or-append}
use lib.Seq.{get_or-append-add}
use Rattle.paper.specs.Columns.{Vec, full, covers, ahead}
use Rattle.paper.specs.Rules.{ruling}
use Rattle.paper.specs.Tree.{end, sheet, folder, size, subtree, sheet_here, shaped, Sheet, above}
use Rattle.paper.specs.Order.{kind_word, Raw, forest_of}
use Rattle.paper.specs.Walk.{Two, rule_at}
use Rattle.paper.specs.Words.{wide, row_of, floor_of, sheet_of, table_of}
use Rattle.paper.specs.Check.{check_of}
use Rattle.paper.specs.Calls.{Masked, row_at, pair_at, ruling_here, is_folder, ahead_sheet, ahead_here, masks_of}
use Rattle.laws.proofs.FormedRows.{Formed, ordered_formed}
use Rattle.laws.proofs.Forests.{mapped_size}
use Rattle.laws.proofs.Tables.{checked_size, check_facts}
use Rattle.two.proofs.Listed.{listed, length_listed, rows_at, rows_all, word_at}
use Rattle.verdict.proofs.Zipped.{mapped_at, side_left, side_right, ruling_pair, ahead_pair, ruling_folder}

-- no sheet
folder_none : {X : Type 0} (o : Option X) → is_folder o ≡ true → none ≡ o
folder_none none e = refl
folder_none (some x) e = absurd (false≢true e)

-- a row's words, if it is a sheet's
abbrev pub sheet_in : List ℕ → Option (List ℕ)
sheet_in r = cond (eqb (kind_word r) 3) none (some r)

-- the sheet at a row of well-formed rows
listed_at : (n lv : ℕ) (f : Raw) → Formed n lv f → (i : ℕ) → i < size f → sheet_here (subtree f i) ≡ sheet_in (get_or (listed f) i [])
unfolding subtree sheet_here listed size
listed_at n lv end g i h = absurd (omega arith)
listed_at n lv (sheet r s) g zero h = sym (rw (ne_eqb (kind_word r) 3 (omega (arith, g.1.kind))))
listed_at n lv (sheet r s) g (suc i) h = listed_at n lv s g.2 i (omega arith)
listed_at n lv (folder r k s) g zero h = sym (rw (eq-eqb (kind_word r) 3 g.1.kind))
listed_at n lv (folder r k s) g (suc i) h = go (ltb i (size k)) refl (listed_at n (lv - 1) k g.2 i) (listed_at n lv s g.3 (i - size k))
  where
    go : (t : Bool) → ltb i (size k) ≡ t → (i < size k → sheet_here (subtree k i) ≡ sheet_in (get_or (listed k) i []))
        → (i - size k < size s → sheet_here (subtree s (i - size k)) ≡ sheet_in (get_or (listed s) (i - size k) []))
        → sheet_here (cond t (subtree k i) (subtree s (i - size k))) ≡ sheet_in (get_or (listed k ++ listed s) i [])
    go true e p q = p (ltb-true i (size k) e) ∙ ap sheet_in (sym (get_or-append (listed k) (listed s) [] i (omega (arith, length_listed k, ltb-true i (size k) e))))
    go false e p q =
        let l = ltb-false i (size k) e in
        let z : length (listed k) + (i - size k) ≡ i = omega (arith, length_listed k) in
        q (omega arith) ∙ ap sheet_in (sym (get_or-append-add (listed k) (listed s) (i - size k) []) ∙ ap (λ j. get_or (listed k ++ listed s) j []) z)

-- the sheet at a row of a table
module _ (w : ℕ) (t : List ℕ) (e : check_of w t ≡ 0) (row : ℕ) (h : row < get_or t 2 0) where
  pub sheet_row : sheet_here (subtree (table_of w t).tree row) ≡ map (sheet_of w) (sheet_in (row_at w t row))
  unfolding table_of
  sheet_row =
      let c = check_facts w t e in
      let f = forest_of (wide w) (drop (wide w) t) in
      let n : size f ≡ get_or t 2 0 = sym (mapped_size (sheet_of w) (floor_of w) f) ∙ checked_size w t c in
      mapped_at (sheet_of w) (floor_of w) f row
      ∙ ap (map (sheet_of w))
      (listed_at (wide w) 16 f (ordered_formed (wide w) (omega arith) 16 (drop (wide w) t) c.order) row (omega arith)
      ∙ ap (λ l. sheet_in (get_or l row [])) (rows_all w t c) ∙ ap sheet_in (rows_at w t row h))

  -- no sheet where the kind is 3
  pub folder_row_lem : is_folder (sheet_here (subtree (table_of w t).tree row)) ≡ eqb (kind_word (row_at w t row)) 3
  folder_row_lem = ap is_folder sheet_row ∙ go (eqb (kind_word (row_at w t row)) 3)
    where
      go : (b : Bool) → is_folder (map (sheet_of w) (cond b none (some (row_at w t row)))) ≡ b
      go true = refl
      go false = refl

  -- so does the kind word among the table's words
  pub folder_word : eqb (get_or t ((row + 1) * wide w) 0) 3 ≡ is_folder (sheet_here (subtree (table_of w t).tree row))
  folder_word =
      let z : (row + 1) * wide w + 0 ≡ (row + 1) * wide w = omega arith in
      sym (folder_row_lem ∙ ap (λ k. eqb k 3) (word_at w t row 0 (omega arith) ∙ ap (λ i. get_or t i 0) z))

  -- a sheet that is found is what the row's words say
  pub sheet_says : {X : Type 0} (f : X → _) (o : Option X) → sheet_here (subtree (table_of w t).tree row) ≡ map f o → (x : X) → o ≡ some x → f x ≡ sheet_of w (row_at w t row)
  sheet_says f o p x q = go (eqb (kind_word (row_at w t row)) 3) (sym p ∙ sheet_row)
    where
      go : (b : Bool) → map f o ≡ map (sheet_of w) (cond b none (some (row_at w t row))) → f x ≡ sheet_of w (row_at w t row)
      go true r = cc
      go false r = cc

-- THE RULING AT A ROW of two tables of one shape, by the two rows' words and their known times
module _ (w : ℕ) (s t : List ℕ) (p : check_of w s ≡ 0) (q : check_of w t ≡ 0) (row : ℕ) (hs : row < get_or s 2 0) (ht : row < get_or t 2 0)
    (e : shaped (table_of w s).tree (table_of w t).tree ≡ true) where
  pub ruling_none : kind_word (row_at w t row) ≡ 3 → none ≡ ruling_here (table_of w s) (table_of w t) row
  ruling_none k =
      folder_none (ruling_here (table_of w s) (table_of w t) row) (ruling_folder (table_of w s) (table_of w t) row e ∙ folder_row_lem w t q row ht ∙ eq-eqb (kind_word (row_at w t row)) 3 k)

  -- of a sheet, the pair has what the two rows' words say
  pair_some : (kind_word (row_at w t row) ≡ 3 → ⊥) → sheet_here (pair_at (table_of w s) (table_of w t) row) ≡ some (record { a = sheet_of w (row_at w s row); b = sheet_of w (row_at w t row) })
  pair_some k = go (sheet_here (pair_at (table_of w s) (table_of w t) row)) refl
    where
      go : (o : Option (Two Sheet)) → sheet_here (pair_at (table_of w s) (table_of w t) row) ≡ o → o ≡ some (record { a = sheet_of w (row_at w s row); b = sheet_of w (row_at w t row) })
      go none z =
          absurd (false≢true (sym (folder_row_lem w t q row ht ∙ ne_eqb (kind_word (row_at w t row)) 3 k) ∙ ap is_folder (side_right (table_of w s) (table_of w t) row e ∙ ap (map (λ x. x.b)) z)))
      go (some x) z =
          ap₂ (λ (f g : Sheet). some (record { a = f; b = g })) (sheet_says w s p row hs (λ x. x.a) _ (side_left (table_of w s) (table_of w t) row e) x z)
          (sheet_says w t q row ht (λ x. x.b) _ (side_right (table_of w s) (table_of w t) row e) x z)

  -- the known time of the row in either
  abbrev known_in : List ℕ → Vec
  known_in t = full (table_of w t).clock (above (table_of w t).tree row) (floor_of w (row_at w t row))

  module _ (ka kb : Vec) (ea : ka ≡ known_in s) (eb : kb ≡ known_in t) where
    pub ruling_some : (kind_word (row_at w t row) ≡ 3 → ⊥)
        → some (ruling covers (record { row = row_of (row_at w s row); known = ka }) (record { row = row_of (row_at w t row); known = kb })) ≡ ruling_here (table_of w s) (table_of w t) row
    unfolding rule_at
    ruling_some k =
        let rule = rule_at (table_of w s).clock (table_of w t).clock (above (table_of w s).tree row) (above (table_of w t).tree row) in
        sym (ruling_pair (table_of w s) (table_of w t) row e ∙ ap (map rule) (pair_some k)
        ∙ ap₂ (λ f g. some (ruling covers (record { row = row_of (row_at w s row); known = f }) (record { row = row_of (row_at w t row); known = g }))) (sym ea) (sym eb))

    -- THE MASKS there
    pub masks_some : is_folder (ruling_here (table_of w s) (table_of w t) row) ≡ false
        → ◌≡◌ {A = Masked} (record { number = 0; source = ahead w ka kb; target = ahead w kb ka }) (masks_of (ahead_here w (table_of w s) (table_of w t) row))
    unfolding ahead_sheet
    masks_some f =
        let k = eqb-false (kind_word (row_at w t row)) 3 (sym (ruling_folder (table_of w s) (table_of w t) row e ∙ folder_row_lem w t q row ht) ∙ f) in
        let masks = ahead_sheet w (table_of w s).clock (table_of w t).clock (above (table_of w s).tree row) (above (table_of w t).tree row) in
        sym (ap masks_of (ahead_pair (table_of w s) (table_of w t) row e w ∙ ap (map masks) (pair_some k))
        ∙ ap₂ (λ (f g : Vec). record { number = 0; source = ahead w f g; target = ahead w g f }) (sym ea) (sym eb))
