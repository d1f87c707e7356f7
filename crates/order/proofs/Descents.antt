-- From a row to the row of a part that is looked for: beneath the first row, or after it.
use Prim.Native.Nat.{ℕ, zero, suc, ◌-◌, ◌≤◌, ◌<◌}
use mathlib.Core.Path.{◌≡◌, refl, sym, ap, ◌∙◌, fun_ext}
use mathlib.Core.List.{List}
use mathlib.Core.Bool.{Bool, true, false}
use native.Mathlib.Omega.{arith}
use native.Mathlib.Nat.{suc-mul}
use lib.Dec.{eqb, ltb}
use borrow.Author.Tests.{eq-eqb, eqb-true, eqb-false, ltb-true, lt-ltb}
use lib.ListN.{length, take}
use Rattle.paper.specs.Columns.{Vec, greatest}
use Rattle.paper.specs.Tree.{folder, mapped, size, above}
use Rattle.paper.specs.Order.{kind_word, size_word, beneath, after, ordered, Raw, placed, forest_of}
use Rattle.paper.specs.Words.{wide, sheet_of, floor_of, tree_from, tree_of}
use Rattle.laws.proofs.Order.{Step, ordered_facts, forest_step, beneath_length, row_room}
use Rattle.laws.proofs.FormedRows.{formed_length, cancel, ordered_formed, ordered_words}
use Rattle.laws.proofs.Forests.{mapped_size}
use Rattle.vector.proofs.Places.{part_first}

-- not below: the test says so
pub not_below : (i n : ℕ) → n ≤ i → ltb i n ≡ false
not_below i n h = go (ltb i n) refl
  where
    go : (b : Bool) → ltb i n ≡ b → b ≡ false
    go true e = absurd (omega (arith, ltb-true i n e))
    go false e = refl

module _ (n : ℕ) (wide : 1 < n) (lv : ℕ) (t : List ℕ) (h : 0 < length t) (e : ordered n lv t ≡ true) where
  step : Step n (omega arith) lv t
  step = ordered_facts n (omega arith) lv t h e

  -- the rows beneath the first, one fewer than its size
  pub under_size : suc (size (forest_of n (beneath n t))) ≡ size_word t
  under_size =
      let k = forest_of n (beneath n t) in
      let f = step.fits in
      let l = formed_length n (lv - 1) k (ordered_formed n wide (lv - 1) (beneath n t) step.beneath) in
      let e = ap length (ordered_words n wide (lv - 1) (beneath n t) step.beneath) in
      cancel n (omega arith) (suc (size k)) (size_word t) (suc-mul (size k) n ∙ omega (arith, l, e, beneath_length n lv t f, row_room n lv t f))

  -- a row beneath the first: the first is a folder
  pub folder_kind : 1 < size_word t → kind_word t ≡ 3
  folder_kind l = go (eqb (kind_word t) 3) refl
    where
      go : (b : Bool) → eqb (kind_word t) 3 ≡ b → kind_word t ≡ 3
      go true q = eqb-true _ _ q
      go false q = absurd (omega (arith, step.fits.sheet (eqb-false _ _ q), l))

  pub folder_here : 1 < size_word t → forest_of n t ≡ folder (take n t) (forest_of n (beneath n t)) (forest_of n (after n t))
  folder_here l = forest_step n (omega arith) lv t h e ∙ rw (eq-eqb _ _ (folder_kind l))

-- ABOVE

above_past : (w : ℕ) (b : Bool) (r : List ℕ) (k s : Raw) (i : ℕ) → (b ≡ false → size k ≡ 0) → suc (size k) ≤ i
    → above (tree_from w (placed b r k s)) i ≡ above (tree_from w s) (i - suc (size k))
unfolding above mapped
above_past w true r k s zero z l = absurd (omega arith)
above_past w true r k s (suc i) z l =
    let q = mapped_size (sheet_of w) (floor_of w) k in
    let a : i - size (tree_from w k) ≡ suc i - suc (size k) = omega arith in
    rw (not_below i (size (tree_from w k)) (omega arith)) (ap (above (tree_from w s)) a)
above_past w false r k s zero z l = absurd (omega arith)
above_past w false r k s (suc i) z l = let a : i ≡ suc i - suc (size k) = omega (arith, z refl) in ap (above (tree_from w s)) a

module _ (w lv : ℕ) (t : List ℕ) (h : 0 < length t) (e : ordered (wide w) lv t ≡ true) (u : Vec) where
  pub above_first : u ≡ greatest u (above (tree_of w t) 0)
  unfolding above mapped
  above_first = rw (forest_step (wide w) (omega arith) lv t h e) (go (eqb (kind_word t) 3))
    where
      go : (b : Bool) → u ≡ greatest u (above (tree_from w (placed b (take (wide w) t) (forest_of (wide w) (beneath (wide w) t)) (forest_of (wide w) (after (wide w) t)))) 0)
      go true = fun_ext (λ j. omega arith)
      go false = fun_ext (λ j. omega arith)

  pub above_under : (i : ℕ) → 0 < i → i < size_word t → greatest (greatest u (floor_of w t)) (above (tree_of w (beneath (wide w) t)) (i - 1)) ≡ greatest u (above (tree_of w t) i)
  unfolding above mapped
  above_under zero p l = absurd (omega arith)
  above_under (suc i) p l =
      let k = forest_of (wide w) (beneath (wide w) t) in
      let s = under_size (wide w) (omega arith) lv t h e in
      let m = mapped_size (sheet_of w) (floor_of w) k in
      let z : suc i - 1 ≡ i = omega arith in
      rw (folder_here (wide w) (omega arith) lv t h e (omega arith), lt-ltb i (size (tree_from w k)) (omega arith), part_first w (wide w) 8 t (omega arith), z)
      (fun_ext (λ j. omega arith))

  pub above_later : (i : ℕ) → size_word t ≤ i → above (tree_of w (after (wide w) t)) (i - size_word t) ≡ above (tree_of w t) i
  above_later i l =
      let n = wide w in
      let k = forest_of n (beneath n t) in
      let s = under_size n (omega arith) lv t h e in
      sym (ap (λ f. above (tree_from w f) i) (forest_step n (omega arith) lv t h e)
      ∙ above_past w (eqb (kind_word t) 3) (take n t) k (forest_of n (after n t)) i
      (λ b. omega (arith, s, (ordered_facts n (omega arith) lv t h e).fits.sheet (eqb-false _ _ b))) (omega arith)
      ∙ ap (λ z. above (tree_of w (after n t)) (i - z)) s)
