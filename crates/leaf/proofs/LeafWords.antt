-- What the leaves' calls come to, on the words of a row.
use Prim.Native.Nat.{ℕ, ◌+◌, ◌≤◌}
use mathlib.Core.Path.{◌≡◌, sym, ap, subst, ◌∙◌}
use mathlib.Core.List.{List}
use mathlib.Core.Bool.{Bool, true, false, ◌&&◌, cond}
use native.Mathlib.Omega.{arith}
use lib.ListN.{length, get_or, take, drop, set, length-set}
use borrow.Rule.Slice.PartMut.{put_mid}
use Rattle.paper.specs.declared.Ruling.{Ruling}
use Rattle.paper.specs.declared.Clock.{Clock}
use Rattle.paper.specs.Columns.{Vec, covered, alike, full, part, columns}
use Rattle.paper.specs.Rules.{number_of, takes, joins}
use Rattle.paper.specs.Walk.{raised, rule_at, ruled}
use Rattle.paper.specs.Words.{floor_of, floor_at, newest_at, least_at, most_at}
use Rattle.laws.proofs.Columns.{part_length}
use Rattle.vector.specs.Places.{put}
use Rattle.vector.proofs.Places.{put_back, put_same, length_put}
use Rattle.summary.specs.Sums.{Sums, sums_row, mended}
use Rattle.leaf.specs.Leaves.{Rows, OverDone, taken_from, raised_where, SheetDone, floored, ruled_row, over_rows, over_row}
use Rattle.rules.specs.Judged.{judged}

-- what is said at a width is said at one that equals it
pub rows_at : {v w : ℕ} {s t : List ℕ} {a b : Clock} → w ≡ v → Rows w s t a b → Rows v s t a b
rows_at {s = s} {t = t} {a = a} {b = b} e h = subst (λ k. Rows k s t a b) e h

pub sheet_at : {v w n : ℕ} (a b : Clock) (ua ub : Vec) (s t : List ℕ) {t' : List ℕ} → w ≡ v → SheetDone v a b ua ub s t n t' → SheetDone w a b ua ub s t n t'
sheet_at a b ua ub s t e h = rw e h

pub over_at_lem : {v w : ℕ} (a b : Clock) (ua ub : Vec) (s t : List ℕ) {r : Bool} → w ≡ v → r ≡ over_rows v a b ua ub s t → r ≡ over_rows w a b ua ub s t
over_at_lem a b ua ub s t e h = rw e h

pub folder_at : {v w : ℕ} (a b : Clock) (ua : Vec) (s t : List ℕ) {t' : List ℕ} → w ≡ v → t' ≡ over_row v a b ua s t → t' ≡ over_row w a b ua s t
folder_at a b ua s t e h = rw e h

pub over_done_at : {v w : ℕ} (a b : Clock) (ua : Vec) (s t : List ℕ) {t' l l' : List ℕ} → w ≡ v → OverDone v a b ua s t t' l l' → OverDone w a b ua s t t' l l'
over_done_at a b ua s t {t' = t'} {l = l} {l' = l'} e h = subst (λ k. OverDone k a b ua s t t' l l') (sym e) h

-- words 2 to 7 come back from their loan as those of s
pub took : (s t e : List ℕ) → floor_at ≤ length s → e ≡ take 6 (drop 2 s) → put_mid 2 6 (set t 0 (get_or s 0 0)) e ≡ taken_from s t
unfolding taken_from
took s t e h q =
    put_back 2 6 (set t 0 (get_or s 0 0)) e (ap length q ∙ part_length 6 2 s (omega arith))
    ∙ ap (λ (l : List ℕ). put 2 l (set t 0 (get_or s 0 0))) q

-- the length stays
pub length_taken : (s t : List ℕ) → floor_at ≤ length s → floor_at ≤ length t → length (taken_from s t) ≡ length t
unfolding taken_from
length_taken s t h l =
    length_put 2 (take 6 (drop 2 s)) (set t 0 (get_or s 0 0))
    (omega (arith, part_length 6 2 s (omega arith), length-set t 0 (get_or s 0 0)))
    ∙ length-set t 0 (get_or s 0 0)

module _ (w : ℕ) where
  -- a floor that is written where the answer is yes, and left where it is no
  pub floor_yes : (so : Bool) (c : Clock) (v : Vec) (t : List ℕ) {f g : Vec} {t' : List ℕ} → so ≡ true → f ≡ floor_of w t → g ≡ raised c f v → t' ≡ put floor_at (columns w g) t
      → t' ≡ raised_where w so c v t
  unfolding floored
  floor_yes so c v t y e f q = q ∙ rw (f, e, y)

  pub floor_no : (so : Bool) (c : Clock) (v : Vec) (t : List ℕ) → so ≡ false → floor_at + w ≤ length t → t ≡ raised_where w so c v t
  unfolding floored
  floor_no so c v t y h = rw y (sym (put_same w floor_at t h))

  module _ (a b : Clock) (ua ub : Vec) (s t : List ℕ) where
    -- a sheet: the known times, then the ruling, then the floor, then what stands there
    pub sheet_passed : {ka kb : Vec} {r : Ruling} {n : ℕ} {j k : Bool} {t₁ t₂ : List ℕ} → ka ≡ full a ua (floor_of w s) → kb ≡ full b ub (floor_of w t)
        → r ≡ judged s t ka kb → n ≡ number_of r → j ≡ joins r → k ≡ takes r → t₁ ≡ raised_where w j b ka t → t₂ ≡ cond k (taken_from s t₁) t₁
        → SheetDone w a b ua ub s t n t₂
    unfolding rule_at ruled_row ruled
    sheet_passed e f q m g h p z = (m ∙ rw (q, e, f), z ∙ rw (h, p, g, q, e, f))

    -- a folder: not passed over for A's newest, else for A's level
    pub over_false : {n l : Vec} {r : Bool} → n ≡ part w (newest_at w) s → l ≡ full b ub (part w (least_at w) t) → r ≡ covered w n l → r ≡ false
        → false ≡ over_rows w a b ua ub s t
    unfolding over_rows
    over_false e f q z = sym (ap (λ (x : Bool). x && alike w (full a ua (part w (least_at w) s)) (full a ua (part w (most_at w) s))) (rw (f, e) at (sym q ∙ z)))

    -- the level test decides where the newest is covered
    pub over_level : {n l la ma : Vec} {r o : Bool} → n ≡ part w (newest_at w) s → l ≡ full b ub (part w (least_at w) t) → r ≡ covered w n l → r ≡ true
        → la ≡ full a ua (part w (least_at w) s) → ma ≡ full a ua (part w (most_at w) s) → o ≡ alike w la ma → o ≡ over_rows w a b ua ub s t
    unfolding over_rows
    over_level e f q z x y o =
        o ∙ rw (x, y)
        (sym (ap (λ (x : Bool). x && alike w (full a ua (part w (least_at w) s)) (full a ua (part w (most_at w) s))) (rw (f, e) at (sym q ∙ z))))

    -- its floor is raised, and its summaries are put right
    pub over_row_lem : {l : Vec} {sums : Sums} {t₁ t₂ : List ℕ} → l ≡ full a ua (part w (least_at w) s) → t₁ ≡ floored w (raised b (floor_of w t) l) t
        → sums ≡ sums_row w t₁ → t₂ ≡ mended w sums t₁ → t₂ ≡ over_row w a b ua s t
    unfolding over_row
    over_row_lem e q h p = p ∙ rw (h, q, e)
