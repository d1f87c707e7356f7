-- How many rows a pass looks at between two tables that are level at the start row: every folder that is walked has a
-- sheet beneath it whose stamp the target doesn't cover.
use Prim.Native.Nat.{ℕ, zero, suc, ◌+◌, ◌-◌, ◌*◌, ◌≤◌, ◌<◌}
use mathlib.Core.Path.{◌≡◌, refl, sym, ap, ap₂, ◌∙◌}
use mathlib.Core.Bool.{Bool, true, false, not, ◌&&◌, cond, false≢true}
use mathlib.Core.Option.{none, some}
use native.Mathlib.Nat.{le_trans, le_refl, mul-add, add-mul, suc-mul, one-mul, mul-le-mul_right, zero-add}
use native.Mathlib.Omega.{arith}
use lib.Dec.{ltb, eqb}
use borrow.Author.Tests.{eqb-true, leb-true, lt-ltb, le-ltb, not-false}
use Rattle.paper.specs.declared.Clock.{Clock}
use Rattle.paper.specs.declared.Stamp.{Stamp}
use Rattle.paper.specs.Columns.{Vec, zeros, greatest, full, covers}
use Rattle.paper.specs.declared.Kind.{Kind}
use Rattle.paper.specs.declared.Kind.TheVariants.{Never as never, Live as live, Removed as removed}
use Rattle.paper.specs.Tree.{end, sheet, folder, mapped, size, levels, Sheet, stamp_vec, newest, greatest_with, smallest_of, greatest_of, least, most, full_least, full_most, level}
use Rattle.paper.specs.Walk.{Two, Pair, left, right, cell, over, looked}
use Rattle.laws.proofs.Bools.{both_and}
use Rattle.laws.proofs.Columns.{alike_at, at_alike, at_covered}
use Rattle.history.specs.Look.{tally, level_first, stamped, unheard, siblings, widest}
use Rattle.history.proofs.Cells.{cell_in}
use Rattle.history.proofs.Summaries.{full_more, Low, low_first, low_rest, low_down, least_most}
use Rattle.history.proofs.Bridge.{left_size, right_size}
use Rattle.history.proofs.AnswerNumbers.{tally_same, tally_plus}

module _ (w : ℕ) (a b : Clock) where
  -- the sheets whose stamp on A's side is not covered on B's
  unfoldable pub fresh : Pair → Vec → Vec → ℕ
  fresh end ua ub = 0
  fresh (sheet x r) ua ub = cond (unheard (some (cell a ua x.a)) (some (cell b ub x.b))) 1 0 + fresh r ua ub
  fresh (folder y k r) ua ub = fresh k (greatest ua y.a) (greatest ub y.b) + fresh r ua ub

  -- they are the rows whose cells say so
  pub fresh_tally : (p : Pair) (ua ub : Vec) → fresh p ua ub ≡ tally (size p) (λ j. unheard (cell_in a (left p) ua j) (cell_in b (right p) ub j))
  unfolding fresh tally size cell_in mapped
  fresh_tally end ua ub = refl
  fresh_tally (sheet x r) ua ub = ap (λ n. cond (unheard (some (cell a ua x.a)) (some (cell b ub x.b))) 1 0 + n) (fresh_tally r ua ub)
  fresh_tally (folder y k r) ua ub =
      ap₂ ◌+◌ (fresh_tally k (greatest ua y.a) (greatest ub y.b) ∙ tally_same (size k) _ _ first) (fresh_tally r ua ub ∙ tally_same (size r) _ _ rest)
      ∙ sym (tally_plus (size k) (size r) (λ j. unheard (cell_in a (left (folder y k r)) ua (suc j)) (cell_in b (right (folder y k r)) ub (suc j))))
      ∙ sym (none_first _)
    where
      first : (j : ℕ) → j < size k
          → unheard (cell_in a (left k) (greatest ua y.a) j) (cell_in b (right k) (greatest ub y.b) j)
          ≡ unheard (cond (ltb j (size (left k))) (cell_in a (left k) (greatest ua y.a) j) (cell_in a (left r) ua (j - size (left k))))
          (cond (ltb j (size (right k))) (cell_in b (right k) (greatest ub y.b) j) (cell_in b (right r) ub (j - size (right k))))
      first j h = rw (left_size k, right_size k, lt-ltb j (size k) h)

      rest : (j : ℕ) → j < size r
          → unheard (cell_in a (left r) ua j) (cell_in b (right r) ub j)
          ≡ unheard (cond (ltb (size k + j) (size (left k))) (cell_in a (left k) (greatest ua y.a) (size k + j)) (cell_in a (left r) ua (size k + j - size (left k))))
          (cond (ltb (size k + j) (size (right k))) (cell_in b (right k) (greatest ub y.b) (size k + j)) (cell_in b (right r) ub (size k + j - size (right k))))
      rest j h = let z : size k + j - size k ≡ j = omega arith in rw (left_size k, right_size k, le-ltb (size k + j) (size k) (omega arith), z)

      none_first : (n : ℕ) → cond (unheard none none) 1 0 + n ≡ n
      none_first n = unfold unheard in (zero-add n)

  -- a stamp that is covered is at most what B knows
  heard_stamp : (k : Kind) (s : Stamp) (v M : Vec) → ((j : ℕ) → j < w → v j ≤ M j) → (stamped k && not (covers v s)) ≡ false → (j : ℕ) → j < w → stamp_vec k s j ≤ M j
  unfolding stamped stamp_vec
  heard_stamp never s v M h e j l = omega arith
  heard_stamp live s v M h e j l = go (eqb j s.device) refl
    where
      go : (t : Bool) → eqb j s.device ≡ t → cond t s.count 0 ≤ M j
      go true q = omega (arith, leb-true s.count (v s.device) (not-false _ e), h j l, ap v (eqb-true j s.device q))
      go false q = omega arith
  heard_stamp removed s v M h e j l = go (eqb j s.device) refl
    where
      go : (t : Bool) → eqb j s.device ≡ t → cond t s.count 0 ≤ M j
      go true q = omega (arith, leb-true s.count (v s.device) (not-false _ e), h j l, ap v (eqb-true j s.device q))
      go false q = omega arith

  none_fresh : (t : Bool) (n : ℕ) → cond t 1 0 + n ≡ 0 → (t ≡ false) × (n ≡ 0)
  none_fresh true n e = absurd (omega arith)
  none_fresh false n e = (refl, omega arith)

  -- where no stamp is fresh and B's sheets know at most M, newest is at most M
  newest_heard : (p : Pair) (ua ub M : Vec) → ((j : ℕ) → j < w → full b ub (greatest_of (right p)) j ≤ M j) → fresh p ua ub ≡ 0 → (j : ℕ) → j < w → newest (left p) j ≤ M j
  unfolding fresh newest greatest_of mapped unheard
  newest_heard end ua ub M h e j l = omega arith
  newest_heard (sheet x r) ua ub M h e j l =
      let f = none_fresh _ (fresh r ua ub) e in
      let s = heard_stamp x.a.row.kind x.a.row.stamp (full b ub x.b.floor) M
      (λ i m. le_trans (full_more b ub ub x.b.floor (greatest x.b.floor (greatest_of (right r))) i (omega arith)) (h i m)) f.0 j l in
      let t = newest_heard r ua ub M (λ i m. le_trans (full_more b ub ub (greatest_of (right r)) (greatest x.b.floor (greatest_of (right r))) i (omega arith)) (h i m)) f.1 j l in
      omega arith
  newest_heard (folder y k r) ua ub M h e j l =
      let s = newest_heard k (greatest ua y.a) (greatest ub y.b) M
      (λ i m. le_trans (full_more b (greatest ub y.b) ub (greatest_of (right k)) (greatest (greatest y.b (greatest_of (right k))) (greatest_of (right r))) i (omega arith)) (h i m))
      (omega arith) j l in
      let t = newest_heard r ua ub M (λ i m. le_trans (full_more b ub ub (greatest_of (right r)) (greatest (greatest y.b (greatest_of (right k))) (greatest_of (right r))) i (omega arith)) (h i m))
      (omega arith) j l in
      omega arith

  -- siblings that all know L on A's side and M on B's, in w columns
  pub record Even (p : Pair) (L M ua ub : Vec) : Type 0 where
    pub most_a : (j : ℕ) → j < w → full a ua (greatest_of (left p)) j ≤ L j
    pub least_a : Low a L ua (smallest_of (left p))
    pub most_b : (j : ℕ) → j < w → full b ub (greatest_of (right p)) j ≤ M j
    pub least_b : Low b M ub (smallest_of (right p))

  even_rest : (x : Two Sheet) (r : Pair) (L M ua ub : Vec) → Even (sheet x r) L M ua ub → Even r L M ua ub
  unfolding greatest_of smallest_of mapped
  even_rest x r L M ua ub e = record {
    most_a = λ j l. le_trans (full_more a ua ua (greatest_of (left r)) (greatest x.a.floor (greatest_of (left r))) j (omega arith)) (e.most_a j l);
    least_a = low_rest a L ua x.a.floor (smallest_of (left r)) e.least_a;
    most_b = λ j l. le_trans (full_more b ub ub (greatest_of (right r)) (greatest x.b.floor (greatest_of (right r))) j (omega arith)) (e.most_b j l);
    least_b = low_rest b M ub x.b.floor (smallest_of (right r)) e.least_b;
  }

  module _ (y : Two Vec) (k r : Pair) (L M ua ub : Vec) (e : Even (folder y k r) L M ua ub) where
    even_after : Even r L M ua ub
    unfolding greatest_of smallest_of mapped
    even_after = record {
      most_a = λ j l. le_trans (full_more a ua ua (greatest_of (left r)) (greatest (greatest y.a (greatest_of (left k))) (greatest_of (left r))) j (omega arith)) (e.most_a j l);
      least_a = low_rest a L ua (greatest_with y.a (smallest_of (left k))) (smallest_of (left r)) e.least_a;
      most_b = λ j l. le_trans (full_more b ub ub (greatest_of (right r)) (greatest (greatest y.b (greatest_of (right k))) (greatest_of (right r))) j (omega arith)) (e.most_b j l);
      least_b = low_rest b M ub (greatest_with y.b (smallest_of (right k))) (smallest_of (right r)) e.least_b;
    }

    even_down : Even k L M (greatest ua y.a) (greatest ub y.b)
    unfolding greatest_of smallest_of mapped
    even_down = record {
      most_a = λ j l. le_trans (full_more a (greatest ua y.a) ua (greatest_of (left k)) (greatest (greatest y.a (greatest_of (left k))) (greatest_of (left r))) j (omega arith)) (e.most_a j l);
      least_a = low_down a L ua y.a (smallest_of (left k)) (low_first a L ua (greatest_with y.a (smallest_of (left k))) (smallest_of (left r)) e.least_a);
      most_b = λ j l. le_trans (full_more b (greatest ub y.b) ub (greatest_of (right k)) (greatest (greatest y.b (greatest_of (right k))) (greatest_of (right r))) j (omega arith)) (e.most_b j l);
      least_b = low_down b M ub y.b (smallest_of (right k)) (low_first b M ub (greatest_with y.b (smallest_of (right k))) (smallest_of (right r)) e.least_b);
    }

    -- a folder with no fresh stamp beneath it is passed over
    quiet_over : fresh k (greatest ua y.a) (greatest ub y.b) ≡ 0 → over w a b ua ub y k ≡ true
    unfolding over level greatest_of smallest_of mapped
    quiet_over f =
        both_and
        (at_covered w (newest (left k)) (full_least b ub y.b (right k))
        (λ j l. le_trans (newest_heard k (greatest ua y.a) (greatest ub y.b) M even_down.most_b f j l) (low_first b M ub (least y.b (right k)) (smallest_of (right r)) e.least_b j)))
        (at_alike w (full_least a ua y.a (left k)) (full_most a ua y.a (left k))
        (λ j l.
        omega (
          arith,
          full_more a ua ua (least y.a (left k)) (most y.a (left k)) j (omega (arith, least_most (left k) y.a j)),
          low_first a L ua (least y.a (left k)) (smallest_of (left r)) e.least_a j,
          e.most_a j l,
          full_more a ua ua (most y.a (left k)) (greatest (most y.a (left k)) (greatest_of (left r))) j (omega arith),
        )))

    walked_fresh : over w a b ua ub y k ≡ false → 1 ≤ fresh k (greatest ua y.a) (greatest ub y.b)
    walked_fresh q = go (fresh k (greatest ua y.a) (greatest ub y.b)) refl
      where
        go : (n : ℕ) → fresh k (greatest ua y.a) (greatest ub y.b) ≡ n → 1 ≤ n
        go zero f = absurd (false≢true (sym q ∙ quiet_over f))
        go (suc n) f = omega arith

  no_levels : (p : Pair) (ua ub : Vec) → levels p ≤ 0 → looked w a b p ua ub ≡ 0
  unfolding levels looked
  no_levels end ua ub h = refl
  no_levels (sheet x r) ua ub h = absurd (omega arith)
  no_levels (folder y k r) ua ub h = absurd (omega arith)

  -- W children of each of n folders on the way: sums of products
  more_rows : (n W e : ℕ) → 1 ≤ n → W + n * (e * W) ≤ n * (suc e * W)
  more_rows n W e h =
      let p : n * (suc e * W) ≡ n * (e * W) + n * W = ap (λ z. n * z) (suc-mul e W) ∙ mul-add n (e * W) W in
      let q : 1 * W ≤ n * W = mul-le-mul_right W h in
      omega (arith, one-mul W)

  -- THE BOUND, for siblings of at most e + 1 levels
  pub bound : (p : Pair) (e W : ℕ) (L M ua ub : Vec) → levels p ≤ suc e → widest p ≤ W → Even p L M ua ub → looked w a b p ua ub ≤ siblings p + fresh p ua ub * (e * W)
  unfolding looked siblings fresh levels widest
  bound end e W L M ua ub hl hw v = omega arith
  bound (sheet x r) e W L M ua ub hl hw v =
      let n : ℕ = cond (unheard (some (cell a ua x.a)) (some (cell b ub x.b))) 1 0 in
      omega (arith, bound r e W L M ua ub (omega arith) hw (even_rest x r L M ua ub v), add-mul n (fresh r ua ub) (e * W))
  bound (folder y k r) e W L M ua ub hl hw v =
      go (over w a b ua ub y k) refl e (omega arith)
      (λ d l. bound k d W L M (greatest ua y.a) (greatest ub y.b) l (omega arith) (even_down y k r L M ua ub v))
      (bound r e W L M ua ub (omega arith) (omega arith) (even_after y k r L M ua ub v))
    where
      go : (t : Bool) → over w a b ua ub y k ≡ t → (e : ℕ) → levels k ≤ e
          → ((d : ℕ) → levels k ≤ suc d → looked w a b k (greatest ua y.a) (greatest ub y.b) ≤ siblings k + fresh k (greatest ua y.a) (greatest ub y.b) * (d * W))
          → looked w a b r ua ub ≤ siblings r + fresh r ua ub * (e * W)
          → suc (cond t 0 (looked w a b k (greatest ua y.a) (greatest ub y.b)) + looked w a b r ua ub)
          ≤ suc (siblings r) + (fresh k (greatest ua y.a) (greatest ub y.b) + fresh r ua ub) * (e * W)
      go true q e l hk hr = omega (arith, add-mul (fresh k (greatest ua y.a) (greatest ub y.b)) (fresh r ua ub) (e * W))
      go false q zero l hk hr = omega (arith, no_levels k (greatest ua y.a) (greatest ub y.b) l, add-mul (fresh k (greatest ua y.a) (greatest ub y.b)) (fresh r ua ub) (0 * W))
      go false q (suc d) l hk hr =
          omega (
            arith,
            hk d l,
            add-mul (fresh k (greatest ua y.a) (greatest ub y.b)) (fresh r ua ub) (suc d * W),
            more_rows (fresh k (greatest ua y.a) (greatest ub y.b)) W d (walked_fresh y k r L M ua ub v q),
          )

  -- a row that is level on both sides
  pub row_bound : (p : Pair) (W : ℕ) (ua ub : Vec) → siblings p ≤ 1 → level_first w a ua (left p) ≡ true → level_first w b ub (right p) ≡ true → widest p ≤ W
      → looked w a b p ua ub ≤ 1 + fresh p ua ub * ((levels p - 1) * W)
  unfolding level_first level siblings mapped
  row_bound end W ua ub h la lb hw = unfold looked in omega arith
  row_bound (sheet x end) W ua ub h la lb hw =
      unfold siblings in (bound (sheet x end) (levels (sheet x end) - 1) W (full a ua x.a.floor) (full b ub x.b.floor) ua ub (omega arith) hw even)
    where
      even : Even (sheet x end) (full a ua x.a.floor) (full b ub x.b.floor) ua ub
      even = unfold greatest_of smallest_of mapped in (record {
        most_a = λ j l. full_more a ua ua (greatest x.a.floor zeros) x.a.floor j (omega arith);
        least_a = λ j. le_refl _;
        most_b = λ j l. full_more b ub ub (greatest x.b.floor zeros) x.b.floor j (omega arith);
        least_b = λ j. le_refl _;
      })
  row_bound (sheet x (sheet z r)) W ua ub h la lb hw = absurd (omega arith)
  row_bound (sheet x (folder z k r)) W ua ub h la lb hw = absurd (omega arith)
  row_bound (folder y k end) W ua ub h la lb hw =
      unfold siblings in (bound (folder y k end) (levels (folder y k end) - 1) W (full_least a ua y.a (left k)) (full_least b ub y.b (right k)) ua ub (omega arith) hw even)
    where
      even : Even (folder y k end) (full_least a ua y.a (left k)) (full_least b ub y.b (right k)) ua ub
      even = unfold greatest_of smallest_of mapped in (record {
        most_a = λ j l. omega (
          arith,
          full_more a ua ua (greatest (most y.a (left k)) zeros) (most y.a (left k)) j (omega arith),
          alike_at w (full_least a ua y.a (left k)) (full_most a ua y.a (left k)) la j l,
        );
        least_a = λ j. le_refl _;
        most_b = λ j l. omega (
          arith,
          full_more b ub ub (greatest (most y.b (right k)) zeros) (most y.b (right k)) j (omega arith),
          alike_at w (full_least b ub y.b (right k)) (full_most b ub y.b (right k)) lb j l,
        );
        least_b = λ j. le_refl _;
      })
  row_bound (folder y k (sheet z r)) W ua ub h la lb hw = absurd (omega arith)
  row_bound (folder y k (folder z l r)) W ua ub h la lb hw = absurd (omega arith)
