-- Going down to a row of a table that fits: the floors gathered so far, and the siblings among which the row still is.
use Prim.Native.Nat.{ℕ, ◌-◌, ◌*◌, ◌≤◌, ◌<◌}
use mathlib.Core.Path.{◌≡◌, sym, ap, subst, ◌∙◌, fun_ext}
use mathlib.Core.Bool.{true}
use mathlib.Core.List.{List}
use native.Mathlib.Omega.{arith}
use lib.ListN.{length, get_or, take, drop, length-drop}
use Rattle.paper.specs.Columns.{Vec, zeros, greatest, part}
use Rattle.paper.specs.Tree.{above}
use Rattle.paper.specs.Order.{size_word, beneath, after, ordered}
use Rattle.paper.specs.Words.{wide, floor_at, floor_of, tree_of, table_of}
use Rattle.paper.specs.Check.{check_of}
use Rattle.laws.proofs.Tables.{check_facts}
use Rattle.laws.proofs.Order.{Step, ordered_facts, row_room, beneath_length, after_length}
use Rattle.order.proofs.Descents.{above_first, above_under, above_later}
use Rattle.order.proofs.RowPlaces.{begins, row_under, row_after}
use Rattle.vector.proofs.Parts.{tail_part}

-- the siblings among which the row is, `left` rows on
pub record Down (w : ℕ) (t : List ℕ) (row : ℕ) (u : Vec) (s : List ℕ) (left : ℕ) : Type 0 where
  pub levels : ℕ
  pub order : ordered (wide w) levels s ≡ true
  pub there : left * wide w < length s
  pub gathered : above (table_of w t).tree row ≡ greatest u (above (tree_of w s) left)
  pub room : wide w ≤ length s
  pub some : 1 ≤ get_or s 1 0
  pub long : wide w ≤ get_or s 1 0 * wide w
  pub fits : get_or s 1 0 * wide w ≤ length s

module _ (w : ℕ) (t : List ℕ) (row : ℕ) where
  down : (u : Vec) (s : List ℕ) (left lv : ℕ) → ordered (wide w) lv s ≡ true → left * wide w < length s
      → above (table_of w t).tree row ≡ greatest u (above (tree_of w s) left) → Down w t row u s left
  down u s left lv e l g =
      let q = ordered_facts (wide w) (omega arith) lv s (omega arith) e in
      let r = row_room (wide w) lv s q.fits in
      record {
        levels = lv;
        order = e;
        there = l;
        gathered = g;
        room = omega (arith, r, q.fits.room);
        some = q.fits.some;
        long = r;
        fits = q.fits.room;
      }

  module _ (u : Vec) (s : List ℕ) (left : ℕ) (d : Down w t row u s left) where
    abbrev n : ℕ
    n = wide w

    some_left : 0 < length s
    some_left = omega (arith, d.there)

    step : Step n (omega arith) d.levels s
    step = ordered_facts n (omega arith) d.levels s some_left d.order

    -- the first holds the row: its children
    pub under : (v x : Vec) → 0 < left → left < size_word s → x ≡ part w floor_at s → v ≡ greatest u x → Down w t row v (take (size_word s * n - n) (drop n s)) (left - 1)
    under v x p l f g =
        let b = beneath_length n d.levels s step.fits in
        rw (g ∙ ap (greatest u) f)
        (down (greatest u (floor_of w s)) (beneath n s) (left - 1) (d.levels - 1) step.beneath
        (omega (arith, b, row_under left (size_word s) n p l (omega arith)))
        (d.gathered ∙ sym (above_under w d.levels s some_left d.order u left p l)))

    -- the row is after it: the others
    pub past : size_word s ≤ left → Down w t row u (take (length s - size_word s * n) (drop (size_word s * n) s)) (left - size_word s)
    past l =
        let a = after_length n d.levels s step.fits in
        subst (λ (x : List ℕ). Down w t row u x (left - size_word s)) (sym (tail_part (size_word s * n) s))
        (down u (after n s) (left - size_word s) d.levels step.after
        (omega (arith, a, row_after left (size_word s) n (length s) l d.there))
        (d.gathered ∙ ap (greatest u) (sym (above_later w d.levels s some_left d.order u left l))))

    -- it is the row itself
    pub found : left ≡ 0 → u ≡ above (table_of w t).tree row
    found z = above_first w d.levels s some_left d.order u ∙ sym (d.gathered ∙ ap (λ i. greatest u (above (tree_of w s) i)) z)

-- the root
pub root : (w : ℕ) (t : List ℕ) (row : ℕ) (u : Vec) → w ≤ 16 → check_of w t ≡ 0 → row < get_or t 2 0 → u ≡ zeros → Down w t row u (take (length t - wide w) (drop (wide w) t)) row
unfolding table_of
root w t row u b e h z =
    let f = check_facts w t e in
    let g = begins w t row b e h in
    let l = length-drop (wide w) t in
    subst (λ (x : List ℕ). Down w t row u x row) (sym (tail_part (wide w) t))
    (down w t row u (drop (wide w) t) row 16 f.order (omega (arith, l, g.long, g.rows)) (rw z (fun_ext (λ j. omega arith))))

-- the head is there
pub head_there : (w : ℕ) (t : List ℕ) → check_of w t ≡ 0 → wide w ≤ length t
head_there w t e = let f = check_facts w t e in omega (arith, f.head.long)

pub ruleset going_down = (head_there, root, under, past)
