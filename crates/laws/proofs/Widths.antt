-- Laws of the two widths: what is good with some columns is good with more; a written table names its own width; what an
-- accepted call on tables of either width is at their one width.
use Prim.Native.Nat.{ℕ, zero, suc, ◌+◌, ◌*◌, ◌≤◌}
use mathlib.Core.Path.{◌≡◌, refl, sym, ap, ap₂, ◌∙◌, subst}
use mathlib.Core.Bool.{Bool, true, false, not, ◌||◌, cond}
use mathlib.Core.List.{List, [], ◌∷◌}
use mathlib.Core.Logic.{inl, inr}
use Prim.{tt}
use native.Mathlib.Omega.{arith}
use lib.Dec.{ltb, eqb}
use borrow.Author.Tests.{eqb-true, eqb-false, ne_eqb, ltb-true, lt-ltb}
use lib.ListN.{length, get_or}
use mathlib.Core.Option.{Option}
use Rattle.paper.specs.declared.Ruling.{Ruling}
use Rattle.paper.specs.declared.Stamp.{Stamp}
use Rattle.paper.specs.declared.Content.{Content}
use Rattle.paper.specs.declared.Clock.{Clock}
use Rattle.paper.specs.Columns.{Vec, zeros, greatest}
use Rattle.paper.specs.declared.Kind.{Kind}
use Rattle.paper.specs.declared.Kind.TheVariants.{Never as never, Live as live, Removed as removed}
use Rattle.paper.specs.Rules.{Row}
use Rattle.paper.specs.Tree.{end, sheet, folder, size, Tree}
use Rattle.paper.specs.Words.{wide, Table, table_of, sign, written}
use Rattle.paper.specs.Refusals.{first, when, tens, unless}
use Rattle.paper.specs.Check.{proper, laid, check_of}
use Rattle.paper.specs.Good.{GoodFloor, Good, GoodTable}
use Rattle.paper.specs.Calls.{Changed, Passed, Masked, new_of, two_refused, pass_of, ruling_here, settle_of, ahead_refused, ahead_here, masks_of, ahead_of}
use Rattle.paper.specs.Widths.{narrow_columns, wide_columns, Width, width_of, table_any, check_any, eight_or_sixteen, new_any, widen_refused, widen_of}
use Rattle.paper.specs.Widths.{two_widths, widths_then, two_refused_any, pass_any, settle_any, ahead_any}
use Rattle.laws.proofs.Bools.{and_both, both_and}
use Rattle.laws.proofs.Refusals.{first_both, first_next, first_one, first_flat, first_within, none_so, when_none, tens_none, unless_none, unless_some, unless_at, unless_number}
use Rattle.laws.proofs.Tables.{sign_at, table_read, written_passes, check_facts, checked_good, checked_size}

-- MORE COLUMNS
module _ (v w : ℕ) (more : v ≤ w) where
  proper_wider : (s : Stamp) → proper v s ≡ true → proper w s ≡ true
  unfolding proper
  proper_wider s e =
      let a = and_both (ltb s.device v) _ e in
      both_and (lt-ltb s.device w (omega (arith, ltb-true s.device v a.0))) a.1

  laid_wider : (k : Kind) (r : Row) → laid v k r ≡ true → laid w k r ≡ true
  unfolding laid
  laid_wider never r e = e
  laid_wider live r e =
      let a = and_both (proper v r.stamp) _ e in let b = and_both (proper v r.birth) _ a.1 in
      both_and (proper_wider r.stamp a.0) (both_and (proper_wider r.birth b.0) b.1)
  laid_wider removed r e = let a = and_both (proper v r.stamp) _ e in both_and (proper_wider r.stamp a.0) a.1

  floor_wider : (c : Clock) (f : Vec) → GoodFloor v c f → GoodFloor w c f
  floor_wider c f g = record { narrow = λ j h. g.narrow j (omega arith); own = g.own }

  rows_wider : (c : Clock) (t : Tree) (u : Vec) → Good v c t u → Good w c t u
  rows_wider c end u g = tt
  rows_wider c (sheet s r) u g =
      (record { floor = floor_wider c s.floor g.0.floor; laid = laid_wider s.row.kind s.row g.0.laid; known = g.0.known }, rows_wider c r u g.1)
  rows_wider c (folder f k r) u g = (floor_wider c f g.0, rows_wider c k (greatest u f) g.1, rows_wider c r u g.2)

  -- a good table is good with more columns
  pub good_wider : (t : Table) → GoodTable v t → GoodTable w t
  good_wider t g = record { device = omega (arith, g.device); root = g.root; few = g.few; deep = g.deep; rows = rows_wider t.clock t.tree zeros g.rows }

-- THE WIDTH
pub width_either : (t : List ℕ) → Width (width_of t)
unfolding width_of
width_either t = go (eqb (get_or t 3 0) wide_columns)
  where
    go : (b : Bool) → Width (cond b wide_columns narrow_columns)
    go true = inr refl
    go false = inl refl

-- by word 3
pub wide_words : (t : List ℕ) → get_or t 3 0 ≡ wide_columns → width_of t ≡ wide_columns
unfolding width_of
wide_words t e = rw e

pub narrow_other : (t : List ℕ) → (get_or t 3 0 ≡ wide_columns → ⊥) → width_of t ≡ narrow_columns
unfolding width_of
narrow_other t h = rw (ne_eqb (get_or t 3 0) wide_columns h)

pub narrow_words : (t : List ℕ) → get_or t 3 0 ≡ 0 → width_of t ≡ narrow_columns
narrow_words t e = narrow_other t (λ f. omega (arith, e, f))

-- not the one, so the other
pub width_wide : (w : ℕ) → Width w → (w ≡ narrow_columns → ⊥) → w ≡ wide_columns
width_wide w (inl e) h = absurd (h e)
width_wide w (inr e) h = e

pub width_few : (w : ℕ) → Width w → w ≤ wide_columns
width_few w (inl e) = omega (arith, e)
width_few w (inr e) = omega (arith, e)

-- a width that was read is one that there is
pub read_width : (v : ℕ) (t : List ℕ) → v ≡ width_of t → Width v
read_width v t e = rw e (width_either t)

pub read_few : (v : ℕ) (t : List ℕ) → v ≡ width_of t → v ≤ wide_columns
read_few v t e = width_few v (read_width v t e)

-- a written table names its width
pub width_written : (w : ℕ) → Width w → (t : Table) → width_of (written w t) ≡ w
unfolding width_of
width_written w (inl e) t = ap (λ n. cond (eqb n wide_columns) wide_columns narrow_columns) (sign_at w t ∙ ap sign e) ∙ sym e
width_written w (inr e) t = ap (λ n. cond (eqb n wide_columns) wide_columns narrow_columns) (sign_at w t ∙ ap sign e) ∙ sym e

-- so do words that pass the check at a width
pub width_checked : (w : ℕ) → Width w → (t : List ℕ) → check_of w t ≡ 0 → width_of t ≡ w
unfolding width_of
width_checked w (inl e) t c = ap (λ n. cond (eqb n wide_columns) wide_columns narrow_columns) ((check_facts w t c).head.sign ∙ ap sign e) ∙ sym e
width_checked w (inr e) t c = ap (λ n. cond (eqb n wide_columns) wide_columns narrow_columns) ((check_facts w t c).head.sign ∙ ap sign e) ∙ sym e

-- and it passes, and is read back, at it
pub any_passes : (w : ℕ) → Width w → (t : Table) → GoodTable w t → check_any (written w t) ≡ 0
any_passes w e t g = ap (λ v. check_of v (written w t)) (width_written w e t) ∙ written_passes w t g

pub any_read : (w : ℕ) → Width w → (t : Table) → GoodTable w t → table_any (written w t) ≡ t
any_read w e t g = ap (λ v. table_of v (written w t)) (width_written w e t) ∙ table_read w t g

pub any_good : (t : List ℕ) → check_any t ≡ 0 → GoodTable (width_of t) (table_any t)
any_good t e = checked_good (width_of t) t (check_facts (width_of t) t e)

-- NEW
named_width : (n : ℕ) → eight_or_sixteen n ≡ true → Width n
unfolding eight_or_sixteen
named_width n e = go (eqb n narrow_columns) refl e
  where
    go : (b : Bool) → eqb n narrow_columns ≡ b → (b || eqb n wide_columns) ≡ true → Width n
    go true p q = inl (eqb-true n _ p)
    go false p q = inr (eqb-true n _ q)

pub record NewAny (columns d : ℕ) (plan table : List ℕ) : Type 0 where
  pub width : Width columns
  pub same : new_any columns d plan table ≡ new_of columns d plan table

-- an outcome is 0: nothing refused first, and what came then is 0
unless_first : {A : Type 0} (n : ℕ) (number : A → ℕ) (refused done : A) → number refused ≡ n → number (unless n refused done) ≡ 0 → (n ≡ 0) × (unless n refused done ≡ done)
unfolding unless
unless_first zero number refused done p e = (refl, refl)
unless_first (suc n) number refused done p e = absurd (omega (arith, p, e))

pub new_any_lem : (columns d : ℕ) (plan table : List ℕ) → (new_any columns d plan table).number ≡ 0 → NewAny columns d plan table
unfolding new_any
new_any_lem columns d plan table e =
    let x = unless_first (when (not (eight_or_sixteen columns)) 19) (λ (o : Changed). o.number) _ (new_of columns d plan table) refl e in
    record { width = named_width columns (none_so _ 18 x.0); same = x.1 }

-- WIDEN
pub widen_number : (t wider : List ℕ) → (widen_of t wider).number ≡ widen_refused t wider
unfolding widen_of
widen_number t wider = unless_at (λ (o : Changed). o.number) (widen_refused t wider) _ _ ∙ unless_number (widen_refused t wider)

pub record Widened (t wider : List ℕ) : Type 0 where
  pub narrow : width_of t ≡ narrow_columns
  pub check : check_of narrow_columns t ≡ 0
  pub room : length wider ≡ get_or t 2 0 * wide wide_columns + wide wide_columns
  pub good : GoodTable narrow_columns (table_any t)
  pub done : widen_of t wider ≡ record { number = 0; count = size (table_any t).tree; table = written wide_columns (table_any t) }

pub widened : (t wider : List ℕ) → (widen_of t wider).number ≡ 0 → Widened t wider
unfolding widen_of widen_refused
widened t wider e =
    let r : widen_refused t wider ≡ 0 = sym (widen_number t wider) ∙ e in
    let x = first_both (check_any t) _ r in
    let y = first_both (when (eqb (width_of t) wide_columns) 19) _ x.1 in
    let n = not_wide (width_of t) (width_either t) (when_none _ 18 y.0) in
    record {
      narrow = n;
      check = ap (λ w. check_of w t) (sym n) ∙ x.0;
      room = eqb-true _ _ (none_so _ 8 (first_both _ _ y.1).0);
      good = subst (λ w. GoodTable w (table_any t)) n (any_good t x.0);
      done =
          unless_none (widen_refused t wider) _ _ r
          ∙ ap₂ (λ c l. record { number = 0; count = c; table = l }) (sym (checked_size (width_of t) t (check_facts (width_of t) t x.0))) (ap (λ w. written wide_columns (table_of w t)) (sym n));
    }
  where
    not_wide : (w : ℕ) → Width w → eqb w wide_columns ≡ false → w ≡ narrow_columns
    not_wide w (inl e) f = e
    not_wide w (inr e) f = absurd (eqb-false w _ f e)

-- what is widened is sound, is the same table, and has sixteen columns
pub record Wider (t wider : List ℕ) : Type 0 where
  pub check : check_any (widen_of t wider).table ≡ 0
  pub same : table_any (widen_of t wider).table ≡ table_any t
  pub width : width_of (widen_of t wider).table ≡ wide_columns

pub widen_same : (t wider : List ℕ) → (widen_of t wider).number ≡ 0 → Wider t wider
widen_same t wider e =
    let x = widened t wider e in
    let d : (widen_of t wider).table ≡ written wide_columns (table_any t) = ap (λ (o : Changed). o.table) x.done in
    let g = good_wider narrow_columns wide_columns (omega arith) (table_any t) x.good in
    record {
      check = ap check_any d ∙ any_passes wide_columns (inr refl) (table_any t) g;
      same = ap table_any d ∙ any_read wide_columns (inr refl) (table_any t) g;
      width = ap width_of d ∙ width_written wide_columns (inr refl) (table_any t);
    }

-- TWO TABLES
pub record TwoAny (s t : List ℕ) : Type 0 where
  pub source : check_any s ≡ 0
  pub target : check_any t ≡ 0
  pub one : width_of s ≡ width_of t

pub two_any : (s t : List ℕ) → two_widths s t ≡ 0 → TwoAny s t
unfolding two_widths
two_any s t e =
    let x = first_both (check_any s) _ e in
    let y = first_both (tens (check_any t)) _ x.1 in
    let z = first_both (when (not (eqb (width_of s) (width_of t))) 19) _ y.1 in
    record { source = x.0; target = tens_none _ y.0; one = eqb-true _ _ (none_so _ 18 z.0) }

-- what refuses two tables comes before what refuses a call on them
pub widths_first : (s t : List ℕ) (n : ℕ) (r : List ℕ) → widths_then s t (first (n ∷ r)) ≡ first (widths_then s t n ∷ r)
unfolding widths_then
widths_first s t n r = first_within (two_widths s t) n r

-- all that refuses two tables, in one chain
pub widths_chain : (s t : List ℕ) (n : ℕ) → widths_then s t n ≡ first (check_any s ∷ tens (check_any t) ∷ when (not (eqb (width_of s) (width_of t))) 19 ∷ n ∷ [])
unfolding widths_then two_widths
widths_chain s t n = first_flat (check_any s ∷ tens (check_any t) ∷ when (not (eqb (width_of s) (width_of t))) 19 ∷ []) (n ∷ [])

-- nothing refuses: neither the tables and their widths, nor what comes then
pub widths_none : (s t : List ℕ) (n : ℕ) → widths_then s t n ≡ 0 → (two_widths s t ≡ 0) × (n ≡ 0)
unfolding widths_then
widths_none s t n e = let x = first_both (two_widths s t) _ e in (x.0, (first_both n [] x.1).0)

pub widths_past : (s t : List ℕ) (n : ℕ) → two_widths s t ≡ 0 → widths_then s t n ≡ n
unfolding widths_then
widths_past s t n e = first_next (two_widths s t) _ e ∙ first_one n

-- at the width that was read of the target
pub two_at : (v : ℕ) (s t : List ℕ) (row : ℕ) → v ≡ width_of t → two_refused_any s t row ≡ 0 → (two_refused v s t row ≡ 0) × (v ≤ wide_columns)
two_at v s t row e h = (ap (λ v. two_refused v s t row) e ∙ (widths_none s t _ h).1, read_few v t e)

-- what the rules say at a row of two tables of one width
abbrev pub ruling_any : List ℕ → List ℕ → ℕ → Option Ruling
ruling_any s t row = ruling_here (table_of (width_of t) s) (table_any t) row

pub record PassAny (s t : List ℕ) (row : ℕ) (list : List ℕ) : Type 0 where
  pub two : TwoAny s t
  pub same : pass_any s t row list ≡ pass_of (width_of t) s t row list

pub pass_any_lem : (s t : List ℕ) (row : ℕ) (list : List ℕ) → (pass_any s t row list).number ≡ 0 → PassAny s t row list
unfolding pass_any
pass_any_lem s t row list e =
    let x = unless_first (two_widths s t) (λ (o : Passed). o.number) _ (pass_of (width_of t) s t row list) refl e in
    record { two = two_any s t x.0; same = x.1 }

-- a pass that is not refused for its tables or their widths is the pass at their width; one that is changes nothing
pub pass_through : (s t : List ℕ) (row : ℕ) (list : List ℕ) → two_widths s t ≡ 0 → pass_any s t row list ≡ pass_of (width_of t) s t row list
unfolding pass_any
pass_through s t row list e = unless_none (two_widths s t) _ _ e

pub pass_stopped : (s t : List ℕ) (row : ℕ) (list : List ℕ) → (two_widths s t ≡ 0 → ⊥) → pass_any s t row list ≡ record { number = two_widths s t; count = 0; target = t; answers = list }
unfolding pass_any
pass_stopped s t row list h = unless_some (two_widths s t) _ _ h

pub record SettleAny (s t : List ℕ) (row choice : ℕ) (content : Content) : Type 0 where
  pub two : TwoAny s t
  pub same : settle_any s t row choice content ≡ settle_of (width_of t) s t row choice content

pub settle_any_lem : (s t : List ℕ) (row choice : ℕ) (content : Content) → (settle_any s t row choice content).number ≡ 0 → SettleAny s t row choice content
unfolding settle_any
settle_any_lem s t row choice content e =
    let x = unless_first (two_widths s t) (λ (o : Changed). o.number) _ (settle_of (width_of t) s t row choice content) refl e in
    record { two = two_any s t x.0; same = x.1 }

pub record AheadAny (s t : List ℕ) (row : ℕ) : Type 0 where
  pub two : TwoAny s t
  pub accepted : ahead_refused (width_of t) s t row ≡ 0
  pub same : ahead_any s t row ≡ ahead_of (width_of t) s t row

pub ahead_any_lem : (s t : List ℕ) (row : ℕ) → (ahead_any s t row).number ≡ 0 → AheadAny s t row
unfolding ahead_any ahead_of
ahead_any_lem s t row e =
    let w = width_of t in
    let x = unless_first (two_widths s t) (λ (o : Masked). o.number) _ (ahead_of w s t row) refl e in
    let y = unless_first (ahead_refused w s t row) (λ (o : Masked). o.number) _ (masks_of (ahead_here w (table_of w s) (table_of w t) row)) refl (sym (ap (λ (o : Masked). o.number) x.1) ∙ e) in
    record { two = two_any s t x.0; accepted = y.0; same = x.1 }
