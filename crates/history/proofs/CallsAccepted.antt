-- What it takes for a call to be accepted, and what it then does, table by table: the tables are good, those of a pass have
-- one shape and two devices, and the changed table is good again.
use Prim.{tt}
use Prim.Native.Nat.{ℕ, suc, ◌≤◌, ◌<◌}
use mathlib.Core.Path.{◌≡◌, refl, sym, ap, ◌∙◌, subst}
use mathlib.Core.Bool.{true, false, false≢true}
use mathlib.Core.List.{List}
use mathlib.Core.Option.{Option, none, some, map}
use native.Mathlib.Omega.{arith}
use lib.ListN.{length}
use borrow.Author.Tests.{eq-eqb, leb-false}
use Rattle.paper.specs.declared.Ruling.{Ruling}
use Rattle.paper.specs.declared.Content.{Content}
use Rattle.paper.specs.declared.Ruling.TheVariants.{KeepOwn, KeepTheirs, Copy, Remove, Conflict}
use Rattle.paper.specs.Columns.{zeros, greatest, Narrow}
use Rattle.paper.specs.Rules.{ruling}
use Rattle.paper.specs.declared.Event.{Event}
use Rattle.paper.specs.declared.Choice.{Choice}
use Rattle.paper.specs.Acts.{fits, takes_content, choice_takes}
use Rattle.paper.specs.Tree.{Forest, end, sheet, mapped, size, levels, subtree, graft, sheet_here, Sheet, above, later}
use Rattle.paper.specs.Walk.{Two, zip, left, right, rule_at, walk, answers, looked}
use Rattle.paper.specs.Words.{Table, table_of, written}
use Rattle.paper.specs.Refusals.{tens}
use Rattle.paper.specs.Check.{check_of, content_fits}
use Rattle.paper.specs.Good.{rooted, GoodSheet, Good, GoodTable}
use Rattle.paper.specs.Calls.{Changed, Passed, event_named, fits_sheet, new_stamp, ticked, event_refused, event_sheet, event_done, event_of}
use Rattle.paper.specs.Calls.{two_refused, pair_at, pass_refused, pass_done, pass_of, ruling_here, choice_named, conflicts, settle_refused, settle_sheet, settle_done}
use Rattle.laws.proofs.Calls
use Rattle.laws.proofs.Calls.{event_number, pass_number, settle_number, event_done_lem, pass_done_lem, settle_done_lem, Accepted, two_accepted, content_taken}
use Rattle.laws.proofs.Refusals.{first_none, first_both, first_next, when_none, none_so, unless_so}
use Rattle.laws.proofs.Tables.{check_facts, checked_good}
use Rattle.laws.proofs.Forests.{mapped_subtree, mapped_here, shape, shape_size, shape_levels, shape_rooted, graft_shape, shaped_shape, zip_left, zip_right, sheet_alone}
use Rattle.history.proofs.WorldsAgree.{Opposed, opposed}
use Rattle.paper.specs.Widths.{Width, width_of, table_any, check_any, two_widths, pass_any, settle_any}
use Rattle.laws.proofs.Widths.{width_written, any_passes, pass_any_lem, pass_through, settle_any_lem}
use Rattle.history.proofs.Cells.{zeros_greatest}
use Rattle.history.proofs.Summaries.{later_sheet}
use Rattle.laws.proofs.GoodTrees.{good_subtree, walk_shape}
use Rattle.history.proofs.EveryRow.{good_graft, good_above, later_subtree, later_above}
use Rattle.history.proofs.CallsKeepGood.{walk_good, tick_good, event_good, settle_good}

-- a table changed in place: of the same device, of the same shape, every row good
pub changed_good : (w : ℕ) (b t : Table) → GoodTable w b → t.clock.device ≡ b.clock.device → shape t.tree ≡ shape b.tree → Good w t.clock t.tree zeros → GoodTable w t
changed_good w b t g d e r = record {
  device = omega (arith, g.device);
  root = sym (shape_rooted t.tree) ∙ ap rooted e ∙ shape_rooted b.tree ∙ g.root;
  few = omega (arith, shape_size t.tree, ap size e, shape_size b.tree, g.few);
  deep = omega (arith, shape_levels t.tree, ap levels e, shape_levels b.tree, g.deep);
  rows = r;
}

-- TWO TABLES that are accepted with a row
pub record TwoGood (w : ℕ) (a b : Table) (row : ℕ) : Type 0 where
  pub source : GoodTable w a
  pub target : GoodTable w b
  pub shapes : shape a.tree ≡ shape b.tree
  pub apart : a.clock.device ≡ b.clock.device → ⊥
  pub six : later b.clock a.tree ≡ false
  pub seven : later a.clock b.tree ≡ false
  pub here : row < size b.tree

-- what the refusals leave is that
pub two_good : (w : ℕ) (s t : List ℕ) (row : ℕ) → Accepted w s t row → TwoGood w (table_of w s) (table_of w t) row
two_good w s t row g = record {
  source = g.source;
  target = g.target;
  shapes = shaped_shape _ _ g.shaped;
  apart = g.apart;
  six = g.six;
  seven = g.seven;
  here = g.there;
}

-- A PASS
module _ (w : ℕ) (a b : Table) (row : ℕ) (g : TwoGood w a b row) where
  -- the two sides of the subtree
  pub pair_left : left (pair_at a b row) ≡ subtree a.tree row
  pair_left = mapped_subtree _ _ (zip a.tree b.tree) row ∙ ap (λ t. subtree t row) (zip_left a.tree b.tree g.shapes)

  -- the target's side
  pub pair_right : right (pair_at a b row) ≡ subtree b.tree row
  pair_right = mapped_subtree _ _ (zip a.tree b.tree) row ∙ ap (λ t. subtree t row) (zip_right a.tree b.tree g.shapes)

  -- what the walk asks of the source's side
  pub source_good : Good w a.clock (left (pair_at a b row)) (above a.tree row)
  source_good =
      subst (λ t. Good w a.clock t (above a.tree row)) (sym pair_left)
      (subst (Good w a.clock (subtree a.tree row)) (zeros_greatest (above a.tree row)) (good_subtree w a.clock a.tree row zeros g.source.rows))

  -- and the target's
  pub target_good : Good w b.clock (right (pair_at a b row)) (above b.tree row)
  target_good =
      subst (λ t. Good w b.clock t (above b.tree row)) (sym pair_right)
      (subst (Good w b.clock (subtree b.tree row)) (zeros_greatest (above b.tree row)) (good_subtree w b.clock b.tree row zeros g.target.rows))

  -- no floor of the source's subtree names a later count of the target
  pub source_early : later b.clock (left (pair_at a b row)) ≡ false
  source_early = ap (later b.clock) pair_left ∙ later_subtree b.clock a.tree row g.six

  -- nor do the floors above have more columns
  pub above_narrow : Narrow w (above a.tree row)
  above_narrow = good_above w a.clock a.tree row zeros g.source.rows

  -- or name a later count
  pub above_early : above a.tree row b.clock.device ≤ b.clock.counter
  above_early = later_above b.clock a.tree row g.six

module _ (w : ℕ) (a b : Table) (row : ℕ) (g : TwoGood w a b row) where
  -- a pass keeps the shape
  pub pass_shape : shape (pass_done w a b row).tree ≡ shape b.tree
  unfolding pass_done
  pass_shape = graft_shape b.tree row _ (walk_shape w a.clock b.clock (pair_at a b row) (above a.tree row) (above b.tree row) ∙ ap shape (pair_right w a b row g))

  -- and leaves a good table
  pub passed_good : GoodTable w (pass_done w a b row)
  passed_good = changed_good w b (pass_done w a b row) g.target (unfold pass_done in refl) pass_shape (unfold pass_done in rows)
    where
      rows : Good w b.clock (graft b.tree row (walk w a.clock b.clock (pair_at a b row) (above a.tree row) (above b.tree row))) zeros
      rows =
          good_graft w b.clock b.tree row _ zeros g.target.rows
          (subst (Good w b.clock (walk w a.clock b.clock (pair_at a b row) (above a.tree row) (above b.tree row))) (sym (zeros_greatest (above b.tree row)))
          (walk_good w a.clock b.clock g.source.device g.target.device g.apart (pair_at a b row) (above a.tree row) (above b.tree row)
          (source_good w a b row g) (target_good w a b row g) (source_early w a b row g) (above_narrow w a b row g) (above_early w a b row g)))

-- A PASS that is accepted, from the table a to the table b, at the one width w of their words
pub record PassAccepted (w : ℕ) (a b : Table) (row : ℕ) (list : List ℕ) (out : Passed) : Type 0 where
  pub two : TwoGood w a b row
  pub long : length list ≡ size (subtree b.tree row)
  pub done : out ≡ record {
    number = 0;
    count = looked w a.clock b.clock (pair_at a b row) (above a.tree row) (above b.tree row);
    target = written w (pass_done w a b row);
    answers = answers w a.clock b.clock (pair_at a b row) (above a.tree row) (above b.tree row);
  }

-- the number 0 says so
pub pass_accepted : (s t : List ℕ) (row : ℕ) (list : List ℕ) → (pass_any s t row list).number ≡ 0 → PassAccepted (width_of t) (table_any s) (table_any t) row list (pass_any s t row list)
pass_accepted s t row list e =
    let w = width_of t in
    let x = pass_any_lem s t row list e in
    let r : pass_refused w s t row list ≡ 0 = sym (pass_number w s t row list) ∙ sym (ap (λ (o : Passed). o.number) x.same) ∙ e in
    let g = Calls.pass_accepted w s t row list r in
    subst (λ v. PassAccepted w (table_of v s) (table_any t) row list (pass_any s t row list)) (sym x.two.one)
    (record { two = two_good w s t row g.0; long = g.1; done = x.same ∙ pass_done_lem w s t row list r })

-- a pass that is accepted at a width is the pass at the width that the tables' heads name
pub pass_at : (w : ℕ) → Width w → (s t : List ℕ) (row : ℕ) (list : List ℕ) → (pass_of w s t row list).number ≡ 0 → pass_any s t row list ≡ pass_of w s t row list
unfolding two_widths
pass_at w either s t row list e =
    let g = (Calls.pass_accepted w s t row list (sym (pass_number w s t row list) ∙ e)).0 in
    let ws : width_of s ≡ w = ap width_of (sym g.source_words) ∙ width_written w either (table_of w s) in
    let wt : width_of t ≡ w = ap width_of (sym g.target_words) ∙ width_written w either (table_of w t) in
    let cs : check_any s ≡ 0 = ap check_any (sym g.source_words) ∙ any_passes w either (table_of w s) g.source in
    let ct : check_any t ≡ 0 = ap check_any (sym g.target_words) ∙ any_passes w either (table_of w t) g.target in
    pass_through s t row list (first_next _ _ cs ∙ first_next _ _ (ap tens ct ∙ unfold tens in refl) ∙ first_next _ _ (unless_so _ 19 (eq-eqb _ _ (ws ∙ sym wt))) ∙ first_none)
    ∙ ap (λ v. pass_of v s t row list) wt

-- AN EVENT
pub record EventAccepted (w : ℕ) (t : List ℕ) (row event : ℕ) (content : Content) : Type 0 where
  pub good : GoodTable w (table_of w t)
  pub sheet : Sheet
  pub alone : subtree (table_of w t).tree row ≡ Forest.sheet sheet end
  pub fit : fits (event_named event) sheet.row.kind ≡ true
  pub may : takes_content (event_named event) ≡ true → content_fits content ≡ true
  pub here : row < size (table_of w t).tree
  pub done : event_of w t row event content ≡ record { number = 0; count = suc (table_of w t).clock.counter; table = written w (event_done (table_of w t) row (event_named event) content) }

fits_sheet_lem : (e : Event) (o : Option Sheet) → fits_sheet e o ≡ true → (s : Sheet) × (o ≡ some s) × (fits e s.row.kind ≡ true)
unfolding fits_sheet
fits_sheet_lem e none q = absurd (false≢true q)
fits_sheet_lem e (some s) q = (s, refl, q)

-- the number 0 says so
pub event_accepted : (w : ℕ) (t : List ℕ) (row event : ℕ) (content : Content) → (event_of w t row event content).number ≡ 0 → EventAccepted w t row event content
unfolding event_refused
event_accepted w t row event content e =
    let r : event_refused w t row event content ≡ 0 = sym (event_number w t row event content) ∙ e in
    let x = first_both (check_of w t) _ r in
    let y = first_both _ _ x.1 in
    let v = first_both _ _ y.1 in
    let z = first_both _ _ v.1 in
    let u = first_both _ _ z.1 in
    let f = fits_sheet_lem (event_named event) (sheet_here (subtree (table_of w t).tree row)) (none_so _ 9 u.0) in
    record {
      good = checked_good w t (check_facts w t x.0);
      sheet = f.0;
      alone = sheet_alone (table_of w t).tree row f.0 f.1;
      fit = f.2;
      may = content_taken _ content v.0;
      here = leb-false _ _ (when_none _ 7 z.0);
      done = event_done_lem w t row event content r;
    }

module _ (w : ℕ) (b : Table) (row : ℕ) (e : Event) (m : Content) (g : GoodTable w b) (s : Sheet) (alone : subtree b.tree row ≡ sheet s end) where
  -- the one sheet is changed
  pub event_tree : (event_done b row e m).tree ≡ graft b.tree row (sheet (event_sheet e (new_stamp b.clock) m s) end)
  unfolding event_done mapped
  event_tree = rw alone

  -- an event keeps the shape
  pub event_shape : shape (event_done b row e m).tree ≡ shape b.tree
  unfolding mapped
  event_shape = ap shape event_tree ∙ graft_shape b.tree row _ (sym (ap shape alone))

  -- and leaves a good table
  pub event_table_good : fits e s.row.kind ≡ true → (takes_content e ≡ true → content_fits m ≡ true) → GoodTable w (event_done b row e m)
  event_table_good q may =
      changed_good w b (event_done b row e m) g (unfold event_done in refl) event_shape (subst (λ t. Good w (event_done b row e m).clock t zeros) (sym event_tree) (unfold event_done in rows))
    where
      here : GoodSheet w b.clock (greatest zeros (above b.tree row)) s
      here = (subst (λ t. Good w b.clock t (greatest zeros (above b.tree row))) alone (good_subtree w b.clock b.tree row zeros g.rows)).0

      rows : Good w (ticked b.clock) (graft b.tree row (sheet (event_sheet e (new_stamp b.clock) m s) end)) zeros
      rows =
          good_graft w (ticked b.clock) b.tree row (sheet (event_sheet e (new_stamp b.clock) m s) end) zeros (tick_good w b.clock g.device b.tree zeros g.rows)
          (event_good w b.clock g.device e m (greatest zeros (above b.tree row)) s q may here, tt)

-- A SETTLING that is accepted
pub record SettleAccepted (w : ℕ) (a b : Table) (row choice : ℕ) (content : Content) (out : Changed) : Type 0 where
  pub two : TwoGood w a b row
  pub sheets : Two Sheet
  pub alone : pair_at a b row ≡ sheet sheets end
  pub conflict : rule_at a.clock b.clock (above a.tree row) (above b.tree row) sheets ≡ Conflict
  pub may : choice_takes (choice_named choice) ≡ true → content_fits content ≡ true
  pub done : out ≡ record {
    number = 0;
    count = suc b.clock.counter;
    table = written w (settle_done a b row (choice_named choice) content);
  }

pub conflicts_true : (o : Option Ruling) → conflicts o ≡ true → o ≡ some Conflict
conflicts_true none e = absurd (false≢true e)
conflicts_true (some KeepOwn) e = absurd (false≢true e)
conflicts_true (some KeepTheirs) e = absurd (false≢true e)
conflicts_true (some Copy) e = absurd (false≢true e)
conflicts_true (some Remove) e = absurd (false≢true e)
conflicts_true (some Conflict) e = refl

pub map_some : {A B : Type 0} (f : A → B) (o : Option A) (y : B) → map f o ≡ some y → (x : A) × (o ≡ some x) × (f x ≡ y)
map_some f none y e = let z : ◌≡◌ {A = ℕ} 0 1 = cc in absurd (omega arith)
map_some f (some x) y e = (x, refl, cc)

-- the number 0 says so
pub settle_accepted : (s t : List ℕ) (row choice : ℕ) (content : Content) → (settle_any s t row choice content).number ≡ 0
    → SettleAccepted (width_of t) (table_any s) (table_any t) row choice content (settle_any s t row choice content)
unfolding settle_refused ruling_here
settle_accepted s t row choice content e =
    let w = width_of t in
    let h = settle_any_lem s t row choice content e in
    let a = table_of w s in
    let b = table_of w t in
    let r : settle_refused w s t row choice content ≡ 0 = sym (settle_number w s t row choice content) ∙ sym (ap (λ (o : Changed). o.number) h.same) ∙ e in
    let x = first_both (two_refused w s t row) _ r in
    let y = first_both _ _ x.1 in
    let v = first_both _ _ y.1 in
    let z = first_both _ _ v.1 in
    let u = first_both _ _ z.1 in
    let c = conflicts_true (ruling_here a b row) (none_so _ 13 u.0) in
    let o = map_some (rule_at a.clock b.clock (above a.tree row) (above b.tree row)) (sheet_here (pair_at a b row)) Conflict (sym (mapped_here _ _ (pair_at a b row)) ∙ c) in
    subst (λ v. SettleAccepted w (table_of v s) (table_any t) row choice content (settle_any s t row choice content)) (sym h.two.one)
    (record {
      two = two_good w s t row (two_accepted w s t row x.0);
      sheets = o.0;
      alone = sheet_alone (zip a.tree b.tree) row o.0 o.1;
      conflict = o.2;
      may = content_taken _ content v.0;
      done = h.same ∙ settle_done_lem w s t row choice content r;
    })

module _ (w : ℕ) (a b : Table) (row : ℕ) (c : Choice) (m : Content) (g : TwoGood w a b row) (x : Two Sheet) (alone : pair_at a b row ≡ sheet x end) where
  -- the one sheet, on either side
  pub alone_left : subtree a.tree row ≡ sheet x.a end
  unfolding mapped
  alone_left = sym (pair_left w a b row g) ∙ ap left alone

  -- on the target's side
  pub alone_right : subtree b.tree row ≡ sheet x.b end
  unfolding mapped
  alone_right = sym (pair_right w a b row g) ∙ ap right alone

  -- the one sheet is changed
  pub settle_tree : (settle_done a b row c m).tree ≡ graft b.tree row (sheet (settle_sheet a.clock b.clock (above a.tree row) c m x) end)
  unfolding settle_done mapped
  settle_tree = rw alone

  -- a settling keeps the shape
  pub settle_shape : shape (settle_done a b row c m).tree ≡ shape b.tree
  unfolding mapped
  settle_shape = ap shape settle_tree ∙ graft_shape b.tree row _ (sym (ap shape alone_right))

  -- and leaves a good table
  pub settle_table_good : rule_at a.clock b.clock (above a.tree row) (above b.tree row) x ≡ Conflict → (choice_takes c ≡ true → content_fits m ≡ true)
      → GoodTable w (settle_done a b row c m)
  unfolding mapped rule_at ruling
  settle_table_good q may =
      changed_good w b (settle_done a b row c m) g.target (unfold settle_done in refl) settle_shape
      (subst (λ t. Good w (settle_done a b row c m).clock t zeros) (sym settle_tree) (unfold settle_done in rows))
    where
      both_good : GoodSheet w a.clock (above a.tree row) x.a × GoodSheet w b.clock (above b.tree row) x.b
      both_good = (
        (subst (λ p. Good w a.clock (left p) (above a.tree row)) alone (source_good w a b row g)).0,
        (subst (λ p. Good w b.clock (right p) (above b.tree row)) alone (target_good w a b row g)).0,
      )

      early : x.a.floor b.clock.device ≤ b.clock.counter
      early = (later_sheet b.clock x.a end (sym (ap (λ p. later b.clock (left p)) alone) ∙ source_early w a b row g)).0

      kinds : Opposed x.a.row.kind x.b.row.kind
      kinds = opposed x.a.row.kind x.b.row.kind _ q

      rows : Good w (ticked b.clock) (graft b.tree row (sheet (settle_sheet a.clock b.clock (above a.tree row) c m x) end)) zeros
      rows =
          good_graft w (ticked b.clock) b.tree row (sheet (settle_sheet a.clock b.clock (above a.tree row) c m x) end) zeros
          (tick_good w b.clock g.target.device b.tree zeros g.target.rows) (
            subst (λ u. GoodSheet w (ticked b.clock) u (settle_sheet a.clock b.clock (above a.tree row) c m x)) (sym (zeros_greatest (above b.tree row)))
                (settle_good w a.clock b.clock g.source.device g.target.device g.apart (above a.tree row) (above b.tree row) x both_good.0 both_good.1
                (above_narrow w a b row g) (above_early w a b row g) early c m kinds may),
            tt,
          )
