-- Every accepted call of a run keeps the invariant: a pass, an event, a settling, a widening.
use Prim.{Unit, tt}
use Prim.Native.Nat.{ℕ, suc, ◌+◌, ◌-◌, ◌≤◌, ◌<◌, max}
use mathlib.Core.Path.{◌≡◌, refl, sym, ap, ap₂, ◌∙◌, subst, fun_ext}
use mathlib.Core.Bool.{Bool, true, false, cond}
use mathlib.Core.List.{List}
use mathlib.Core.Logic.{inr}
use mathlib.Core.Option.{map}
use native.Mathlib.Omega.{arith}
use lib.Dec.{leb, ltb, eqb}
use lib.ListN.{length}
use borrow.Author.Tests.{eqb-true, eq-eqb, ne_eqb, leb-true, leb-false, ltb-true, ltb-false}
use Rattle.paper.specs.declared.Stamp.{Stamp}
use Rattle.paper.specs.declared.Content.{Content}
use Rattle.paper.specs.declared.Ruling.TheVariants.{Conflict}
use Rattle.paper.specs.Columns.{Vec, zeros, greatest, column, full, covers}
use Rattle.paper.specs.Rules.{Row, Cell, ruling}
use Rattle.paper.specs.declared.Choice.{Choice}
use Rattle.paper.specs.Acts.{fits, event_row, settle_row}
use Rattle.paper.specs.Tree.{Forest, end, sheet, subtree, above}
use Rattle.paper.specs.Walk.{cell, rule_at, walk}
use Rattle.paper.specs.Words.{Table, written}
use Rattle.paper.specs.Widths.{Width, width_of, table_any, widen_of}
use Rattle.laws.proofs.Widths.{width_either, good_wider, Widened, widened}
use Rattle.paper.specs.Good.{GoodTable}
use Rattle.paper.specs.Calls.{Changed, Passed, new_stamp, ticked, event_named, event_sheet, event_done, pair_at, pass_done, choice_named, settle_sheet, settle_done}
use Rattle.run.specs.Knowledge.{sets, passed}
use Rattle.history.specs.Vectors.{vectors}
use Rattle.run.specs.World.{World, next, tick, put, eventful, passing, settling}
use Rattle.paper.specs.Devices.{devices}
use Rattle.run.specs.Run.{State, replaced, within}
use Rattle.history.specs.Look.{cell_at, both}
use Rattle.history.proofs.CellsFit.{rulings}
use Rattle.history.proofs.WorldsAgree.{event_inv, pass_inv, settle_inv}
use Rattle.history.proofs.CountersAhead.{Early, early_any, early_subtree, early_graft, early_above, full_made, raised_made, walk_early}
use Rattle.history.proofs.CallsAccepted.{TwoGood, pair_left, pair_right, PassAccepted, pass_shape, passed_good, EventAccepted, event_tree}
use Rattle.history.proofs.CallsAccepted.{event_shape, event_table_good, SettleAccepted, alone_left, alone_right, settle_tree, settle_shape, settle_table_good}
use Rattle.history.proofs.CallEffects.{reset, pass_inside, pass_before, pass_after, event_here, event_there, one_before, settle_here, settle_there}
use Rattle.history.proofs.RunInvariant.{put_there, put_here, put_away, tick_there, tick_here, Holds, holds_map, holds_both, Kept, there, changed, held}

module _ (p : Forest (Unit {0}) (Unit {0})) (s : State) (k : Kept p s) where
  -- the devices' tables and counters
  abbrev T : ℕ → Table
  T d = table_any (s.tables d)

  abbrev counter : Vec
  counter x = (table_any (s.tables x)).clock.counter

  -- a device's next event has one name in the world and in its table
  next_stamp : (d : ℕ) → d < devices → next vectors k.flat d ≡ new_stamp (T d).clock
  unfolding next
  next_stamp d l = ap₂ (λ x n. record { device = x; count = suc n }) (sym (k.device d l)) (k.counts d)

  -- A PASS
  module _ (w : ℕ) (wide : Width w) (a b row : ℕ) (list : List ℕ) (out : Passed) (acc : PassAccepted w (T a) (T b) row list out) where
    g : TwoGood w (T a) (T b) row
    g = acc.two

    aw : a < devices
    aw = there p s k w a acc.two.source

    bw : b < devices
    bw = there p s k w b acc.two.target

    pass_early : Early counter (pass_done w (T a) (T b) row).tree zeros
    unfolding pass_done
    pass_early =
        early_graft counter (T b).tree row _ (k.early b bw)
        (early_any counter (walk w (T a).clock (T b).clock (pair_at (T a) (T b) row) (above (T a).tree row) (above (T b).tree row)) (above (T b).tree row) zeros
        (walk_early counter (T a).clock (T b).clock (omega (arith, ap counter (k.device a aw))) w (pair_at (T a) (T b) row) (above (T a).tree row) (above (T b).tree row)
        (subst (λ t. Early counter t (above (T a).tree row)) (sym (pair_left w (T a) (T b) row g))
        (early_any counter (subtree (T a).tree row) zeros (above (T a).tree row) (early_subtree counter (T a).tree row (k.early a aw))))
        (subst (λ t. Early counter t (above (T b).tree row)) (sym (pair_right w (T a) (T b) row g))
        (early_any counter (subtree (T b).tree row) zeros (above (T b).tree row) (early_subtree counter (T b).tree row (k.early b bw))))
        (early_above counter (T a).tree row (k.early a aw))))

    pass_holds : (y : ℕ) → Holds (cell_at (pass_done w (T a) (T b) row) y) ((passing vectors k.flat a b (within row (length list))).cell b y)
    unfolding passing within
    pass_holds y = go (leb row y) (ltb y (row + length list)) refl refl
      where
        to : (t : Bool) → within row (length list) y ≡ t → (put vectors k.flat b (within row (length list)) (λ y. passed vectors (k.flat.cell a y) (k.flat.cell b y))).cell b y
            ≡ cond t (passed vectors (k.flat.cell a y) (k.flat.cell b y)) (k.flat.cell b y)
        to true e = put_here vectors k.flat b (within row (length list)) _ y e
        to false e = put_away vectors k.flat b (within row (length list)) _ y e

        go : (t u : Bool) → leb row y ≡ t → ltb y (row + length list) ≡ u
            → Holds (cell_at (pass_done w (T a) (T b) row) y) ((put vectors k.flat b (within row (length list)) (λ y. passed vectors (k.flat.cell a y) (k.flat.cell b y))).cell b y)
        go true true e f =
            let l : row ≤ y = leb-true row y e in
            let m : y < row + length list = ltb-true y (row + length list) f in
            let z : row + (y - row) ≡ y = omega arith in
            subst (Holds (cell_at (pass_done w (T a) (T b) row) y)) (sym (to true (rw (e, f))))
            (subst (λ o. Holds o (passed vectors (k.flat.cell a y) (k.flat.cell b y)))
            (sym (subst (λ n. cell_at (pass_done w (T a) (T b) row) n ≡ both (passed vectors) (cell_at (T a) n) (cell_at (T b) n)) z
            (pass_inside w (T a) (T b) row g (y - row) (omega (arith, acc.long)))))
            (holds_both (passed vectors) (cell_at (T a) y) (cell_at (T b) y) (k.flat.cell a y) (k.flat.cell b y) (k.holds a y) (k.holds b y)))
        go true false e f =
            let m : row + length list ≤ y = ltb-false y (row + length list) f in
            subst (Holds (cell_at (pass_done w (T a) (T b) row) y)) (sym (to false (rw (e, f))))
            (subst (λ o. Holds o (k.flat.cell b y)) (sym (pass_after w (T a) (T b) row g y (omega (arith, acc.long)))) (k.holds b y))
        go false u e f =
            subst (Holds (cell_at (pass_done w (T a) (T b) row) y)) (sym (to false (rw e)))
            (subst (λ o. Holds o (k.flat.cell b y)) (sym (pass_before w (T a) (T b) row g y (leb-false row y e))) (k.holds b y))

    pub pass_kept : Kept p (record { tables = replaced s.tables b (written w (pass_done w (T a) (T b) row)); past = passing sets s.past a b (within row (length list)) })
    pass_kept =
        changed p s k w wide b bw (pass_done w (T a) (T b) row) (passed_good w (T a) (T b) row g) (same_device ∙ k.device b bw) (pass_shape w (T a) (T b) row g ∙ k.shapes b bw)
        (omega (arith, same_count)) pass_early
        (passing vectors k.flat a b (within row (length list))) _ (count_same b ∙ k.counts b ∙ sym same_count) (λ x e. count_same x) pass_holds (λ x y e. there_same x y e)
        (pass_inv k.inv a b (within row (length list)))
      where
        same_device : (pass_done w (T a) (T b) row).clock.device ≡ (T b).clock.device
        same_device = unfold pass_done in refl

        same_count : (pass_done w (T a) (T b) row).clock.counter ≡ (T b).clock.counter
        same_count = unfold pass_done in refl

        count_same : (x : ℕ) → (passing vectors k.flat a b (within row (length list))).count x ≡ k.flat.count x
        count_same x = unfold passing put in refl

        there_same : (x y : ℕ) → eqb x b ≡ false → (passing vectors k.flat a b (within row (length list))).cell x y ≡ k.flat.cell x y
        there_same x y e = unfold passing in (put_there vectors k.flat b (within row (length list)) _ x y e)

  -- AN EVENT
  module _ (d row e : ℕ) (content : Content) (acc : EventAccepted (width_of (s.tables d)) (s.tables d) row e content) where
    abbrev w : ℕ
    w = width_of (s.tables d)

    wide : Width w
    wide = width_either (s.tables d)

    dw : d < devices
    dw = there p s k w d acc.good

    gd : GoodTable w (T d)
    gd = acc.good

    event_cell : (y : ℕ) → eqb y row ≡ true → (eventful vectors k.flat d row (event_named e) content).cell d y
        ≡ record { row = event_row (event_named e) (new_stamp (T d).clock) content (k.flat.cell d y).row; known = column (T d).clock.device (suc (T d).clock.counter) (k.flat.cell d y).known }
    unfolding eventful
    event_cell y q =
        put_here vectors (tick vectors k.flat d row) d (λ y. eqb y row) _ y q
        ∙ ap₂ (λ (c : Cell Vec) (n : Stamp). record { row = event_row (event_named e) n content c.row; known = c.known }) (tick_here vectors k.flat d row y) (next_stamp d dw)
        ∙ ap (λ (n : Stamp). record { row = event_row (event_named e) (new_stamp (T d).clock) content (k.flat.cell d y).row; known = column n.device n.count (k.flat.cell d y).known })
        (next_stamp d dw)

    away_cell : (y : ℕ) → eqb y row ≡ false → (eventful vectors k.flat d row (event_named e) content).cell d y ≡ reset (ticked (T d).clock) (k.flat.cell d y)
    unfolding eventful
    away_cell y q =
        put_away vectors (tick vectors k.flat d row) d (λ y. eqb y row) _ y q
        ∙ tick_here vectors k.flat d row y
        ∙ ap (λ (n : Stamp). record { row = (k.flat.cell d y).row; known = column n.device n.count (k.flat.cell d y).known }) (next_stamp d dw)

    -- what stands at the sheet
    before : cell (T d).clock (above (T d).tree row) acc.sheet ≡ k.flat.cell d row
    before = held p s k d row _ (one_before (T d) row acc.sheet acc.alone)

    event_holds : (y : ℕ) → Holds (cell_at (event_done (T d) row (event_named e) content) y) ((eventful vectors k.flat d row (event_named e) content).cell d y)
    event_holds y = go (eqb y row) refl
      where
        at_row : Holds (cell_at (event_done (T d) row (event_named e) content) row) ((eventful vectors k.flat d row (event_named e) content).cell d row)
        at_row =
            subst (λ o. Holds o ((eventful vectors k.flat d row (event_named e) content).cell d row)) (sym (event_here w (T d) row (event_named e) content gd acc.sheet acc.here acc.alone))
            (ap (λ x. record { row = event_row (event_named e) (new_stamp (T d).clock) content acc.sheet.row; known = x }) (fun_ext (λ j. twice j (eqb j (T d).clock.device)))
            ∙ ap (λ (c : Cell Vec).
            record { row = event_row (event_named e) (new_stamp (T d).clock) content c.row; known = column (T d).clock.device (suc (T d).clock.counter) c.known }) before
            ∙ sym (event_cell row (eq-eqb row row refl)))
          where
            twice : (j : ℕ) (t : Bool) → cond t (suc (T d).clock.counter) (max (above (T d).tree row j) (acc.sheet.floor j))
                ≡ cond t (suc (T d).clock.counter) (cond t (T d).clock.counter (max (above (T d).tree row j) (acc.sheet.floor j)))
            twice j true = refl
            twice j false = refl

        go : (t : Bool) → eqb y row ≡ t → Holds (cell_at (event_done (T d) row (event_named e) content) y) ((eventful vectors k.flat d row (event_named e) content).cell d y)
        go true q = subst (λ n. Holds (cell_at (event_done (T d) row (event_named e) content) n) ((eventful vectors k.flat d row (event_named e) content).cell d n)) (sym (eqb-true y row q)) at_row
        go false q =
            subst (λ o. Holds o ((eventful vectors k.flat d row (event_named e) content).cell d y)) (sym (event_there w (T d) row (event_named e) content gd acc.sheet acc.here acc.alone y q))
            (subst (Holds (map (reset (ticked (T d).clock)) (cell_at (T d) y))) (sym (away_cell y q))
            (holds_map (reset (ticked (T d).clock)) (reset (ticked (T d).clock)) (cell_at (T d) y) (k.flat.cell d y) (λ x z. ap (reset (ticked (T d).clock)) z) (k.holds d y)))

    event_early : Early counter (event_done (T d) row (event_named e) content).tree zeros
    unfolding event_sheet
    event_early =
        subst (λ t. Early counter t zeros) (sym (event_tree w (T d) row (event_named e) content gd acc.sheet acc.alone))
        (early_graft counter (T d).tree row (sheet (event_sheet (event_named e) (new_stamp (T d).clock) content acc.sheet) end) (k.early d dw)
        ((subst (λ t. Early counter t zeros) acc.alone (early_subtree counter (T d).tree row (k.early d dw))).0, tt))

    -- the event fits what the history has there
    fits_past : fits (event_named e) (s.past.cell d row).row.kind ≡ true
    fits_past = ap (λ (r : Row). fits (event_named e) r.kind) (sym (ap (λ (c : Cell Vec). c.row) before ∙ (k.inv.cells d row).rows)) ∙ acc.fit

    event_count : (x : ℕ) → (eventful vectors k.flat d row (event_named e) content).count x ≡ cond (eqb x d) (suc (k.flat.count x)) (k.flat.count x)
    unfolding eventful put tick
    event_count x = refl

    pub event_kept : Kept p (record { tables = replaced s.tables d (written w (event_done (T d) row (event_named e) content)); past = eventful sets s.past d row (event_named e) content })
    event_kept =
        changed p s k w wide d dw (event_done (T d) row (event_named e) content) (event_table_good w (T d) row (event_named e) content gd acc.sheet acc.alone acc.fit acc.may)
        (same_device ∙ k.device d dw)
        (event_shape w (T d) row (event_named e) content gd acc.sheet acc.alone ∙ k.shapes d dw) (omega (arith, same_count)) event_early
        (eventful vectors k.flat d row (event_named e) content) _ (event_count d ∙ rw (eq-eqb d d refl) (ap suc (k.counts d) ∙ sym same_count)) (λ x q. event_count x ∙ rw q) event_holds there_same
        (event_inv k.inv d row (event_named e) content fits_past)
      where
        same_device : (event_done (T d) row (event_named e) content).clock.device ≡ (T d).clock.device
        same_device = unfold event_done in refl

        same_count : (event_done (T d) row (event_named e) content).clock.counter ≡ suc (T d).clock.counter
        same_count = unfold event_done in refl

        there_same : (x y : ℕ) → eqb x d ≡ false → (eventful vectors k.flat d row (event_named e) content).cell x y ≡ k.flat.cell x y
        there_same x y q = unfold eventful in (put_there vectors (tick vectors k.flat d row) d (λ y. eqb y row) _ x y q ∙ tick_there vectors k.flat d row x y q)

  -- A SETTLING
  module _ (w : ℕ) (wide : Width w) (a b row ch : ℕ) (content : Content) (out : Changed) (acc : SettleAccepted w (T a) (T b) row ch content out) where
    abbrev c : Choice
    c = choice_named ch

    g₂ : TwoGood w (T a) (T b) row
    g₂ = acc.two

    aw₂ : a < devices
    aw₂ = there p s k w a acc.two.source

    bw₂ : b < devices
    bw₂ = there p s k w b acc.two.target

    -- two devices
    a_not_b : eqb a b ≡ false
    a_not_b = ne_eqb a b (λ e. g₂.apart (k.device a aw₂ ∙ e ∙ sym (k.device b bw₂)))

    -- b has made its next event
    abbrev moved : World Vec
    moved = tick vectors k.flat b row

    moved_b : (y : ℕ) → moved.cell b y ≡ reset (ticked (T b).clock) (k.flat.cell b y)
    moved_b y =
        tick_here vectors k.flat b row y
        ∙ ap (λ (m : Stamp). record { row = (k.flat.cell b y).row; known = column m.device m.count (k.flat.cell b y).known }) (next_stamp b bw₂)

    before_a : cell (T a).clock (above (T a).tree row) acc.sheets.a ≡ k.flat.cell a row
    before_a = held p s k a row _ (one_before (T a) row acc.sheets.a (alone_left w (T a) (T b) row c content g₂ acc.sheets acc.alone))

    before_b : cell (T b).clock (above (T b).tree row) acc.sheets.b ≡ k.flat.cell b row
    before_b = held p s k b row _ (one_before (T b) row acc.sheets.b (alone_right w (T a) (T b) row c content g₂ acc.sheets acc.alone))

    settle_holds : (y : ℕ) → Holds (cell_at (settle_done (T a) (T b) row c content) y) ((settling vectors k.flat a b row c content).cell b y)
    unfolding settling
    settle_holds y = go (eqb y row) refl
      where
        at_row : Holds (cell_at (settle_done (T a) (T b) row c content) row) ((settling vectors k.flat a b row c content).cell b row)
        at_row =
            subst (λ o. Holds o ((settling vectors k.flat a b row c content).cell b row)) (sym (settle_here w (T a) (T b) row c content g₂ acc.sheets acc.alone))
            (ap₂ (λ (x : Cell Vec) (z : Cell Vec). record {
              row = settle_row c (new_stamp (T b).clock) content x.row z.row;
              known = greatest x.known (column (T b).clock.device (suc (T b).clock.counter) z.known);
            }) before_a before_b
            ∙ ap (λ (m : Stamp). record {
              row = settle_row c m content (k.flat.cell a row).row (k.flat.cell b row).row;
              known = greatest (k.flat.cell a row).known (column (T b).clock.device (suc (T b).clock.counter) (k.flat.cell b row).known);
            }) (sym (next_stamp b bw₂))
            ∙ sym (put_here vectors moved b (λ y. eqb y row) _ row (eq-eqb row row refl)
            ∙ ap₂ (λ (x : Cell Vec) (z : Cell Vec). record { row = settle_row c (next vectors k.flat b) content x.row z.row; known = greatest x.known z.known })
            (tick_there vectors k.flat b row a row a_not_b) (moved_b row)))

        go : (t : Bool) → eqb y row ≡ t → Holds (cell_at (settle_done (T a) (T b) row c content) y) ((settling vectors k.flat a b row c content).cell b y)
        go true q = subst (λ n. Holds (cell_at (settle_done (T a) (T b) row c content) n) ((settling vectors k.flat a b row c content).cell b n)) (sym (eqb-true y row q)) at_row
        go false q =
            subst (λ o. Holds o ((settling vectors k.flat a b row c content).cell b y)) (sym (settle_there w (T a) (T b) row c content g₂ acc.sheets acc.alone y q))
            (subst (Holds (map (reset (ticked (T b).clock)) (cell_at (T b) y))) (sym (put_away vectors moved b (λ y. eqb y row) _ y q ∙ moved_b y))
            (holds_map (reset (ticked (T b).clock)) (reset (ticked (T b).clock)) (cell_at (T b) y) (k.flat.cell b y) (λ x z. ap (reset (ticked (T b).clock)) z) (k.holds b y)))

    settle_early : Early counter (settle_done (T a) (T b) row c content).tree zeros
    unfolding settle_sheet
    settle_early =
        subst (λ t. Early counter t zeros) (sym (settle_tree w (T a) (T b) row c content g₂ acc.sheets acc.alone))
        (early_graft counter (T b).tree row (sheet (settle_sheet (T a).clock (T b).clock (above (T a).tree row) c content acc.sheets) end) (k.early b bw₂) (
          raised_made counter (T a).clock (T b).clock clock_a acc.sheets.b.floor (full (T a).clock (above (T a).tree row) acc.sheets.a.floor) floor_b.0
              (full_made counter (T a).clock (T b).clock clock_a (above (T a).tree row) acc.sheets.a.floor (early_above counter (T a).tree row (k.early a aw₂)) floor_a.0),
          tt,
        ))
      where
        clock_a : (T a).clock.counter ≤ counter (T a).clock.device
        clock_a = omega (arith, ap counter (k.device a aw₂))

        floor_a : Early counter (sheet acc.sheets.a end) zeros
        floor_a = subst (λ t. Early counter t zeros) (alone_left w (T a) (T b) row c content g₂ acc.sheets acc.alone) (early_subtree counter (T a).tree row (k.early a aw₂))

        floor_b : Early counter (sheet acc.sheets.b end) zeros
        floor_b = subst (λ t. Early counter t zeros) (alone_right w (T a) (T b) row c content g₂ acc.sheets acc.alone) (early_subtree counter (T b).tree row (k.early b bw₂))

    -- the history says conflict too
    conflict_past : ruling sets.knows (s.past.cell a row) (s.past.cell b row) ≡ Conflict
    unfolding rule_at
    conflict_past = sym (rulings (k.inv.cells a row) (k.inv.cells b row)) ∙ ap₂ (ruling covers) (sym before_a) (sym before_b) ∙ acc.conflict

    settle_count : (x : ℕ) → (settling vectors k.flat a b row c content).count x ≡ cond (eqb x b) (suc (k.flat.count x)) (k.flat.count x)
    unfolding settling put tick
    settle_count x = refl

    pub settle_kept : Kept p (record { tables = replaced s.tables b (written w (settle_done (T a) (T b) row c content)); past = settling sets s.past a b row c content })
    settle_kept =
        changed p s k w wide b bw₂ (settle_done (T a) (T b) row c content) (settle_table_good w (T a) (T b) row c content g₂ acc.sheets acc.alone acc.conflict acc.may)
        (same_device ∙ k.device b bw₂)
        (settle_shape w (T a) (T b) row c content g₂ acc.sheets acc.alone ∙ k.shapes b bw₂) (omega (arith, same_count)) settle_early
        (settling vectors k.flat a b row c content) _ (settle_count b ∙ rw (eq-eqb b b refl) (ap suc (k.counts b) ∙ sym same_count)) (λ x q. settle_count x ∙ rw q) settle_holds there_same
        (settle_inv k.inv a b row c content conflict_past)
      where
        same_device : (settle_done (T a) (T b) row c content).clock.device ≡ (T b).clock.device
        same_device = unfold settle_done in refl

        same_count : (settle_done (T a) (T b) row c content).clock.counter ≡ suc (T b).clock.counter
        same_count = unfold settle_done in refl

        there_same : (x y : ℕ) → eqb x b ≡ false → (settling vectors k.flat a b row c content).cell x y ≡ k.flat.cell x y
        there_same x y q = unfold settling in (put_there vectors moved b (λ y. eqb y row) _ x y q ∙ tick_there vectors k.flat b row x y q)

  -- A WIDENING: the table is the same
  module _ (d : ℕ) (wider : List ℕ) (e : (widen_of (s.tables d) wider).number ≡ 0) where
    x : Widened (s.tables d) wider
    x = widened (s.tables d) wider e

    dw₃ : d < devices
    dw₃ = there p s k _ d x.good

    pub widen_kept : Kept p (record { tables = replaced s.tables d (written 16 (T d)); past = s.past })
    widen_kept =
        changed p s k 16 (inr refl) d dw₃ (T d) (good_wider 8 16 (omega arith) (T d) x.good) (k.device d dw₃) (k.shapes d dw₃) (omega arith) (k.early d dw₃)
        k.flat s.past (k.counts d) (λ x e. refl) (λ y. k.holds d y) (λ x y e. refl) k.inv
