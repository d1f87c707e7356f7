-- Whether an event or a settling of a run is accepted is told by the history: by the kind of the last event, by its rulings
-- and by the number of events made. And its sets have none but events that were made.
use Prim.Native.Nat.{ℕ, ◌≤◌, ◌<◌}
use mathlib.Core.Path.{◌≡◌, refl, sym, ap, ap₂, ◌∙◌, subst}
use mathlib.Core.Bool.{Bool, true, false, not, true≢false}
use mathlib.Core.List.{List, [], ◌∷◌}
use mathlib.Core.Option.{Option, none, some, map}
use native.Mathlib.Omega.{arith}
use lib.Dec.{leb, ltb, eqb}
use lib.ListN.{length, get_or, get_or-eq_default}
use borrow.Author.Tests.{eq-eqb, leb-true, leb-false, lt-leb, ltb-true, ltb-false}
use Rattle.paper.specs.declared.Stamp.{Stamp}
use Rattle.paper.specs.declared.Content.{Content}
use Rattle.paper.specs.Devices.{devices}
use Rattle.paper.specs.Columns.{Vec, covers}
use Rattle.paper.specs.Rules.{Cell, ruling}
use Rattle.paper.specs.Acts.{fits, takes_content, choice_takes}
use Rattle.paper.specs.Tree.{size, subtree, sheet_here, above, Sheet}
use Rattle.paper.specs.Walk.{Two, cell, rule_at}
use Rattle.paper.specs.Words.{Table, table_of}
use Rattle.paper.specs.Refusals.{first, when}
use Rattle.paper.specs.Calls.{Changed, one_to_three, event_named, fits_sheet, last_count, event_refused, two_refused}
use Rattle.paper.specs.Calls.{pair_at, is_folder, ruling_here, choice_named, conflicts, settle_refused, settle_of, content_if}
use Rattle.paper.specs.Widths.{width_of, table_any, event_any, two_widths, settle_any}
use Rattle.laws.proofs.Calls.{event_number, settle_number, two_accepted}
use Rattle.laws.proofs.Forests.{shape, mapped_here}
use Rattle.laws.proofs.Refusals.{first_next, when_false, unless_so, unless_none, first_skip}
use Rattle.run.specs.Knowledge.{sets}
use Rattle.run.specs.Run.{State, Makes, WasMade}
use Rattle.history.specs.Look.{cell_at}
use Rattle.history.proofs.CallsAccepted.{TwoGood, two_good, pair_left, pair_right}
use Rattle.history.proofs.CellsFit.{rulings}
use Rattle.history.proofs.NewTables.{plan_rows}
use Rattle.history.proofs.PlanOfRun.{sheet_there, kept_size, kept_widths, kept_two}
use Rattle.history.proofs.RunInvariant.{Kept, held}

-- a number of the plan that is 0 stands in it
sheet_few : (plan : List ℕ) (i : ℕ) → get_or plan i 1 ≡ 0 → i < length plan
sheet_few plan i z = go (leb (length plan) i) refl
  where
    go : (t : Bool) → leb (length plan) i ≡ t → i < length plan
    go true e = let out : get_or plan i 1 ≡ 1 = get_or-eq_default plan 1 (leb-true (length plan) i e) in absurd (omega (arith, z, out))
    go false e = leb-false (length plan) i e

-- a sheet of both tables, in the pair
pair_here : (w : ℕ) (a b : Table) (row : ℕ) (g : TwoGood w a b row) (x y : Sheet) → sheet_here (subtree a.tree row) ≡ some x → sheet_here (subtree b.tree row) ≡ some y
    → sheet_here (pair_at a b row) ≡ some (record { a = x; b = y })
pair_here w a b row g x y p q =
    go (sheet_here (pair_at a b row))
    (sym (mapped_here _ _ (pair_at a b row)) ∙ ap sheet_here (pair_left w a b row g) ∙ p)
    (sym (mapped_here _ _ (pair_at a b row)) ∙ ap sheet_here (pair_right w a b row g) ∙ q)
  where
    go : (o : Option (Two Sheet)) → map (λ (z : Two Sheet). z.a) o ≡ some x → map (λ (z : Two Sheet). z.b) o ≡ some y → o ≡ some (record { a = x; b = y })
    go none e f = let z : ◌≡◌ {A = ℕ} 0 1 = cc in absurd (omega arith)
    go (some z) e f = let p : z.a ≡ x = cc in let q : z.b ≡ y = cc in ap₂ (λ x y. some (record { a = x; b = y })) p q

module _ (columns : ℕ → ℕ) (plan : List ℕ) (lent : ℕ → List ℕ) (makes : Makes columns plan lent) (s : State) (k : Kept (shape (plan_rows devices plan)) s) where
  -- the sheet that stands at a row, and its cell
  record Stands (d i : ℕ) : Type 0 where
    sheet : Sheet
    here : sheet_here (subtree (table_any (s.tables d)).tree i) ≡ some sheet
    held : cell (table_any (s.tables d)).clock (above (table_any (s.tables d)).tree i) sheet ≡ k.flat.cell d i

  stands : (d i : ℕ) → d < devices → get_or plan i 1 ≡ 0 → Stands d i
  unfolding cell_at
  stands d i l z = go (sheet_here (subtree t.tree i)) refl
    where
      t : Table
      t = table_any (s.tables d)

      at : cell_at t i ≡ map (cell t.clock (above t.tree i)) (sheet_here (subtree t.tree i))
      at = mapped_here _ _ (subtree t.tree i)

      go : (o : Option Sheet) → sheet_here (subtree t.tree i) ≡ o → Stands d i
      go none e = absurd (true≢false (sym (ap is_folder (at ∙ ap (map (cell t.clock (above t.tree i))) e)) ∙ sheet_there columns plan lent makes s k d i l z))
      go (some x) e = record { sheet = x; here = e; held = held _ s k d i _ (at ∙ ap (map (cell t.clock (above t.tree i))) e) }

  -- a device's counter is the number of its events
  counter_past : (d : ℕ) → (table_any (s.tables d)).clock.counter ≡ s.past.count d
  counter_past d = sym (k.inv.counts d ∙ k.counts d)

  -- an event at a sheet: what refuses its content, 10 where the history's kind does not fit, 15 after the last count
  pub event_told : (d row event : ℕ) (content : Content) → d < devices → one_to_three event ≡ true → get_or plan row 1 ≡ 0
      → (event_any (s.tables d) row event content).number
      ≡ first (content_if (takes_content (event_named event)) content ∷ when (not (fits (event_named event) (s.past.cell d row).row.kind)) 10 ∷ when (eqb (s.past.count d) last_count) 15 ∷ [])
  unfolding event_refused fits_sheet
  event_told d row event content l n z =
      let x = stands d row l z in
      event_number (width_of (s.tables d)) (s.tables d) row event content
      ∙ first_next _ _ (k.sound d l) ∙ first_next _ _ (unless_so _ 16 n)
      ∙ first_skip _ _ _ (when_false _ 8 (lt-leb (size (table_any (s.tables d)).tree) row (omega (arith, sheet_few plan row z, kept_size columns plan lent makes s k d l))))
      ∙ ap₂ (λ b c. first (content_if (takes_content (event_named event)) content ∷ when (not b) 10 ∷ when (eqb c last_count) 15 ∷ []))
      (ap (fits_sheet (event_named event)) x.here ∙ ap (λ (c : Cell Vec). fits (event_named event) c.row.kind) x.held ∙ ap (λ r. fits (event_named event) r.kind) (k.inv.cells d row).rows)
      (counter_past d)

  module _ (a b row : ℕ) (la : a < devices) (lb : b < devices) (ne : a ≡ b → ⊥) (one : width_of (s.tables a) ≡ width_of (s.tables b)) (z : get_or plan row 1 ≡ 0) where
    -- nothing is refused of the two tables
    two_none : two_refused (width_of (s.tables b)) (s.tables a) (s.tables b) row ≡ 0
    two_none = kept_two columns plan lent makes s k a b row la lb ne one ∙ when_false _ 8 (lt-leb (length plan) row (sheet_few plan row z))

    -- what the rules say there is what the history says
    ruling_told : ruling_here (table_of (width_of (s.tables b)) (s.tables a)) (table_any (s.tables b)) row ≡ some (ruling sets.knows (s.past.cell a row) (s.past.cell b row))
    unfolding ruling_here rule_at
    ruling_told =
        let w = width_of (s.tables b) in
        let x = stands a row la z in
        let y = stands b row lb z in
        let g : TwoGood w (table_any (s.tables a)) (table_any (s.tables b)) row =
        subst (λ v. TwoGood w (table_of v (s.tables a)) (table_any (s.tables b)) row) (sym one)
        (two_good w (s.tables a) (s.tables b) row (two_accepted w (s.tables a) (s.tables b) row two_none)) in
        ap (λ v. ruling_here (table_of v (s.tables a)) (table_any (s.tables b)) row) (sym one)
        ∙ mapped_here _ _ (pair_at (table_any (s.tables a)) (table_any (s.tables b)) row)
        ∙ ap (map _) (pair_here w (table_any (s.tables a)) (table_any (s.tables b)) row g x.sheet y.sheet x.here y.here)
        ∙ ap₂ (λ c d. some (ruling covers c d)) x.held y.held
        ∙ ap some (rulings (k.inv.cells a row) (k.inv.cells b row))

    -- a settling there: what refuses its content, 14 where the history says no conflict, 15 after the last count
    pub settle_told : (choice : ℕ) (content : Content) → one_to_three choice ≡ true
        → (settle_any (s.tables a) (s.tables b) row choice content).number
        ≡ first (content_if (choice_takes (choice_named choice)) content
        ∷ when (not (conflicts (some (ruling sets.knows (s.past.cell a row) (s.past.cell b row))))) 14
        ∷ when (eqb (s.past.count b) last_count) 15
        ∷ [])
    unfolding settle_any settle_refused
    settle_told choice content n =
        let w = width_of (s.tables b) in
        ap (λ (o : Changed). o.number) (unless_none (two_widths (s.tables a) (s.tables b)) _ (settle_of w (s.tables a) (s.tables b) row choice content)
        (kept_widths columns plan lent makes s k a b row la lb ne ∙ unless_so _ 19 (eq-eqb _ _ one)))
        ∙ settle_number w (s.tables a) (s.tables b) row choice content
        ∙ first_next _ _ two_none ∙ first_next _ _ (unless_so _ 16 n) ∙ first_skip _ _ _ (when_false _ 10 (ap is_folder ruling_told))
        ∙ ap₂ (λ o c. first (content_if (choice_takes (choice_named choice)) content ∷ when (not (conflicts o)) 14 ∷ when (eqb c last_count) 15 ∷ [])) ruling_told (counter_past b)

  -- a device that is not there has made no event
  none_made : (d : ℕ) → devices ≤ d → s.past.count d ≡ 0
  unfolding table_of
  none_made d l = sym (counter_past d) ∙ ap (λ t. (table_any t).clock.counter) (k.away d l)

  -- the sets have events that were made, and no other
  pub made_past : (d y : ℕ) (e : Stamp) → (s.past.cell d y).known e ≡ true → WasMade s e
  made_past d y e h =
      let logged = (k.inv.cells d y).sub e h in
      let least = k.inv.named y e logged in
      let few : e.count ≤ s.past.count e.device = omega (arith, k.inv.past y e logged, k.inv.counts e.device) in
      record { device = go (ltb e.device devices) refl least few; some = least; few = few }
    where
      go : (t : Bool) → ltb e.device devices ≡ t → 0 < e.count → e.count ≤ s.past.count e.device → e.device < devices
      go true q least few = ltb-true e.device devices q
      go false q least few = absurd (omega (arith, least, few, none_made e.device (ltb-false e.device devices q)))
