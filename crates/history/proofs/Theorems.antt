-- THE THEOREMS. They are about the paper's definitions of the calls, on words of either width, with no axiom and no
-- hypothesis but those that stand in the statements.
-- Both directions: every statement about a source a and a target b is for any a and b, so it holds whichever of two devices
-- is the source. Nothing more is to be shown for a pass the other way.
use Prim.Native.Nat.{ℕ, ◌+◌, ◌-◌, ◌*◌, ◌≤◌, ◌<◌}
use mathlib.Core.Path.{◌≡◌, refl, sym, ap, ◌∙◌, subst}
use mathlib.Core.Bool.{true, false, not, ◌||◌, cond}
use mathlib.Core.List.{List, [], ◌∷◌}
use mathlib.Core.Option.{some}
use mathlib.Core.Logic.{◌⊎◌, inl, inr, ◌↔◌}
use native.Mathlib.Omega.{arith}
use lib.Dec.{leb, eqb}
use lib.ListN.{length, get_or, take}
use Rattle.paper.specs.declared.Ruling.TheVariants.{Conflict}
use Rattle.paper.specs.declared.Stamp.{Stamp}
use Rattle.paper.specs.declared.Content.{Content}
use Rattle.paper.specs.Columns.{Vec, covers}
use Rattle.paper.specs.Rules.{Cell, ruling, number_of}
use Rattle.paper.specs.Acts.{fits, takes_content, choice_takes}
use Rattle.paper.specs.Tree.{size, levels, subtree, sheet_here}
use Rattle.paper.specs.Words.{wide, Table, table_of}
use Rattle.paper.specs.Refusals.{first, when}
use Rattle.paper.specs.Check.{check_of}
use Rattle.paper.specs.Calls.{Passed, is_folder, one_to_three, event_named, last_count, two_refused, pass_of, pass_done, choice_named, conflicts, content_if}
use Rattle.paper.specs.Widths.{Width, width_of, table_any, check_any, new_any, widen_of, event_any, two_widths, pass_any, settle_any, ahead_any}
use Rattle.laws.proofs.Tables.{check_facts, checked_written}
use Rattle.laws.proofs.Widths.{width_either, width_written, widened, widen_same, pass_any_lem}
use Rattle.laws.proofs.Forests.{shape}
use Rattle.run.specs.Knowledge.{sets, passed}
use Rattle.history.specs.Vectors.{vectors}
use Rattle.paper.specs.Devices.{devices}
use Rattle.run.specs.Run.{Step, State, within, Makes, ran, begun, Without, WasMade}
use Rattle.history.specs.Look.{cell_at, both, over_at, beneath_five, tally, level_at, unheard, widest}
use Rattle.history.proofs.Bridge.{three}
use Rattle.history.proofs.CallsAccepted.{pass_accepted, pass_at}
use Rattle.history.proofs.NewTables.{plan_rows}
use Rattle.history.proofs.RunInvariant.{Kept}
use Rattle.history.proofs.PlanOfRun.{kept_widths, kept_two, kept_pass, kept_apart, kept_said}
use Rattle.history.proofs.CallsOnWords.{pass_long, pass_number_at, pass_cell, pass_away, pass_sheets, pass_clock, pass_head}
use Rattle.history.proofs.CallsOnWords.{pass_sound, pass_folder, pass_empty, pass_looked, pass_few, new_sound, event_sound, settle_sound}
use Rattle.history.proofs.ToldByHistory.{event_told, settle_told, made_past}
use Rattle.history.proofs.LateCounts.{kept_without}
use Rattle.history.proofs.EveryRun.{begun_kept, run_kept}
use Rattle.history.proofs.WhoIsAhead.{told_ahead}

-- the invariant after a run, for the proofs of 1 and 2
kept : (columns : ℕ → ℕ) (plan : List ℕ) (lent : ℕ → List ℕ) → Makes columns plan lent → (steps : List Step) → Kept (shape (plan_rows devices plan)) (ran columns plan lent steps)
kept columns plan lent makes steps = run_kept (shape (plan_rows devices plan)) (begun columns plan lent) steps (begun_kept columns plan lent makes)

-- 1. DEMAND 3. After any run, for any two devices a and b and any row: if the pass from a to b at that row is accepted, then
-- at each row of the subtree that is a sheet (a zero of the plan), beneath folders that were passed over too, the number in
-- the answer list is the number of the history's ruling; and the list says 3 there exactly when the history says conflict.
-- The devices are sixteen, each with eight columns (0 to 7 only) or sixteen; a narrow table may be widened on the way.
pub record Demand3 (plan : List ℕ) (s : State) (a b row : ℕ) (list : List ℕ) (out : Passed) : Type 0 where
  pub said : (j : ℕ) → j < length list → get_or plan (row + j) 1 ≡ 0
      → get_or out.answers j 0 ≡ number_of (ruling sets.knows (s.past.cell a (row + j)) (s.past.cell b (row + j)))
  pub conflict : (j : ℕ) → j < length list → get_or plan (row + j) 1 ≡ 0
      → (get_or out.answers j 0 ≡ 3) ↔ (ruling sets.knows (s.past.cell a (row + j)) (s.past.cell b (row + j)) ≡ Conflict)

pub demand_3 : (columns : ℕ → ℕ) (plan : List ℕ) (lent : ℕ → List ℕ) → Makes columns plan lent → (steps : List Step) (a b row : ℕ) (list : List ℕ)
    → (pass_any ((ran columns plan lent steps).tables a) ((ran columns plan lent steps).tables b) row list).number ≡ 0
    → Demand3 plan (ran columns plan lent steps) a b row list (pass_any ((ran columns plan lent steps).tables a) ((ran columns plan lent steps).tables b) row list)
demand_3 columns plan lent makes steps a b row list e =
    let said = kept_said columns plan lent makes (ran columns plan lent steps) (kept columns plan lent makes steps) a b row list e in
    record { said = said; conflict = λ j l z. three _ _ (said j l z) }

-- The same of the pass at a width w
abbrev pub Demand3At : ℕ → Type 0
Demand3At w = (columns : ℕ → ℕ) (plan : List ℕ) (lent : ℕ → List ℕ) → Makes columns plan lent → (steps : List Step) (a b row : ℕ) (list : List ℕ)
    → (pass_of w ((ran columns plan lent steps).tables a) ((ran columns plan lent steps).tables b) row list).number ≡ 0
    → Demand3 plan (ran columns plan lent steps) a b row list (pass_of w ((ran columns plan lent steps).tables a) ((ran columns plan lent steps).tables b) row list)

-- holds at either width of the product, whatever columns the other devices have:
pub demand_3_at : (w : ℕ) → Width w → Demand3At w
demand_3_at w either columns plan lent makes steps a b row list e =
    let s = ran columns plan lent steps in
    let same = pass_at w either (s.tables a) (s.tables b) row list e in
    subst (Demand3 plan s a b row list) same (demand_3 columns plan lent makes steps a b row list (ap (λ (o : Passed). o.number) same ∙ e))

-- with eight columns, so in every run of devices 0 to 7 that stay narrow (the others are made and do nothing),
pub demand_3_narrow : Demand3At 8
demand_3_narrow = demand_3_at 8 (inl refl)

-- and with sixteen, so in every run of wide tables.
pub demand_3_wide : Demand3At 16
demand_3_wide = demand_3_at 16 (inr refl)

-- 2. NEVER: in a run no call is refused by 6 and none by 7, whatever two device numbers it is given. The tables of two different
-- devices are refused by 19, exactly where their widths differ, and else by 8 alone. A pass between tables of one width is
-- refused by 8 or 9 alone, one between tables of two widths by 19, changing nothing. Every table is sound.
pub record Never (plan : List ℕ) (s : State) : Type 0 where
  pub six : Without 6 s
  pub seven : Without 7 s
  pub widths : (a b row : ℕ) → a < devices → b < devices → (a ≡ b → ⊥) → two_widths (s.tables a) (s.tables b) ≡ when (not (eqb (width_of (s.tables a)) (width_of (s.tables b)))) 19
  pub two : (a b row : ℕ) → a < devices → b < devices → (a ≡ b → ⊥) → width_of (s.tables a) ≡ width_of (s.tables b)
      → two_refused (width_of (s.tables b)) (s.tables a) (s.tables b) row ≡ when (leb (length plan) row) 8
  pub pass : (a b row : ℕ) → a < devices → b < devices → (a ≡ b → ⊥) → (list : List ℕ) → width_of (s.tables a) ≡ width_of (s.tables b)
      → ((pass_any (s.tables a) (s.tables b) row list).number ≡ 0) ⊎ (((pass_any (s.tables a) (s.tables b) row list).number ≡ 8) ⊎ ((pass_any (s.tables a) (s.tables b) row list).number ≡ 9))
  pub apart : (a b row : ℕ) → a < devices → b < devices → (a ≡ b → ⊥) → (list : List ℕ) → (width_of (s.tables a) ≡ width_of (s.tables b) → ⊥)
      → pass_any (s.tables a) (s.tables b) row list ≡ record { number = 19; count = 0; target = s.tables b; answers = list }
  pub sound : (d : ℕ) → d < devices → check_any (s.tables d) ≡ 0

pub never : (columns : ℕ → ℕ) (plan : List ℕ) (lent : ℕ → List ℕ) → Makes columns plan lent → (steps : List Step) → Never plan (ran columns plan lent steps)
never columns plan lent makes steps =
    let s = ran columns plan lent steps in
    let k = kept columns plan lent makes steps in
    record {
      six = kept_without 6 (omega arith) (omega arith) _ s k;
      seven = kept_without 7 (omega arith) (omega arith) _ s k;
      widths = kept_widths columns plan lent makes s k;
      two = kept_two columns plan lent makes s k;
      pass = kept_pass columns plan lent makes s k;
      apart = kept_apart columns plan lent makes s k;
      sound = k.sound;
    }

-- A WIDENING that is accepted: eight columns become sixteen, and the table, its clock and every sheet's row and known time,
-- is the same; so no set of events changes.
pub record SameWidened (t wider : List ℕ) : Type 0 where
  pub before : width_of t ≡ 8
  pub after : width_of (widen_of t wider).table ≡ 16
  pub same : table_any (widen_of t wider).table ≡ table_any t
  pub sound : check_any (widen_of t wider).table ≡ 0

pub same_widened : (t wider : List ℕ) → (widen_of t wider).number ≡ 0 → SameWidened t wider
same_widened t wider e =
    let x = widen_same t wider e in
    record { before = (widened t wider e).narrow; after = x.width; same = x.same; sound = x.check }

-- ONE WIDTH: the tables of an accepted pass have one width, and the target keeps it, with its whole head.
pub record OneWidth (s t : List ℕ) (out : Passed) : Type 0 where
  pub one : width_of s ≡ width_of t
  pub kept : width_of out.target ≡ width_of t
  pub head : take (wide (width_of t)) out.target ≡ take (wide (width_of t)) t

pub one_width : (s t : List ℕ) (row : ℕ) (list : List ℕ) → (pass_any s t row list).number ≡ 0 → OneWidth s t (pass_any s t row list)
one_width s t row list e =
    let w = width_of t in
    let two = (pass_any_lem s t row list e).two in
    let acc = pass_accepted s t row list e in
    record {
      one = two.one;
      kept = ap (λ (o : Passed). width_of o.target) acc.done ∙ width_written w (width_either t) (pass_done w (table_any s) (table_any t) row);
      head = pass_head w (table_any s) (table_any t) row list _ acc ∙ ap (take (wide w)) (checked_written w t (check_facts w t two.target));
    }

-- 3. WHOLE-LOOK, with no run: what an accepted pass from the words s to the words t does, row by row. Each sheet of the
-- subtree has the answer, the row and the known time that the six rules give for that sheet alone from the tables as they
-- were, though folders are passed over. Every other sheet's row and known time is as it was, and so is the clock.
pub record WholeLook (a b after : Table) (row : ℕ) (list : List ℕ) (out : Passed) : Type 0 where
  -- one number for each row of the subtree
  pub long : length out.answers ≡ length list
  -- at a sheet, the number of the ruling
  pub said : (j : ℕ) (x y : Cell Vec) → j < length list → cell_at a (row + j) ≡ some x → cell_at b (row + j) ≡ some y → get_or out.answers j 0 ≡ number_of (ruling covers x y)
  -- and what the ruling makes of the two cells, row and known time
  pub inside : (j : ℕ) → j < length list → cell_at after (row + j) ≡ both (passed vectors) (cell_at a (row + j)) (cell_at b (row + j))
  pub outside : (i : ℕ) → within row (length list) i ≡ false → cell_at after i ≡ cell_at b i
  -- the same rows are sheets in source and target
  pub sheets : (i : ℕ) → is_folder (cell_at a i) ≡ is_folder (cell_at b i)
  pub clock : after.clock ≡ b.clock

pub whole_look : (s t : List ℕ) (row : ℕ) (list : List ℕ) → (pass_any s t row list).number ≡ 0
    → WholeLook (table_any s) (table_any t) (table_any (pass_any s t row list).target) row list (pass_any s t row list)
whole_look s t row list e =
    let w = width_of t in
    let a = table_any s in
    let b = table_any t in
    let out = pass_any s t row list in
    let acc = pass_accepted s t row list e in
    subst (λ v. WholeLook a b (table_of v out.target) row list out) (sym (one_width s t row list e).kept)
    (record {
      long = pass_long w a b row list out acc;
      said = pass_number_at w a b row list out acc;
      inside = pass_cell w a b row list out acc;
      outside = pass_away w a b row list out acc;
      sheets = pass_sheets w a b row list out acc;
      clock = pass_clock w a b row list out acc;
    })

-- 4. SOUND: each call that succeeds leaves a table whose check is 0.
pub record Sound : Type 0 where
  pub new : (columns d : ℕ) (plan table : List ℕ) → (new_any columns d plan table).number ≡ 0 → check_any (new_any columns d plan table).table ≡ 0
  pub widen : (t wider : List ℕ) → (widen_of t wider).number ≡ 0 → check_any (widen_of t wider).table ≡ 0
  pub event : (t : List ℕ) (row event : ℕ) (content : Content) → (event_any t row event content).number ≡ 0 → check_any (event_any t row event content).table ≡ 0
  pub pass : (s t : List ℕ) (row : ℕ) (list : List ℕ) → (pass_any s t row list).number ≡ 0 → check_any (pass_any s t row list).target ≡ 0
  pub settle : (s t : List ℕ) (row choice : ℕ) (content : Content) → (settle_any s t row choice content).number ≡ 0 → check_any (settle_any s t row choice content).table ≡ 0

pub sound : Sound
sound = record {
  new = new_sound;
  widen = λ t wider e. (widen_same t wider e).check;
  event = event_sound;
  pass = λ s t row list e.
      ap (λ v. check_of v (pass_any s t row list).target) (one_width s t row list e).kept
      ∙ pass_sound (width_of t) (table_any s) (table_any t) row list _ (pass_accepted s t row list e);
  settle = settle_sound;
}

-- 5. PASSED OVER: of an accepted pass, 5 stands at a folder of the list exactly when it lies beneath a 5 or the paper's
-- condition holds there by the tables as they were; 4 stands at every other folder.
pub passed_over : (s t : List ℕ) (row : ℕ) (list : List ℕ) → (pass_any s t row list).number ≡ 0
    → (j : ℕ) → j < length list → is_folder (sheet_here (subtree (table_any t).tree (row + j))) ≡ true
    → get_or (pass_any s t row list).answers j 0
    ≡ cond (beneath_five (subtree (table_any t).tree row) (pass_any s t row list).answers j || over_at (width_of t) (table_any s) (table_any t) (row + j)) 5 4
passed_over s t row list e = pass_folder (width_of t) (table_any s) (table_any t) row list _ (pass_accepted s t row list e)

-- A folder with nothing in it is always passed over.
pub empty_passed_over : (s t : List ℕ) (row : ℕ) (list : List ℕ) → (pass_any s t row list).number ≡ 0
    → (j : ℕ) → j < length list → is_folder (sheet_here (subtree (table_any t).tree (row + j))) ≡ true → size (subtree (table_any t).tree (row + j)) ≡ 1
    → get_or (pass_any s t row list).answers j 0 ≡ 5
empty_passed_over s t row list e = pass_empty (width_of t) (table_any s) (table_any t) row list _ (pass_accepted s t row list e)

-- 6. LOOKED: the count of an accepted pass is the number of rows that don't lie beneath a passed_over folder. If source and
-- target are level at the start row, k sheets there have a source stamp that the target doesn't cover, the subtree has D
-- levels and no folder more than W children, it is at most 1 + k(D-1)W.
pub record Looked (w : ℕ) (a b : Table) (row : ℕ) (list : List ℕ) (out : Passed) : Type 0 where
  pub rows : out.count ≡ tally (length list) (λ j. not (beneath_five (subtree b.tree row) out.answers j))
  pub few : (k D W : ℕ) → level_at w a row ≡ true → level_at w b row ≡ true → k ≡ tally (length list) (λ j. unheard (cell_at a (row + j)) (cell_at b (row + j)))
      → D ≡ levels (subtree b.tree row) → widest (subtree b.tree row) ≤ W → out.count ≤ 1 + k * ((D - 1) * W)

pub looked : (s t : List ℕ) (row : ℕ) (list : List ℕ) → (pass_any s t row list).number ≡ 0 → Looked (width_of t) (table_any s) (table_any t) row list (pass_any s t row list)
looked s t row list e =
    let acc = pass_accepted s t row list e in
    record { rows = pass_looked (width_of t) (table_any s) (table_any t) row list _ acc; few = pass_few (width_of t) (table_any s) (table_any t) row list _ acc }

-- 7. TOLD BY THE HISTORY: at a sheet, an event that is 1, 2 or 3 and whose content is not refused, or not taken, is refused by 10
-- exactly where it does not fit the kind that the history has there, and else only by 15; a settling between two devices' tables of
-- one width, by a choice 1, 2 or 3, likewise by 14 exactly where the history says no conflict, and else only by 15. The history's sets are finite: an event is
-- in one of them only if its device, one of the sixteen, has made it.
pub record Told (plan : List ℕ) (s : State) : Type 0 where
  pub event : (d row event : ℕ) (content : Content) → d < devices → one_to_three event ≡ true → get_or plan row 1 ≡ 0
      → (event_any (s.tables d) row event content).number
      ≡ first (content_if (takes_content (event_named event)) content
      ∷ when (not (fits (event_named event) (s.past.cell d row).row.kind)) 10
      ∷ when (eqb (s.past.count d) last_count) 15
      ∷ [])
  pub settle : (a b row : ℕ) → a < devices → b < devices → (a ≡ b → ⊥) → width_of (s.tables a) ≡ width_of (s.tables b) → get_or plan row 1 ≡ 0
      → (choice : ℕ) (content : Content) → one_to_three choice ≡ true
      → (settle_any (s.tables a) (s.tables b) row choice content).number
      ≡ first (content_if (choice_takes (choice_named choice)) content
      ∷ when (not (conflicts (some (ruling sets.knows (s.past.cell a row) (s.past.cell b row))))) 14
      ∷ when (eqb (s.past.count b) last_count) 15
      ∷ [])
  pub made : (d y : ℕ) (e : Stamp) → (s.past.cell d y).known e ≡ true → WasMade s e

pub told : (columns : ℕ → ℕ) (plan : List ℕ) (lent : ℕ → List ℕ) → Makes columns plan lent → (steps : List Step) → Told plan (ran columns plan lent steps)
told columns plan lent makes steps =
    let s = ran columns plan lent steps in
    let k = kept columns plan lent makes steps in
    record { event = event_told columns plan lent makes s k; settle = settle_told columns plan lent makes s k; made = made_past columns plan lent makes s k }

-- 8. WHO IS AHEAD, with no run: where it is told, which is in a conflict, each side is ahead of the other in some column.
pub both_ahead : (s t : List ℕ) (row : ℕ) → (ahead_any s t row).number ≡ 0 → (0 < (ahead_any s t row).source) × (0 < (ahead_any s t row).target)
both_ahead = told_ahead
