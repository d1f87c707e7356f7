-- The invariant holds at the start of a run and after every call, accepted or refused: so after any run.
use Prim.{Unit, tt}
use Prim.Native.Nat.{ℕ, zero, suc, ◌-◌, ◌<◌, max}
use mathlib.Core.Path.{◌≡◌, refl, sym, ap, ◌∙◌, subst, fun_ext}
use mathlib.Core.Bool.{Bool, true, false, cond}
use mathlib.Core.List.{List, [], ◌∷◌}
use mathlib.Core.Option.{Option}
use mathlib.Core.Logic.{inl, inr}
use native.Mathlib.Omega.{arith}
use lib.Dec.{ltb, eqb}
use lib.ListN.{length}
use borrow.Author.Tests.{ltb-true, lt-ltb, le-ltb}
use Rattle.paper.specs.Columns.{Vec, zeros, greatest}
use Rattle.paper.specs.Rules.{Cell}
use Rattle.paper.specs.Tree.{Forest, end, sheet, folder, mapped, size}
use Rattle.paper.specs.Words.{Table, table_of}
use Rattle.paper.specs.Refusals.{unless}
use Rattle.paper.specs.Calls.{Changed, Passed, event_named, choice_named}
use Rattle.paper.specs.Widths.{Width, width_of, table_any, new_any, event_any, pass_any, settle_any, widen_of}
use Rattle.laws.proofs.Widths.{width_either, widened}
use Rattle.laws.proofs.Forests.{shape, mapped_mapped}
use Rattle.run.specs.Knowledge.{sets}
use Rattle.history.specs.Vectors.{vectors}
use Rattle.run.specs.World.{no_row, begin, eventful, passing, settling}
use Rattle.paper.specs.Devices.{devices}
use Rattle.run.specs.Run.{Step, event, pass, settle, widen, State, replaced, within, begun, step, run, Makes}
use Rattle.history.specs.Look.{cell_at}
use Rattle.history.proofs.Cells.{cell_in, cell_table}
use Rattle.history.proofs.WorldsAgree.{begin_inv}
use Rattle.history.proofs.CountersAhead.{Early}
use Rattle.history.proofs.CallsAccepted.{pass_accepted, event_accepted, settle_accepted}
use Rattle.history.proofs.NewTables.{bare, plan_of, plan_rows, plan_shape, NewAt, new_at}
use Rattle.history.proofs.RunInvariant.{Holds, no_tree, Kept}
use Rattle.history.proofs.StepsKeep.{pass_kept, event_kept, settle_kept, widen_kept}

-- THE START

bare_early : {X Y : Type 0} (count : Vec) (f : Forest X Y) (u : Vec) → Early count (bare f) u
unfolding mapped
bare_early count end u = tt
bare_early count (sheet x r) u = ((λ j. omega arith), bare_early count r u)
bare_early count (folder y k r) u = ((λ j. omega arith), bare_early count k (greatest u zeros), bare_early count r u)

holds_cond : (t : Bool) (o q : Option (Cell Vec)) (c : Cell Vec) → Holds o c → Holds q c → Holds (cond t o q) c
holds_cond true o q c p r = p
holds_cond false o q c p r = r

-- nothing is known of a tree with nothing in it
bare_holds : {X Y : Type 0} (d : ℕ) (f : Forest X Y) (u : Vec) → ((j : ℕ) → u j ≡ 0) → (y : ℕ)
    → Holds (cell_in (record { device = d; counter = 0 }) (bare f) u y) (record { row = no_row; known = zeros })
unfolding cell_in mapped
bare_holds d end u h y = tt
bare_holds d (sheet x r) u h zero = ap (λ v. record { row = no_row; known = v }) (fun_ext (λ j. go j (eqb j d)))
  where
    go : (j : ℕ) (t : Bool) → cond t 0 (max (u j) 0) ≡ 0
    go j true = refl
    go j false = omega (arith, h j)
bare_holds d (sheet x r) u h (suc y) = bare_holds d r u h y
bare_holds d (folder z k r) u h zero = tt
bare_holds d (folder z k r) u h (suc y) =
    holds_cond (ltb y (size (bare k))) (cell_in (record { device = d; counter = 0 }) (bare k) (greatest u zeros) y) (cell_in (record { device = d; counter = 0 }) (bare r) u (y - size (bare k)))
    (record { row = no_row; known = zeros })
    (bare_holds d k (greatest u zeros) (λ j. omega (arith, h j)) y) (bare_holds d r u h (y - size (bare k)))

module _ (columns : ℕ → ℕ) (plan : List ℕ) (lent : ℕ → List ℕ) (made : Makes columns plan lent) where
  accepted : (d : ℕ) → d < devices → NewAt (columns d) d plan (lent d)
  accepted d l = new_at (columns d) d plan (lent d) (made d l)

  -- device 15 has sixteen columns, so the plan's rows stand with sixteen
  pub rows_planned : plan_of (plan_rows devices plan) ≡ plan
  rows_planned =
      let x = accepted 15 (omega arith) in
      subst (λ w. plan_of (plan_rows w plan) ≡ plan) (sixteen (columns 15) x.width x.device) x.planned
    where
      sixteen : (w : ℕ) → Width w → 15 < w → w ≡ 16
      sixteen w (inl e) l = absurd (omega (arith, e))
      sixteen w (inr e) l = e

  -- of one shape with eight columns and with sixteen
  rows_shape : (d : ℕ) → d < devices → shape (plan_rows (columns d) plan) ≡ shape (plan_rows devices plan)
  rows_shape d l = plan_shape (plan_rows (columns d) plan) (plan_rows devices plan) ((accepted d l).planned ∙ sym rows_planned)

  abbrev words : ℕ → List ℕ
  words d = (new_any (columns d) d plan (lent d)).table

  table_at : (d : ℕ) (t : Bool) → ltb d devices ≡ t
      → ((table_any (cond t (words d) [])).clock.counter ≡ 0) × ((y : ℕ) → Holds (cell_at (table_any (cond t (words d) [])) y) (record { row = no_row; known = zeros }))
  unfolding table_of cell_in
  table_at d true e =
      let q = (accepted d (ltb-true d devices e)).read in (
        ap (λ (t : Table). t.clock.counter) q,
        λ y. subst (λ t. Holds (cell_at t y) (record { row = no_row; known = zeros })) (sym q)
            (subst (λ o. Holds o (record { row = no_row; known = zeros })) (sym (cell_table (record { clock = record { device = d; counter = 0 }; tree = bare (plan_rows (columns d) plan) }) y))
            (bare_holds d (plan_rows (columns d) plan) zeros (λ j. refl) y)),
      )
  table_at d false e = (
    refl,
    λ y. subst (λ o. Holds o (record { row = no_row; known = zeros })) (sym (cell_table (table_any []) y ∙ ap (λ t. cell_in (table_any []).clock t zeros y) no_tree)) tt,
  )

  -- new tables have nothing in them, and the history no event
  pub begun_kept : Kept (shape (plan_rows devices plan)) (begun columns plan lent)
  unfolding begun begin
  begun_kept = record {
    sound = λ d l. rw (lt-ltb d devices l) (accepted d l).check;
    away = λ d l. rw (le-ltb d devices l);
    device = λ d l. rw (lt-ltb d devices l) (ap (λ (t : Table). t.clock.device) (accepted d l).read);
    shapes = λ d l. rw (lt-ltb d devices l) (ap (λ (t : Table). shape t.tree) (accepted d l).read ∙ mapped_mapped _ _ _ _ (plan_rows (columns d) plan) ∙ rows_shape d l);
    early = λ d l. subst (λ (t : Table). Early counters t.tree zeros) (sym (read d l)) (bare_early counters (plan_rows (columns d) plan) zeros);
    flat = begin vectors;
    counts = λ d. sym (table_at d (ltb d devices) refl).0;
    holds = λ d y. (table_at d (ltb d devices) refl).1 y;
    inv = begin_inv;
  }
    where
      read : (d : ℕ) → d < devices → table_any (cond (ltb d devices) (words d) []) ≡ record { clock = record { device = d; counter = 0 }; tree = bare (plan_rows (columns d) plan) }
      read d l = rw (lt-ltb d devices l) (accepted d l).read

      counters : Vec
      counters x = (table_any (cond (ltb x devices) (words x) [])).clock.counter

-- A CALL
module _ (p : Forest (Unit {0}) (Unit {0})) where
  -- a refused call changes nothing; what an accepted one does is told by its outcome
  unless_kept : (n : ℕ) (s t : State) → Kept p s → (n ≡ 0 → Kept p t) → Kept p (unless n s t)
  unfolding unless
  unless_kept zero s t k h = h refl
  unless_kept (suc n) s t k h = k

  step_kept : (s : State) (x : Step) → Kept p s → Kept p (step s x)
  unfolding step
  step_kept s (event d row e m) k =
      unless_kept (event_any (s.tables d) row e m).number s _ k
      (λ q.
      let acc = event_accepted (width_of (s.tables d)) (s.tables d) row e m q in
      subst (λ (o : Changed). Kept p (record { tables = replaced s.tables d o.table; past = eventful sets s.past d row (event_named e) m })) (sym acc.done) (event_kept p s k d row e m acc))
  step_kept s (pass a b row list) k =
      unless_kept (pass_any (s.tables a) (s.tables b) row list).number s _ k
      (λ q.
      let acc = pass_accepted (s.tables a) (s.tables b) row list q in
      subst (λ (o : Passed). Kept p (record { tables = replaced s.tables b o.target; past = passing sets s.past a b (within row (length list)) })) (sym acc.done)
      (pass_kept p s k (width_of (s.tables b)) (width_either (s.tables b)) a b row list _ acc))
  step_kept s (settle a b row c m) k =
      unless_kept (settle_any (s.tables a) (s.tables b) row c m).number s _ k
      (λ q.
      let acc = settle_accepted (s.tables a) (s.tables b) row c m q in
      subst (λ (o : Changed). Kept p (record { tables = replaced s.tables b o.table; past = settling sets s.past a b row (choice_named c) m })) (sym acc.done)
      (settle_kept p s k (width_of (s.tables b)) (width_either (s.tables b)) a b row c m _ acc))
  step_kept s (widen d wider) k =
      unless_kept (widen_of (s.tables d) wider).number s _ k
      (λ q. subst (λ (o : Changed). Kept p (record { tables = replaced s.tables d o.table; past = s.past })) (sym (widened (s.tables d) wider q).done) (widen_kept p s k d wider q))

  -- ANY RUN
  pub run_kept : (s : State) (xs : List Step) → Kept p s → Kept p (run s xs)
  unfolding run
  run_kept s [] k = k
  run_kept s (x ∷ xs) k = run_kept (step s x) xs (step_kept s x k)
