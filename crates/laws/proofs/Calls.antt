-- Laws of the calls: the number returned is the refusal's; a refused call leaves its buffers as they were; what two
-- tables that are accepted are like.
use Prim.Native.Nat.{ℕ, suc, ◌≤◌, ◌<◌}
use mathlib.Core.Path.{◌≡◌, refl, ap, ◌∙◌}
use mathlib.Core.List.{List, [], ◌∷◌}
use mathlib.Core.Bool.{Bool, true, false, false≢true}
use native.Mathlib.Omega.{arith}
use borrow.Author.Tests.{eqb-true, eqb-false, le-leb, leb-false, lt-ltb, ltb-false}
use lib.ListN.{length}
use mathlib.Core.Option.{Option, none, some, map}
use Rattle.paper.specs.Tree.{size, subtree, sheet_here, shaped, Sheet, above, later}
use Rattle.paper.specs.Walk.{Two, answers, looked}
use Rattle.paper.specs.Words.{Table, table_of, written}
use Rattle.paper.specs.Refusals.{first, when, tens, unless}
use Rattle.paper.specs.Check.{check_of, content_fits}
use Rattle.paper.specs.declared.Content.{Content}
use Rattle.paper.specs.Devices.{most_class}
use Rattle.paper.specs.Good.{GoodTable}
use Rattle.paper.specs.Calls.{Changed, Passed, new_refused, new_of, event_named, content_refused, content_if, event_refused, event_done, event_of}
use Rattle.paper.specs.Calls.{unlike, two_refused, pair_at, pass_refused, pass_done, pass_of, choice_named, settle_refused, settle_done, settle_of}
use Rattle.paper.specs.Calls.{Masked, ruling_here, is_folder, conflicts, no_masks, ahead_refused, ahead_sheet, ahead_here, masks_of, ahead_of}
use Rattle.laws.proofs.Bools.{both_and}
use Rattle.laws.proofs.Refusals.{first_both, when_none, none_so, tens_none, unless_none, unless_some, unless_at, unless_number}
use Rattle.laws.proofs.Forests.{mapped_here}
use Rattle.laws.proofs.Tables.{check_facts, checked_good, checked_written}

-- THE NUMBER is 0 exactly where nothing refuses

pub new_number : (w d : ℕ) (plan table : List ℕ) → (new_of w d plan table).number ≡ new_refused w d plan table
unfolding new_of
new_number w d plan table = unless_at (λ (o : Changed). o.number) (new_refused w d plan table) _ _ ∙ unless_number (new_refused w d plan table)

pub event_number : (w : ℕ) (t : List ℕ) (row event : ℕ) (content : Content) → (event_of w t row event content).number ≡ event_refused w t row event content
unfolding event_of
event_number w t row event content = unless_at (λ (o : Changed). o.number) (event_refused w t row event content) _ _ ∙ unless_number (event_refused w t row event content)

pub pass_number : (w : ℕ) (s t : List ℕ) (row : ℕ) (list : List ℕ) → (pass_of w s t row list).number ≡ pass_refused w s t row list
unfolding pass_of
pass_number w s t row list = unless_at (λ (o : Passed). o.number) (pass_refused w s t row list) _ _ ∙ unless_number (pass_refused w s t row list)

pub settle_number : (w : ℕ) (s t : List ℕ) (row choice : ℕ) (content : Content) → (settle_of w s t row choice content).number ≡ settle_refused w s t row choice content
unfolding settle_of
settle_number w s t row choice content = unless_at (λ (o : Changed). o.number) (settle_refused w s t row choice content) _ _ ∙ unless_number (settle_refused w s t row choice content)

-- the masks come with the number 0
masks_number : (w : ℕ) (a b : Table) (row : ℕ) → (masks_of (ahead_here w a b row)).number ≡ 0
unfolding ahead_here ahead_sheet
masks_number w a b row = ap (λ o. (masks_of o).number) (mapped_here _ _ (pair_at a b row)) ∙ go (sheet_here (pair_at a b row))
  where
    go : (o : Option (Two Sheet)) → (masks_of (map (ahead_sheet w a.clock b.clock (above a.tree row) (above b.tree row)) o)).number ≡ 0
    go none = refl
    go (some x) = refl

pub ahead_number : (w : ℕ) (s t : List ℕ) (row : ℕ) → (ahead_of w s t row).number ≡ ahead_refused w s t row
unfolding ahead_of
ahead_number w s t row =
    let no = ahead_refused w s t row in
    unless_at (λ (o : Masked). o.number) no _ _ ∙ ap (unless no no) (masks_number w (table_of w s) (table_of w t) row) ∙ unless_number no

-- A REFUSAL has the count 0 and changes no word

-- the outcome of a refused call on a table
abbrev pub kept : ℕ → List ℕ → Changed
kept n t = record { number = n; count = 0; table = t }

pub new_refused_lem : (w d : ℕ) (plan table : List ℕ) → (new_refused w d plan table ≡ 0 → ⊥) → new_of w d plan table ≡ kept (new_refused w d plan table) table
unfolding new_of
new_refused_lem w d plan table h = unless_some (new_refused w d plan table) _ _ h

pub event_refused_lem : (w : ℕ) (t : List ℕ) (row event : ℕ) (content : Content) → (event_refused w t row event content ≡ 0 → ⊥)
    → event_of w t row event content ≡ kept (event_refused w t row event content) t
unfolding event_of
event_refused_lem w t row event content h = unless_some (event_refused w t row event content) _ _ h

pub pass_refused_lem : (w : ℕ) (s t : List ℕ) (row : ℕ) (list : List ℕ) → (pass_refused w s t row list ≡ 0 → ⊥)
    → pass_of w s t row list ≡ record { number = pass_refused w s t row list; count = 0; target = t; answers = list }
unfolding pass_of
pass_refused_lem w s t row list h = unless_some (pass_refused w s t row list) _ _ h

pub settle_refused_lem : (w : ℕ) (s t : List ℕ) (row choice : ℕ) (content : Content) → (settle_refused w s t row choice content ≡ 0 → ⊥)
    → settle_of w s t row choice content ≡ kept (settle_refused w s t row choice content) t
unfolding settle_of
settle_refused_lem w s t row choice content h = unless_some (settle_refused w s t row choice content) _ _ h

pub ahead_refused_lem : (w : ℕ) (s t : List ℕ) (row : ℕ) → (ahead_refused w s t row ≡ 0 → ⊥) → ahead_of w s t row ≡ no_masks (ahead_refused w s t row)
unfolding ahead_of
ahead_refused_lem w s t row h = unless_some (ahead_refused w s t row) _ _ h

-- THE WORK where nothing refuses

pub event_done_lem : (w : ℕ) (t : List ℕ) (row event : ℕ) (content : Content) → event_refused w t row event content ≡ 0
    → event_of w t row event content ≡ record {
      number = 0;
      count = suc (table_of w t).clock.counter;
      table = written w (event_done (table_of w t) row (event_named event) content);
    }
unfolding event_of
event_done_lem w t row event content e = unless_none (event_refused w t row event content) _ _ e

pub pass_done_lem : (w : ℕ) (s t : List ℕ) (row : ℕ) (list : List ℕ) → pass_refused w s t row list ≡ 0
    → pass_of w s t row list ≡ (let a = table_of w s in let b = table_of w t in record {
      number = 0;
      count = looked w a.clock b.clock (pair_at a b row) (above a.tree row) (above b.tree row);
      target = written w (pass_done w a b row);
      answers = answers w a.clock b.clock (pair_at a b row) (above a.tree row) (above b.tree row);
    })
unfolding pass_of
pass_done_lem w s t row list e = unless_none (pass_refused w s t row list) _ _ e

pub settle_done_lem : (w : ℕ) (s t : List ℕ) (row choice : ℕ) (content : Content) → settle_refused w s t row choice content ≡ 0
    → settle_of w s t row choice content ≡ record {
      number = 0;
      count = suc (table_of w t).clock.counter;
      table = written w (settle_done (table_of w s) (table_of w t) row (choice_named choice) content);
    }
unfolding settle_of
settle_done_lem w s t row choice content e = unless_none (settle_refused w s t row choice content) _ _ e

-- A CONTENT that is taken and not refused is one that a live sheet may hold
pub content_taken : (takes : Bool) (m : Content) → content_if takes m ≡ 0 → takes ≡ true → content_fits m ≡ true
unfolding content_refused content_fits
content_taken true m e h =
    let a = first_both _ _ e in
    let b = first_both _ _ a.1 in
    let some : 0 < m.mark = omega (arith, eqb-false m.mark 0 (when_none _ _ b.0)) in
    both_and (le-leb _ _ (ltb-false most_class m.class (when_none _ _ a.0))) (lt-ltb 0 m.mark some)
content_taken false m e h = absurd (false≢true h)

pub ahead_done : (w : ℕ) (s t : List ℕ) (row : ℕ) → ahead_refused w s t row ≡ 0 → ahead_of w s t row ≡ masks_of (ahead_here w (table_of w s) (table_of w t) row)
unfolding ahead_of
ahead_done w s t row e = unless_none (ahead_refused w s t row) _ _ e

-- a check gives at most 3
three_small : (a b c : Bool) → first (when a 1 ∷ when b 2 ∷ when c 3 ∷ []) ≤ 3
unfolding first when
three_small true b c = omega arith
three_small false true c = omega arith
three_small false false true = omega arith
three_small false false false = omega arith

pub check_small : (w : ℕ) (t : List ℕ) → check_of w t ≤ 3
unfolding check_of
check_small w t = three_small _ _ _

-- TWO TABLES that are accepted: both good and written as they stand, of one shape, of two devices, neither naming a later
-- count of the other's device than its counter; and the row is there
pub record Accepted (w : ℕ) (s t : List ℕ) (row : ℕ) : Type 0 where
  pub source : GoodTable w (table_of w s)
  pub target : GoodTable w (table_of w t)
  pub source_words : written w (table_of w s) ≡ s
  pub target_words : written w (table_of w t) ≡ t
  pub shaped : shaped (table_of w s).tree (table_of w t).tree ≡ true
  pub apart : (table_of w s).clock.device ≡ (table_of w t).clock.device → ⊥
  pub six : later (table_of w t).clock (table_of w s).tree ≡ false
  pub seven : later (table_of w s).clock (table_of w t).tree ≡ false
  pub there : row < size (table_of w t).tree

pub two_accepted : (w : ℕ) (s t : List ℕ) (row : ℕ) → two_refused w s t row ≡ 0 → Accepted w s t row
unfolding two_refused unlike
two_accepted w s t row e =
    let one = first_both (check_of w s) _ e in
    let two = first_both (tens (check_of w t)) _ one.1 in
    let four = first_both _ _ (first_both (unlike (table_of w s) (table_of w t) row) [] two.1).0 in
    let five = first_both _ _ four.1 in
    let six = first_both _ _ five.1 in
    let seven = first_both _ _ six.1 in
    let eight = first_both _ _ seven.1 in
    let a = check_facts w s one.0 in
    let b = check_facts w t (tens_none (check_of w t) two.0) in
    record {
      source = checked_good w s a;
      target = checked_good w t b;
      source_words = checked_written w s a;
      target_words = checked_written w t b;
      shaped = none_so _ 3 four.0;
      apart = eqb-false _ _ (when_none _ 4 five.0);
      six = when_none _ 5 six.0;
      seven = when_none _ 6 seven.0;
      there = omega (arith, leb-false (size (table_of w t).tree) row (when_none _ 7 eight.0));
    }

-- an accepted pass: two accepted tables, and the list is as long as the subtree has rows
pub pass_accepted : (w : ℕ) (s t : List ℕ) (row : ℕ) (list : List ℕ) → pass_refused w s t row list ≡ 0 → Accepted w s t row × (length list ≡ size (subtree (table_of w t).tree row))
unfolding pass_refused
pass_accepted w s t row list e =
    let two = first_both (two_refused w s t row) _ e in
    (two_accepted w s t row two.0, eqb-true _ _ (none_so _ 8 (first_both _ _ two.1).0))

-- who is ahead can be told: the two tables are accepted, and the rules say conflict at a sheet
pub record AheadAccepted (w : ℕ) (s t : List ℕ) (row : ℕ) : Type 0 where
  pub two : two_refused w s t row ≡ 0
  pub sheet : is_folder (ruling_here (table_of w s) (table_of w t) row) ≡ false
  pub conflict : conflicts (ruling_here (table_of w s) (table_of w t) row) ≡ true

pub ahead_accepted : (w : ℕ) (s t : List ℕ) (row : ℕ) → ahead_refused w s t row ≡ 0 → AheadAccepted w s t row
unfolding ahead_refused
ahead_accepted w s t row e =
    let x = first_both (two_refused w s t row) _ e in
    let y = first_both _ _ x.1 in
    record { two = x.0; sheet = when_none _ 9 y.0; conflict = none_so _ 13 (first_both _ _ y.1).0 }
