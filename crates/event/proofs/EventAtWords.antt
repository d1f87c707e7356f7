-- An event at the words: what it needs of the table, and the words afterwards.
use Prim.Native.Nat.{ℕ, ◌+◌, ◌*◌, ◌≤◌, ◌<◌}
use mathlib.Core.Path.{◌≡◌, refl, ap₂, ◌∙◌}
use mathlib.Core.Bool.{true, false≢true}
use mathlib.Core.List.{List}
use mathlib.Core.Option.{Option, none, some}
use native.Mathlib.Omega.{arith}
use borrow.Author.Tests.{eqb-false, leb-false}
use lib.ListN.{length, get_or}
use Rattle.paper.specs.declared.Stamp.{Stamp}
use Rattle.paper.specs.declared.Content.{Content}
use Rattle.paper.specs.declared.Clock.{Clock}
use Rattle.paper.specs.declared.Event.{Event}
use Rattle.paper.specs.declared.Event.TheVariants.{Creates as creates, Changes as changes, Removes as removes}
use Rattle.paper.specs.Acts.{event_row}
use Rattle.paper.specs.Tree.{subtree, sheet_here, size, Sheet}
use Rattle.paper.specs.Words.{wide, kind_number, sheet_words, Table, table_of}
use Rattle.paper.specs.Check.{check_of}
use Rattle.paper.specs.Named.{event_number}
use Rattle.paper.specs.Calls.{one_to_three, event_named, fits_sheet, last_count, new_stamp, ticked, event_refused, event_sheet, event_done}
use Rattle.laws.proofs.Refusals.{first_both, none_so, when_none}
use Rattle.laws.proofs.Tables.{check_facts, checked_size}
use Rattle.event.specs.EventWords.{event_words}
use Rattle.mend.proofs.PutInPlace.{SheetAt, FineSheet, Changed, good, sheet_fine, sheet_part}
use Rattle.mend.proofs.SheetInPlace.{cut_row, put_row, sheet_made}

-- a sheet's row with an event written into it
pub event_words_lem : (w : ℕ) (e : Event) (s : Stamp) (m : Content) (x : Sheet) → event_words e s m (sheet_words w x) ≡ sheet_words w (event_sheet e s m x)
unfolding event_words sheet_words event_sheet event_row kind_number
event_words_lem w creates s m x = refl
event_words_lem w changes s m x = refl
event_words_lem w removes s m x = refl

-- what is there where no refusal applies
pub record EventFits (w : ℕ) (t : List ℕ) (row event : ℕ) : Type 0 where
  pub check : check_of w t ≡ 0
  pub named : one_to_three event ≡ true
  pub there : row < size (table_of w t).tree
  pub fits : fits_sheet (event_named event) (sheet_here (subtree (table_of w t).tree row)) ≡ true
  pub room : (table_of w t).clock.counter ≡ last_count → ⊥

pub event_facts : (w : ℕ) (t : List ℕ) (row event : ℕ) (content : Content) → event_refused w t row event content ≡ 0 → EventFits w t row event
unfolding event_refused
event_facts w t row event content e =
    let a = first_both _ _ e in
    let b = first_both _ _ a.1 in
    let c = first_both _ _ (first_both _ _ b.1).1 in
    let d = first_both _ _ c.1 in
    let f = first_both _ _ d.1 in
    record {
      check = a.0;
      named = none_so _ _ b.0;
      there = omega (arith, leb-false (size (table_of w t).tree) row (when_none _ _ c.0));
      fits = none_so _ _ d.0;
      room = eqb-false _ _ (when_none _ _ f.0);
    }

-- its words have room for the row
pub record Room (w : ℕ) (t : List ℕ) (row : ℕ) : Type 0 where
  pub device : get_or t 0 0 < w
  pub counter : get_or t 1 0 ≡ last_count → ⊥
  pub few : get_or t 2 0 ≤ 256
  pub long : length t ≡ get_or t 2 0 * wide w + wide w
  pub there : row < get_or t 2 0

pub event_room : (w : ℕ) (t : List ℕ) (row event : ℕ) → EventFits w t row event → Room w t row
unfolding table_of
event_room w t row event f =
    let c = check_facts w t f.check in
    record { device = c.head.device; counter = f.room; few = c.head.few; long = c.head.long; there = omega (arith, checked_size w t c, f.there) }

-- an event is the one that its number names
named_event : (e : Event) → event_named (event_number e) ≡ e
unfolding event_named
named_event creates = refl
named_event changes = refl
named_event removes = refl

pub written_named : (e : Event) (s : Stamp) (m : Content) (t : List ℕ) {r : List ℕ} → r ≡ event_words e s m t → r ≡ event_words (event_named (event_number e)) s m t
written_named e s m t h = rw (named_event e) h

-- the sheet that the event fits
sheet_there : (w : ℕ) (t : List ℕ) (row event : ℕ) → EventFits w t row event → SheetAt w t row
unfolding fits_sheet
sheet_there w t row event ok = go (sheet_here (subtree (table_of w t).tree row)) refl ok.fits
  where
    go : (o : Option Sheet) → sheet_here (subtree (table_of w t).tree row) ≡ o → fits_sheet (event_named event) o ≡ true → SheetAt w t row
    go none z q = absurd (false≢true q)
    go (some x) z q = record { at = record { check = ok.check; there = ok.there }; x = x; is = z }

event_stamp : (e : Event) (s : Stamp) (m : Content) (x : Sheet) → (event_sheet e s m x).row.stamp ≡ s
unfolding event_sheet event_row
event_stamp creates s m x = refl
event_stamp changes s m x = refl
event_stamp removes s m x = refl

event_fine : (w : ℕ) (e : Event) (s : Stamp) (m : Content) (x : Sheet) → FineSheet w x → s.device < w → FineSheet w (event_sheet e s m x)
unfolding event_sheet
event_fine w e s m x f h = (f.0, rw (event_stamp e s m x) h)

-- AN EVENT IN PLACE: the row's part came back with the event, and the counter is that of the clock that went up
module _ (w : ℕ) (t : List ℕ) (row event : ℕ) (content : Content) (ok : EventFits w t row event) where
  abbrev b : Table
  b = table_of w t

  at : SheetAt w t row
  at = sheet_there w t row event ok

  pub event_changed : (s : Stamp) → s ≡ new_stamp b.clock → (e : List ℕ) → e ≡ event_words (event_named event) s content (cut_row w t row) → (c : Clock) → c ≡ ticked b.clock
      → Changed w t (put_row w t row e c.counter) row (event_done b row (event_named event) content)
  unfolding event_done
  event_changed s same e wrote c up =
      sheet_made w t row at (event_sheet (event_named event) (new_stamp b.clock) content) (λ f. f) b.tree at.x at.is
      (event_fine w (event_named event) (new_stamp b.clock) content at.x (sheet_fine w t row at) (good w t row at.at).device) e
      (wrote
      ∙ ap₂ (λ x y. event_words (event_named event) x content y) same (sheet_part w t row at)
      ∙ event_words_lem w (event_named event) (new_stamp b.clock) content at.x)
      c (ticked b.clock) up refl
