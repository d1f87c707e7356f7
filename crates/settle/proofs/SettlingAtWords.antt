-- A settling at the words: what it needs of the two tables, and the words afterwards.
use Prim.Native.Nat.{ℕ, ◌<◌}
use mathlib.Core.Path.{◌≡◌, subst, refl, sym, ap, ap₂, ◌∙◌}
use mathlib.Core.Bool.{true, false≢true}
use mathlib.Core.List.{List, [], append-nil}
use mathlib.Core.Option.{Option, none, some, map}
use borrow.Author.Tests.{eqb-false}
use Rattle.paper.specs.declared.Stamp.{Stamp}
use Rattle.paper.specs.declared.Content.{Content}
use Rattle.paper.specs.declared.Clock.{Clock}
use Rattle.paper.specs.Columns.{Vec, full}
use Rattle.paper.specs.declared.Kind.{Kind}
use Rattle.paper.specs.declared.Kind.TheVariants.{Never as never, Live as live, Removed as removed}
use Rattle.paper.specs.Rules.{Row}
use Rattle.paper.specs.declared.Choice.{Choice}
use Rattle.paper.specs.declared.Choice.TheVariants.{Theirs as theirs, Own as own, New as new}
use Rattle.paper.specs.Acts.{birth_of, with_stamp, settle_row}
use Rattle.paper.specs.Tree.{sheet_here, Sheet, above}
use Rattle.paper.specs.Walk.{Two, zip, raised, rule_at}
use Rattle.paper.specs.Words.{kind_number, floor_of, sheet_words, Table, table_of}
use Rattle.paper.specs.Named.{choice_number}
use Rattle.paper.specs.Calls.{row_at, new_stamp, ticked, last_count, two_refused, pair_at, ruling_here, conflicts, choice_named, settle_refused, settle_sheet, settle_done}
use Rattle.laws.proofs.Refusals.{first_both, none_so, when_none}
use Rattle.laws.proofs.WrittenRows.{sheet_read}
use Rattle.leaf.specs.Leaves.{taken_from, floored}
use Rattle.leaf.proofs.TreeSteps.{raised_narrow}
use Rattle.leaf.proofs.RowsWritten.{sheet_floored, sheet_taken}
use Rattle.two.proofs.Listed.{row_cut}
use Rattle.two.proofs.TwoTables.{Paired, paired}
use Rattle.verdict.proofs.Zipped.{side_left, side_right, ruling_pair}
use Rattle.clock.specs.declared.Ticked.{Ticked}
use Rattle.settle.specs.SettledWords.{new_words, chosen_words, settled_words, RowSettled}
use Rattle.mend.specs.Restamped.{restamped}
use Rattle.mend.proofs.PutInPlace.{SheetAt, FineSheet, Changed, there, good, narrow_above, sheet_fine, sheet_part}
use Rattle.mend.proofs.SheetInPlace.{cut_row, put_row, sheet_made}

-- THE CHOICE is the one that its number names
named_choice : (c : Choice) → choice_named (choice_number c) ≡ c
unfolding choice_named
named_choice theirs = refl
named_choice own = refl
named_choice new = refl

pub settled_named : (w : ℕ) (b : Clock) (v : Vec) (c : Choice) (m : Content) (s r u : List ℕ) (k : Ticked) → RowSettled w b v c m s r u k
    → RowSettled w b v (choice_named (choice_number c)) m s r u k
settled_named w b v c m s r u k h = subst (λ x. RowSettled w b v x m s r u k) (sym (named_choice c)) h

-- THE ROW step by step, as the code goes: its floor raised, `one`, the choice, `two`, and the new stamp
pub row_settled : (w : ℕ) (b : Clock) (v : Vec) (c : Choice) (m : Content) (s r one two : List ℕ) (k : Ticked) → one ≡ floored w (raised b (floor_of w r) v) r
    → two ≡ chosen_words c m s one → (k.clock ≡ ticked b) × (k.stamp ≡ new_stamp b) → RowSettled w b v c m s r (restamped k.stamp two) k
unfolding settled_words
row_settled w b v c m s r one two k raise choose up = (up.0, up.1, ap₂ restamped up.1 (choose ∙ ap (chosen_words c m s) raise))

-- a sheet's row with the floor f
floor_words : (w : ℕ) (x : Sheet) (f : Vec) → floored w f (sheet_words w x) ≡ sheet_words w (record { row = x.row; floor = f })
floor_words w x f = ap (floored w f) (sym (append-nil (sheet_words w x))) ∙ sheet_floored w x f [] ∙ append-nil (sheet_words w (record { row = x.row; floor = f }))

-- and with a new row written into it
new_words_lem : (w : ℕ) (stamp : Stamp) (m : Content) (x : Sheet) (k : Kind) (s b : Stamp) (held : Content) (f : Vec) → (let r : Row = record { kind = k; stamp = s; birth = b; content = held } in
    restamped stamp (new_words m (sheet_words w x) (sheet_words w (record { row = r; floor = f }))) ≡ sheet_words w (record { row = settle_row new stamp m x.row r; floor = f }))
unfolding new_words sheet_words settle_row birth_of kind_number
new_words_lem w stamp m x never s b held f = refl
new_words_lem w stamp m x live s b held f = refl
new_words_lem w stamp m x removed s b held f = refl

-- or with another stamp
stamp_words : (w : ℕ) (stamp : Stamp) (x : Row) (f : Vec) → restamped stamp (sheet_words w (record { row = x; floor = f })) ≡ sheet_words w (record { row = with_stamp stamp x; floor = f })
unfolding sheet_words
stamp_words w stamp x f = refl

-- or with any choice
choice_words : (w : ℕ) (c : Choice) (stamp : Stamp) (m : Content) (x y : Sheet)
    → restamped stamp (chosen_words c m (sheet_words w x) (sheet_words w y)) ≡ sheet_words w (record { row = settle_row c stamp m x.row y.row; floor = y.floor })
unfolding chosen_words settle_row
choice_words w theirs stamp m x y =
    ap (restamped stamp)
    (ap₂ taken_from (sym (append-nil (sheet_words w x))) (sym (append-nil (sheet_words w y))) ∙ sheet_taken w x y [] [] ∙ append-nil (sheet_words w (record { row = x.row; floor = y.floor })))
    ∙ stamp_words w stamp x.row y.floor
choice_words w own stamp m x y = stamp_words w stamp y.row y.floor
choice_words w new stamp m x y = new_words_lem w stamp m x y.row.kind y.row.stamp y.row.birth y.row.content y.floor

-- what is there where no refusal applies
pub record SettleFits (w : ℕ) (s t : List ℕ) (row choice : ℕ) : Type 0 where
  pub two : two_refused w s t row ≡ 0
  pub conflict : conflicts (ruling_here (table_of w s) (table_of w t) row) ≡ true
  pub room : (table_of w t).clock.counter ≡ last_count → ⊥

pub settle_facts : (w : ℕ) (s t : List ℕ) (row choice : ℕ) (content : Content) → settle_refused w s t row choice content ≡ 0 → SettleFits w s t row choice
unfolding settle_refused
settle_facts w s t row choice content e =
    let a = first_both (two_refused w s t row) _ e in
    let b = first_both _ _ a.1 in
    let c = first_both _ _ (first_both _ _ b.1).1 in
    let d = first_both _ _ c.1 in
    let f = first_both _ _ d.1 in
    record {
      two = a.0;
      conflict = none_so _ _ d.0;
      room = eqb-false _ _ (when_none _ _ f.0);
    }

-- the two sheets that are in conflict
pub record Sheets (w : ℕ) (s t : List ℕ) (row : ℕ) : Type 0 where
  pub x : Two Sheet
  pub is : sheet_here (pair_at (table_of w s) (table_of w t) row) ≡ some x

module _ (w : ℕ) (s t : List ℕ) (row choice : ℕ) (content : Content) (ok : SettleFits w s t row choice) where
  abbrev a : Table
  a = table_of w s

  abbrev b : Table
  b = table_of w t

  abbrev c : Choice
  c = choice_named choice

  accepted : Paired w s t row
  accepted = paired w s t row ok.two

  sheets : Sheets w s t row
  sheets = go (sheet_here (pair_at a b row)) refl
    where
      go : (o : Option (Two Sheet)) → sheet_here (pair_at a b row) ≡ o → Sheets w s t row
      go none z =
          let rule = map (rule_at a.clock b.clock (above a.tree row) (above b.tree row)) in
          absurd (false≢true (sym (ap conflicts (ruling_pair a b row accepted.shaped ∙ ap rule z)) ∙ ok.conflict))
      go (some x) z = record { x = x; is = z }

  abbrev x : Two Sheet
  x = sheets.x

  source_at : SheetAt w s row
  source_at = record { at = there w s row accepted.source accepted.in_source; x = x.a; is = side_left a b row accepted.shaped ∙ ap (map (λ y. y.a)) sheets.is }

  target_at : SheetAt w t row
  target_at = record { at = there w t row accepted.target accepted.in_target; x = x.b; is = side_right a b row accepted.shaped ∙ ap (map (λ y. y.b)) sheets.is }

  -- the sheet afterwards
  abbrev after : Sheet
  after = settle_sheet a.clock b.clock (above a.tree row) c content x

  fine_a_lem : FineSheet w x.a
  unfolding source_at
  fine_a_lem = sheet_fine w s row source_at

  fine_b_lem : FineSheet w x.b
  unfolding target_at
  fine_b_lem = sheet_fine w t row target_at

  stamp_fine : (c : Choice) → b.clock.device < w → (settle_row c (new_stamp b.clock) content x.a.row x.b.row).stamp.device < w
  unfolding settle_row
  stamp_fine theirs h = h
  stamp_fine own h = h
  stamp_fine new h = h

  after_fine : FineSheet w after
  unfolding settle_sheet
  after_fine =
      let da = (good w s row source_at.at).device in
      let db = (good w t row target_at.at).device in
      (raised_narrow a.clock b.clock da db fine_b_lem.0 (narrow_above w s row source_at.at) fine_a_lem.0, stamp_fine c db)

  -- its words, as the row's part came back
  after_words : (v : Vec) (e : List ℕ) → v ≡ full a.clock (above a.tree row) (floor_of w (row_at w s row))
      → e ≡ settled_words w b.clock v c content (cut_row w s row) (cut_row w t row) → e ≡ sheet_words w after
  unfolding settle_sheet settled_words source_at target_at
  after_words v e known wrote =
      let floor_is : (y : Sheet) → FineSheet w y → floor_of w (sheet_words w y) ≡ y.floor = λ y f. ap (λ (z : Sheet). z.floor) (sheet_read w y f.0) in
      let floor_a : floor_of w (row_at w s row) ≡ x.a.floor = ap (floor_of w) (sym (row_cut w s row) ∙ sheet_part w s row source_at) ∙ floor_is x.a fine_a_lem in
      let know = full a.clock (above a.tree row) in
      let f = raised b.clock x.b.floor (know x.a.floor) in
      let by : List ℕ → List ℕ = λ z. restamped (new_stamp b.clock) (chosen_words c content (sheet_words w x.a) z) in
      wrote
      ∙ ap₂ (λ y z. settled_words w b.clock v c content y z) (sheet_part w s row source_at) (sheet_part w t row target_at)
      ∙ ap₂ (λ (y z : Vec). by (floored w (raised b.clock y z) (sheet_words w x.b))) (floor_is x.b fine_b_lem) (known ∙ ap know floor_a)
      ∙ ap by (floor_words w x.b f)
      ∙ choice_words w c (new_stamp b.clock) content x.a (record { row = x.b.row; floor = f })

  -- A SETTLING IN PLACE: the row's part came back settled, and the counter is that of the clock afterwards
  pub settle_changed : (v : Vec) (e : List ℕ) (k : Ticked) → v ≡ full a.clock (above a.tree row) (floor_of w (row_at w s row))
      → RowSettled w b.clock v c content (cut_row w s row) (cut_row w t row) e k
      → Changed w t (put_row w t row e k.clock.counter) row (settle_done a b row c content)
  unfolding settle_done
  settle_changed v e k known wrote =
      sheet_made w t row target_at (settle_sheet a.clock b.clock (above a.tree row) c content) (λ y. y.b) (zip a.tree b.tree) x sheets.is after_fine
      e (after_words v e known wrote.2) k.clock (ticked b.clock) wrote.0 refl
