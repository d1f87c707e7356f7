-- The three events, the three settlings, a widening and who is ahead, at the words, by computation: of each, the number and count returned, the
-- clock afterwards, the row's first sixteen words (its floor is the last eight of them), and the table's check.
use Prim.Native.Nat.{ℕ, ◌+◌, ◌*◌}
use mathlib.Core.Path.{◌≡◌, refl}
use mathlib.Core.List.{List, [], ◌∷◌, ◌++◌}
use lib.ListN.{take, replicate, set}
use Rattle.paper.specs.Acts.{holding}
use Rattle.paper.specs.Words.{wide, table_of}
use Rattle.paper.specs.Check.{check_of}
use Rattle.paper.specs.Calls.{Changed, Masked, row_at}
use Rattle.paper.specs.Widths.{event_any, settle_any, widen_of, ahead_any}
use Rattle.paper.proofs.Play.{Step, event, pass, Desk, fresh, narrow, table, play, played, works}

record Outcome : Type 0 where
  number : ℕ
  count : ℕ
  counter : ℕ
  row : List ℕ
  check : ℕ

-- an outcome, as it shows at a row
seen : ℕ → Changed → Outcome
seen row o = record {
  number = o.number;
  count = o.count;
  counter = (table_of 8 o.table).clock.counter;
  row = take 16 (row_at 8 o.table row);
  check = check_of 8 o.table;
}

-- device 0's event e at row 2
worked : Desk → ℕ → ℕ → ℕ → Outcome
worked k e mark class = seen 2 (event_any (table k 0) 2 e (holding mark class))

-- device 1 settles its conflict with device 0 at row 2
settled : Desk → ℕ → ℕ → ℕ → Outcome
settled k choice mark class = seen 2 (settle_any (table k 0) (table k 1) 2 choice (holding mark class))

-- an accepted call
accepted : ℕ → ℕ → List ℕ → Outcome
accepted count counter row = record { number = 0; count = count; counter = counter; row = row; check = 0 }

created : List Step
created = works 0 2 1 (holding 700 3) ∷ []

removed : List Step
removed = event 0 2 1 700 ∷ event 0 2 3 9 ∷ []

-- both have changed a sheet that both had; the target has removed it instead; the source has; each has created its own
changed_both : List Step
changed_both = event 0 2 1 700 ∷ pass 0 1 0 ∷ works 0 2 2 (holding 701 4) ∷ works 1 2 2 (holding 702 5) ∷ []

target_removed : List Step
target_removed = event 0 2 1 700 ∷ pass 0 1 0 ∷ event 0 2 2 701 ∷ event 1 2 3 0 ∷ []

source_removed : List Step
source_removed = event 0 2 1 700 ∷ pass 0 1 0 ∷ event 0 2 3 0 ∷ event 1 2 2 702 ∷ []

created_both : List Step
created_both = event 0 2 1 703 ∷ event 1 2 1 704 ∷ []

-- a sheet that is there is changed, and removed; a conflict is settled by theirs, by own and by a new row
goes_on : Desk → List Outcome
goes_on k = worked k 2 1 9 ∷ worked k 3 0 10 ∷ []

each_choice : Desk → List Outcome
each_choice k = settled k 1 0 10 ∷ settled k 2 0 10 ∷ settled k 3 705 6 ∷ []

outcomes : List Outcome
outcomes =
    (worked narrow 1 700 1 ∷ goes_on (play narrow created))
    ++ (worked (play narrow removed) 1 703 2 ∷ each_choice (play narrow changed_both))
    ++ (settled (play narrow target_removed) 3 706 7 ∷ settled (play narrow created_both) 3 707 8 ∷ [])
    ++ (settled (play narrow source_removed) 1 708 9 ∷ settled (play narrow target_removed) 2 709 9 ∷ settled (play narrow created_both) 1 710 9 ∷ [])

meant : List Outcome
meant =
    -- created, changed, removed (mark and class are ignored), created anew
    accepted 1 1 (1 ∷ 1 ∷ 0 ∷ 1 ∷ 0 ∷ 1 ∷ 700 ∷ 1 ∷ 0 ∷ 0 ∷ 0 ∷ 0 ∷ 0 ∷ 0 ∷ 0 ∷ 0 ∷ [])
    ∷ accepted 2 2 (1 ∷ 1 ∷ 0 ∷ 2 ∷ 0 ∷ 1 ∷ 1 ∷ 9 ∷ 0 ∷ 0 ∷ 0 ∷ 0 ∷ 0 ∷ 0 ∷ 0 ∷ 0 ∷ [])
    ∷ accepted 2 2 (2 ∷ 1 ∷ 0 ∷ 2 ∷ 0 ∷ 0 ∷ 0 ∷ 0 ∷ 0 ∷ 0 ∷ 0 ∷ 0 ∷ 0 ∷ 0 ∷ 0 ∷ 0 ∷ [])
    ∷ accepted 3 3 (1 ∷ 1 ∷ 0 ∷ 3 ∷ 0 ∷ 3 ∷ 703 ∷ 2 ∷ 0 ∷ 0 ∷ 0 ∷ 0 ∷ 0 ∷ 0 ∷ 0 ∷ 0 ∷ [])
    -- theirs, own, new; new where the target was removed: the source's birth; new where each was born apart: the target's
    ∷ accepted 2 2 (1 ∷ 1 ∷ 1 ∷ 2 ∷ 0 ∷ 1 ∷ 701 ∷ 4 ∷ 2 ∷ 0 ∷ 0 ∷ 0 ∷ 0 ∷ 0 ∷ 0 ∷ 0 ∷ [])
    ∷ accepted 2 2 (1 ∷ 1 ∷ 1 ∷ 2 ∷ 0 ∷ 1 ∷ 702 ∷ 5 ∷ 2 ∷ 0 ∷ 0 ∷ 0 ∷ 0 ∷ 0 ∷ 0 ∷ 0 ∷ [])
    ∷ accepted 2 2 (1 ∷ 1 ∷ 1 ∷ 2 ∷ 0 ∷ 1 ∷ 705 ∷ 6 ∷ 2 ∷ 0 ∷ 0 ∷ 0 ∷ 0 ∷ 0 ∷ 0 ∷ 0 ∷ [])
    ∷ accepted 2 2 (1 ∷ 1 ∷ 1 ∷ 2 ∷ 0 ∷ 1 ∷ 706 ∷ 7 ∷ 2 ∷ 0 ∷ 0 ∷ 0 ∷ 0 ∷ 0 ∷ 0 ∷ 0 ∷ [])
    ∷ accepted 2 2 (1 ∷ 1 ∷ 1 ∷ 2 ∷ 1 ∷ 1 ∷ 707 ∷ 8 ∷ 1 ∷ 0 ∷ 0 ∷ 0 ∷ 0 ∷ 0 ∷ 0 ∷ 0 ∷ [])
    -- theirs is a removal; own is one; theirs where each was born apart: the source's birth
    ∷ accepted 2 2 (2 ∷ 1 ∷ 1 ∷ 2 ∷ 0 ∷ 0 ∷ 0 ∷ 0 ∷ 2 ∷ 0 ∷ 0 ∷ 0 ∷ 0 ∷ 0 ∷ 0 ∷ 0 ∷ [])
    ∷ accepted 2 2 (2 ∷ 1 ∷ 1 ∷ 2 ∷ 0 ∷ 0 ∷ 0 ∷ 0 ∷ 2 ∷ 0 ∷ 0 ∷ 0 ∷ 0 ∷ 0 ∷ 0 ∷ 0 ∷ [])
    ∷ accepted 2 2 (1 ∷ 1 ∷ 1 ∷ 2 ∷ 0 ∷ 1 ∷ 703 ∷ 0 ∷ 1 ∷ 0 ∷ 0 ∷ 0 ∷ 0 ∷ 0 ∷ 0 ∷ 0 ∷ [])
    ∷ []

-- EVENTS AND SETTLINGS
acts : outcomes ≡ meant
unfolding outcomes goes_on each_choice meant accepted worked settled seen created removed changed_both target_removed source_removed created_both played
acts = refl

-- A WIDENING of a table with a created sheet: its number and count, the check of what is written, and the words of the sheet's row
record Wider : Type 0 where
  number : ℕ
  count : ℕ
  check : ℕ
  row : List ℕ

wider : Changed → Wider
wider o = record { number = o.number; count = o.count; check = check_of 16 o.table; row = row_at 16 o.table 2 }

widening : wider (widen_of (table (play narrow created) 0) (replicate (6 * wide 16) 9))
    ≡ record { number = 0; count = 5; check = 0; row = 1 ∷ 1 ∷ 0 ∷ 1 ∷ 0 ∷ 1 ∷ 700 ∷ 3 ∷ replicate 64 0 }
unfolding wider created played
widening = refl

-- WHO IS AHEAD, of devices 0 and 1 at row 2: both have changed it; each has created its own, and 1 has heard of device 2;
-- with sixteen columns, devices 15 and 8 have; device 0 alone has, which is no conflict
asked : Desk → Masked
asked k = ahead_any (table k 0) (table k 1) 2

heard_of_two : List Step
heard_of_two = event 2 3 1 708 ∷ pass 2 1 0 ∷ created_both

who : List Masked
who = asked (play narrow changed_both) ∷ asked (play narrow heard_of_two) ∷ asked (play (fresh 16 (15 ∷ 8 ∷ 3 ∷ [])) created_both) ∷ asked (play narrow created) ∷ []

masks : ℕ → ℕ → ℕ → Masked
masks n a b = record { number = n; source = a; target = b }

who_is_ahead : who ≡ masks 0 1 2 ∷ masks 0 1 6 ∷ masks 0 32768 256 ∷ masks 14 0 0 ∷ []
unfolding who asked masks heard_of_two created changed_both created_both played
who_is_ahead = refl

-- A COPY brings the whole content
copied : take 8 (row_at 8 (table (play narrow (works 0 2 1 (holding 700 3) ∷ pass 0 1 0 ∷ [])) 1) 2) ≡ 1 ∷ 1 ∷ 0 ∷ 1 ∷ 0 ∷ 1 ∷ 700 ∷ 3 ∷ []
unfolding played
copied = refl

-- WHAT A ROW MAY HOLD: the check of a table whose row 2 has another word at a place
with_word : List Step → ℕ → ℕ → ℕ
with_word steps place n = check_of 8 (set (table (play narrow steps) 0) (wide 8 + 2 * wide 8 + place) n)

-- class 9 and 10 of a live sheet, class 1 of one that is removed or never was; mark 1 and 0 of a live sheet
held : with_word created 7 9 ∷ with_word created 7 10 ∷ with_word removed 7 1 ∷ with_word [] 7 1 ∷ with_word created 6 1 ∷ with_word created 6 0 ∷ []
    ≡ 0 ∷ 3 ∷ 3 ∷ 3 ∷ 0 ∷ 3 ∷ []
unfolding with_word created removed played
held = refl
