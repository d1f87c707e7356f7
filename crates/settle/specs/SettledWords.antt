-- A sheet's row after a settling, as words: s is the source's row and r the target's. And the table that it is made in.
use Rattle.std.specs.Prelude.{ℕ, suc, ◌≡◌, cond, List, eqb, get_or, set}
use Rattle.paper.specs.declared.Content.{Content}
use Rattle.paper.specs.declared.Clock.{Clock}
use Rattle.paper.specs.Columns.{Vec}
use Rattle.paper.specs.declared.Choice.{Choice}
use Rattle.paper.specs.declared.Choice.TheVariants.{Theirs as theirs, Own as own, New as new}
use Rattle.paper.specs.Walk.{raised}
use Rattle.paper.specs.Words.{floor_of, table_of, written}
use Rattle.paper.specs.Order.{kind_word}
use Rattle.paper.specs.Calls.{new_stamp, ticked, choice_named, settle_done}
use Rattle.clock.specs.declared.Ticked.{Ticked}
use Rattle.leaf.specs.Leaves.{taken_from, floored}
use Rattle.mend.specs.Restamped.{restamped, filled}

-- a new row, but for its stamp: live, with the content; its own birth if it was live, else that of s
unfoldable pub new_words : Content → List ℕ → List ℕ → List ℕ
new_words m s r =
    let held = filled m r in
    cond (eqb (kind_word r) 1) held (set (set (set held 0 1) 4 (get_or s 4 0)) 5 (get_or s 5 0))

-- what stands at the row by the choice, but for its stamp
unfoldable pub chosen_words : Choice → Content → List ℕ → List ℕ → List ℕ
chosen_words theirs m s r = taken_from s r
chosen_words own m s r = r
chosen_words new m s r = new_words m s r

-- the floor raised by v, then the choice, then the new stamp; b is the clock of r's table
unfoldable pub settled_words : ℕ → Clock → Vec → Choice → Content → List ℕ → List ℕ → List ℕ
settled_words w b v c m s r = restamped (new_stamp b) (chosen_words c m s (floored w (raised b (floor_of w r) v) r))

-- the row r of a table with the clock b is settled: u is the row afterwards, and k the clock gone up, with its stamp
abbrev pub RowSettled : ℕ → Clock → Vec → Choice → Content → List ℕ → List ℕ → List ℕ → Ticked → Type 0
RowSettled w b v choice m s r u k = (k.clock ≡ ticked b) × (k.stamp ≡ new_stamp b) × (u ≡ settled_words w b v choice m s r)

-- the conflict of the tables s and t is settled in t: u is t afterwards, and n the count of the new stamp
abbrev pub SettleMade : ℕ → List ℕ → List ℕ → List ℕ → ℕ → ℕ → Content → ℕ → Type 0
SettleMade w s t u row choice content n =
    (n ≡ suc (table_of w t).clock.counter) × (u ≡ written w (settle_done (table_of w s) (table_of w t) row (choice_named choice) content))
