-- A sheet's row after an event, as words, and the table that it is made in.
use Rattle.std.specs.Prelude.{ℕ, suc, ◌≡◌, List, set}
use Rattle.paper.specs.declared.Stamp.{Stamp}
use Rattle.paper.specs.declared.Content.{Content}
use Rattle.paper.specs.declared.Event.{Event}
use Rattle.paper.specs.declared.Event.TheVariants.{Creates as creates, Changes as changes, Removes as removes}
use Rattle.paper.specs.Acts.{no_stamp, no_content}
use Rattle.paper.specs.Words.{table_of, written}
use Rattle.paper.specs.Calls.{event_named, event_done}
use Rattle.mend.specs.Restamped.{restamped, filled}

-- created: live, the stamp is also the birth; changed: live, the birth stays; removed: no birth and no content
unfoldable pub event_words : Event → Stamp → Content → List ℕ → List ℕ
event_words creates s m r = filled m (set (set (set (restamped s r) 0 1) 4 s.device) 5 s.count)
event_words changes s m r = filled m (set (restamped s r) 0 1)
event_words removes s m r = filled no_content (set (set (set (restamped s r) 0 2) 4 no_stamp.device) 5 no_stamp.count)

-- the event is made in the table t: u is the table afterwards, and n the count of the new stamp
abbrev pub EventMade : ℕ → List ℕ → List ℕ → ℕ → ℕ → Content → ℕ → Type 0
EventMade w t u row event content n = (n ≡ suc (table_of w t).clock.counter) × (u ≡ written w (event_done (table_of w t) row (event_named event) content))
