-- Which number names which event and which choice, and which numbers name none.
use Rattle.std.specs.Prelude.{ℕ, ◌≡◌, true, false, Result, MatchResult, Option, None, Some}
use Rattle.paper.specs.declared.Refusal.{Refusal}
use Rattle.paper.specs.declared.Refusal.TheVariants.{NoSuchChoice}
use Rattle.paper.specs.declared.Event.{Event}
use Rattle.paper.specs.declared.Event.TheVariants.{Creates as creates, Changes as changes, Removes as removes}
use Rattle.paper.specs.declared.Choice.{Choice}
use Rattle.paper.specs.declared.Choice.TheVariants.{Theirs as theirs, Own as own, New as new}
use Rattle.paper.specs.declared.Side.{Side}
use Rattle.paper.specs.declared.Side.TheVariants.{Source, Target}
use Rattle.paper.specs.Calls.{one_to_three}

-- the number of an event
abbrev pub event_number : Event → ℕ
event_number creates = 1
event_number changes = 2
event_number removes = 3

-- of a choice
abbrev pub choice_number : Choice → ℕ
choice_number theirs = 1
choice_number own = 2
choice_number new = 3

-- of the side on which the row that stands lies, 0 where none does
abbrev pub side_number : Option Side → ℕ
side_number None = 0
side_number (Some Source) = 1
side_number (Some Target) = 2

-- what is read of a number: the event that it names, or the refusal of one that names none
abbrev pub NamesEvent : ℕ → Result Event Refusal → Type 0
NamesEvent n r = MatchResult r (λ e. (one_to_three n ≡ true) × (n ≡ event_number e)) (λ x. (one_to_three n ≡ false) × (x ≡ NoSuchChoice))

abbrev pub NamesChoice : ℕ → Result Choice Refusal → Type 0
NamesChoice n r = MatchResult r (λ c. (one_to_three n ≡ true) × (n ≡ choice_number c)) (λ x. (one_to_three n ≡ false) × (x ≡ NoSuchChoice))
