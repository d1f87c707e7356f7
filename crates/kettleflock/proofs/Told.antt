-- What is told of a result determines it: from a number back to the refusal, and from what a call tells to its result.
use Prim.Native.Nat.{ℕ}
use mathlib.Core.Path.{◌≡◌, refl, ap}
use mathlib.Core.List.{List, [], ◌∷◌}
use mathlib.Core.Bool.{cond}
use lib.Dec.{eqb}
use lib.ListN.{get_or}
use borrow.Author.Tests.{ne_eqb}
use Rattle.std.specs.Prelude.{Option, None, Some, Result, Ok, Err}
use Rattle.paper.specs.declared.Fault.TheVariants.{Head, Order, Rule}
use Rattle.paper.specs.declared.Refusal.{Refusal}
use Rattle.paper.specs.declared.Refusal.TheVariants.{Table, PlacesDiffer, OneDevice, SourceAhead, TargetAhead, NoSuchRow, WrongLength, Unfit}
use Rattle.paper.specs.declared.Refusal.TheVariants.{Target, NoConflict, CounterFull, NoSuchChoice, NoSuchDevice, Width, NoSuchClass, NoMark}
use Rattle.paper.specs.declared.Side.{Side}
use Rattle.paper.specs.declared.Side.TheVariants.{Source as source, Target as target}
use Rattle.paper.specs.declared.Answer.{Answer}
use Rattle.paper.specs.declared.Masks.{Masks}
use Rattle.paper.specs.declared.Ahead.{Ahead}
use Rattle.paper.specs.Refusals.{refusal_number}
use Rattle.paper.specs.Named.{side_number}
use Rattle.paper.specs.Calls.{answer_of, masks_told}
use Rattle.refused.proofs.FirstRefused.{refusal_some}

-- the refusals by their numbers; where there is none, the last
abbrev numbered : List Refusal
numbered =
    NoMark ∷ Table Head ∷ Table Order ∷ Table Rule ∷ PlacesDiffer ∷ OneDevice ∷ SourceAhead ∷ TargetAhead ∷ NoSuchRow ∷ WrongLength ∷ Unfit
    ∷ Target Head ∷ Target Order ∷ Target Rule ∷ NoConflict ∷ CounterFull ∷ NoSuchChoice ∷ NoSuchDevice ∷ NoMark ∷ Width ∷ NoMark ∷ NoSuchClass ∷ NoMark ∷ []

abbrev refusal_at : ℕ → Refusal
refusal_at n = get_or numbered n NoMark

refusal_back : (r : Refusal) → refusal_at (refusal_number r) ≡ r
refusal_back (Table Head) = refl
refusal_back (Table Order) = refl
refusal_back (Table Rule) = refl
refusal_back PlacesDiffer = refl
refusal_back OneDevice = refl
refusal_back SourceAhead = refl
refusal_back TargetAhead = refl
refusal_back NoSuchRow = refl
refusal_back WrongLength = refl
refusal_back Unfit = refl
refusal_back (Target Head) = refl
refusal_back (Target Order) = refl
refusal_back (Target Rule) = refl
refusal_back NoConflict = refl
refusal_back CounterFull = refl
refusal_back NoSuchChoice = refl
refusal_back NoSuchDevice = refl
refusal_back Width = refl
refusal_back NoSuchClass = refl
refusal_back NoMark = refl

-- of a call that counts
pub result_in : Answer → Result ℕ Refusal
result_in a = cond (eqb a.number 0) (Ok a.count) (Err (refusal_at a.number))

pub answer_back : (r : Result ℕ Refusal) → result_in (answer_of r) ≡ r
unfolding result_in
answer_back (Ok n) = refl
answer_back (Err r) = rw (ne_eqb (refusal_number r) 0 (refusal_some r)) (ap Err (refusal_back r))

-- of the call that says who is ahead
pub ahead_in : Masks → Result Ahead Refusal
ahead_in m = cond (eqb m.number 0) (Ok (record { source = m.source; target = m.target })) (Err (refusal_at m.number))

pub masks_back : (r : Result Ahead Refusal) → ahead_in (masks_told r) ≡ r
unfolding ahead_in
masks_back (Ok m) = refl
masks_back (Err r) = rw (ne_eqb (refusal_number r) 0 (refusal_some r)) (ap Err (refusal_back r))

-- of a side
pub side_in : ℕ → Option Side
side_in n = get_or (None ∷ Some source ∷ Some target ∷ []) n None

pub side_back : (o : Option Side) → side_in (side_number o) ≡ o
unfolding side_in
side_back None = refl
side_back (Some source) = refl
side_back (Some target) = refl
