-- The paper's marked sheets A to K, told by the history: runs of calls on words, in which every call is accepted, and what
-- the history's sets then say of each sheet, by computation. So the history that demand 3 speaks of is the paper's.
use Prim.{Unit, tt}
use Prim.Native.Nat.{ℕ, ◌*◌}
use mathlib.Core.Bool.{cond}
use lib.Dec.{ltb}
use Rattle.paper.specs.Devices.{devices}
use Rattle.paper.specs.Words.{wide}
use mathlib.Core.Path.{◌≡◌, refl}
use mathlib.Core.List.{List, [], ◌∷◌, ◌++◌, map}
use lib.ListN.{replicate}
use Rattle.paper.specs.Rules.{ruling, number_of}
use Rattle.paper.specs.Acts.{holding}
use Rattle.paper.specs.Widths.{event_any, pass_any, settle_any, widen_of}
use Rattle.paper.proofs.Computed.{computed}
use Rattle.run.specs.Knowledge
use Rattle.run.specs.World
use Rattle.run.specs.Run
use Rattle.run.specs.Knowledge.{sets}
use Rattle.run.specs.Run.{Step, pass, widen, State, begun, step}

-- folders 0 and 1, sheets 2, 3 and 4
plan : List ℕ
plan = 5 ∷ 3 ∷ 0 ∷ 0 ∷ 0 ∷ []

-- devices 0 to 7 start with eight columns, the others with sixteen
columns : ℕ → ℕ
columns d = cond (ltb d 8) 8 16

lent : ℕ → List ℕ
lent d = replicate (6 * wide (columns d)) 9

wider : List ℕ
wider = replicate (6 * wide devices) 9

-- a pass from a to b at the root, and one at row 1; lists of the right length
whole : ℕ → ℕ → Step
whole a b = pass a b 0 (replicate 5 9)

part : ℕ → ℕ → Step
part a b = pass a b 1 (replicate 3 9)

-- an event and a settling with a mark, and class 0
abbrev event : (d row e mark : ℕ) → Step
event d row e mark = Run.event d row e (holding mark 0)

abbrev settle : (a b row c mark : ℕ) → Step
settle a b row c mark = Run.settle a b row c (holding mark 0)

-- the number of a call
number : State → Step → ℕ
number s (Run.event d row e m) = (event_any (s.tables d) row e m).number
number s (pass a b row list) = (pass_any (s.tables a) (s.tables b) row list).number
number s (Run.settle a b row c m) = (settle_any (s.tables a) (s.tables b) row c m).number
number s (widen d wider) = (widen_of (s.tables d) wider).number

-- a run: calls, and between them what the history says of sheets 2, 3 and 4, from a source to a target; an aside is another way
-- to go on
data Play : Type 0 where
  done : Play
  does : Step → Play → Play
  tells : ℕ → ℕ → List ℕ → Play → Play
  aside : Play → Play → Play

-- of each call its number, and what the history says
told : State → Play → List (List ℕ)
told s done = []
told s (does x p) = (number s x ∷ []) ∷ told (step s x) p
told s (tells a b said p) = map (λ y. number_of (ruling sets.knows (s.past.cell a y) (s.past.cell b y))) (2 ∷ 3 ∷ 4 ∷ []) ∷ told s p
told s (aside p q) = told s p ++ told s q

-- no call is refused, and the history says what is meant
meant : Play → List (List ℕ)
meant done = []
meant (does x p) = (0 ∷ []) ∷ meant p
meant (tells a b said p) = said ∷ meant p
meant (aside p q) = meant p ++ meant q

-- C's conflict settled by theirs; by a new row, which is changed again; and on widened tables, from where device 9 goes on
by_theirs : Play
by_theirs = does (settle 0 1 2 1 0) (tells 0 1 (0 ∷ 0 ∷ 0 ∷ []) (tells 1 0 (1 ∷ 0 ∷ 0 ∷ []) done))

by_new : Play
by_new =
    does (settle 0 1 2 3 703) (tells 0 1 (0 ∷ 0 ∷ 0 ∷ [])
    (does (whole 1 0) (tells 1 0 (0 ∷ 0 ∷ 0 ∷ [])
    (does (event 1 2 2 704) (tells 1 0 (1 ∷ 0 ∷ 0 ∷ []) done)))))

widened : Play
widened =
    does (widen 1 wider) (does (widen 0 wider) (tells 0 1 (3 ∷ 0 ∷ 0 ∷ [])
    (does (whole 0 1) (does (settle 0 1 2 3 703) (does (whole 1 9) (does (event 9 2 2 704)
    (tells 9 1 (1 ∷ 0 ∷ 0 ∷ []) (tells 0 9 (0 ∷ 0 ∷ 0 ∷ []) done))))))))

-- A, B, a change that is heard of, C, C told again, D and E
A_to_E : Play
A_to_E =
    does (event 0 2 1 700) (tells 0 1 (1 ∷ 0 ∷ 0 ∷ [])
    (does (whole 0 1) (tells 0 1 (0 ∷ 0 ∷ 0 ∷ [])
    (does (whole 0 1) (does (event 0 2 2 701) (tells 0 1 (1 ∷ 0 ∷ 0 ∷ [])
    (does (event 1 2 2 702) (tells 0 1 (3 ∷ 0 ∷ 0 ∷ [])
    (aside by_theirs (aside by_new (aside widened
    (does (whole 0 1) (tells 0 1 (3 ∷ 0 ∷ 0 ∷ [])
    (does (settle 0 1 2 2 0) (tells 0 1 (0 ∷ 0 ∷ 0 ∷ [])
    (does (whole 0 1) (tells 1 0 (1 ∷ 0 ∷ 0 ∷ []) done)))))))))))))))))

-- F and G; H; I; J; K
F_to_G : Play
F_to_G =
    does (event 0 2 1 1) (does (event 0 4 1 2) (tells 0 1 (1 ∷ 0 ∷ 1 ∷ [])
    (does (part 0 1) (tells 0 1 (0 ∷ 0 ∷ 1 ∷ []) (tells 1 0 (0 ∷ 0 ∷ 0 ∷ []) done)))))

born_twice : Play
born_twice =
    does (event 0 2 1 1) (does (event 1 2 1 2) (does (event 1 2 3 0)
    (tells 0 1 (1 ∷ 0 ∷ 0 ∷ []) (tells 1 0 (0 ∷ 0 ∷ 0 ∷ []) done))))

removed_while_changed : Play
removed_while_changed =
    does (event 0 2 1 700) (does (whole 0 1)
    (aside (does (event 0 2 3 0) (tells 0 1 (2 ∷ 0 ∷ 0 ∷ []) done))
    (does (event 0 2 2 1) (does (event 1 2 3 0) (tells 0 1 (3 ∷ 0 ∷ 0 ∷ []) done)))))

K : Play
K =
    does (event 0 2 1 1) (does (event 1 2 1 2) (tells 1 2 (1 ∷ 0 ∷ 0 ∷ [])
    (does (whole 1 2) (tells 0 1 (3 ∷ 0 ∷ 0 ∷ [])
    (does (whole 0 1) (does (settle 0 1 2 2 0) (tells 1 2 (1 ∷ 0 ∷ 0 ∷ [])
    (does (whole 1 2) (tells 0 2 (0 ∷ 0 ∷ 0 ∷ []) done)))))))))

-- a removal that goes by way of a device that never had the sheet
by_way : Play
by_way =
    does (event 0 2 1 1) (does (whole 0 2) (does (event 0 2 3 0) (does (whole 0 1) (tells 1 2 (2 ∷ 0 ∷ 0 ∷ []) done))))

-- a sheet removed twice, the later removal by one that had heard of the other; and by two that had not: who has settled with the one
-- brings it back there, and is in conflict with the other until a pass, of folders passed over, brings word of that removal
removed_again : Play
removed_again =
    does (event 0 2 1 700) (does (whole 0 1) (does (event 0 2 3 0) (does (event 1 2 3 0) (does (whole 1 0)
    (does (event 0 2 1 710) (does (whole 0 2) (does (event 0 2 3 0) (tells 0 1 (0 ∷ 0 ∷ 0 ∷ []) (does (whole 0 1)
    (does (event 2 2 2 711) (tells 2 1 (3 ∷ 0 ∷ 0 ∷ []) done)))))))))))

brought_back : Play
brought_back = tells 2 1 (1 ∷ 0 ∷ 0 ∷ []) (does (whole 2 1) (tells 1 0 (1 ∷ 0 ∷ 0 ∷ []) done))

removed_apart : Play
removed_apart =
    does (event 0 2 1 700) (does (whole 0 1) (does (whole 0 2) (does (event 1 2 3 0) (does (event 0 2 3 0) (does (event 2 2 2 712)
    (tells 1 2 (3 ∷ 0 ∷ 0 ∷ []) (does (whole 1 2) (does (settle 1 2 2 2 0) (tells 0 1 (0 ∷ 0 ∷ 0 ∷ []) (does (whole 0 1)
    (aside brought_back (tells 2 0 (3 ∷ 0 ∷ 0 ∷ []) (does (whole 1 2) (tells 2 0 (1 ∷ 0 ∷ 0 ∷ []) done))))))))))))))

-- one conflict, settled by 1 and by 2 apart: the two settlings are in conflict, until one of them is settled with the other
settled_apart : ℕ → Play
settled_apart choice =
    does (settle 1 2 2 choice 0) (does (settle 0 1 2 choice 0) (tells 1 2 (3 ∷ 0 ∷ 0 ∷ []) (tells 2 1 (3 ∷ 0 ∷ 0 ∷ [])
    (does (settle 1 2 2 1 0) (tells 2 1 (1 ∷ 0 ∷ 0 ∷ []) (tells 1 2 (0 ∷ 0 ∷ 0 ∷ []) done))))))

opposite_ways : Play
opposite_ways =
    does (event 0 2 1 1) (does (event 1 2 1 2) (does (whole 0 2) (tells 1 2 (3 ∷ 0 ∷ 0 ∷ []) (tells 0 1 (3 ∷ 0 ∷ 0 ∷ [])
    (aside (settled_apart 1) (settled_apart 2))))))

plays : Play
plays =
    aside A_to_E (aside F_to_G (aside born_twice (aside removed_while_changed (aside K (aside by_way
    (aside removed_again (aside removed_apart opposite_ways)))))))

-- the history's definitions, opened at once
unfoldable happened : Unit {0}
unfolding Knowledge.ruled Knowledge.passed World.begin World.next World.tick World.put World.eventful World.passing World.settling Run.within Run.begun Run.step Run.run
happened = tt

-- A to K, a change after B, C's conflict settled in each way, a removal by way of another device, tables that are widened, and one
-- conflict settled twice
told_marked : told (begun columns plan lent) plays ≡ meant plays
unfolding plan columns lent wider whole part number told meant plays A_to_E by_theirs by_new widened F_to_G born_twice removed_while_changed K
    by_way removed_again brought_back removed_apart settled_apart opposite_ways computed happened
told_marked = refl
