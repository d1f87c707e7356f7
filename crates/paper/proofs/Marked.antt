-- The paper's marked sheets, A to K: one statement over one list of cases, at the words, by computation. Of each case:
-- every step before it is accepted, the pass is accepted, the target's check is 0 afterwards, the whole answer list is the
-- paper's, and so are the count, the floors, the stamps and the level where the paper gives them.
use Prim.Native.Nat.{ℕ}
use mathlib.Core.Path.{◌≡◌, refl}
use mathlib.Core.Bool.{Bool, false, cond}
use mathlib.Core.List.{List, [], ◌∷◌, ◌++◌, map}
use lib.Dec.{eqb}
use lib.ListN.{get_or}
use Rattle.paper.specs.Columns.{zeros, part}
use Rattle.paper.specs.Tree.{end, sheet, folder, Tree, level}
use Rattle.paper.specs.Words.{Table, floor_at}
use Rattle.paper.specs.Widths.{table_any, check_any}
use Rattle.paper.specs.Refusals.{first}
use Rattle.paper.specs.Calls.{Passed, row_at}
use Rattle.paper.proofs.Play.{Step, event, pass, settle, Desk, fresh, table, passed, received, step, played}

-- what a row holds of a device, the first, second or third of those that play: its column of the floor, or the count of its stamp
record Held : Type 0 where
  row : ℕ
  device : ℕ
  holds : ℕ

-- what the paper says of a pass; the lists hold what it says, and may be empty
record Says : Type 0 where
  answers : List ℕ
  looked : List ℕ
  floors : List Held
  stamps : List Held
  root_level : List Bool

-- what is compared: besides, no call is refused, and the target's check afterwards is 0
record Said : Type 0 where
  number : ℕ
  check : ℕ
  says : Says

-- a run: steps, passes of which the paper speaks, from a source to a target at a row, and asides: other ways to go on
data Play : Type 0 where
  done : Play
  does : Step → Play → Play
  passes : ℕ → ℕ → ℕ → Says → Play → Play
  aside : Play → Play → Play

-- is the root of a table level?
root_level_lem : Table → Tree → Bool
root_level_lem t end = false
root_level_lem t (sheet s r) = false
root_level_lem t (folder f k r) = level 16 t.clock zeros f k

-- the count of a row's stamp, where device d made it
stamp_of : ℕ → List ℕ → ℕ
stamp_of d r = cond (eqb (get_or r 2 0) d) (get_or r 3 0) 0

-- the outcome of a pass o, as far as the paper speaks of it; a is the source's table
seen : ℕ → List ℕ → ℕ → Table → Passed → Says → Said
seen w devices refused a o x = record {
  number = first (refused ∷ o.number ∷ []);
  check = check_any o.target;
  says = record {
    answers = o.answers;
    looked = map (λ n. o.count) x.looked;
    floors = map (λ f. record { row = f.row; device = f.device; holds = part w floor_at (row_at w o.target f.row) (get_or devices f.device 0) }) x.floors;
    stamps = map (λ f. record { row = f.row; device = f.device; holds = stamp_of (get_or devices f.device 0) (row_at w o.target f.row) }) x.stamps;
    root_level = map (λ b. root_level_lem a a.tree) x.root_level;
  };
}

-- with w columns and these devices
module _ (w : ℕ) (devices : List ℕ) where
  said : Desk → Play → List Said
  said k done = []
  said k (does x p) = said (step k x) p
  said k (passes a b row x p) =
      let o = passed k a b row in
      seen w devices k.refused (table_any (table k a)) o x ∷ said (received k b o) p
  said k (aside p q) = said k p ++ said k q

-- what the paper says
meant : Play → List Said
meant done = []
meant (does x p) = meant p
meant (passes a b row x p) = record { number = 0; check = 0; says = x } ∷ meant p
meant (aside p q) = meant p ++ meant q

-- a pass of which the paper gives the list alone; one with the count, with floors, with stamps too
list : List ℕ → Says
list xs = record { answers = xs; looked = []; floors = []; stamps = []; root_level = [] }

count : List ℕ → ℕ → Says
count xs n = record { answers = xs; looked = n ∷ []; floors = []; stamps = []; root_level = [] }

floored : List ℕ → List Held → Says
floored xs fs = record { answers = xs; looked = []; floors = fs; stamps = []; root_level = [] }

stamped : List ℕ → List Held → Says
stamped xs ss = record { answers = xs; looked = []; floors = []; stamps = ss; root_level = [] }

holds : ℕ → ℕ → ℕ → Held
holds row device n = record { row = row; device = device; holds = n }

says_A : Says
says_A = record {
  answers = 4 ∷ 4 ∷ 1 ∷ 0 ∷ 0 ∷ [];
  looked = 5 ∷ [];
  floors = holds 2 0 1 ∷ holds 3 0 1 ∷ holds 4 0 1 ∷ [];
  stamps = [];
  root_level = [];
}

-- the source's root isn't level
says_G : Says
says_G = record { answers = 4 ∷ 5 ∷ 0 ∷ 0 ∷ 0 ∷ []; looked = []; floors = []; stamps = []; root_level = false ∷ [] }

-- K's third pass: the root's floor is zero, and rows 2, 3 and 4 hold 1 and 2
says_K : Says
says_K =
    floored (4 ∷ 4 ∷ 1 ∷ 0 ∷ 0 ∷ [])
    (holds 0 0 0 ∷ holds 0 1 0 ∷ holds 0 2 0 ∷ holds 2 0 1 ∷ holds 2 1 2 ∷ holds 3 0 1 ∷ holds 3 1 2 ∷ holds 4 0 1 ∷ holds 4 1 2 ∷ [])

-- after A: I and J
I : Play
I = does (event 0 2 2 709) (does (event 1 2 3 0) (passes 0 1 0 (list (4 ∷ 4 ∷ 3 ∷ 0 ∷ 0 ∷ [])) done))

J : Play
J = does (event 0 2 3 0) (passes 0 1 0 (list (4 ∷ 4 ∷ 2 ∷ 0 ∷ 0 ∷ [])) done)

B_to_E : Play
B_to_E =
    passes 0 1 0 (count (5 ∷ 5 ∷ 0 ∷ 0 ∷ 0 ∷ []) 1)
    (does (event 0 2 2 701) (does (event 1 2 2 702) (passes 0 1 0 (list (4 ∷ 4 ∷ 3 ∷ 0 ∷ 0 ∷ []))
    (does (settle 0 1 2 2 0) (passes 0 1 0 (stamped (5 ∷ 5 ∷ 0 ∷ 0 ∷ 0 ∷ []) (holds 2 1 2 ∷ []))
    (passes 1 0 0 (stamped (4 ∷ 4 ∷ 1 ∷ 0 ∷ 0 ∷ []) (holds 2 1 2 ∷ [])) done))))))

A_then : Play → Play
A_then p = does (event 0 2 1 700) (passes 0 1 0 says_A p)

-- F at row 1, then at row 0; G beside it
F_and_G : Play
F_and_G =
    does (event 0 2 1 703) (does (event 0 4 1 704) (passes 0 1 1 (list (4 ∷ 1 ∷ 0 ∷ []))
    (aside (passes 1 0 0 says_G done) (passes 0 1 0 (count (4 ∷ 5 ∷ 0 ∷ 0 ∷ 1 ∷ []) 3) done))))

-- H both ways
H : Play
H =
    does (event 0 2 1 705) (does (event 1 2 1 706) (does (event 1 2 3 0)
    (aside (passes 0 1 0 (list (4 ∷ 4 ∷ 1 ∷ 0 ∷ 0 ∷ [])) done) (passes 1 0 0 (list (4 ∷ 4 ∷ 0 ∷ 0 ∷ 0 ∷ [])) done))))

-- K, its four passes; the last one started at row 1 beside it
K : Play
K =
    does (event 0 2 1 707) (does (event 1 2 1 708) (passes 1 2 0 (list (4 ∷ 4 ∷ 1 ∷ 0 ∷ 0 ∷ []))
    (passes 0 1 0 (list (4 ∷ 4 ∷ 3 ∷ 0 ∷ 0 ∷ [])) (does (settle 0 1 2 2 0) (passes 1 2 0 says_K
    (aside (passes 0 2 1 (list (5 ∷ 0 ∷ 0 ∷ [])) done) (passes 0 2 0 (list (5 ∷ 5 ∷ 0 ∷ 0 ∷ 0 ∷ [])) done)))))))

-- besides A to K: a removal that reaches a device by another than it was made on
by_way : Play
by_way =
    does (event 0 2 1 700) (does (pass 0 2 0) (does (event 0 2 3 0) (does (pass 0 1 0)
    (passes 1 2 0 (list (4 ∷ 4 ∷ 2 ∷ 0 ∷ 0 ∷ [])) done))))

-- two removals of one sheet. One has heard of the other when it is made: the later one stands, and who has changed the sheet that
-- it removed hears of it as a conflict. Neither has heard of the other: each stands on its side, and who has settled with
-- the one brings the sheet back there; to the other it is a conflict, unless a pass brings word of that removal first
removed_again : Play
removed_again =
    does (event 0 2 1 700) (does (pass 0 1 0) (does (event 0 2 3 0) (does (event 1 2 3 0) (does (pass 1 0 0)
    (does (event 0 2 1 710) (does (pass 0 2 0) (does (event 0 2 3 0) (passes 0 1 0 (list (4 ∷ 4 ∷ 0 ∷ 0 ∷ 0 ∷ []))
    (does (event 2 2 2 711) (passes 2 1 0 (list (4 ∷ 4 ∷ 3 ∷ 0 ∷ 0 ∷ [])) done))))))))))

brought_back : Play
brought_back = passes 2 1 0 (list (4 ∷ 4 ∷ 1 ∷ 0 ∷ 0 ∷ [])) (passes 1 0 0 (list (4 ∷ 4 ∷ 1 ∷ 0 ∷ 0 ∷ [])) done)

unheard : Play
unheard = passes 2 0 0 (list (4 ∷ 4 ∷ 3 ∷ 0 ∷ 0 ∷ [])) done

-- the folders of 1 are passed over, and 2 knows what every sheet of 1 knows; the next pass started at row 1 beside it
heard_over : Play
heard_over =
    passes 1 2 0 (floored (5 ∷ 5 ∷ 0 ∷ 0 ∷ 0 ∷ []) (holds 0 0 2 ∷ holds 0 1 1 ∷ []))
    (aside (passes 2 0 1 (list (4 ∷ 1 ∷ 0 ∷ [])) done) (passes 2 0 0 (list (4 ∷ 4 ∷ 1 ∷ 0 ∷ 0 ∷ [])) done))

removed_apart : Play
removed_apart =
    does (event 0 2 1 700) (does (pass 0 1 0) (does (pass 0 2 0) (does (event 1 2 3 0) (does (event 0 2 3 0) (does (event 2 2 2 712)
    (passes 1 2 0 (list (4 ∷ 4 ∷ 3 ∷ 0 ∷ 0 ∷ [])) (does (settle 1 2 2 2 0)
    (passes 0 1 0 (list (4 ∷ 4 ∷ 0 ∷ 0 ∷ 0 ∷ [])) (aside brought_back (aside unheard heard_over))))))))))

-- two desks settle one conflict apart, 1 and 2, each by a choice: a pass between them is a conflict, either way, until one of them
-- settles again
settled_apart : ℕ → Play
settled_apart choice =
    does (settle 1 2 2 choice 0) (does (settle 0 1 2 choice 0)
    (aside (passes 2 1 0 (list (4 ∷ 4 ∷ 3 ∷ 0 ∷ 0 ∷ [])) done)
    (passes 1 2 0 (list (4 ∷ 4 ∷ 3 ∷ 0 ∷ 0 ∷ []))
    (does (settle 1 2 2 1 0) (passes 2 1 0 (list (4 ∷ 4 ∷ 1 ∷ 0 ∷ 0 ∷ [])) (passes 1 2 0 (list (5 ∷ 5 ∷ 0 ∷ 0 ∷ 0 ∷ [])) done))))))

-- 0 and 1 have each created the sheet, and 2 has that of 0: 1 and 2 both keep their own, or both take the other's
opposite_ways : Play
opposite_ways =
    does (event 0 2 1 713) (does (event 1 2 1 714) (does (pass 0 2 0) (passes 1 2 0 (list (4 ∷ 4 ∷ 3 ∷ 0 ∷ 0 ∷ []))
    (passes 0 1 0 (list (4 ∷ 4 ∷ 3 ∷ 0 ∷ 0 ∷ [])) (aside (settled_apart 1) (settled_apart 2))))))

plays : Play
plays =
    aside (A_then (aside I (aside J B_to_E)))
    (aside F_and_G (aside H (aside K (aside by_way (aside removed_again (aside removed_apart opposite_ways))))))

-- those that are played with sixteen columns too, where the third device has a column of a narrow table
wide_plays : Play
wide_plays = aside (A_then B_to_E) (aside F_and_G K)

narrow_three : List ℕ
narrow_three = 0 ∷ 1 ∷ 2 ∷ []

wide_three : List ℕ
wide_three = 15 ∷ 8 ∷ 3 ∷ []

-- A TO K
marked : said 8 narrow_three (fresh 8 narrow_three) plays ++ said 16 wide_three (fresh 16 wide_three) wide_plays ≡ meant plays ++ meant wide_plays
unfolding root_level_lem stamp_of seen said meant list count floored stamped holds says_A says_G says_K I J B_to_E A_then F_and_G H K
    by_way removed_again brought_back unheard heard_over removed_apart settled_apart opposite_ways plays wide_plays narrow_three wide_three played
marked = refl
