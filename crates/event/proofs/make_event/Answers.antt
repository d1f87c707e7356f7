-- The row, the counter, the folders above.
use Prim.Native.Nat.{◌≤◌}
use mathlib.Core.Path.{ap}
use native.Mathlib.Omega.{arith}
use Rattle.paper.specs.Words.{table_of}
use Rattle.paper.specs.Calls.{event_named, event_done}
use Rattle.paper.specs.Named.{event_number}
use Rattle.order.proofs.RowPlaces.{Begins, begins}
use Rattle.mend.proofs.PutInPlace.{Changed, siblings}
use Rattle.mend.proofs.SheetInPlace.{put_row}
use Rattle.event.proofs.EventAtWords.{EventFits, Room, event_facts, event_room, event_changed, written_named}
use Rattle.event.proofs.make_event.Goals as goal
use Rattle.event.proofs.make_event.Given.{Over}
use Rattle.event.proofs.make_event.Goals.{After-ticking-ticked, After-write_event, Start}

few : (g : Over) (c : Start g) → g.row.N ≤ 16
few g c = c.args.w.few

fits : (g : Over) (c : Start g) → EventFits g.row.N c.args.t.now c.args.row (event_number c.args.event)
fits g c = event_facts g.row.N _ _ _ _ c.requires.0

room : (g : Over) (c : Start g) → Room g.row.N c.args.t.now c.args.row
room g c = event_room g.row.N _ _ _ (fits g c)

-- where the row stands
at : (g : Over) (c : Start g) → Begins g.row.N c.args.t.now c.args.row
at g c = begins g.row.N _ _ (few g c) (fits g c).check (room g c).there

-- the row written and the counter set
done : (g : Over) (c : After-write_event g) → (let up = (goal.at.After-write_event g c).After-ticking-ticked in let a = up.args in
    Changed g.row.N a.t.now (put_row g.row.N a.t.now a.row c.write_event.new.r up.ticking-ticked.result.clock.counter) a.row
    (event_done (table_of g.row.N a.t.now) a.row (event_named (event_number a.event)) a.content))
unfolding table_of
done g c =
    let s = (goal.at.After-write_event g c).Start in let up = c.ticking-ticked in
    event_changed _ _ _ _ _ (fits g s) up.result.stamp up.ensures.1 c.write_event.new.r (written_named _ _ _ _ c.write_event.ensures) up.result.clock up.ensures.0

pub bounds-t-0 : goal.bounds-t-0
bounds-t-0 g c = omega (arith, room g (goal.at.bounds-t-0 g c).Start)

pub bounds-t-1 : goal.bounds-t-1
bounds-t-1 g c = omega (arith, room g (goal.at.bounds-t-1 g c).Start)

pub ticking-ticked-requires : goal.ticking-ticked-requires
ticking-ticked-requires g c = omega (arith, (room g (goal.at.ticking-ticked-requires g c).Start).counter, c.type_inv.t 1)

pub overflow_add-from : goal.overflow_add-from
overflow_add-from g c = let s = (goal.at.overflow_add-from g c).Start in omega (arith, at g s)

pub overflow_mul-from : goal.overflow_mul-from
overflow_mul-from g c = let s = (goal.at.overflow_mul-from g c).Start in omega (arith, at g s)

pub overflow_add-from-2 : goal.overflow_add-from-2
overflow_add-from-2 g c = let s = (goal.at.overflow_add-from-2 g c).Start in omega (arith, at g s)

pub offset_bounds-t-from : goal.offset_bounds-t-from
offset_bounds-t-from g c = let s = (goal.at.offset_bounds-t-from g c).Start in omega (arith, at g s)

pub slice_bounds-write_event-end : goal.slice_bounds-write_event-end
slice_bounds-write_event-end g c = let s = (goal.at.slice_bounds-write_event-end g c).Start in (at g s).room

pub mend_above-requires-clause-siblings : goal.mend_above-requires-clause-siblings
mend_above-requires-clause-siblings g c = (siblings (done g (goal.at.mend_above-requires-clause-siblings g c).After-write_event)).0

pub returns : goal.returns
unfolding table_of
returns g c =
    let w = (goal.at.returns g c).After-write_event in (ap (λ z. z.count) c.ticking-ticked.ensures.1, (done g w).all c.mend_above.new.t c.mend_above.ensures)
