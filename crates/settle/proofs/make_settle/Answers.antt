-- The row, the counter, the folders above.
use mathlib.Core.Path.{ap}
use native.Mathlib.Omega.{arith}
use lib.ListN.{length-take, length-drop}
use Rattle.paper.specs.Words.{wide, table_of}
use Rattle.paper.specs.Calls.{choice_named, settle_done}
use Rattle.paper.specs.Named.{choice_number}
use Rattle.laws.proofs.Tables.{check_facts}
use Rattle.two.proofs.TwoTables.{Room, Paired, paired, two_room}
use Rattle.mend.proofs.PutInPlace.{Changed, siblings}
use Rattle.mend.proofs.SheetInPlace.{put_row}
use Rattle.settle.proofs.SettlingAtWords.{SettleFits, settle_facts, settle_changed, settled_named}
use Rattle.settle.proofs.make_settle.Goals as goal
use Rattle.settle.proofs.make_settle.Given.{Over}
use Rattle.settle.proofs.make_settle.Goals.{After-settle_row-ticked, Start}

fits : (g : Over) (c : Start g) → SettleFits g.row.N c.args.source.now c.args.target.now c.args.row (choice_number c.args.choice)
fits g c = settle_facts g.row.N _ _ _ _ _ c.requires.0

both : (g : Over) (c : Start g) → Paired g.row.N c.args.source.now c.args.target.now c.args.row
both g c = paired g.row.N _ _ _ (fits g c).two

room : (g : Over) (c : Start g) → Room (wide g.row.N) c.args.source.now c.args.target.now c.args.row
room g c = two_room g.row.N _ _ _ (fits g c).two

-- the row settled and the counter set
done : (g : Over) (c : After-settle_row-ticked g) → (let a = c.args in
    Changed g.row.N a.target.now (put_row g.row.N a.target.now a.row c.settle_row-ticked.new.r c.settle_row-ticked.result.clock.counter) a.row
    (settle_done (table_of g.row.N a.source.now) (table_of g.row.N a.target.now) a.row (choice_named (choice_number a.choice)) a.content))
unfolding table_of
done g c =
    let s = (goal.at.After-settle_row-ticked g c).Start in
    settle_changed _ _ _ _ _ _ (fits g s) _ c.settle_row-ticked.new.r c.settle_row-ticked.result c.known_time-known.ensures
    (settled_named _ _ _ _ _ _ _ _ _ c.settle_row-ticked.ensures)

pub overflow_add-at : goal.overflow_add-at
overflow_add-at g c = omega (arith, room g (goal.at.overflow_add-at g c).Start)

pub overflow_mul-at : goal.overflow_mul-at
overflow_mul-at g c = omega (arith, room g (goal.at.overflow_mul-at g c).Start)

pub overflow_add-end : goal.overflow_add-end
overflow_add-end g c = omega (arith, room g (goal.at.overflow_add-end g c).Start)

pub known_time-known-requires : goal.known_time-known-requires
known_time-known-requires g c =
    let s = (goal.at.known_time-known-requires g c).Start in record { t_value = ((both g s).source, c.args.w.few); row_bound = (both g s).in_source }

pub bounds-target-0 : goal.bounds-target-0
bounds-target-0 g c = omega (arith, room g (goal.at.bounds-target-0 g c).Start)

pub bounds-target-1 : goal.bounds-target-1
bounds-target-1 g c = let s = (goal.at.bounds-target-1 g c).Start in omega (arith, room g s)

pub offset_bounds-source-at : goal.offset_bounds-source-at
offset_bounds-source-at g c = let s = (goal.at.offset_bounds-source-at g c).Start in omega (arith, room g s)

pub slice_bounds-settle_row-end : goal.slice_bounds-settle_row-end
slice_bounds-settle_row-end g c = let s = (goal.at.slice_bounds-settle_row-end g c).Start in (room g s).in_source

pub slice_bounds-settle_row-end-2 : goal.slice_bounds-settle_row-end-2
slice_bounds-settle_row-end-2 g c = let s = (goal.at.slice_bounds-settle_row-end-2 g c).Start in (room g s).in_target

pub settle_row-ticked-requires : goal.settle_row-ticked-requires
unfolding table_of
settle_row-ticked-requires g c =
    let s = (goal.at.settle_row-ticked-requires g c).Start in (
      omega arith,
      (
        (simp (length-take, length-drop) (omega (arith, room g s)), simp (length-take, length-drop) (omega (arith, room g s))),
        ((check_facts g.row.N _ (both g s).target).head.device, omega (arith, (fits g s).room, c.slice_known-3-1.given 1)),
      ),
    )

pub mend_above-requires-clause-siblings : goal.mend_above-requires-clause-siblings
mend_above-requires-clause-siblings g c = (siblings (done g (goal.at.mend_above-requires-clause-siblings g c).After-settle_row-ticked)).0

pub returns : goal.returns
unfolding table_of
returns g c =
    let r = (goal.at.returns g c).After-settle_row-ticked in let a = c.args in (
      ap (λ z. z.count) c.settle_row-ticked.ensures.1,
      (done g r).all c.mend_above.new.t c.mend_above.ensures,
    )
