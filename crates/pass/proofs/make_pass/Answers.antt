-- The clocks and the floors above, the walk, the folders above.
use Prim.Native.Nat.{◌+◌, ◌-◌, ◌*◌}
use native.Mathlib.Omega.{arith}
use lib.ListN.{length}
use borrow.Rule.Slice.PartMut.{put_mid}
use Rattle.paper.specs.Columns.{vec}
use Rattle.paper.specs.Words.{wide, Table, table_of}
use Rattle.paper.specs.Calls.{pass_done}
use Rattle.walk.specs.Parts.{Passed}
use Rattle.mend.proofs.PutInPlace.{Changed, siblings}
use Rattle.pass.proofs.PassedWords.{Begun, Room, both, single_both, accepted, pass_room, pass_fits, pass_begins, count_few, pass_changed, passed_all}
use Rattle.pass.proofs.make_pass.Goals as goal
use Rattle.pass.proofs.make_pass.Given.{Over}
use Rattle.pass.proofs.make_pass.Goals.{After-above_row-ua, After-above_row-ub, After-clock_of-a, After-clock_of-b, After-pass_row-looked, Start}

room : (g : Over) (c : Start g) → Room (wide g.row.N) c.args.source.now c.args.target.now c.args.row (length c.args.answers.now)
room g c = pass_room g.row.N _ _ _ _ c.requires.0

abbrev a : (g : Over) → Start g → Table
a g s = table_of g.row.N s.args.source.now

abbrev b : (g : Over) → Start g → Table
b g s = table_of g.row.N s.args.target.now

-- the clocks and the floors above, as they were read
begun : (g : Over) (c : After-above_row-ub g)
    → let s =
    (goal.at.After-above_row-ub g c).Start in let ca = (goal.at.After-above_row-ub g c).After-clock_of-a in let cb = (goal.at.After-above_row-ub g c).After-clock_of-b in
    let ua = (goal.at.After-above_row-ub g c).After-above_row-ua in
    Begun (a g s) (b g s) c.args.row ca.clock_of-a.result cb.clock_of-b.result (vec ua.above_row-ua.result.0) (vec c.above_row-ub.result.0)
begun g c =
    record { source = c.clock_of-a.ensures _; target = c.clock_of-b.ensures _; above_a = c.above_row-ua.ensures; above_b = c.above_row-ub.ensures }

-- the rows walked
walked : (g : Over) (c : After-pass_row-looked g)
    → let s = (goal.at.After-pass_row-looked g c).Start in let back = c.pass_row-looked.new in
    Passed g.row.N c.clock_of-a.result c.clock_of-b.result (both g.row.N _ _ _ _ s.requires.0) (vec c.above_row-ua.result.0)
    (vec c.above_row-ub.result.0) back.target back.answers c.pass_row-looked.result
walked g c =
    let w = g.row.N in
    let e = c.requires.0 in
    c.pass_row-looked.ensures (both w _ _ _ _ e) (single_both w _ _ _ _ e) (pass_fits w _ _ _ _ e (begun g (goal.at.After-pass_row-looked g c).After-above_row-ub))

done : (g : Over) (c : After-pass_row-looked g)
    → let s = (goal.at.After-pass_row-looked g c).Start in let w = g.row.N in
    let from = (s.args.row + 1) * wide w in
    Changed w s.args.target.now (put_mid from (from + length s.args.answers.now * wide w - from) s.args.target.now c.pass_row-looked.new.target) s.args.row
    (pass_done w (a g s) (b g s) s.args.row)
done g c = pass_changed g.row.N _ _ _ _ c.requires.0 (begun g (goal.at.After-pass_row-looked g c).After-above_row-ub) (walked g c)

pub clock_of-a-requires : goal.clock_of-a-requires
clock_of-a-requires g c = omega (arith, room g (goal.at.clock_of-a-requires g c).Start)

pub clock_of-b-requires : goal.clock_of-b-requires
clock_of-b-requires g c = omega (arith, room g (goal.at.clock_of-b-requires g c).Start)

pub above_row-ua-requires : goal.above_row-ua-requires
above_row-ua-requires g c =
    let s = (goal.at.above_row-ua-requires g c).Start in let p = accepted g.row.N _ _ _ _ c.requires.0 in record { t_value = (p.source, c.args.w.few); row_bound = p.in_source }

pub above_row-ub-requires : goal.above_row-ub-requires
above_row-ub-requires g c =
    let s = (goal.at.above_row-ub-requires g c).Start in let p = accepted g.row.N _ _ _ _ c.requires.0 in record { t_value = (p.target, c.args.w.few); row_bound = p.in_target }

pub overflow_add-from : goal.overflow_add-from
overflow_add-from g c = omega (arith, room g (goal.at.overflow_add-from g c).Start)

pub overflow_mul-from : goal.overflow_mul-from
overflow_mul-from g c = omega (arith, room g (goal.at.overflow_mul-from g c).Start)

pub overflow_mul-end : goal.overflow_mul-end
overflow_mul-end g c = omega (arith, room g (goal.at.overflow_mul-end g c).Start)

pub overflow_add-end : goal.overflow_add-end
overflow_add-end g c = omega (arith, room g (goal.at.overflow_add-end g c).Start)

pub offset_bounds-source-from : goal.offset_bounds-source-from
offset_bounds-source-from g c = omega (arith, room g (goal.at.offset_bounds-source-from g c).Start)

pub slice_bounds-pass_row-end : goal.slice_bounds-pass_row-end
slice_bounds-pass_row-end g c = (room g (goal.at.slice_bounds-pass_row-end g c).Start).in_source

pub offset_bounds-target-from : goal.offset_bounds-target-from
offset_bounds-target-from g c = omega (arith, room g (goal.at.offset_bounds-target-from g c).Start)

pub slice_bounds-pass_row-end-2 : goal.slice_bounds-pass_row-end-2
slice_bounds-pass_row-end-2 g c = (room g (goal.at.slice_bounds-pass_row-end-2 g c).Start).in_target

pub pass_row-looked-requires-clause-row_parts : goal.pass_row-looked-requires-clause-row_parts
pass_row-looked-requires-clause-row_parts g c =
    pass_begins g.row.N _ _ _ _ c.requires.0 (begun g (goal.at.pass_row-looked-requires-clause-row_parts g c).After-above_row-ub)

pub slice_bounds-mend_above-count : goal.slice_bounds-mend_above-count
slice_bounds-mend_above-count g c = (done g (goal.at.slice_bounds-mend_above-count g c).After-pass_row-looked).room

pub slice_bounds-mend_above-start : goal.slice_bounds-mend_above-start
slice_bounds-mend_above-start g c = (done g (goal.at.slice_bounds-mend_above-start g c).After-pass_row-looked).room

pub mend_above-requires : goal.mend_above-requires
mend_above-requires g c =
    let y = siblings (done g (goal.at.mend_above-requires g c).After-pass_row-looked) in record { siblings = y.0; columns_in_bounds = (y.1, c.requires.1) }

pub overflow_cast-result : goal.overflow_cast-result
overflow_cast-result g c =
    omega (arith, count_few g.row.N _ _ _ _ c.requires.0 (begun g (goal.at.overflow_cast-result g c).After-above_row-ub) (walked g (goal.at.overflow_cast-result g c).After-pass_row-looked))

pub returns : goal.returns
returns g c =
    let k = (goal.at.returns g c).After-pass_row-looked in let m = c.mend_above in
    passed_all g.row.N _ _ _ _ c.requires.0 (begun g (goal.at.returns g c).After-above_row-ub) (walked g k) _ ((done g k).all m.new.t m.ensures)
