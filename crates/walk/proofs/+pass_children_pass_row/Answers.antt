-- In the loop over children there is a row at `row`; a row is a sheet, a folder that is passed over, or one that is walked.
use Rattle.std.proofs.Common.{ℕ, ◌+◌, ◌*◌, ◌≤◌, length, set, arith, length-set}
use Rattle.paper.specs.Columns.{vec}
use Rattle.paper.specs.Words.{wide}
use Rattle.laws.proofs.Widths.{width_few}
use Rattle.walk.proofs.LentLists.{tail_room, row_falls, below_falls}
use Rattle.walk.proofs.RowsWalked.{sheet_passed, over_passed, walked_passed, walked_siblings}
use Rattle.walk.proofs.PartNeeds.{RowAt, row_at, size_is, below_parts, passed_few}
use Rattle.walk.proofs.SiblingTurns.{end_at, Here, turns_start, turns_step, turns_all, turns_few, here}
use Rattle.walk.proofs.+pass_children_pass_row.Goals as goal
use Rattle.walk.proofs.+pass_children_pass_row.Goals.{pass_children-In-loop-row, pass_row-Start}

-- CHILDREN
here_at : (t : ℕ) (c : pass_children-In-loop-row t)
    → let q = c.args in let l = c.loop-row in Here q.columns q.a.clock q.b.clock (vec q.a.floors.0) (vec q.b.floors.0) q.source.now l.target l.answers l.row
here_at t c = let l = c.loop-row in here _ _ _ _ _ c.requires.parts l.target l.answers l.row l.looked l.invariant c.loop-row-test.true

pub pass_children-loop-row-init : goal.pass_children-loop-row-init
pass_children-loop-row-init t c = turns_start _ _ _ _ _ _ _ _

pub pass_children-overflow_mul-at : goal.pass_children-overflow_mul-at
pass_children-overflow_mul-at t c = omega (arith, (here_at t c).word, c.well_formed.0.0)

pub pass_children-overflow_add-n : goal.pass_children-overflow_add-n
pass_children-overflow_add-n t c = omega (arith, (here_at t c).word, c.well_formed.0.0)

pub pass_children-offset_bounds-source-at : goal.pass_children-offset_bounds-source-at
pass_children-offset_bounds-source-at t c = omega (arith, (here_at t c).word, c.well_formed.0.1)

pub pass_children-bounds-source-at : goal.pass_children-bounds-source-at
pass_children-bounds-source-at t c = (here_at t (goal.at.pass_children-bounds-source-at t c).In-loop-row).word

pub pass_children-overflow_add-end : goal.pass_children-overflow_add-end
pass_children-overflow_add-end t c = omega (arith, (here_at t (goal.at.pass_children-overflow_add-end t c).In-loop-row).cut_a, c.well_formed.0.0)

pub pass_children-offset_bounds-source-at-in-loop-row :
    goal.pass_children-offset_bounds-source-at-in-loop-row
pass_children-offset_bounds-source-at-in-loop-row t c =
    omega (arith, (here_at t (goal.at.pass_children-offset_bounds-source-at-in-loop-row t c).In-loop-row).word, c.well_formed.0.1)

pub pass_children-slice_bounds-pass_row-end : goal.pass_children-slice_bounds-pass_row-end
pass_children-slice_bounds-pass_row-end t c = (here_at t (goal.at.pass_children-slice_bounds-pass_row-end t c).In-loop-row).cut_a

pub pass_children-offset_bounds-target-at : goal.pass_children-offset_bounds-target-at
pass_children-offset_bounds-target-at t c =
    omega (arith, (here_at t (goal.at.pass_children-offset_bounds-target-at t c).In-loop-row).word, c.well_formed.0.1)

pub pass_children-slice_bounds-pass_row-end-in-loop-row :
    goal.pass_children-slice_bounds-pass_row-end-in-loop-row
pass_children-slice_bounds-pass_row-end-in-loop-row t c =
    (here_at t (goal.at.pass_children-slice_bounds-pass_row-end-in-loop-row t c).In-loop-row).cut_b

pub pass_children-slice_bounds-pass_row-end-in-loop-row-2 :
    goal.pass_children-slice_bounds-pass_row-end-in-loop-row-2
pass_children-slice_bounds-pass_row-end-in-loop-row-2 t c =
    (here_at t (goal.at.pass_children-slice_bounds-pass_row-end-in-loop-row-2 t c).In-loop-row).fits

pub pass_children-pass_row-looked-requires : goal.pass_children-pass_row-looked-requires
pass_children-pass_row-looked-requires t c =
    let h = here_at t (goal.at.pass_children-pass_row-looked-requires t c).In-loop-row in let r = c.loop-row.row in
    (row_falls c.args.source.now (r * wide c.args.columns) (end_at c.args.columns c.args.source.now r) t h.cut_a c.decreases, (c.requires.width, h.first))

pub pass_children-loop-row-preserved : goal.pass_children-loop-row-preserved
pass_children-loop-row-preserved t c =
    let l = c.loop-row in let y = c.pass_row-looked in
    turns_step _ _ _ _ _ c.args.source.now l.target l.answers l.row l.looked (here_at t (goal.at.pass_children-loop-row-preserved t c).In-loop-row)
    y.new.target y.new.answers y.result y.auto.target y.auto.answers y.ensures l.invariant

pub pass_children-overflow_add-looked : goal.pass_children-overflow_add-looked
pass_children-overflow_add-looked t c =
    let l = c.loop-row in let y = c.pass_row-looked in
    omega (
      arith,
      turns_few _ _ _ _ _ c.requires.parts _ _ _ (l.looked + y.result)
          (turns_step _ _ _ _ _ c.args.source.now l.target l.answers l.row l.looked (here_at t (goal.at.pass_children-overflow_add-looked t c).In-loop-row)
          y.new.target y.new.answers y.result y.auto.target y.auto.answers y.ensures l.invariant),
      c.well_formed.1.1.0.0,
    )

pub pass_children-loop-row-smaller : goal.pass_children-loop-row-smaller
pass_children-loop-row-smaller t c =
    let h = here_at t (goal.at.pass_children-loop-row-smaller t c).In-loop-row in let l = c.loop-row in let y = c.pass_row-looked in
    let z = turns_step _ _ _ _ _ c.args.source.now l.target l.answers l.row l.looked h y.new.target y.new.answers y.result y.auto.target y.auto.answers y.ensures l.invariant in
    omega (arith, z.answers, l.invariant.answers, h.some, c.loop-row-test.true)

pub pass_children-returns : goal.pass_children-returns
pass_children-returns t c =
    let l = c.loop-row in turns_all _ _ _ _ _ c.requires.parts l.target l.answers l.row l.looked l.invariant (omega (arith, c.loop-row-test.false))

-- A ROW: it is there
there : (t : ℕ) (c : pass_row-Start t) → RowAt c.args.columns c.args.a.clock c.args.b.clock c.args.source.now c.args.target.now (length c.args.answers.now)
there t c = row_at c.args.columns c.requires.row_parts (width_few c.args.columns c.requires.width)

-- its first answer is written
some_answers : (t : ℕ) (c : pass_row-Start t) (n : ℕ) → 1 ≤ length (set c.args.answers.now 0 n)
some_answers t c n = rw (length-set c.args.answers.now 0 n) (there t c).some

pub pass_row-bounds-source-0 : goal.pass_row-bounds-source-0
pass_row-bounds-source-0 t c = (there t (goal.at.pass_row-bounds-source-0 t c).Start).long

pub pass_row-pass_sheet-requires-clause-rows : goal.pass_row-pass_sheet-requires-clause-rows
pass_row-pass_sheet-requires-clause-rows t c = (there t (goal.at.pass_row-pass_sheet-requires-clause-rows t c).Start).rows

pub pass_row-bounds-answers-0 : goal.pass_row-bounds-answers-0
pass_row-bounds-answers-0 t c = (there t (goal.at.pass_row-bounds-answers-0 t c).Start).some

pub pass_row-returns-then-source-ne-FOLDER : goal.pass_row-returns-then-source-ne-FOLDER
pass_row-returns-then-source-ne-FOLDER t c p x f =
    let y = c.pass_sheet in let h = there t (goal.at.pass_row-returns-then-source-ne-FOLDER t c).Start in
    sheet_passed _ _ _ _ _ p c.args.answers.now y.new.t y.result x f c.if-source-ne-FOLDER.true (size_is _ p f h.source) y.ensures.0 y.ensures.1

pub pass_row-may_pass_over-requires-clause-rows : goal.pass_row-may_pass_over-requires-clause-rows
pass_row-may_pass_over-requires-clause-rows t c = (there t (goal.at.pass_row-may_pass_over-requires-clause-rows t c).Start).rows

pub pass_row-over_row-requires-clause-rows : goal.pass_row-over_row-requires-clause-rows
pass_row-over_row-requires-clause-rows t c = let h = there t (goal.at.pass_row-over_row-requires-clause-rows t c).Start in (h.rows, h.source)

pub pass_row-returns-then-may_pass_over : goal.pass_row-returns-then-may_pass_over
pass_row-returns-then-may_pass_over t c p x f =
    let h = there t (goal.at.pass_row-returns-then-may_pass_over t c).Start in let y = c.over_row in
    over_passed _ _ _ _ _ h.rows.device_a h.rows.device_b c.requires.row_parts.parts.narrow p y.new.t c.args.answers.now y.new.answers x f
    c.if-source-ne-FOLDER.false c.may_pass_over.ensures c.if-may_pass_over.true (size_is _ p f h.source) y.ensures

pub pass_row-read-floor_a-requires : goal.pass_row-read-floor_a-requires
pass_row-read-floor_a-requires t c = let h = (there t (goal.at.pass_row-read-floor_a-requires t c).Start).rows in (h.few, omega (arith, h.source))

pub pass_row-read-floor_b-requires : goal.pass_row-read-floor_b-requires
pass_row-read-floor_b-requires t c = let h = (there t (goal.at.pass_row-read-floor_b-requires t c).Start).rows in (h.few, omega (arith, h.target))

pub pass_row-bounds-answers-0-2 : goal.pass_row-bounds-answers-0-2
pass_row-bounds-answers-0-2 t c = (there t (goal.at.pass_row-bounds-answers-0-2 t c).Start).some

pub pass_row-slice_bounds-pass_children-count : goal.pass_row-slice_bounds-pass_children-count
pass_row-slice_bounds-pass_children-count t c = (there t (goal.at.pass_row-slice_bounds-pass_children-count t c).Start).rows.source

pub pass_row-slice_bounds-pass_children-start : goal.pass_row-slice_bounds-pass_children-start
pass_row-slice_bounds-pass_children-start t c = (there t (goal.at.pass_row-slice_bounds-pass_children-start t c).Start).rows.source

pub pass_row-slice_bounds-pass_children-count-2 : goal.pass_row-slice_bounds-pass_children-count-2
pass_row-slice_bounds-pass_children-count-2 t c = (there t (goal.at.pass_row-slice_bounds-pass_children-count-2 t c).Start).rows.target

pub pass_row-slice_bounds-pass_children-start-2 : goal.pass_row-slice_bounds-pass_children-start-2
pass_row-slice_bounds-pass_children-start-2 t c = (there t (goal.at.pass_row-slice_bounds-pass_children-start-2 t c).Start).rows.target

pub pass_row-slice_bounds-pass_children-count-3 : goal.pass_row-slice_bounds-pass_children-count-3
pass_row-slice_bounds-pass_children-count-3 t c = some_answers t (goal.at.pass_row-slice_bounds-pass_children-count-3 t c).Start 4

pub pass_row-slice_bounds-pass_children-start-3 : goal.pass_row-slice_bounds-pass_children-start-3
pass_row-slice_bounds-pass_children-start-3 t c = some_answers t (goal.at.pass_row-slice_bounds-pass_children-start-3 t c).Start 4

pub pass_row-pass_children-looked-requires : goal.pass_row-pass_children-looked-requires
pass_row-pass_children-looked-requires t c =
    let q = c.args in let h = there t (goal.at.pass_row-pass_children-looked-requires t c).Start in (
      below_falls q.source.now (wide q.columns) t (omega arith) h.rows.source c.decreases,
      (
        c.requires.width,
        below_parts q.columns q.source.now q.target.now q.answers.now 4 c.requires.row_parts c.if-source-ne-FOLDER.false
            c.read-floor_a.ensures c.read-floor_b.ensures c.greatest-floors_a.ensures c.greatest-floors_b.ensures,
      ),
    )

pub pass_row-mend_folder-requires-clause-columns_in_bounds :
    goal.pass_row-mend_folder-requires-clause-columns_in_bounds
pass_row-mend_folder-requires-clause-columns_in_bounds t c =
    let y = c.pass_children-looked in let h = there t (goal.at.pass_row-mend_folder-requires-clause-columns_in_bounds t c).Start in
    (tail_room c.args.target.now y.new.target (wide c.args.columns) h.rows.target y.auto.target, c.requires.width)

pub pass_row-mend_folder-requires-clause-siblings :
    goal.pass_row-mend_folder-requires-clause-siblings
pass_row-mend_folder-requires-clause-siblings t c =
    let y = c.pass_children-looked in let p = c.requires.row_parts in
    walked_siblings c.args.columns y.new.target y.new.answers y.result p p.parts.narrow c.if-source-ne-FOLDER.false
    c.read-floor_a.ensures c.read-floor_b.ensures c.greatest-floors_a.ensures c.greatest-floors_b.ensures y.ensures

pub pass_row-returns : goal.pass_row-returns
pass_row-returns t c p x f =
    let h = there t (goal.at.pass_row-returns t c).Start in let y = c.pass_children-looked in
    walked_passed _ _ _ _ _ h.rows.device_a h.rows.device_b c.requires.row_parts.parts.narrow p y.new.target c.args.answers.now y.new.answers c.mend_folder.new.t y.result x f
    c.if-source-ne-FOLDER.false c.may_pass_over.ensures c.if-may_pass_over.false h.some
    c.read-floor_a.ensures c.read-floor_b.ensures c.greatest-floors_a.ensures c.greatest-floors_b.ensures y.ensures c.mend_folder.ensures

pub pass_row-overflow_add-result : goal.pass_row-overflow_add-result
pass_row-overflow_add-result t c =
    let h = there t (goal.at.pass_row-overflow_add-result t c).Start in let y = c.pass_children-looked in
    let p = c.requires.row_parts in
    omega (
      arith,
      passed_few c.args.columns p.parts _ _ (y.result + 1)
          (walked_passed _ _ _ _ _ h.rows.device_a h.rows.device_b p.parts.narrow p.parts.pair y.new.target c.args.answers.now y.new.answers c.mend_folder.new.t y.result p.single p.parts.fit
          c.if-source-ne-FOLDER.false c.may_pass_over.ensures c.if-may_pass_over.false h.some
          c.read-floor_a.ensures c.read-floor_b.ensures c.greatest-floors_a.ensures c.greatest-floors_b.ensures y.ensures c.mend_folder.ensures),
      c.well_formed.1.1.0.0,
    )
