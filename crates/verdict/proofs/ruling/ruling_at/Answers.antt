-- The two rows' words and known times decide; a folder is known by the target's kind.
use mathlib.Core.Path.{sym, ap, ap₂, ◌∙◌}
use mathlib.Core.Option.{some}
use native.Mathlib.Omega.{arith}
use Rattle.paper.specs.Columns.{vec, covers}
use Rattle.paper.specs.Rules.{ruling}
use Rattle.paper.specs.Words.{row_of}
use Rattle.order.proofs.RowPlaces.{Begins}
use Rattle.two.proofs.Listed.{word_at, row_cut}
use Rattle.two.proofs.TwoTables.{Paired, paired, begin_both}
use Rattle.verdict.proofs.SheetAt.{ruling_none, ruling_some}
use Rattle.verdict.proofs.ruling.ruling_at.Goals as goal
use Rattle.verdict.proofs.ruling.ruling_at.Given.{Over}
use Rattle.verdict.proofs.ruling.ruling_at.Goals.{Start}

-- both tables pass the check, and the row stands in both
two : (g : Over) (c : Start g) → Paired g.row.N c.args.source.now c.args.target.now c.args.row
two g c = paired _ _ _ _ c.requires

in_source : (g : Over) (c : Start g) → Begins g.row.N c.args.source.now c.args.row
in_source g c = (begin_both _ _ _ _ c.args.w.few c.requires).0

in_target : (g : Over) (c : Start g) → Begins g.row.N c.args.target.now c.args.row
in_target g c = (begin_both _ _ _ _ c.args.w.few c.requires).1

pub overflow_add-at : goal.overflow_add-at
overflow_add-at g c = omega (arith, (in_target g (goal.at.overflow_add-at g c).Start).low)

pub overflow_mul-at : goal.overflow_mul-at
overflow_mul-at g c = let r = in_target g (goal.at.overflow_mul-at g c).Start in omega (arith, r.room, r.few)

pub overflow_add-end : goal.overflow_add-end
overflow_add-end g c = let r = in_target g (goal.at.overflow_add-end g c).Start in omega (arith, r.room, r.few)

pub overflow_add-at-2 : goal.overflow_add-at-2
overflow_add-at-2 g c = let r = in_target g (goal.at.overflow_add-at-2 g c).Start in omega (arith, r.room, r.few)

pub offset_bounds-target-at : goal.offset_bounds-target-at
offset_bounds-target-at g c = let r = in_target g (goal.at.offset_bounds-target-at g c).Start in omega (arith, r.room, r.few)

pub bounds-target-at : goal.bounds-target-at
bounds-target-at g c = omega (arith, (in_target g (goal.at.bounds-target-at g c).Start).room)

pub returns-then-target-at-eq-FOLDER : goal.returns-then-target-at-eq-FOLDER
returns-then-target-at-eq-FOLDER g c =
    let s = (goal.at.returns-then-target-at-eq-FOLDER g c).Start in let p = two g s in
    let w = g.row.N in
    let k = word_at w c.args.target.now c.args.row 0 (omega arith) in
    ruling_none w _ _ p.source p.target _ p.in_source p.in_target p.shaped (k ∙ c.if-target-at-eq-FOLDER.true)

pub known_time-ka-requires : goal.known_time-ka-requires
known_time-ka-requires g c =
    let s = (goal.at.known_time-ka-requires g c).Start in record { t_value = ((two g s).source, c.args.w.few); row_bound = (two g s).in_source }

pub known_time-kb-requires : goal.known_time-kb-requires
known_time-kb-requires g c =
    let s = (goal.at.known_time-kb-requires g c).Start in record { t_value = ((two g s).target, c.args.w.few); row_bound = (two g s).in_target }

pub offset_bounds-source-at : goal.offset_bounds-source-at
offset_bounds-source-at g c = let r = in_target g (goal.at.offset_bounds-source-at g c).Start in omega (arith, r.room, r.few)

pub slice_bounds-judge-end : goal.slice_bounds-judge-end
slice_bounds-judge-end g c = omega (arith, (in_source g (goal.at.slice_bounds-judge-end g c).Start).room)

pub slice_bounds-judge-end-2 : goal.slice_bounds-judge-end-2
slice_bounds-judge-end-2 g c = omega (arith, (in_target g (goal.at.slice_bounds-judge-end-2 g c).Start).room)

pub returns : goal.returns
returns g c =
    let start = (goal.at.returns g c).Start in let s = c.args.source.now in
    let t = c.args.target.now in
    let row = c.args.row in
    let w = g.row.N in
    let p = two g start in
    ap some (c.judge-ruling.ensures
    ∙ ap₂ (λ x y. ruling covers (record { row = row_of x; known = vec c.known_time-ka.result.0 }) (record { row = row_of y; known = vec c.known_time-kb.result.0 }))
    (row_cut w s row) (row_cut w t row))
    ∙ ruling_some w s t p.source p.target row p.in_source p.in_target p.shaped _ _ c.known_time-ka.ensures c.known_time-kb.ensures
    (λ e. c.if-target-at-eq-FOLDER.false (sym (word_at w t row 0 (omega arith)) ∙ e))
