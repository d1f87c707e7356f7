use Rattle.paper.specs.Columns.{Vec, vec, part, greatest, smallest}
use Rattle.paper.specs.Devices.{devices}
use Rattle.paper.specs.Order.{kind_word}
use Rattle.paper.specs.Words.{wide, least_at}
use Rattle.vector.proofs.ColumnLoops.{zeros_vec}
use Rattle.vector.proofs.Parts.{none_rows, tail_length}
use Rattle.summary.specs.Sums.{stored}
use Rattle.summary.proofs.SiblingSums.{sums_none}
use Rattle.summary.proofs.Gathered.{First, gathered_as, first_row, gather_start, gather_more, gather_all, place_room}
use borrow.Author.Tests.{eqb-true, eqb-false}
use native.Mathlib.Omega.{arith}
use Prim.Native.Nat.{ℕ, ◌*◌}
use lib.ListN.{take, get_or}
use mathlib.Core.Path.{refl, sym, ap, ◌∙◌}
use Rattle.summary.proofs.Summary.of_rows.Goals as goal
use Rattle.summary.proofs.Summary.of_rows.Given.{Over}
use Rattle.summary.proofs.Summary.of_rows.Goals.{In-loop-rest}

first : (g : Over) (c : In-loop-rest g) → First g.row.N c.loop-rest.rest.now
first g c = first_row g.row.N c.loop-rest.rest.now c.loop-rest.invariant.1.rows (omega (arith, eqb-false _ _ (sym c.loop-rest-test.ensures)))

pub returns-then-is_empty : goal.returns-then-is_empty
unfolding stored
returns-then-is_empty g c = sym sums_none ∙ sym (ap (stored g.row.N) (none_rows (wide g.row.N) c.args.t.now (eqb-true _ _ (sym c.if-is_empty.ensures))))

pub read-least-requires : goal.read-least-requires
read-least-requires g c =
    let h = first_row g.row.N c.args.t.now c.requires (omega (arith, eqb-false _ _ (sym c.if-is_empty.ensures))) in
    (omega arith, omega (arith, h.room, place_room g.row.N (kind_word c.args.t.now) (least_at g.row.N) (omega arith), c.place.ensures))

pub loop-rest-init : goal.loop-rest-init
loop-rest-init g c =
    let t = c.args.t.now in (
      refl,
      gathered_as g.row.N t t (zeros_vec devices) (c.read-least.ensures ∙ ap (λ (k : ℕ). part g.row.N k t) c.place.ensures) c.zeros-most.ensures
          (gather_start g.row.N t c.requires (omega (arith, eqb-false _ _ (sym c.if-is_empty.ensures)))),
    )

pub slice_bounds-row-end : goal.slice_bounds-row-end
slice_bounds-row-end g c = sym (first g c).long

pub raise_newest-requires : goal.raise_newest-requires
raise_newest-requires g c = (omega arith, (c.loop-rest.invariant.0, (first g (goal.at.raise_newest-requires g c).In-loop-rest).countable))

pub read-requires : goal.read-requires
read-requires g c = (omega arith, omega (arith, (first g (goal.at.read-requires g c).In-loop-rest).least, c.place-in-loop-rest.ensures))

pub read-requires-in-loop-rest : goal.read-requires-in-loop-rest
read-requires-in-loop-rest g c = (omega arith, omega (arith, (first g (goal.at.read-requires-in-loop-rest g c).In-loop-rest).most, c.place-in-loop-rest-2.ensures))

pub bounds-row-1 : goal.bounds-row-1
bounds-row-1 g c = omega (arith, (first g (goal.at.bounds-row-1 g c).In-loop-rest).long)

pub slice_bounds-rest-count : goal.slice_bounds-rest-count
slice_bounds-rest-count g c = (first g (goal.at.slice_bounds-rest-count g c).In-loop-rest).rows

pub slice_bounds-rest-start : goal.slice_bounds-rest-start
slice_bounds-rest-start g c = (first g (goal.at.slice_bounds-rest-start g c).In-loop-rest).rows

pub loop-rest-smaller : goal.loop-rest-smaller
loop-rest-smaller g c =
    let f = first g (goal.at.loop-rest-smaller g c).In-loop-rest in
    let t = c.loop-rest.rest.now in
    omega (arith, f.rows, f.some, tail_length (get_or (take (wide g.row.N) t) 1 0 * wide g.row.N) t)

pub loop-rest-preserved : goal.loop-rest-preserved
loop-rest-preserved g c =
    let l = c.loop-rest in let w = g.row.N in
    let r = take (wide w) l.rest.now in (
      c.raise_newest.auto.newest ∙ l.invariant.0,
      gather_more w c.args.t.now l.rest.now l.invariant.1 (omega (arith, eqb-false _ _ (sym c.loop-rest-test.ensures))) c.raise_newest.ensures
          (c.smallest-least.ensures ∙ ap (λ (x : Vec). smallest (vec l.least.0) x) (c.read.ensures ∙ ap (λ (k : ℕ). part w k r) c.place-in-loop-rest.ensures))
          (c.greatest-most.ensures ∙ ap (λ (x : Vec). greatest (vec l.most.0) x) (c.read-in-loop-rest.ensures ∙ ap (λ (k : ℕ). part w k r) c.place-in-loop-rest-2.ensures)),
    )

pub returns : goal.returns
returns g c = let l = c.loop-rest in gather_all g.row.N c.args.t.now l.rest.now _ _ _ l.invariant.1 (eqb-true _ _ (sym c.loop-rest-test.ensures))
