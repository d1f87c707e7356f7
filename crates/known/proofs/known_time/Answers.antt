-- The floors above, the row's own, and the counter.
use Rattle.vector.proofs.Places.{part_row}
use Rattle.paper.specs.Columns.{full}
use Rattle.paper.specs.Words.{wide, table_of}
use mathlib.Core.Path.{sym, ap₂, ◌∙◌}
use native.Mathlib.Omega.{arith}
use Prim.Native.Nat.{◌+◌, ◌*◌}
use Rattle.known.proofs.known_time.Goals as goal

pub returns : goal.returns
unfolding table_of
returns c =
    let n = wide c.args.columns in
    c.full.ensures ∙ ap₂ (full _) c.above_row-floors.ensures (c.read-floor.ensures ∙ sym (part_row c.args.columns n 8 ((c.args.row + 1) * n) c.args.t.now (omega arith)))
