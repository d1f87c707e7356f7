-- Kind by kind.
use Rattle.paper.specs.Columns.{Vec, vec, greatest}
use Rattle.paper.specs.Devices.{devices}
use Rattle.paper.specs.Words.{newest_at}
use Rattle.laws.proofs.Columns.{part_narrow}
use Rattle.vector.proofs.ColumnLoops.{all_raised}
use Rattle.summary.proofs.Stored.{newest_folder, newest_live, newest_removed, newest_never}
use native.Mathlib.Omega.{arith}
use mathlib.Core.Path.{sym, ap, ap₂, fun_ext, ◌∙◌}
use Rattle.summary.proofs.raise_newest.Goals as goal

pub returns-then-kind-eq-FOLDER : goal.returns-then-kind-eq-FOLDER
returns-then-kind-eq-FOLDER g c =
    let r = c.args.row.now in
    all_raised devices c.args.newest.now _ _ _ c.requires.0 (λ j k. part_narrow g.row.N (newest_at g.row.N) r j (omega arith))
    (c.greatest-v.ensures ∙ ap₂ (λ (x y : Vec). greatest x y) c.read-v.ensures c.read.ensures) c.write.ensures
    ∙ ap (λ (x : Vec). greatest (vec c.args.newest.now) x) (sym (newest_folder g.row.N r c.if-kind-eq-FOLDER.true))

pub raise_column-requires : goal.raise_column-requires
raise_column-requires g c = omega (arith, c.requires.0, c.requires.1.1 c.if-kind-eq-FOLDER.false)

pub returns-then-kind-eq-LIVE : goal.returns-then-kind-eq-LIVE
returns-then-kind-eq-LIVE g c =
    c.raise_column.ensures ∙ ap (λ (x : Vec). greatest (vec c.args.newest.now) x) (sym (newest_live g.row.N c.args.row.now c.if-kind-eq-LIVE.true))

pub raise_column-requires-then-kind-eq-REMOVED : goal.raise_column-requires-then-kind-eq-REMOVED
raise_column-requires-then-kind-eq-REMOVED g c = omega (arith, c.requires.0, c.requires.1.1 c.if-kind-eq-FOLDER.false)

pub returns-then-kind-eq-REMOVED : goal.returns-then-kind-eq-REMOVED
returns-then-kind-eq-REMOVED g c =
    c.raise_column-then-kind-eq-REMOVED.ensures ∙ ap (λ (x : Vec). greatest (vec c.args.newest.now) x) (sym (newest_removed g.row.N c.args.row.now c.if-kind-eq-REMOVED.true))

pub returns : goal.returns
returns g c =
    fun_ext (λ j. omega arith)
    ∙ ap (λ (x : Vec). greatest (vec c.args.newest.now) x) (sym (newest_never g.row.N c.args.row.now c.if-kind-eq-FOLDER.false c.if-kind-eq-LIVE.false c.if-kind-eq-REMOVED.false))
