-- What the folder comes to is put into its row, vector by vector.
use mathlib.Core.Path.{◌≡◌, ap, ◌∙◌}
use Rattle.paper.specs.Columns.{Vec, vec}
use Rattle.paper.specs.Words.{floor_of}
use Rattle.summary.specs.Sums.{Sums, told, said, sums_under}
use Rattle.summary.proofs.SiblingSums.{some_same, mended_by_lem}
use Rattle.summary.proofs.Summary.mend.Goals as goal
use Rattle.summary.proofs.Summary.mend.Given.{Over}
use Rattle.summary.proofs.Summary.mend.Goals.{After-under-folder}

came : (g : Over) (c : After-under-folder g) → let q = c.args in
    told c.under-folder.result ≡ sums_under (floor_of g.row.N q.row.now) (said q.children)
came g c = c.under-folder.ensures ∙ ap (λ (f : Vec). sums_under f (said c.args.children)) c.read-floor.ensures

pub returns : goal.returns
returns g c =
    let u = (goal.at.returns g c).After-under-folder in let s = c.under-folder.result in
    mended_by_lem g.row.N _ _ _ _ _ (vec s.newest.0) (vec s.least.0) (vec s.most.0) c.write.ensures c.write-2.ensures c.write-3.ensures
    (ap (λ (x : Sums). x.newest) (came g u)) (some_same (ap (λ (x : Sums). x.least) (came g u))) (ap (λ (x : Sums). x.most) (came g u))
