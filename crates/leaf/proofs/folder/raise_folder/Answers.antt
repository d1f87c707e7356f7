-- The floor is raised, then the summaries are put right by those in the row.
use Rattle.leaf.proofs.LeafWords.{over_row_lem}
use Rattle.paper.specs.Columns.{vec}
use Rattle.leaf.proofs.folder.raise_folder.Goals as goal

pub returns : goal.returns
returns g c =
    let q = c.args in
    over_row_lem g.row.N _ _ _ (vec q.a.floors.0) _ _ c.full_at-least.ensures c.raise_floor.ensures c.of_folder-rows.ensures c.mend.ensures
