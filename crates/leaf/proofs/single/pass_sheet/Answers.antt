-- The ruling is that of the two sheets, then the floor is raised, then the row taken.
use Rattle.leaf.proofs.LeafWords.{sheet_passed}
use Rattle.leaf.proofs.single.pass_sheet.Goals as goal

pub returns : goal.returns
returns g c =
    sheet_passed g.row.N _ _ _ _ _ _ c.full_at-ka.ensures c.full_at-kb.ensures c.judge-r.ensures c.from.ensures c.is_joined-joined.ensures c.is_taken-taken.ensures
    c.raise_floor.ensures c.take_row.ensures
