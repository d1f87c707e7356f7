-- The floor, the choice, the new stamp.
use Rattle.settle.proofs.SettlingAtWords.{row_settled}
use Rattle.settle.proofs.settle_row.Goals as goal

pub returns : goal.returns
returns g c =
    row_settled _ _ _ _ _ _ _ _ _ _ c.raise_floor.ensures c.write_chosen.ensures c.ticking-ticked.ensures
