-- The part, and where it lies.
use Rattle.shown.proofs.Beneath.{beneath_cut, beneath_lies}
use Rattle.shown.proofs.rows_beneath.Goals as goal

pub returns : goal.returns
returns g c = (beneath_cut _ _ _ c.requires, beneath_lies _ _ _ c.requires c.args.table.ref_ptr)
