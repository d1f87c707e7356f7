-- The plan gives few rows, and the table has room for them.
use mathlib.Core.Path.{sym}
use native.Mathlib.Omega.{arith}
use Rattle.refused.proofs.NewTable.{new_facts}
use Rattle.kettleflock.proofs.new_at.Goals as goal

pub write_table-requires : goal.write_table-requires
write_table-requires g c = let f = new_facts _ _ _ _ (sym c.in_ok-new_refused.ensures) in (f.few, f.long, c.args.w.few)

pub overflow_cast-result : goal.overflow_cast-result
overflow_cast-result g c = omega (arith, (new_facts _ _ _ _ (sym c.in_ok-new_refused.ensures)).few)
