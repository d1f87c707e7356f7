-- A table that is not refused has its head.
use mathlib.Core.Path.{sym}
use native.Mathlib.Omega.{arith}
use Rattle.laws.proofs.Tables.{check_facts}
use Rattle.refused.proofs.NewTable.{widen_checked}
use Rattle.kettleflock.proofs.widen.Goals as goal

pub bounds-table-2 : goal.bounds-table-2
bounds-table-2 c = omega (arith, (check_facts _ _ (widen_checked _ _ (sym c.in_ok-widen_refused.ensures))).head.long)
