-- Refused, or the rows.
use mathlib.Core.Path.{sym}
use native.Mathlib.Omega.{arith}
use Rattle.laws.proofs.Tables.{check_facts}
use Rattle.kettleflock.proofs.check.Goals as goal

pub bounds-table-2 : goal.bounds-table-2
bounds-table-2 c = omega (arith, (check_facts _ _ (sym c.in_ok-check.ensures.number)).head.long)
