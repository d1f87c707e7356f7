-- The stamps that a row's kind has name columns.
use Rattle.layout.proofs.RowRules.{stamp_column, birth_column}
use native.Mathlib.Omega.{arith}
use mathlib.Core.Path.{ap}
use Rattle.layout.proofs.is_known.Goals as goal

pub is_covered-requires : goal.is_covered-requires
is_covered-requires g c =
    (omega arith, (c.requires.0, omega (arith, ap (λ z. z.device) c.stamp_of-stamp.ensures, stamp_column g.row.N c.args.r.now c.requires.1 c.requires.2)))

pub is_covered-requires-then-is_covered : goal.is_covered-requires-then-is_covered
is_covered-requires-then-is_covered g c =
    (omega arith, (c.requires.0, omega (arith, ap (λ z. z.device) c.birth_of.ensures, birth_column g.row.N c.args.r.now c.requires.1 c.in-1.is)))

pub is_covered-requires-in-2 : goal.is_covered-requires-in-2
is_covered-requires-in-2 g c =
    (omega arith, (c.requires.0, omega (arith, ap (λ z. z.device) c.stamp_of-stamp.ensures, stamp_column g.row.N c.args.r.now c.requires.1 c.requires.2)))
