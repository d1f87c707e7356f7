-- The lesser count of each column.
use Prim.Native.Nat.{min}
use mathlib.Core.Path.{refl}
use borrow.Author.Rules.{rules}
use Rattle.vector.proofs.Vector.smallest.Goals as goal

pub returns : goal.returns
returns c = c.column_by_column.ensures min (λ a b r p. search rules) refl
