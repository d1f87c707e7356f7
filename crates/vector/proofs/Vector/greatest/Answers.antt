-- The greater count of each column.
use Prim.Native.Nat.{max}
use mathlib.Core.Path.{refl}
use borrow.Author.Rules.{rules}
use Rattle.vector.proofs.Vector.greatest.Goals as goal

pub returns : goal.returns
returns c = c.column_by_column.ensures max (λ a b r p. search rules) refl
