-- The closure says whether the second count is the less.
use lib.Dec.{ltb}
use borrow.Author.Rules.{rules}
use Rattle.vector.proofs.Vector.ahead.Goals as goal

pub returns : goal.returns
returns c = c.mask_of.ensures (λ a b. ltb b a) (λ a b r p. search rules)
