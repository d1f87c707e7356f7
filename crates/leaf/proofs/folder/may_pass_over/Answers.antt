-- The newest decides, then the level.
use Rattle.leaf.proofs.LeafWords.{over_level, over_false}
use Rattle.leaf.proofs.folder.may_pass_over.Goals as goal

pub returns-then-covers : goal.returns-then-covers
returns-then-covers g c =
    over_level g.row.N _ _ _ _ _ _ c.read-newest.ensures c.full_at-least_b.ensures c.covers.ensures c.if-covers.true
    c.full_at-least.ensures c.full_at-most.ensures c.same.ensures

pub returns : goal.returns
returns g c =
    over_false g.row.N _ _ _ _ _ _ c.read-newest.ensures c.full_at-least_b.ensures c.covers.ensures c.if-covers.false
