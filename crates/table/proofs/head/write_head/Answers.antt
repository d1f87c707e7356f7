-- Zeros, and then the four numbers of the head.
use Rattle.table.proofs.Heads.{head_set}
use lib.ListN.{replicate}
use mathlib.Core.Path.{ap, ◌∙◌}
use Rattle.table.proofs.head.write_head.Goals as goal

pub returns : goal.returns
returns c =
    head_set c.args.columns _ _ _ _ _ (c.blank_out.ensures ∙ ap (λ x. replicate x 0) c.requires.0) c.sign_of.ensures
