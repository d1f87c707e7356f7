-- Past both checks the two widths that were read decide.
use mathlib.Core.Path.{sym, ap, ◌∙◌}
use Rattle.vector.specs.Wideness.{columns_in}
use Rattle.refused.proofs.FirstRefused.{both_checked}
use Rattle.refused.proofs.of_pair.one_width.Goals as goal

pub returns-in-Eight-Eight-clause-checked : goal.returns-in-Eight-Eight-clause-checked
returns-in-Eight-Eight-clause-checked c =
    let s = c.in_ok-columns.ensures in let t = c.in_ok-other.ensures in
    both_checked _ _ 8 s.number t.number (ap columns_in (sym c.in-Eight-Eight.is-0) ∙ s.width) (ap columns_in (sym c.in-Eight-Eight.is-1) ∙ t.width)

pub returns-in-Sixteen-Sixteen-clause-checked : goal.returns-in-Sixteen-Sixteen-clause-checked
returns-in-Sixteen-Sixteen-clause-checked c =
    let s = c.in_ok-columns.ensures in let t = c.in_ok-other.ensures in
    both_checked _ _ 16 s.number t.number (ap columns_in (sym c.in-Sixteen-Sixteen.is-0) ∙ s.width) (ap columns_in (sym c.in-Sixteen-Sixteen.is-1) ∙ t.width)
