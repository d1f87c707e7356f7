-- The rules at two rows, where what either side has heard is known.
use mathlib.Core.Path.{◌≡◌, ◌∙◌}
use mathlib.Core.List.{List}
use mathlib.Core.Bool.{Bool}
use Prim.Native.Nat.{ℕ}
use Rattle.paper.specs.declared.Ruling.{Ruling}
use Rattle.paper.specs.Rules.{rule, ruling}
use Rattle.paper.specs.Columns.{Vec}
use Rattle.paper.specs.Words.{kind_of, row_of}
use lib.ListN.{get_or}
use Rattle.rules.specs.Judged.{heard, HeardOf, judged}

-- the rules' four answers are asked of the stamps and births in two rows
pub judged_by : (s t : List ℕ) (ka kb : Vec) (p q r u : Bool) {c : Ruling} → HeardOf kb s p q → HeardOf ka t r u
    → c ≡ rule (kind_of (get_or s 0 0)) (kind_of (get_or t 0 0)) (heard p q r u) → c ≡ judged s t ka kb
unfolding ruling row_of
judged_by s t ka kb p q r u h k e = e ∙ rw (h.0, h.1, k.0, k.1)
