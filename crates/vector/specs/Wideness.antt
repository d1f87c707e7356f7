-- Which of the two widths: how many columns it has, and which number names it.
use Rattle.std.specs.Prelude.{ℕ, ◌≡◌, false, Result, MatchResult}
use Rattle.paper.specs.Devices.{narrow_columns, wide_columns}
use Rattle.paper.specs.Widths.{eight_or_sixteen}
use Rattle.vector.specs.declared.row.Columns.{Columns}
use Rattle.vector.specs.declared.row.Columns.TheVariants.{Eight, Sixteen}
use Rattle.paper.specs.declared.Refusal.{Refusal}
use Rattle.paper.specs.declared.Refusal.TheVariants.{Width}

-- the columns of each
abbrev pub columns_in : Columns → ℕ
columns_in (Eight w) = narrow_columns
columns_in (Sixteen w) = wide_columns

-- the width with so many columns, or none where there is no such
abbrev pub Names : ℕ → Result Columns Refusal → Type 0
Names n r = MatchResult r (λ c. columns_in c ≡ n) (λ e. (eight_or_sixteen n ≡ false) × (e ≡ Width))
