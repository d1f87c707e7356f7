-- Where the parts that are shown lie: in which of two tables, and at which word of it.
use Rattle.std.specs.Prelude.{ℕ, ◌+◌, ◌*◌, List}
use Rattle.paper.specs.Words.{wide, table_of}
use Rattle.paper.specs.Refusals.{unless}
use Rattle.paper.specs.Calls.{ruling_here, beneath_refused, standing_refused, side, by_side}
use Rattle.paper.specs.Widths.{width_of, two_widths}

-- the side of the row that stands, 0 on a refusal
unfoldable pub side_of : ℕ → List ℕ → List ℕ → ℕ → ℕ
side_of w s t row = unless (standing_refused w s t row) 0 (side (ruling_here (table_of w s) (table_of w t) row))

-- so for tables of any width
unfoldable pub side_any : List ℕ → List ℕ → ℕ → ℕ
side_any s t row = unless (two_widths s t) 0 (side_of (width_of t) s t row)

-- a place in memory: the block, and the byte in it
abbrev pub Place : Type 0
Place = ℕ × ℕ

-- the place of word i of a table that lies at p: the same block, four bytes a word
abbrev pub word_at : Place → ℕ → Place
word_at p i = (p.0, p.1 + i * 4)

-- the word of the table at which the rows beneath a folder begin; the empty part on a refusal lies at the table's start
unfoldable pub beneath_from : ℕ → List ℕ → ℕ → ℕ
beneath_from w t row = unless (beneath_refused w t row) 0 ((row + 2) * wide w)

-- where the rows beneath a folder lie, of a table t of any width that lies at p
abbrev pub beneath_at : Place → List ℕ → ℕ → Place
beneath_at p t row = word_at p (beneath_from (width_of t) t row)

-- where a row lies by its side, at word i of the source's or of the target's table; the empty part at the target's start
unfoldable pub side_at : ℕ → Place → Place → ℕ → Place
side_at side source target i = by_side side (word_at target 0) (word_at source i) (word_at target i)

-- where the row that stands lies, of tables s and t of any width that lie at p and q
abbrev pub standing_at : Place → Place → List ℕ → List ℕ → ℕ → Place
standing_at p q s t row = side_at (side_any s t row) p q ((row + 1) * wide (width_of t))
