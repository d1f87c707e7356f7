-- The known time of a row of a table, from its words.
use Rattle.std.specs.Prelude.{ℕ, List}
use Rattle.paper.specs.Columns.{Vec, full}
use Rattle.paper.specs.Tree.{above}
use Rattle.paper.specs.Words.{floor_of, table_of}
use Rattle.paper.specs.Calls.{row_at}

-- the greatest of the floors above the row and of its own, with the counter in the own column
abbrev pub known_at : ℕ → List ℕ → ℕ → Vec
known_at w t row = full (table_of w t).clock (above (table_of w t).tree row) (floor_of w (row_at w t row))
