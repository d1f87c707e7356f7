-- A sheet's row with a new stamp or a new content, as words.
use Rattle.std.specs.Prelude.{ℕ, List, set}
use Rattle.paper.specs.declared.Stamp.{Stamp}
use Rattle.paper.specs.declared.Content.{Content}

-- the row r with the new stamp s in words 2 and 3
abbrev pub restamped : Stamp → List ℕ → List ℕ
restamped s r = set (set r 2 s.device) 3 s.count

-- and with the content m in words 6 and 7
abbrev pub filled : Content → List ℕ → List ℕ
filled m r = set (set r 6 m.mark) 7 m.class
