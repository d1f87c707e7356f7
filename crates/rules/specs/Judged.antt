-- What the six rules ask of two rows of a sheet, and say of them.
use Rattle.std.specs.Prelude.{ℕ, Bool, List, ◌≡◌}
use Rattle.paper.specs.declared.Ruling.{Ruling}
use Rattle.paper.specs.Columns.{Vec, covers}
use Rattle.paper.specs.Rules.{Heard, ruling}
use Rattle.paper.specs.Words.{row_of}

-- the rules' four answers: has B heard of A's stamp and birth, and A of B's?
abbrev pub heard : (stamp_a birth_a stamp_b birth_b : Bool) → Heard
heard p q r s = record { stamp_a = p; birth_a = q; stamp_b = r; birth_b = s }

-- what a side with the known time v has heard of the other's row
abbrev pub HeardOf : Vec → List ℕ → (stamp birth : Bool) → Type 0
HeardOf v r stamp birth = (stamp ≡ covers v (row_of r).stamp) × (birth ≡ covers v (row_of r).birth)

-- what the rules say of two rows of a sheet, with the known time on either side
abbrev pub judged : List ℕ → List ℕ → Vec → Vec → Ruling
judged s t ka kb = ruling covers (record { row = row_of s; known = ka }) (record { row = row_of t; known = kb })
