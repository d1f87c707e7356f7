-- What the code's answer at a row stands for.
use Rattle.std.specs.Prelude.{Option, None, Some}
use Rattle.std.proofs.Math.Option.{Option as Said, none, some}
use Rattle.paper.specs.declared.Ruling.{Ruling}

-- of a folder the rules say nothing
abbrev pub said_of : Option Ruling → Said Ruling
said_of None = none
said_of (Some r) = some r
