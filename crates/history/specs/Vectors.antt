-- The tables' sort of knowledge. It is no part of the history: the theorems say by it what a call does to the tables' own cells.
use Rattle.paper.specs.Columns.{Vec, zeros, greatest, column, covers}
use Rattle.run.specs.Knowledge.{Sort}

-- the tables': an event is covered, the greatest of two, and the own column is set to the counter wherever the event was
abbrev pub vectors : Sort
vectors = record {
  K = Vec;
  none = zeros;
  knows = covers;
  join = greatest;
  made = λ here e v. column e.device e.count v;
}
