-- What the calls do to the cells of the changed table, row by row.
use Prim.{tt}
use Prim.Native.Nat.{ℕ, zero, suc, ◌+◌, ◌-◌, ◌≤◌, ◌<◌, max}
use mathlib.Core.Path.{◌≡◌, refl, sym, ap, ap₂, ◌∙◌, fun_ext}
use mathlib.Core.Bool.{Bool, true, false, cond}
use mathlib.Core.Option.{Option, none, some, map}
use native.Mathlib.Nat.{add-zero}
use native.Mathlib.Omega.{arith}
use lib.Dec.{leb, ltb, eqb}
use lib.ListN.{get_or, take}
use lib.Seq.{take_at}
use borrow.Author.Tests.{eqb-true, eqb-false, leb-true, leb-false}
use Rattle.paper.specs.declared.Clock.{Clock}
use Rattle.paper.specs.declared.Content.{Content}
use Rattle.paper.specs.Columns.{Vec, zeros, greatest, column, full, covers}
use Rattle.paper.specs.Rules.{Cell, ruling}
use Rattle.paper.specs.declared.Event.{Event}
use Rattle.paper.specs.declared.Choice.{Choice}
use Rattle.paper.specs.Acts.{event_row, settle_row}
use Rattle.paper.specs.Tree.{end, sheet, folder, mapped, size, subtree, graft, sheet_here, Sheet, Tree, above, later}
use Rattle.paper.specs.Walk.{Two, left, right, cell, walk, answers}
use Rattle.paper.specs.Order.{words_of}
use Rattle.paper.specs.Words.{wide, Table, head_words, rows_of, written}
use Rattle.laws.proofs.Tables.{head_long}
use Rattle.paper.specs.Good.{GoodTable}
use Rattle.paper.specs.Calls.{new_stamp, ticked, event_sheet, event_done, pair_at, pass_done, is_folder, settle_sheet, settle_done}
use Rattle.laws.proofs.Forests.{mapped_here, mapped_subtree, shape, shape_size}
use Rattle.run.specs.Knowledge.{passed}
use Rattle.history.specs.Vectors.{vectors}
use Rattle.history.specs.Look.{cell_at, both}
use Rattle.history.proofs.Cells.{cell_in, zeros_greatest, cell_inside, cell_before, cell_after, cell_subtree, cell_table}
use Rattle.history.proofs.Summaries.{later_sheet, full_early}
use Rattle.laws.proofs.GoodTrees.{walk_size}
use Rattle.history.proofs.Bridge.{Said, left_size, right_size, walk_cells, walk_said}
use Rattle.history.proofs.CallsAccepted.{TwoGood, pair_left, pair_right, source_good, source_early, above_narrow, above_early, event_tree, alone_right, settle_tree}

-- which rows are sheets is a matter of shape
pub cell_folder : (t : Table) (i : ℕ) → is_folder (cell_at t i) ≡ is_folder (sheet_here (subtree (shape t.tree) i))
unfolding cell_at
cell_folder t i =
    ap is_folder (mapped_here _ _ (subtree t.tree i)) ∙ same (sheet_here (subtree t.tree i))
    ∙ ap is_folder (sym (mapped_here _ _ (subtree t.tree i)) ∙ ap sheet_here (mapped_subtree _ _ t.tree i))
  where
    same : (o : Option Sheet) → is_folder (map (cell t.clock (above t.tree i)) o) ≡ is_folder (map (λ x. tt {0}) o)
    same none = refl
    same (some s) = refl

-- A PASS
module _ (w : ℕ) (a b : Table) (row : ℕ) (g : TwoGood w a b row) where
  -- the subtree has as many rows on both sides
  pub pair_size : size (pair_at a b row) ≡ size (subtree b.tree row)
  pair_size = sym (right_size (pair_at a b row)) ∙ ap size (pair_right w a b row g)

  -- the source's cells are those of its side of the subtree
  pub source_cell : (j : ℕ) → j < size (subtree b.tree row) → cell_at a (row + j) ≡ cell_in a.clock (left (pair_at a b row)) (above a.tree row) j
  source_cell j h =
      cell_table a (row + j)
      ∙ cell_subtree a.clock a.tree row zeros j
      (omega (arith, g.here, shape_size a.tree, ap size g.shapes, shape_size b.tree))
      (omega (arith, pair_size, left_size (pair_at a b row), ap size (pair_left w a b row g)))
      ∙ ap₂ (λ t u. cell_in a.clock t u j) (sym (pair_left w a b row g)) (zeros_greatest (above a.tree row))

  -- and the target's of its own
  pub target_cell : (j : ℕ) → j < size (subtree b.tree row) → cell_at b (row + j) ≡ cell_in b.clock (right (pair_at a b row)) (above b.tree row) j
  target_cell j h =
      cell_table b (row + j)
      ∙ cell_subtree b.clock b.tree row zeros j g.here h
      ∙ ap₂ (λ t u. cell_in b.clock t u j) (sym (pair_right w a b row g)) (zeros_greatest (above b.tree row))

  abbrev walked : Tree
  walked = walk w a.clock b.clock (pair_at a b row) (above a.tree row) (above b.tree row)

  walked_size : size walked ≡ size (subtree b.tree row)
  walked_size = walk_size w a.clock b.clock (pair_at a b row) (above a.tree row) (above b.tree row) ∙ pair_size

  -- in the subtree every sheet is treated by the six rules
  pub pass_inside : (j : ℕ) → j < size (subtree b.tree row) → cell_at (pass_done w a b row) (row + j) ≡ both (passed vectors) (cell_at a (row + j)) (cell_at b (row + j))
  unfolding pass_done
  pass_inside j h =
      cell_table (pass_done w a b row) (row + j)
      ∙ cell_inside b.clock walked b.tree row zeros j g.here walked_size (omega (arith, walked_size))
      ∙ ap (λ u. cell_in b.clock walked u j) (zeros_greatest (above b.tree row))
      ∙ walk_cells w a.clock b.clock g.apart (pair_at a b row) (above a.tree row) (above b.tree row) (source_good w a b row g) (above_narrow w a b row g) (source_early w a b row g)
      (above_early w a b row g) j
      ∙ ap₂ (both (passed vectors)) (sym (source_cell j h)) (sym (target_cell j h))

  -- and no other
  pub pass_before : (i : ℕ) → i < row → cell_at (pass_done w a b row) i ≡ cell_at b i
  unfolding pass_done
  pass_before i h = cell_table (pass_done w a b row) i ∙ cell_before b.clock walked b.tree row zeros i h g.here walked_size ∙ sym (cell_table b i)

  -- nor after it
  pub pass_after : (i : ℕ) → row + size (subtree b.tree row) ≤ i → cell_at (pass_done w a b row) i ≡ cell_at b i
  unfolding pass_done
  pass_after i h = cell_table (pass_done w a b row) i ∙ cell_after b.clock walked b.tree row zeros i (omega (arith, walked_size)) g.here walked_size ∙ sym (cell_table b i)

  -- and the number at each sheet is its ruling
  pub pass_said : (j : ℕ) → j < size (subtree b.tree row)
      → Said (get_or (answers w a.clock b.clock (pair_at a b row) (above a.tree row) (above b.tree row)) j 0) (both (ruling covers) (cell_at a (row + j)) (cell_at b (row + j)))
  pass_said j h =
      rw (source_cell j h, target_cell j h) (walk_said w a.clock b.clock g.apart (pair_at a b row) (above a.tree row) (above b.tree row) (source_good w a b row g) j)

-- ANOTHER COUNTER: the same tree with the clock set anew
abbrev pub reset : Clock → Cell Vec → Cell Vec
reset c k = record { row = k.row; known = column c.device c.counter k.known }

column_column : (d m n : ℕ) (v : Vec) → ◌≡◌ {A = Vec} (column d m v) (column d m (column d n v))
column_column d m n v = fun_ext (λ j. go j (eqb j d))
  where
    go : (j : ℕ) (t : Bool) → cond t m (v j) ≡ cond t m (cond t n (v j))
    go j true = refl
    go j false = refl

pub reset_cells : (c : Clock) (n : ℕ) (t : Tree) (u : Vec) (i : ℕ)
    → cell_in (record { device = c.device; counter = n }) t u i ≡ map (reset (record { device = c.device; counter = n })) (cell_in c t u i)
unfolding cell_in
reset_cells c n end u i = refl
reset_cells c n (sheet s r) u zero = ap (λ k. some (record { row = s.row; known = k })) (column_column c.device n c.counter (greatest u s.floor))
reset_cells c n (sheet s r) u (suc i) = reset_cells c n r u i
reset_cells c n (folder f k r) u zero = refl
reset_cells c n (folder f k r) u (suc i) = go (ltb i (size k)) (reset_cells c n k (greatest u f) i) (reset_cells c n r u (i - size k))
  where
    go : (t : Bool) → cell_in (record { device = c.device; counter = n }) k (greatest u f) i ≡ map (reset (record { device = c.device; counter = n })) (cell_in c k (greatest u f) i)
        → cell_in (record { device = c.device; counter = n }) r u (i - size k) ≡ map (reset (record { device = c.device; counter = n })) (cell_in c r u (i - size k))
        → cond t (cell_in (record { device = c.device; counter = n }) k (greatest u f) i) (cell_in (record { device = c.device; counter = n }) r u (i - size k))
        ≡ map (reset (record { device = c.device; counter = n })) (cond t (cell_in c k (greatest u f) i) (cell_in c r u (i - size k)))
    go true p q = p
    go false p q = q

-- ONE SHEET changed to z, with the counter n afterwards
module _ (b : Table) (row n : ℕ) (x z : Sheet) (here : row < size b.tree) (alone : subtree b.tree row ≡ sheet x end) where
  abbrev after : Table
  after = record { clock = record { device = b.clock.device; counter = n }; tree = graft b.tree row (sheet z end) }

  abbrev alone_z : Tree
  alone_z = sheet z end

  one_size : size alone_z ≡ size (subtree b.tree row)
  unfolding size
  one_size = sym (ap size alone)

  -- the sheet itself
  pub one_here : cell_at after row ≡ some (cell (record { device = b.clock.device; counter = n }) (above b.tree row) z)
  unfolding cell_in size
  one_here =
      ap (cell_at after) (sym (add-zero row))
      ∙ cell_table after (row + 0)
      ∙ cell_inside after.clock (sheet z end) b.tree row zeros 0 here one_size (omega arith)
      ∙ ap (λ u. some (cell after.clock u z)) (zeros_greatest (above b.tree row))

  -- the others
  pub one_there : (i : ℕ) → eqb i row ≡ false → cell_at after i ≡ map (reset (record { device = b.clock.device; counter = n })) (cell_at b i)
  unfolding size
  one_there i ne = cell_table after i ∙ same (leb row i) refl ∙ reset_cells b.clock n b.tree zeros i ∙ ap (map (reset after.clock)) (sym (cell_table b i))
    where
      same : (t : Bool) → leb row i ≡ t → cell_in after.clock (graft b.tree row (sheet z end)) zeros i ≡ cell_in after.clock b.tree zeros i
      same true e =
          cell_after after.clock (sheet z end) b.tree row zeros i
          (omega (arith, leb-true row i e, eqb-false i row ne)) here one_size
      same false e = cell_before after.clock (sheet z end) b.tree row zeros i (leb-false row i e) here one_size

-- the cell before
pub one_before : (b : Table) (row : ℕ) (x : Sheet) → subtree b.tree row ≡ sheet x end → cell_at b row ≡ some (cell b.clock (above b.tree row) x)
unfolding cell_at sheet_here mapped
one_before b row x e = rw e

-- AN EVENT
module _ (w : ℕ) (b : Table) (row : ℕ) (e : Event) (m : Content) (g : GoodTable w b) (s : Sheet) (here : row < size b.tree) (alone : subtree b.tree row ≡ sheet s end) where
  event_table : event_done b row e m ≡ record { clock = ticked b.clock; tree = graft b.tree row (sheet (event_sheet e (new_stamp b.clock) m s) end) }
  unfolding event_done
  event_table = ap (λ t. record { clock = ticked b.clock; tree = t }) (event_tree w b row e m g s alone)

  pub event_here : cell_at (event_done b row e m) row ≡ some (record { row = event_row e (new_stamp b.clock) m s.row; known = full (ticked b.clock) (above b.tree row) s.floor })
  unfolding event_sheet
  event_here = ap (λ t. cell_at t row) event_table ∙ one_here b row (suc b.clock.counter) s (event_sheet e (new_stamp b.clock) m s) here alone

  -- and the others know the new count
  pub event_there : (i : ℕ) → eqb i row ≡ false → cell_at (event_done b row e m) i ≡ map (reset (ticked b.clock)) (cell_at b i)
  event_there i ne = ap (λ t. cell_at t i) event_table ∙ one_there b row (suc b.clock.counter) s (event_sheet e (new_stamp b.clock) m s) here alone i ne

-- A SETTLING
module _ (w : ℕ) (a b : Table) (row : ℕ) (c : Choice) (m : Content) (g : TwoGood w a b row) (x : Two Sheet) (alone : pair_at a b row ≡ sheet x end) where
  settle_table : settle_done a b row c m ≡ record { clock = ticked b.clock; tree = graft b.tree row (sheet (settle_sheet a.clock b.clock (above a.tree row) c m x) end) }
  unfolding settle_done
  settle_table = ap (λ t. record { clock = ticked b.clock; tree = t }) (settle_tree w a b row c m g x alone)

  pub settle_there : (i : ℕ) → eqb i row ≡ false → cell_at (settle_done a b row c m) i ≡ map (reset (ticked b.clock)) (cell_at b i)
  settle_there i ne =
      ap (λ t. cell_at t i) settle_table
      ∙ one_there b row (suc b.clock.counter) x.b (settle_sheet a.clock b.clock (above a.tree row) c m x) g.here (alone_right w a b row c m g x alone) i ne

  -- b knows what it knew, its new stamp, and what a knew
  pub settle_here : cell_at (settle_done a b row c m) row ≡ some (record {
    row = settle_row c (new_stamp b.clock) m x.a.row x.b.row;
    known = greatest (full a.clock (above a.tree row) x.a.floor) (column b.clock.device (suc b.clock.counter) (full b.clock (above b.tree row) x.b.floor));
  })
  unfolding settle_sheet mapped
  settle_here =
      ap (λ t. cell_at t row) settle_table
      ∙ one_here b row (suc b.clock.counter) x.b (settle_sheet a.clock b.clock (above a.tree row) c m x) g.here (alone_right w a b row c m g x alone)
      ∙ ap (λ k. some (record { row = settle_row c (new_stamp b.clock) m x.a.row x.b.row; known = k })) (fun_ext (λ j. go j (eqb j b.clock.device) refl))
    where
      early : full a.clock (above a.tree row) x.a.floor b.clock.device ≤ b.clock.counter
      early =
          full_early a.clock b.clock g.apart (above a.tree row) x.a.floor (above_early w a b row g)
          (later_sheet b.clock x.a end (sym (ap (λ p. later b.clock (left p)) alone) ∙ source_early w a b row g)).0

      go : (j : ℕ) (t : Bool) → eqb j b.clock.device ≡ t
          → cond t (suc b.clock.counter) (max (above b.tree row j) (cond t 0 (max (x.b.floor j) (full a.clock (above a.tree row) x.a.floor j))))
          ≡ max (full a.clock (above a.tree row) x.a.floor j) (cond t (suc b.clock.counter) (cond t b.clock.counter (max (above b.tree row j) (x.b.floor j))))
      go j true e = omega (arith, early, ap (full a.clock (above a.tree row) x.a.floor) (eqb-true j b.clock.device e))
      go j false e = omega arith

-- the head of a table's words
pub heads : (w : ℕ) (x y : Table) → x.clock ≡ y.clock → size x.tree ≡ size y.tree → take (wide w) (written w x) ≡ take (wide w) (written w y)
unfolding written
heads w x y e f =
    take_at (head_words w x.clock (size x.tree)) (words_of (rows_of w x.tree)) (wide w) (head_long w x.clock (size x.tree))
    ∙ ap₂ (head_words w) e f
    ∙ sym (take_at (head_words w y.clock (size y.tree)) (words_of (rows_of w y.tree)) (wide w) (head_long w y.clock (size y.tree)))
