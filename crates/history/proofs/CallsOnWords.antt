-- What an accepted call does, read off the words: each fact of a theorem, of a pass from the words s to the words t, and of
-- the tables that calls leave.
use Prim.Native.Nat.{ℕ, ◌+◌, ◌-◌, ◌*◌, ◌≤◌, ◌<◌}
use mathlib.Core.Path.{◌≡◌, refl, sym, ap, ap₂, ◌∙◌}
use mathlib.Core.Bool.{Bool, true, false, not, ◌&&◌, ◌||◌, cond, true≢false}
use mathlib.Core.List.{List}
use mathlib.Core.Option.{Option, none, some, map}
use native.Mathlib.Omega.{arith}
use lib.Dec.{leb, ltb}
use lib.ListN.{length, get_or, take}
use borrow.Author.Tests.{leb-false, ltb-false}
use Rattle.paper.specs.declared.Content.{Content}
use Rattle.paper.specs.Columns.{Vec, covers}
use Rattle.paper.specs.Rules.{Cell, ruling, number_of}
use Rattle.paper.specs.Tree.{size, levels, subtree, sheet_here, Sheet, above}
use Rattle.paper.specs.Walk.{Two, Pair, zip, left, right, answers}
use Rattle.paper.specs.Words.{wide, Table, table_of, written}
use Rattle.paper.specs.Check.{check_of}
use Rattle.paper.specs.Calls.{Changed, Passed, is_folder, new_of, pair_at, pass_done, event_done, settle_done, choice_named, event_named}
use Rattle.paper.specs.Widths.{width_of, table_any, check_any, new_any, event_any, settle_any}
use Rattle.laws.proofs.Tables.{table_read, written_passes}
use Rattle.laws.proofs.Widths.{width_either, width_checked, any_passes, new_any_lem}
use Rattle.laws.proofs.Forests.{mapped_subtree, mapped_here, zip_right, mapped_levels, shape_size}
use Rattle.run.specs.Knowledge.{passed}
use Rattle.history.specs.Vectors.{vectors}
use Rattle.run.specs.Run.{within}
use Rattle.history.specs.Look.{cell_at, both, over_at, beneath_five, tally, level_at, level_first, unheard, widest}
use Rattle.history.proofs.SheetsOfForests.{mapped_widest, subtree_siblings}
use Rattle.history.proofs.Cells.{cell_in}
use Rattle.history.proofs.Bridge.{right_size, answers_length, said_some}
use Rattle.history.proofs.CallsAccepted.{pair_left, pair_right, PassAccepted, pass_shape, passed_good, event_accepted, event_table_good, settle_accepted, settle_table_good}
use Rattle.history.proofs.NewTables.{new_accepted}
use Rattle.history.proofs.CallEffects.{cell_folder, pair_size, source_cell, target_cell, pass_inside, pass_before, pass_after, pass_said, heads}
use Rattle.history.proofs.AnswerNumbers.{beneath_mapped, tally_same, over_in, folder_number, looked_tally, over_table, here_folder, empty_first}
use Rattle.history.proofs.LookedBound.{fresh, fresh_tally, row_bound}

-- A PASS
module _ (w : ℕ) (a b : Table) (row : ℕ) (list : List ℕ) (out : Passed) (acc : PassAccepted w a b row list out) where
  -- the subtree of both tables, and the floors above it
  abbrev p : Pair
  p = pair_at a b row

  abbrev ua : Vec
  ua = above a.tree row

  abbrev ub : Vec
  ub = above b.tree row

  words : out.target ≡ written w (pass_done w a b row)
  words = ap (λ (o : Passed). o.target) acc.done

  read : table_of w out.target ≡ pass_done w a b row
  read = ap (table_of w) words ∙ table_read w (pass_done w a b row) (passed_good w a b row acc.two)

  numbers : out.answers ≡ answers w a.clock b.clock p ua ub
  numbers = ap (λ (o : Passed). o.answers) acc.done

  size_p : size p ≡ length list
  size_p = pair_size w a b row acc.two ∙ sym acc.long

  -- one number for each row of the subtree
  pub pass_long : length out.answers ≡ length list
  pass_long = ap length numbers ∙ answers_length w a.clock b.clock p ua ub ∙ size_p

  -- at a sheet, that of the ruling
  pub pass_number_at : (j : ℕ) (x y : Cell Vec) → j < length list → cell_at a (row + j) ≡ some x → cell_at b (row + j) ≡ some y → get_or out.answers j 0 ≡ number_of (ruling covers x y)
  pass_number_at j x y l q r = ap (λ z. get_or z j 0) numbers ∙ said_some _ x y (cell_at a (row + j)) (cell_at b (row + j)) q r (pass_said w a b row acc.two j (omega (arith, acc.long)))

  -- each cell of the subtree is passed
  pub pass_cell : (j : ℕ) → j < length list → cell_at (table_of w out.target) (row + j) ≡ both (passed vectors) (cell_at a (row + j)) (cell_at b (row + j))
  pass_cell j l = ap (λ z. cell_at z (row + j)) read ∙ pass_inside w a b row acc.two j (omega (arith, acc.long))

  -- and no other
  pub pass_away : (i : ℕ) → within row (length list) i ≡ false → cell_at (table_of w out.target) i ≡ cell_at b i
  unfolding within
  pass_away i q = ap (λ z. cell_at z i) read ∙ go (leb row i) (ltb i (row + length list)) refl refl q
    where
      go : (x y : Bool) → leb row i ≡ x → ltb i (row + length list) ≡ y → (x && y) ≡ false → cell_at (pass_done w a b row) i ≡ cell_at b i
      go true true e f z = absurd (true≢false z)
      go true false e f z = pass_after w a b row acc.two i (omega (arith, ltb-false i (row + length list) f, acc.long))
      go false y e f z = pass_before w a b row acc.two i (leb-false row i e)

  -- the same rows are sheets on both sides
  pub pass_sheets : (i : ℕ) → is_folder (cell_at a i) ≡ is_folder (cell_at b i)
  pass_sheets i = cell_folder a i ∙ ap (λ z. is_folder (sheet_here (subtree z i))) acc.two.shapes ∙ sym (cell_folder b i)

  -- the clock stays
  pub pass_clock : (table_of w out.target).clock ≡ b.clock
  pass_clock = ap (λ (z : Table). z.clock) read ∙ unfold pass_done in refl

  -- and so does the head
  pub pass_head : take (wide w) out.target ≡ take (wide w) (written w b)
  pass_head =
      ap (take (wide w)) words
      ∙ heads w (pass_done w a b row) b (unfold pass_done in refl) (sym (shape_size (pass_done w a b row).tree) ∙ ap size (pass_shape w a b row acc.two) ∙ shape_size b.tree)

  -- the target passes the check
  pub pass_sound : check_of w out.target ≡ 0
  pass_sound = ap (check_of w) words ∙ written_passes w (pass_done w a b row) (passed_good w a b row acc.two)

  -- the numbers at folders
  pub pass_folder : (j : ℕ) → j < length list → is_folder (sheet_here (subtree b.tree (row + j))) ≡ true
      → get_or out.answers j 0 ≡ cond (beneath_five (subtree b.tree row) out.answers j || over_at w a b (row + j)) 5 4
  pass_folder j l f =
      rw (acc.done, over_table w a b row acc.two j (omega (arith, acc.long)), ← pair_right w a b row acc.two)
      (folder_number w a.clock b.clock p ua ub j (omega (arith, acc.long, pair_size w a b row acc.two)) (here_folder w a b row acc.two j (omega (arith, acc.long)) f)
      ∙ sym (ap (λ z. cond (z || over_in w a.clock b.clock p ua ub j) 5 4) (beneath_mapped _ _ p _ j)))

  -- an empty folder
  pub pass_empty : (j : ℕ) → j < length list → is_folder (sheet_here (subtree b.tree (row + j))) ≡ true → size (subtree b.tree (row + j)) ≡ 1 → get_or out.answers j 0 ≡ 5
  unfolding over_at
  pass_empty j l f e =
      pass_folder j l f
      ∙ ap (λ z. cond (beneath_five (subtree b.tree row) out.answers j || z) 5 4)
      (empty_first w a.clock b.clock (above a.tree (row + j)) (above b.tree (row + j)) (pair_at a b (row + j))
      (sym (same (sheet_here (pair_at a b (row + j)))) ∙ ap is_folder (sym (mapped_here _ _ (pair_at a b (row + j))) ∙ ap sheet_here side) ∙ f)
      (sym (right_size (pair_at a b (row + j))) ∙ ap size side ∙ e))
      ∙ always (beneath_five (subtree b.tree row) out.answers j)
    where
      side : right (pair_at a b (row + j)) ≡ subtree b.tree (row + j)
      side = mapped_subtree _ _ (zip a.tree b.tree) (row + j) ∙ ap (λ z. subtree z (row + j)) (zip_right a.tree b.tree acc.two.shapes)

      same : (o : Option (Two Sheet)) → is_folder (map (λ x. x.b) o) ≡ is_folder o
      same none = refl
      same (some x) = refl

      always : (x : Bool) → ◌≡◌ {A = ℕ} (cond (x || true) 5 4) 5
      always true = refl
      always false = refl

  -- the count
  pub pass_looked : out.count ≡ tally (length list) (λ j. not (beneath_five (subtree b.tree row) out.answers j))
  pass_looked =
      ap (λ (o : Passed). o.count) acc.done
      ∙ looked_tally w a.clock b.clock p ua ub ∙ ap (λ n. tally n (λ j. not (beneath_five p (answers w a.clock b.clock p ua ub) j))) size_p
      ∙ tally_same (length list) _ _ (λ j l. ap not (sym (ap₂ (λ t (o : Passed). beneath_five t o.answers j) (sym (pair_right w a b row acc.two)) acc.done ∙ beneath_mapped _ _ p _ j)))

  fresh_k : tally (length list) (λ j. unheard (cell_at a (row + j)) (cell_at b (row + j))) ≡ fresh w a.clock b.clock p ua ub
  fresh_k =
      tally_same (length list) _ (λ j. unheard (cell_in a.clock (left p) ua j) (cell_in b.clock (right p) ub j))
      (λ j l. ap₂ unheard (source_cell w a b row acc.two j (omega (arith, acc.long))) (target_cell w a b row acc.two j (omega (arith, acc.long))))
      ∙ ap (λ n. tally n (λ j. unheard (cell_in a.clock (left p) ua j) (cell_in b.clock (right p) ub j))) (sym size_p)
      ∙ sym (fresh_tally w a.clock b.clock p ua ub)

  -- its bound
  pub pass_few : (k D W : ℕ) → level_at w a row ≡ true → level_at w b row ≡ true → k ≡ tally (length list) (λ j. unheard (cell_at a (row + j)) (cell_at b (row + j)))
      → D ≡ levels (subtree b.tree row) → widest (subtree b.tree row) ≤ W → out.count ≤ 1 + k * ((D - 1) * W)
  unfolding level_at
  pass_few k D W la lb ek eD hW =
      rw (acc.done, ek ∙ fresh_k, eD ∙ ap levels (sym (pair_right w a b row acc.two)) ∙ mapped_levels _ _ p)
      (row_bound w a.clock b.clock p W ua ub (subtree_siblings (zip a.tree b.tree) row)
      (ap (level_first w a.clock ua) (pair_left w a b row acc.two) ∙ la) (ap (level_first w b.clock ub) (pair_right w a b row acc.two) ∙ lb)
      (omega (arith, ap widest (pair_right w a b row acc.two), mapped_widest (λ x. x.b) (λ y. y.b) p)))

-- A NEW TABLE, AN EVENT, A SETTLING leave sound tables
pub new_sound : (columns d : ℕ) (plan table : List ℕ) → (new_any columns d plan table).number ≡ 0 → check_any (new_any columns d plan table).table ≡ 0
new_sound columns d plan table e =
    let x = new_any_lem columns d plan table e in
    let c = (new_accepted columns d plan table (sym (ap (λ (o : Changed). o.number) x.same) ∙ e)).check in
    ap (λ (o : Changed). check_any o.table) x.same ∙ ap (λ v. check_of v (new_of columns d plan table).table) (width_checked columns x.width _ c) ∙ c

pub event_sound : (t : List ℕ) (row event : ℕ) (content : Content) → (event_any t row event content).number ≡ 0 → check_any (event_any t row event content).table ≡ 0
event_sound t row event content e =
    let w = width_of t in
    let acc = event_accepted w t row event content e in
    ap (λ (o : Changed). check_any o.table) acc.done
    ∙ any_passes w (width_either t) (event_done (table_any t) row (event_named event) content)
    (event_table_good w (table_any t) row (event_named event) content acc.good acc.sheet acc.alone acc.fit acc.may)

-- and so of a settling
pub settle_sound : (s t : List ℕ) (row choice : ℕ) (content : Content) → (settle_any s t row choice content).number ≡ 0 → check_any (settle_any s t row choice content).table ≡ 0
settle_sound s t row choice content e =
    let w = width_of t in
    let acc = settle_accepted s t row choice content e in
    ap (λ (o : Changed). check_any o.table) acc.done
    ∙ any_passes w (width_either t) (settle_done (table_any s) (table_any t) row (choice_named choice) content)
    (settle_table_good w (table_any s) (table_any t) row (choice_named choice) content acc.two acc.sheets acc.alone acc.conflict acc.may)
