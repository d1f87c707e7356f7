-- A tree put at a row of a table in place: its words written over those that stand there, the counter set, and the summaries
-- above put right, are the written form of the table with the tree grafted there. Whatever changes a table rests on this.
use Prim.{tt}
use Prim.Native.Nat.{ℕ, ◌+◌, ◌-◌, ◌*◌, ◌≤◌, ◌<◌}
use mathlib.Core.Path.{◌≡◌, refl, sym, ap, ap₂, subst, ◌∙◌, fun_ext}
use mathlib.Core.Bool.{true}
use mathlib.Core.List.{List, ◌++◌, append-nil}
use mathlib.Core.Option.{some}
use native.Mathlib.Omega.{arith}
use native.Mathlib.Nat.{add-mul, add-sub_cancel_left, mul-le-mul_right}
use lib.ListN.{length, get_or, take, drop, set, length-append, length-drop, drop_of_length-le}
use lib.Seq.{take_at, drop-append-add, drop_at}
use borrow.Rule.Slice.PartMut.{put_mid, same_len_mid}
use Rattle.vector.proofs.Parts.{tail_part}
use Rattle.paper.specs.declared.Clock.{Clock}
use Rattle.paper.specs.Columns.{Vec, zeros, Narrow}
use Rattle.paper.specs.Tree.{end, sheet, mapped, subtree, graft, sheet_here, size, levels, Sheet, Tree, above}
use Rattle.paper.specs.Order.{ordered, Raw, forest_of, words_of}
use Rattle.paper.specs.Words.{wide, sheet_words, rows_of, Table, table_of, head_words, written, tree_words}
use Rattle.paper.specs.Good.{Good, GoodTable}
use Rattle.paper.specs.Check.{check_of}
use Rattle.laws.proofs.Tables.{Checked, check_facts, checked_size, checked_good, checked_written, head_long}
use Rattle.laws.proofs.FormedRows.{formed_read, formed_ordered, formed_length}
use Rattle.laws.proofs.Forests.{shape, shape_size, shape_levels, graft_shape, graft_size, subtree_fits, sheet_alone}
use Rattle.vector.specs.Places.{put}
use Rattle.vector.proofs.Places.{put_back, put_after}
use Rattle.summary.specs.Sums.{Named, Siblings}
use Rattle.summary.proofs.Narrow.{Fine, good_fine, fine_graft}
use Rattle.laws.proofs.WrittenRows.{tree_length}
use Rattle.mend.specs.Mended.{mended_rows}
use Rattle.mend.proofs.MendedGrafts.{Grafted, grafted}
use Rattle.laws.proofs.GoodTrees.{good_subtree}
use Rattle.mend.proofs.Subtrees.{fine_above, put_words, subtree_words}

-- words that pass the check, and a row that is there
pub record There (w : ℕ) (t : List ℕ) (row : ℕ) : Type 0 where
  pub check : check_of w t ≡ 0
  pub there : row < size (table_of w t).tree

-- by the number of rows in the head
pub there : (w : ℕ) (t : List ℕ) (row : ℕ) → check_of w t ≡ 0 → row < get_or t 2 0 → There w t row
there w t row e h = record { check = e; there = omega (arith, checked_size w t (check_facts w t e)) }

-- the words u of the table t changed in place: once the summaries above the row are put right, they write down the table `after`
pub record Changed (w : ℕ) (t u : List ℕ) (row : ℕ) (after : Table) : Type 0 where
  pub long : length u ≡ length t
  pub room : wide w ≤ length u
  pub there : row * wide w < length (take (length u - wide w) (drop (wide w) u))
  pub order : ordered (wide w) 16 (take (length u - wide w) (drop (wide w) u)) ≡ true
  pub named : Named w (forest_of (wide w) (take (length u - wide w) (drop (wide w) u)))
  pub all : (y : List ℕ) → y ≡ words_of (mended_rows w (forest_of (wide w) (take (length u - wide w) (drop (wide w) u))) row)
      → put_mid (wide w) (length u - wide w) u y ≡ written w after

-- what putting right the summaries above the row asks
pub siblings : {w : ℕ} {t u : List ℕ} {row : ℕ} {after : Table} → Changed w t u row after
    → Siblings w (take (length u - wide w) (drop (wide w) u)) × (row * wide w < length (take (length u - wide w) (drop (wide w) u)))
siblings c = (record { levels = 16; order = c.order; named = c.named }, c.there)

-- the length stays when the rows come back
pub same_long : {w : ℕ} {t u : List ℕ} {row : ℕ} {after : Table} → Changed w t u row after → (y : List ℕ)
    → length y ≡ length (take (length u - wide w) (drop (wide w) u)) → length (put_mid (wide w) (length u - wide w) u y) ≡ length t
same_long {w} {t} {u} c y h = same_len_mid (wide w) (length u - wide w) u y h ∙ c.long

module _ (w : ℕ) (t : List ℕ) (row : ℕ) (at : There w t row) where
  abbrev n : ℕ
  n = wide w

  abbrev from : ℕ
  from = (row + 1) * n

  abbrev b : Table
  b = table_of w t

  abbrev tree : Tree
  tree = b.tree

  checked : Checked w t
  checked = check_facts w t at.check

  pub good : GoodTable w b
  good = checked_good w t checked

  tree_fine : Fine w tree
  tree_fine = good_fine w b.clock (omega (arith, good.device)) tree zeros good.rows

  -- WHAT STANDS THERE is good under the floors above, which have no more columns than there are
  pub good_there : Good w b.clock (subtree tree row) (above tree row)
  good_there = subst (Good w b.clock (subtree tree row)) (fun_ext (λ j. omega arith)) (good_subtree w b.clock tree row zeros good.rows)

  pub fine_there : Fine w (subtree tree row)
  fine_there = good_fine w b.clock (omega (arith, good.device)) (subtree tree row) (above tree row) good_there

  pub narrow_above : Narrow w (above tree row)
  narrow_above = fine_above w tree row tree_fine

  -- the table's words: its head and its rows
  abbrev head : Clock → List ℕ
  head c = head_words w c (size tree)

  words_are : t ≡ head b.clock ++ tree_words w tree
  unfolding written
  words_are = sym (checked_written w t checked)

  past_head : (c : Clock) → from ≡ length (head c) + row * n
  past_head c = omega (arith, head_long w c (size tree), add-mul row 1 n)

  -- its words are there, m of them, as the code cuts them
  module _ (m : ℕ) (e : size (subtree tree row) * n ≡ m) where
    pub part_there : take (from + m - from) (drop from t) ≡ tree_words w (subtree tree row)
    part_there =
        ap₂ (λ k l. take k (drop from l)) (add-sub_cancel_left from m ∙ sym e) words_are
        ∙ ap (λ k. take (size (subtree tree row) * n) (drop k (head b.clock ++ tree_words w tree))) (past_head b.clock)
        ∙ ap (take (size (subtree tree row) * n)) (drop-append-add (head b.clock) (tree_words w tree) (row * n))
        ∙ subtree_words w tree row at.there

  table_length : length t ≡ n + size tree * n
  table_length = ap length words_are ∙ length-append (head b.clock) (tree_words w tree) ∙ ap₂ ◌+◌ (head_long w b.clock (size tree)) (tree_length w tree)

  pub room_there : from + size (subtree tree row) * n ≤ length t
  room_there = omega (arith, table_length, add-mul row 1 n, add-mul row (size (subtree tree row)) n, mul-le-mul_right n (subtree_fits tree row at.there))

  -- A TREE PUT THERE, of the same shape
  module _ (g : Tree) (same : shape g ≡ shape (subtree tree row)) (fine : Fine w g) where
    abbrev new_tree : Tree
    new_tree = graft tree row g

    abbrev new_rows : Raw
    new_rows = graft (rows_of w tree) row (rows_of w g)

    new_size : size g ≡ size (subtree tree row)
    new_size = sym (shape_size g) ∙ ap size same ∙ shape_size (subtree tree row)

    new_levels : levels new_tree ≡ levels tree
    new_levels = sym (shape_levels new_tree) ∙ ap levels (graft_shape tree row g same) ∙ shape_levels tree

    placed : Grafted w 16 new_rows row new_tree
    placed = grafted w 16 tree row g at.there new_size (omega (arith, good.deep, new_levels)) (fine_graft w tree row g tree_fine fine)

    rows_read : forest_of n (words_of new_rows) ≡ new_rows
    rows_read = formed_read n (omega arith) new_rows 16 placed.formed

    rows_length : length (words_of new_rows) ≡ size tree * n
    rows_length = formed_length n 16 new_rows placed.formed ∙ ap (λ z. z * n) (placed.size ∙ graft_size tree row g new_size)

    -- the head of a clock c and then the rows with those of g among them
    module _ (c : Clock) (u : List ℕ) (is : u ≡ head c ++ words_of new_rows) where
      changed_rows : take (length u - n) (drop n u) ≡ words_of new_rows
      changed_rows = tail_part n u ∙ ap (drop n) is ∙ drop_at (head c) (words_of new_rows) n (head_long w c (size tree))

      changed_length : length u ≡ length t
      changed_length = ap length is ∙ length-append (head c) (words_of new_rows) ∙ omega (arith, head_long w c (size tree), rows_length, table_length)

      changed_all : (y : List ℕ) → y ≡ words_of (mended_rows w (forest_of n (take (length u - n) (drop n u))) row) → put_mid n (length u - n) u y ≡ written w (record { clock = c; tree = new_tree })
      unfolding written
      changed_all y q =
          ap₂ (λ p z. p ++ (y ++ z)) (ap (take n) is ∙ take_at (head c) (words_of new_rows) n (head_long w c (size tree)))
          (drop_of_length-le (drop n u) {i = length u - n} (omega (arith, length-drop n u)))
          ∙ ap (λ z. head c ++ z) (append-nil y ∙ q ∙ ap (λ z. words_of (mended_rows w (forest_of n z) row)) changed_rows ∙ ap (λ f. words_of (mended_rows w f row)) rows_read)
          ∙ ap₂ (λ s f. head_words w c s ++ words_of f) (sym (graft_size tree row g new_size)) placed.right

      changed : Changed w t u row (record { clock = c; tree = new_tree })
      changed = record {
        long = changed_length;
        room = omega (arith, changed_length, table_length);
        there = omega (arith, ap length changed_rows, rows_length, add-mul row 1 n, mul-le-mul_right n at.there);
        order = rw changed_rows (formed_ordered n (omega arith) new_rows 16 placed.formed);
        named = rw (changed_rows, rows_read) placed.named;
        all = changed_all;
      }

    -- its words e, m of them, are written over those that stand there
    module _ (m : ℕ) (e : List ℕ) (wrote : e ≡ tree_words w g) (long : size g * n ≡ m) where
      put_in_place : put_mid from (from + m - from) t e ≡ head b.clock ++ words_of new_rows
      put_in_place =
          put_back from m t e (ap length wrote ∙ tree_length w g ∙ long)
          ∙ ap₂ (put from) wrote words_are
          ∙ put_after from (row * n) (head b.clock) (tree_words w tree) (tree_words w g) (past_head b.clock)
          ∙ ap (λ x. head b.clock ++ x) (sym (put_words w tree row at.there g new_size))

      -- the counter stays
      pub put_changed : Changed w t (put_mid from (from + m - from) t e) row (record { clock = b.clock; tree = new_tree })
      put_changed = changed b.clock _ put_in_place

      counted : (k : ℕ) (q : List ℕ) → set (head b.clock ++ q) 1 k ≡ head (record { device = b.clock.device; counter = k }) ++ q
      unfolding head_words
      counted k q = refl

      -- or is set
      pub put_counted : (k : ℕ) → Changed w t (set (put_mid from (from + m - from) t e) 1 k) row (record { clock = record { device = b.clock.device; counter = k }; tree = new_tree })
      put_counted k = changed (record { device = b.clock.device; counter = k }) _ (ap (λ l. set l 1 k) put_in_place ∙ counted k (words_of new_rows))

-- A SHEET there

-- a sheet whose floor has no more columns than there are, and whose stamp names one
abbrev pub FineSheet : ℕ → Sheet → Type 0
FineSheet w s = Narrow w s.floor × (s.row.stamp.device < w)

pub record SheetAt (w : ℕ) (t : List ℕ) (row : ℕ) : Type 0 where
  pub at : There w t row
  pub x : Sheet
  pub is : sheet_here (subtree (table_of w t).tree row) ≡ some x

sheet_words_lem : (w : ℕ) (s : Sheet) → tree_words w (sheet s end) ≡ sheet_words w s
unfolding words_of rows_of
sheet_words_lem w s = append-nil (sheet_words w s)

one_row : (w : ℕ) (s : Sheet) → size {Y = Vec} (sheet s end) * wide w ≡ wide w
unfolding size
one_row w s = omega arith

module _ (w : ℕ) (t : List ℕ) (row : ℕ) (h : SheetAt w t row) where
  here : subtree (table_of w t).tree row ≡ sheet h.x end
  here = sheet_alone (table_of w t).tree row h.x h.is

  pub sheet_fine : FineSheet w h.x
  sheet_fine = let x = rw here at (fine_there w t row h.at) in (x.0, x.1)

  -- its words, as the code cuts them
  pub sheet_part : take ((row + 1) * wide w + wide w - (row + 1) * wide w) (drop ((row + 1) * wide w) t) ≡ sheet_words w h.x
  sheet_part = part_there w t row h.at (wide w) (ap (λ (f : Tree). size f * wide w) here ∙ one_row w h.x) ∙ ap (tree_words w) here ∙ sheet_words_lem w h.x

  -- another put there, with the counter k
  pub sheet_changed : (new : Sheet) → FineSheet w new → (e : List ℕ) → e ≡ sheet_words w new → (k : ℕ)
      → Changed w t (set (put_mid ((row + 1) * wide w) ((row + 1) * wide w + wide w - (row + 1) * wide w) t e) 1 k) row
      (record { clock = record { device = (table_of w t).clock.device; counter = k }; tree = graft (table_of w t).tree row (sheet new end) })
  unfolding mapped
  sheet_changed new fine e q k = put_counted w t row h.at (sheet new end) (ap shape (sym here)) (fine.0, fine.1, tt) (wide w) e (q ∙ sym (sheet_words_lem w new)) (one_row w new) k
