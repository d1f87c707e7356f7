-- Whole tables. The check passes exactly the written forms of good tables; a good table is read back from its words, and
-- words that pass are written again from the table that they hold.
use Prim.Native.Nat.{ℕ, ◌+◌, ◌-◌, ◌*◌, ◌≤◌, ◌<◌}
use mathlib.Core.Path.{◌≡◌, refl, sym, ap, ap₂, ◌∙◌}
use mathlib.Core.List.{List, [], ◌∷◌, ◌++◌}
use mathlib.Core.Logic.{◌↔◌}
use mathlib.Core.Bool.{true, false≢true}
use native.Mathlib.Omega.{arith}
use lib.Dec.{eqb}
use borrow.Author.Tests.{eqb-true, eq-eqb, leb-true, le-leb, ltb-true, lt-ltb}
use lib.ListN.{length, get_or, take, drop, replicate, length-drop, length-append, take-append-drop, get_or-append}
use lib.Seq.{take_at, drop_at, length-take-le}
use Rattle.paper.specs.declared.Clock.{Clock}
use Rattle.paper.specs.Devices.{most_rows, most_levels}
use Rattle.paper.specs.Columns.{zeros}
use Rattle.paper.specs.Tree.{end, sheet, folder, mapped, size, levels, Tree}
use Rattle.paper.specs.Order.{kind_word, size_word, ordered, Raw, forest_of, words_of}
use Rattle.paper.specs.Words.{wide, floor_of, sheet_of, tree_from, Table, table_of, folder_words, rows_of, head_words, sign, written}
use Rattle.paper.specs.Check.{blank, head_fits, order_fits, rows_fit, check_of}
use Rattle.paper.specs.Good.{rooted, GoodTable}
use Rattle.laws.proofs.Bools.{and_both, both_and}
use Rattle.laws.proofs.Refusals.{first_none, first_both, first_next, unless_so, none_so}
use Rattle.laws.proofs.FormedRows.{Formed, formed_length, formed_ordered, cancel, ordered_formed, ordered_words}
use Rattle.laws.proofs.BlankWords.{length_zeros, zeros_blank, blank_zeros, skip, four}
use Rattle.laws.proofs.Forests.{mapped_size}
use Rattle.laws.proofs.WrittenRows.{rows_size, rows_formed, rows_read, words_read}
use Rattle.laws.proofs.Check.{good_thin, rows_pass, rows_back, rows_good}

-- a rooted tree's first row is a folder of all rows
root_row : (w : ℕ) (t : Tree) → rooted t ≡ true → (kind_word (words_of (rows_of w t)) ≡ 3) × (size_word (words_of (rows_of w t)) ≡ size t) × (0 < size t)
unfolding rooted words_of rows_of size folder_words
root_row w end e = absurd (false≢true e)
root_row w (sheet s r) e = absurd (false≢true e)
root_row w (folder f k end) e = (refl, omega arith, omega arith)
root_row w (folder f k (sheet s r)) e = absurd (false≢true e)
root_row w (folder f k (folder g l r)) e = absurd (false≢true e)

-- and rows whose first is a folder of all are rooted
row_root : (w lv : ℕ) (f : Raw) → Formed (wide w) lv f → kind_word (words_of f) ≡ 3 → size_word (words_of f) ≡ size f → rooted (tree_from w f) ≡ true
unfolding rooted mapped words_of size
row_root w lv end g k s = absurd (omega arith)
row_root w lv (sheet r q) g k s = absurd (omega (arith, g.1.kind, g.1.long, get_or-append r (words_of q) 0 0 (omega (arith, g.1.long))))
row_root w lv (folder r k end) g a s = refl
row_root w lv (folder r k (sheet x q)) g a s = absurd (omega (arith, s, g.1.rows, get_or-append r (words_of k ++ (x ++ words_of q)) 0 1 (omega (arith, g.1.long))))
row_root w lv (folder r k (folder x l q)) g a s = absurd (omega (arith, s, g.1.rows, get_or-append r (words_of k ++ (x ++ (words_of l ++ words_of q))) 0 1 (omega (arith, g.1.long))))

formed_levels : (w lv : ℕ) (f : Raw) → Formed (wide w) lv f → levels (tree_from w f) ≤ lv
unfolding levels mapped
formed_levels w lv end g = omega arith
formed_levels w lv (sheet r s) g = omega (arith, g.0, formed_levels w lv s g.2)
formed_levels w lv (folder r k s) g = omega (arith, g.0, formed_levels w (lv - 1) k g.2, formed_levels w lv s g.3)

pub head_long : (w : ℕ) (c : Clock) (n : ℕ) → length (head_words w c n) ≡ wide w
unfolding head_words
head_long w c n = omega (arith, length_zeros (4 + 4 * w))

module _ (w : ℕ) (t : Table) where
  -- THE WORDS OF A TABLE: its clock, its number of rows, its rows
  pub rows_at : drop (wide w) (written w t) ≡ words_of (rows_of w t.tree)
  unfolding written
  rows_at = drop_at (head_words w t.clock (size t.tree)) (words_of (rows_of w t.tree)) (wide w) (head_long w t.clock (size t.tree))

  pub device_at : get_or (written w t) 0 0 ≡ t.clock.device
  unfolding written head_words
  device_at = refl

  pub counter_at : get_or (written w t) 1 0 ≡ t.clock.counter
  unfolding written head_words
  counter_at = refl

  pub count_at : get_or (written w t) 2 0 ≡ size t.tree
  unfolding written head_words
  count_at = refl

  pub sign_at : get_or (written w t) 3 0 ≡ sign w
  unfolding written head_words
  sign_at = refl

  pub clock_at : (table_of w (written w t)).clock ≡ t.clock
  unfolding table_of
  clock_at = rw (device_at, counter_at)

  module _ (g : GoodTable w t) where
    formed : Formed (wide w) most_levels (rows_of w t.tree)
    formed = rows_formed w t.tree most_levels g.deep

    pub written_length : length (written w t) ≡ size t.tree * wide w + wide w
    unfolding written
    written_length =
        length-append (head_words w t.clock (size t.tree)) (words_of (rows_of w t.tree))
        ∙ ap₂ ◌+◌ (head_long w t.clock (size t.tree)) (formed_length (wide w) most_levels (rows_of w t.tree) formed ∙ ap (λ n. n * wide w) (rows_size w t.tree)) ∙ omega arith

    -- READ BACK what was written
    pub table_read : table_of w (written w t) ≡ t
    unfolding table_of
    table_read =
        let e : tree_from w (forest_of (wide w) (drop (wide w) (written w t))) ≡ t.tree =
        ap (λ l. tree_from w (forest_of (wide w) l)) rows_at ∙ ap (tree_from w) (words_read w t.tree) ∙ rows_read w t.tree (good_thin w t.clock t.tree zeros g.rows) in
        rw (device_at, counter_at, e)

    -- WHAT IS WRITTEN PASSES
    head_rest : blank (take (4 + 4 * w) (drop 4 (written w t))) ≡ true
    unfolding written head_words
    head_rest = ap blank (take_at (replicate (4 + 4 * w) 0) (words_of (rows_of w t.tree)) (4 + 4 * w) (length_zeros (4 + 4 * w))) ∙ zeros_blank (4 + 4 * w)

    head_passes : head_fits w (written w t) ≡ true
    unfolding head_fits
    head_passes =
        let r = root_row w t.tree g.root in
        rw (device_at, count_at, written_length, sign_at)
        (both_and (lt-ltb _ _ g.device) (both_and (lt-ltb _ _ r.2)
        (both_and (le-leb _ _ g.few) (both_and (eq-eqb (size t.tree * wide w + wide w) (size t.tree * wide w + wide w) refl) (both_and (eq-eqb (sign w) (sign w) refl) head_rest)))))

    order_passes : order_fits w (get_or (written w t) 2 0) (drop (wide w) (written w t)) ≡ true
    unfolding order_fits
    order_passes =
        let r = root_row w t.tree g.root in
        rw (count_at, rows_at)
        (both_and (eq-eqb _ _ r.0) (both_and (eq-eqb _ _ r.1) (formed_ordered (wide w) (omega arith) (rows_of w t.tree) most_levels formed)))

    rules_pass : rows_fit w (table_of w (written w t)).clock (forest_of (wide w) (drop (wide w) (written w t))) zeros ≡ true
    rules_pass = rw (clock_at, rows_at, words_read w t.tree) (rows_pass w t.clock t.tree zeros g.rows)

    pub written_passes : check_of w (written w t) ≡ 0
    unfolding check_of
    written_passes =
        first_next _ _ (unless_so _ 1 head_passes) ∙ first_next _ _ (unless_so _ 2 order_passes) ∙ first_next _ [] (unless_so _ 3 rules_pass) ∙ first_none

-- WHAT THE CHECK SAYS

pub record HeadFits (w : ℕ) (t : List ℕ) : Type 0 where
  pub device : get_or t 0 0 < w
  pub some : 0 < get_or t 2 0
  pub few : get_or t 2 0 ≤ most_rows
  pub long : length t ≡ get_or t 2 0 * wide w + wide w
  pub sign : get_or t 3 0 ≡ sign w
  pub rest : blank (take (4 + 4 * w) (drop 4 t)) ≡ true

pub record Checked (w : ℕ) (t : List ℕ) : Type 0 where
  pub head : HeadFits w t
  pub kind : kind_word (drop (wide w) t) ≡ 3
  pub size : size_word (drop (wide w) t) ≡ get_or t 2 0
  pub order : ordered (wide w) most_levels (drop (wide w) t) ≡ true
  pub rules : rows_fit w (table_of w t).clock (forest_of (wide w) (drop (wide w) t)) zeros ≡ true

module _ (w : ℕ) (t : List ℕ) where
  pub head_facts : head_fits w t ≡ true → HeadFits w t
  unfolding head_fits
  head_facts e =
      let a = and_both _ _ e in
      let b = and_both _ _ a.1 in
      let d = and_both _ _ b.1 in
      let f = and_both _ _ d.1 in
      let g = and_both _ _ f.1 in
      record { device = ltb-true _ _ a.0; some = ltb-true _ _ b.0; few = leb-true _ _ d.0; long = eqb-true _ _ f.0; sign = eqb-true _ _ g.0; rest = g.1 }

  pub check_facts : check_of w t ≡ 0 → Checked w t
  unfolding check_of order_fits
  check_facts e =
      let a = first_both _ _ e in
      let b = first_both _ _ a.1 in
      let f = first_both _ _ b.1 in
      let o = and_both (eqb (kind_word (drop (wide w) t)) 3) _ (none_so _ 1 b.0) in
      let p = and_both (eqb (size_word (drop (wide w) t)) (get_or t 2 0)) _ o.1 in
      record { head = head_facts (none_so _ 0 a.0); kind = eqb-true _ _ o.0; size = eqb-true _ _ p.0; order = p.1; rules = none_so _ 2 f.0 }

  -- WHAT PASSES IS WRITTEN
  module _ (c : Checked w t) where
    abbrev raw : Raw
    raw = forest_of (wide w) (drop (wide w) t)

    raw_formed : Formed (wide w) most_levels raw
    raw_formed = ordered_formed (wide w) (omega arith) most_levels (drop (wide w) t) c.order

    raw_words : words_of raw ≡ drop (wide w) t
    raw_words = ordered_words (wide w) (omega arith) most_levels (drop (wide w) t) c.order

    raw_size : size raw ≡ get_or t 2 0
    raw_size =
        cancel (wide w) (omega arith) (size raw) (get_or t 2 0)
        (sym (formed_length (wide w) most_levels raw raw_formed) ∙ ap length raw_words ∙ length-drop (wide w) t ∙ omega (arith, c.head.long))

    -- a table that passes has as many rows as its head says
    pub checked_size : size (table_of w t).tree ≡ get_or t 2 0
    unfolding table_of
    checked_size = mapped_size (sheet_of w) (floor_of w) raw ∙ raw_size

    pub checked_good : GoodTable w (table_of w t)
    unfolding table_of
    checked_good = record {
      device = c.head.device;
      root = row_root w most_levels raw raw_formed (ap kind_word raw_words ∙ c.kind) (ap size_word raw_words ∙ c.size ∙ sym raw_size);
      few = omega (arith, mapped_size (sheet_of w) (floor_of w) raw, raw_size, c.head.few);
      deep = formed_levels w most_levels raw raw_formed;
      rows = rows_good w (table_of w t).clock raw zeros c.rules;
    }

    head_back : head_words w (table_of w t).clock (get_or t 2 0) ++ drop (wide w) t ≡ t
    unfolding head_words table_of
    head_back =
        let e : length (take (4 + 4 * w) (drop 4 t)) ≡ 4 + 4 * w = length-take-le (4 + 4 * w) (drop 4 t) (omega (arith, length-drop 4 t, c.head.long)) in
        let z : wide w ≡ 4 + (4 + 4 * w) = omega arith in
        ap₂ (λ n x. get_or t 0 0 ∷ get_or t 1 0 ∷ get_or t 2 0 ∷ n ∷ x) (sym c.head.sign)
        (ap₂ ◌++◌ (ap (λ n. replicate n 0) (sym e) ∙ sym (blank_zeros (take (4 + 4 * w) (drop 4 t)) c.head.rest)) (ap (λ n. drop n t) z ∙ skip 4 (4 + 4 * w) t)
        ∙ take-append-drop (4 + 4 * w) (drop 4 t))
        ∙ sym (four t (omega (arith, c.head.long)))

    pub checked_written : written w (table_of w t) ≡ t
    unfolding written table_of
    checked_written =
        ap₂ (λ n l. head_words w (table_of w t).clock n ++ l) checked_size
        (ap words_of (rows_back w (table_of w t).clock most_levels raw zeros raw_formed c.rules) ∙ raw_words)
        ∙ head_back

-- THE CHECK IS EXACT: words pass exactly where they are the written form of a good table
pub record Written (w : ℕ) (words : List ℕ) : Type 0 where
  pub table : Table
  pub good : GoodTable w table
  pub same : written w table ≡ words

pub check_exact : (w : ℕ) (words : List ℕ) → (check_of w words ≡ 0) ↔ Written w words
check_exact w words = (passes, (λ g. ap (check_of w) (sym g.same) ∙ written_passes w g.table g.good))
  where
    passes : check_of w words ≡ 0 → Written w words
    passes e = let c = check_facts w words e in record { table = table_of w words; good = checked_good w words c; same = checked_written w words c }

-- and of one good table only
pub one_table : (w : ℕ) (s t : Table) → GoodTable w s → GoodTable w t → written w s ≡ written w t → s ≡ t
one_table w s t g h e = sym (table_read w s g) ∙ ap (table_of w) e ∙ table_read w t h
