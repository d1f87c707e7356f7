-- Written rows: the row of a sheet and the row of a folder, their places, and trees read back from their rows.
use Prim.{Unit, tt}
use Prim.Native.Nat.{ℕ, zero, suc, ◌+◌, ◌-◌, ◌*◌, ◌≤◌}
use mathlib.Core.Path.{◌≡◌, refl, ap, ap₂, ◌∙◌}
use mathlib.Core.List.{List, ◌++◌}
use native.Mathlib.Omega.{arith}
use lib.ListN.{length, take, drop, replicate, length-append}
use lib.Seq.{take_at, drop_at, take_all}
use Rattle.paper.specs.Columns.{Vec, Narrow, vec, part, columns}
use Rattle.paper.specs.declared.Kind.{Kind}
use Rattle.paper.specs.declared.Kind.TheVariants.{Never as never, Live as live, Removed as removed}
use Rattle.paper.specs.Tree.{end, sheet, folder, mapped, size, levels, Sheet, Tree}
use Rattle.paper.specs.Order.{forest_of, words_of}
use Rattle.paper.specs.Words.{wide, kind_of, kind_number, row_of, newest_at, least_at, most_at, floor_of, sheet_of, tree_from, sheet_words, folder_words, rows_of, tree_words, floor_at}
use Rattle.laws.proofs.Columns.{length_columns, vec_columns}
use Rattle.laws.proofs.Forests.{folder_same}
use Rattle.laws.proofs.FormedRows.{SheetRow, FolderRow, Formed, formed_read, formed_length}
use Rattle.laws.proofs.BlankWords.{length_zeros, skip}

pub kind_number_lem : (k : Kind) → kind_of (kind_number k) ≡ k
unfolding kind_of kind_number
kind_number_lem never = refl
kind_number_lem live = refl
kind_number_lem removed = refl

kind_small : (k : Kind) → kind_number k ≤ 2
unfolding kind_number
kind_small never = omega arith
kind_small live = omega arith
kind_small removed = omega arith

pub number_kind : (n : ℕ) → n ≤ 2 → kind_number (kind_of n) ≡ n
unfolding kind_number kind_of
number_kind zero h = refl
number_kind (suc zero) h = refl
number_kind (suc (suc zero)) h = refl
number_kind (suc (suc (suc n))) h = absurd (omega arith)

module _ (w : ℕ) where
  -- A SHEET'S ROW
  module _ (s : Sheet) where
    pub sheet_formed : SheetRow (wide w) (sheet_words w s)
    unfolding sheet_words
    sheet_formed = record {
      long = omega (arith, length-append (columns w s.floor) (replicate (3 * w) 0), length_columns w s.floor, length_zeros (3 * w));
      kind = kind_small s.row.kind;
      one = refl;
    }

    pub sheet_row : row_of (sheet_words w s) ≡ s.row
    unfolding sheet_words row_of
    sheet_row = ap (λ k. record { kind = k; stamp = s.row.stamp; birth = s.row.birth; content = s.row.content }) (kind_number_lem s.row.kind)

    pub sheet_floor : Narrow w s.floor → floor_of w (sheet_words w s) ≡ s.floor
    unfolding sheet_words part
    sheet_floor n = ap vec (take_at (columns w s.floor) (replicate (3 * w) 0) w (length_columns w s.floor)) ∙ vec_columns w s.floor n

    pub sheet_rest : drop (newest_at w) (sheet_words w s) ≡ replicate (3 * w) 0
    unfolding sheet_words
    sheet_rest = skip floor_at w (sheet_words w s) ∙ drop_at (columns w s.floor) (replicate (3 * w) 0) w (length_columns w s.floor)

    pub sheet_read : Narrow w s.floor → sheet_of w (sheet_words w s) ≡ s
    sheet_read n = ap₂ (λ r f. record { row = r; floor = f }) sheet_row (sheet_floor n)

  -- A FOLDER'S ROW
  module _ (n : ℕ) (floor newest least most : Vec) where
    abbrev pub row : List ℕ
    row = folder_words w n floor newest least most

    pub folder_long : length row ≡ wide w
    unfolding folder_words
    folder_long = omega (
      arith,
      length-append (columns w floor) (columns w newest ++ (columns w least ++ columns w most)),
      length-append (columns w newest) (columns w least ++ columns w most),
      length-append (columns w least) (columns w most),
      length_columns w floor,
      length_columns w newest,
      length_columns w least,
      length_columns w most,
    )

    at_newest : drop (newest_at w) row ≡ columns w newest ++ (columns w least ++ columns w most)
    unfolding folder_words
    at_newest = skip floor_at w row ∙ drop_at (columns w floor) _ w (length_columns w floor)

    at_least : drop (least_at w) row ≡ columns w least ++ columns w most
    at_least =
        let e : least_at w ≡ newest_at w + w = omega arith in
        ap (λ z. drop z row) e ∙ skip (newest_at w) w row ∙ ap (drop w) at_newest ∙ drop_at (columns w newest) (columns w least ++ columns w most) w (length_columns w newest)

    at_most : drop (most_at w) row ≡ columns w most
    at_most =
        let e : most_at w ≡ least_at w + w = omega arith in
        ap (λ z. drop z row) e ∙ skip (least_at w) w row ∙ ap (drop w) at_least ∙ drop_at (columns w least) (columns w most) w (length_columns w least)

    -- its four vectors
    pub row_floor : floor_of w row ≡ vec (columns w floor)
    unfolding folder_words part
    row_floor = ap vec (take_at (columns w floor) _ w (length_columns w floor))

    pub row_newest : part w (newest_at w) row ≡ vec (columns w newest)
    unfolding part
    row_newest = ap (λ l. vec (take w l)) at_newest ∙ ap vec (take_at (columns w newest) (columns w least ++ columns w most) w (length_columns w newest))

    pub row_least : part w (least_at w) row ≡ vec (columns w least)
    unfolding part
    row_least = ap (λ l. vec (take w l)) at_least ∙ ap vec (take_at (columns w least) (columns w most) w (length_columns w least))

    pub row_most : part w (most_at w) row ≡ vec (columns w most)
    unfolding part
    row_most = ap (λ l. vec (take w l)) at_most ∙ ap vec (take_all w (columns w most) (omega (arith, length_columns w most)))

    pub folder_floor : Narrow w floor → floor_of w row ≡ floor
    folder_floor h = row_floor ∙ vec_columns w floor h

  pub folder_formed : (c : ℕ) (floor newest least most : Vec) → FolderRow (wide w) c (folder_words w (suc c) floor newest least most)
  unfolding folder_words
  folder_formed c f new low high = record { long = folder_long (suc c) f new low high; kind = refl; rows = refl }

  -- TREES
  -- every floor is zero from column w on
  abbrev pub Thin : Tree → Type 0
  Thin end = Unit {0}
  Thin (sheet s r) = Narrow w s.floor × Thin r
  Thin (folder f k r) = Narrow w f × Thin k × Thin r

  pub rows_size : (t : Tree) → size (rows_of w t) ≡ size t
  unfolding rows_of size
  rows_size end = refl
  rows_size (sheet s r) = ap suc (rows_size r)
  rows_size (folder f k r) = ap suc (ap₂ ◌+◌ (rows_size k) (rows_size r))

  pub rows_formed : (t : Tree) (lv : ℕ) → levels t ≤ lv → Formed (wide w) lv (rows_of w t)
  unfolding rows_of levels
  rows_formed end lv h = tt
  rows_formed (sheet s r) lv h = (omega arith, sheet_formed s, rows_formed r lv (omega arith))
  rows_formed (folder f k r) lv h =
      (omega arith, rw (rows_size k) (folder_formed (size k) f _ _ _), rows_formed k (lv - 1) (omega arith), rows_formed r lv (omega arith))

  -- the tree of a tree's rows
  pub rows_read : (t : Tree) → Thin t → tree_from w (rows_of w t) ≡ t
  unfolding rows_of mapped
  rows_read end g = refl
  rows_read (sheet s r) g = ap₂ sheet (sheet_read s g.0) (rows_read r g.1)
  rows_read (folder f k r) g = folder_same (folder_floor (suc (size k)) f _ _ _ g.0) (rows_read k g.1) (rows_read r g.2)

  -- a tree's words are read back
  pub words_read : (t : Tree) → forest_of (wide w) (words_of (rows_of w t)) ≡ rows_of w t
  words_read t = formed_read (wide w) (omega arith) (rows_of w t) (levels t) (rows_formed t (levels t) (omega arith))

-- a tree's words are as many as its rows have
pub tree_length : (w : ℕ) (t : Tree) → length (tree_words w t) ≡ size t * wide w
tree_length w t = formed_length (wide w) (levels t) (rows_of w t) (rows_formed w t (levels t) (omega arith)) ∙ ap (λ (n : ℕ). n * wide w) (rows_size w t)
