-- What the rows of a tree say of it: what siblings come to by their rows is what they come to, and a folder's row is put
-- right for other children.
use Prim.{tt}
use Prim.Native.Nat.{ℕ, suc}
use mathlib.Core.Path.{◌≡◌, refl, sym, ap, ap₂, ◌∙◌}
use mathlib.Core.List.{[], append-nil}
use Rattle.paper.specs.Columns.{Vec, Narrow}
use Rattle.paper.specs.Tree.{end, sheet, folder, plus, size, Tree, newest, least, most}
use Rattle.paper.specs.Words.{sheet_words, folder_words, folder_row, rows_of}
use Rattle.laws.proofs.WrittenRows.{sheet_read}
use Rattle.summary.specs.Sums.{sums_of, sums_both, sums_alone, sums_row, sums_under, mended, Named, stored}
use Rattle.summary.proofs.SiblingSums.{sums_plus, sums_sheet, sums_folder}
use Rattle.summary.proofs.Narrow.{Fine, narrow_row}
use Rattle.summary.proofs.FolderRows.{folder_mended, folder_says_lem}

module _ (w : ℕ) where
  -- a folder's row says what the folder comes to
  folder_sums : (f : Vec) (k : Tree) → Narrow w f → Fine w k → sums_row w (folder_row w f k) ≡ sums_under f (sums_of k)
  folder_sums f k h g =
      ap (sums_row w) (sym (append-nil (folder_row w f k)))
      ∙ (let r = narrow_row w f k h g in folder_says_lem w (suc (size k)) f (newest k) (least f k) (most f k) [] r.newest r.least r.most)

  -- what siblings come to by their rows is what they come to
  pub stored_sums : (t : Tree) → Fine w t → stored w (rows_of w t) ≡ sums_of t
  unfolding stored rows_of plus
  stored_sums end g = refl
  stored_sums (sheet s r) g = ap₂ sums_both (ap sums_alone (sheet_read w s g.0) ∙ sym (sums_sheet s)) (stored_sums r g.2) ∙ sym (sums_plus (sheet s end) r)
  stored_sums (folder f k r) g = ap₂ sums_both (folder_sums f k g.0 g.1 ∙ sym (sums_folder f k)) (stored_sums r g.2) ∙ sym (sums_plus (folder f k end) r)

  pub rows_named : (t : Tree) → Fine w t → Named w (rows_of w t)
  unfolding rows_of sheet_words
  rows_named end g = tt
  rows_named (sheet s r) g = (g.1, rows_named r g.2)
  rows_named (folder f k r) g = (rows_named k g.1, rows_named r g.2)

  -- a folder's row put right for other children
  pub row_mended : (f : Vec) (k l : Tree) → Narrow w f → size l ≡ size k → mended w (sums_of l) (folder_row w f k) ≡ folder_row w f l
  row_mended f k l h e =
      ap (mended w (sums_of l)) (sym (append-nil (folder_row w f k)))
      ∙ folder_mended w (suc (size k)) f (newest k) (least f k) (most f k) [] h (sums_of l)
      ∙ append-nil (folder_words w (suc (size k)) f (newest l) (least f l) (most f l))
      ∙ ap (λ n. folder_words w (suc n) f (newest l) (least f l) (most f l)) (sym e)
