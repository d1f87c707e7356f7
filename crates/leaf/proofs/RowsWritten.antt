-- Written rows, with words q after them, that are written over and read: a sheet's row and a folder's.
use Prim.Native.Nat.{ℕ, ◌*◌}
use mathlib.Core.Path.{◌≡◌, refl, sym, ap, ap₂, ◌∙◌}
use mathlib.Core.List.{List, [], ◌∷◌, ◌++◌, append_assoc}
use native.Mathlib.Omega.{arith}
use lib.ListN.{replicate}
use Rattle.paper.specs.Columns.{Vec, Narrow, columns}
use Rattle.paper.specs.Rules.{Row}
use Rattle.paper.specs.Tree.{Sheet}
use Rattle.paper.specs.Words.{kind_number, row_of, floor_at, sheet_of, sheet_words, folder_words}
use Rattle.laws.proofs.Columns.{length_columns}
use Rattle.laws.proofs.WrittenRows.{sheet_formed, folder_long, sheet_read}
use Rattle.vector.specs.Places.{put}
use Rattle.vector.proofs.Places.{put_after, put_over, part_append}
use Rattle.summary.proofs.FolderRows.{put_floor, put_row_lem}
use Rattle.leaf.specs.Leaves.{taken_from, floored}

module _ (w : ℕ) where
  -- A SHEET'S ROW
  -- the eight words before the floor
  sheet_head : Row → List ℕ
  sheet_head r =
      kind_number r.kind ∷ 1 ∷ r.stamp.device ∷ r.stamp.count ∷ r.birth.device ∷ r.birth.count ∷ r.content.mark ∷ r.content.class ∷ []

  -- with another floor
  pub sheet_floored : (s : Sheet) (f : Vec) (q : List ℕ) → floored w f (sheet_words w s ++ q) ≡ sheet_words w (record { row = s.row; floor = f }) ++ q
  unfolding floored sheet_words sheet_head
  sheet_floored s f q =
      let z : List ℕ = replicate (3 * w) 0 in
      ap (put floor_at (columns w f)) {x = sheet_words w s ++ q} {y = sheet_head s.row ++ (columns w s.floor ++ (z ++ q))}
      (ap (λ (x : List ℕ). sheet_head s.row ++ x) (append_assoc (columns w s.floor) z q))
      ∙ put_after floor_at 0 (sheet_head s.row) (columns w s.floor ++ (z ++ q)) (columns w f) refl
      ∙ ap (λ (x : List ℕ). sheet_head s.row ++ x) (put_over (columns w s.floor) (z ++ q) (columns w f) (length_columns w s.floor ∙ sym (length_columns w f)))
      ∙ ap (λ (x : List ℕ). sheet_head s.row ++ x) (sym (append_assoc (columns w f) z q))

  -- with what stands at another
  pub sheet_taken : (s t : Sheet) (p q : List ℕ) → taken_from (sheet_words w s ++ p) (sheet_words w t ++ q) ≡ sheet_words w (record { row = s.row; floor = t.floor }) ++ q
  unfolding taken_from put sheet_words
  sheet_taken s t p q = refl

  -- what it says
  row_says : (s : Sheet) (q : List ℕ) → row_of (sheet_words w s ++ q) ≡ row_of (sheet_words w s)
  unfolding row_of sheet_words
  row_says s q = refl

  -- the sheet that was written
  pub sheet_says : (s : Sheet) (q : List ℕ) → Narrow w s.floor → sheet_of w (sheet_words w s ++ q) ≡ s
  sheet_says s q n =
      ap₂ (λ (r : Row) (f : Vec). record { row = r; floor = f }) (row_says s q)
      (part_append (sheet_words w s) q w floor_at (omega (arith, (sheet_formed w s).long)))
      ∙ sheet_read w s n

  -- A FOLDER'S ROW, with another floor
  pub folder_floored : (n : ℕ) (f new low high : Vec) (q : List ℕ) (g : Vec) → floored w g (folder_words w n f new low high ++ q) ≡ folder_words w n g new low high ++ q
  unfolding floored
  folder_floored n f new low high q g = put_row_lem w floor_at g (folder_words w n f new low high) q (put_floor w n f new low high g) (folder_long w n f new low high) (omega arith)
