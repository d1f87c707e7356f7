-- Children that were walked: their floors have no more columns than there are and their stamps name columns, so that their
-- rows say what they come to, and the row of the folder above them is put right.
use Prim.{tt}
use Prim.Native.Nat.{ℕ, suc, ◌<◌}
use mathlib.Core.Path.{◌≡◌, sym, ap, subst, ◌∙◌}
use mathlib.Core.List.{◌++◌}
use mathlib.Core.Bool.{Bool, true, false, cond}
use native.Mathlib.Omega.{arith}
use Rattle.paper.specs.declared.Clock.{Clock}
use Rattle.paper.specs.Columns.{Vec, Narrow, greatest}
use Rattle.paper.specs.Rules.{Row, takes, joins}
use Rattle.paper.specs.Tree.{end, sheet, folder, mapped, size, levels, Tree, newest, smallest_of, least, most, full_least}
use Rattle.paper.specs.Walk.{Pair, left, right, raised, rule_at, ruled, over, walk}
use Rattle.paper.specs.Order.{forest_of}
use Rattle.paper.specs.Words.{wide, folder_words, folder_row, rows_of, tree_words}
use Rattle.laws.proofs.FormedRows.{formed_ordered}
use Rattle.laws.proofs.WrittenRows.{rows_formed, words_read}
use Rattle.summary.specs.Sums.{sums_of, stored, mended, Named, Siblings}
use Rattle.summary.proofs.Narrow.{Fine, narrow_greatest, option_greatest, fine_least}
use Rattle.summary.proofs.FolderRows.{folder_mended}
use Rattle.summary.proofs.RowsSay.{stored_sums, rows_named}
use Rattle.leaf.proofs.TreeSteps.{raised_narrow}

-- what the walk leaves
module _ (w : ℕ) (a b : Clock) (da : a.device < w) (db : b.device < w) where
  fine_row : (t : Bool) (r s : Row) → r.stamp.device < w → s.stamp.device < w → (cond t r s).stamp.device < w
  fine_row true r s h l = h
  fine_row false r s h l = l

  fine_floor : (t : Bool) {f g : Vec} → Narrow w f → Narrow w g → Narrow w (cond t f g)
  fine_floor true h l = h
  fine_floor false h l = l

  pub fine_walk : (p : Pair) (ua ub : Vec) → Narrow w ua → Fine w (left p) → Fine w (right p) → Fine w (walk w a b p ua ub)
  unfolding walk mapped ruled
  fine_walk end ua ub nu f g = tt
  fine_walk (sheet x r) ua ub nu f g = (
    fine_floor (joins (rule_at a b ua ub x)) (raised_narrow a b da db g.0 nu f.0) g.0,
    fine_row (takes (rule_at a b ua ub x)) x.a.row x.b.row f.1 g.1,
    fine_walk r ua ub nu f.2 g.2,
  )
  fine_walk (folder y k r) ua ub nu f g =
      go (over w a b ua ub y k) (walk w a b k (greatest ua y.a) (greatest ub y.b)) (walk w a b r ua ub)
      (fine_walk k (greatest ua y.a) (greatest ub y.b) (narrow_greatest nu f.0) f.1 g.1) (fine_walk r ua ub nu f.2 g.2)
    where
      go : (o : Bool) (l m : Tree) → Fine w l → Fine w m → Fine w (cond o (folder (raised b y.b (full_least a ua y.a (left k))) (right k) m) (folder y.b l m))
      go true l m hl hm = (raised_narrow a b da db g.0 nu (option_greatest w y.a (smallest_of (left k)) f.0 (fine_least w (left k) f.1)), g.1, hm)
      go false l m hl hm = (g.0, hl, hm)

-- the words of such a tree are rows in order
pub fine_siblings : (w : ℕ) (t : Tree) → Fine w t → Siblings w (tree_words w t)
fine_siblings w t f = record {
  levels = levels t;
  order = formed_ordered (wide w) (omega arith) (rows_of w t) (levels t) (rows_formed w t (levels t) (omega arith));
  named = subst (Named w) (sym (words_read w t)) (rows_named w t f);
}

-- a folder's row with the words of such a tree after it, put right by those words: the children l have become m
pub fine_mended : (w : ℕ) (f : Vec) (l m : Tree) → Narrow w f → size l ≡ size m → Fine w m
    → mended w (stored w (forest_of (wide w) (tree_words w m))) (folder_row w f l ++ tree_words w m) ≡ folder_row w f m ++ tree_words w m
fine_mended w f l m h e g =
    ap (λ s. mended w s (folder_row w f l ++ tree_words w m)) (ap (stored w) (words_read w m) ∙ stored_sums w m g)
    ∙ folder_mended w (suc (size l)) f (newest l) (least f l) (most f l) (tree_words w m) h (sums_of m)
    ∙ ap (λ (n : ℕ). folder_words w (suc n) f (newest m) (least f m) (most f m) ++ tree_words w m) e
