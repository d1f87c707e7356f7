-- The rows of a tree with the rows of g put at row i: in order, named, and put right above row i they are the rows of the
-- tree with g put there.
use Prim.{tt}
use Prim.Native.Nat.{ℕ, zero, suc, ◌+◌, ◌-◌, ◌≤◌, ◌<◌}
use mathlib.Core.Path.{◌≡◌, refl, sym, ap, ap₂, ◌∙◌}
use mathlib.Core.Bool.{Bool, true, false, cond}
use native.Mathlib.Omega.{arith}
use lib.Dec.{ltb}
use borrow.Author.Tests.{lt-ltb, ltb-true, ltb-false}
use Rattle.paper.specs.Tree.{end, sheet, folder, plus, subtree, graft, size, levels, Tree, newest, least, most}
use Rattle.paper.specs.Order.{Raw}
use Rattle.paper.specs.Words.{wide, sheet_words, folder_row, rows_of}
use Rattle.laws.proofs.Forests.{graft_size}
use Rattle.laws.proofs.FormedRows.{Formed}
use Rattle.laws.proofs.WrittenRows.{rows_size, rows_formed, sheet_formed, folder_formed}
use Rattle.summary.specs.Sums.{mended, Named}
use Rattle.mend.specs.Mended.{mended_rows}
use Rattle.mend.proofs.MendedLoans.{mended_first}
use Rattle.summary.proofs.Narrow.{Fine}
use Rattle.summary.proofs.RowsSay.{stored_sums, rows_named, row_mended}

rows_plus : (w : ℕ) (s t : Tree) → rows_of w (plus s t) ≡ plus (rows_of w s) (rows_of w t)
unfolding rows_of plus
rows_plus w end t = refl
rows_plus w (sheet x r) t = ap (sheet (sheet_words w x)) (rows_plus w r t)
rows_plus w (folder f k r) t = ap (folder (folder_row w f k) (rows_of w k)) (rows_plus w r t)

-- rows f that, put right above row i, are those of the tree t
pub record Grafted (w lv : ℕ) (f : Raw) (i : ℕ) (t : Tree) : Type 0 where
  pub size : size f ≡ size t
  pub formed : Formed (wide w) lv f
  pub named : Named w f
  pub right : mended_rows w f i ≡ rows_of w t

module _ (w : ℕ) where
  whole : (lv : ℕ) (t : Tree) → levels t ≤ lv → Fine w t → Grafted w lv (rows_of w t) 0 t
  whole lv t l g = record { size = rows_size w t; formed = rows_formed w t lv l; named = rows_named w t g; right = mended_first w (rows_of w t) }

  side : (lv : ℕ) (g r : Tree) → levels (plus g r) ≤ lv → Fine w (plus g r) → Grafted w lv (plus (rows_of w g) (rows_of w r)) 0 (plus g r)
  side lv g r l p = rw (sym (rows_plus w g r)) (whole lv (plus g r) l p)

  pub grafted : (lv : ℕ) (f : Tree) (i : ℕ) (g : Tree) → i < size f → size g ≡ size (subtree f i) → levels (graft f i g) ≤ lv → Fine w (graft f i g)
      → Grafted w lv (graft (rows_of w f) i (rows_of w g)) i (graft f i g)
  unfolding graft rows_of size levels subtree mended_rows
  grafted lv end i g h e l p = absurd (omega arith)
  grafted lv (sheet s r) zero g h e l p = side lv g r l p
  grafted lv (sheet s r) (suc i) g h e l p =
      let q = grafted lv r i g (omega arith) e (omega arith) p.2 in
      record {
        size = ap suc q.size;
        formed = (omega arith, sheet_formed w s, q.formed);
        named = ((rows_named w (sheet s end) (p.0, p.1, tt)).0, q.named);
        right = ap (sheet (sheet_words w s)) q.right;
      }
  grafted lv (folder f k r) zero g h e l p = side lv g r l p
  grafted lv (folder f k r) (suc i) g h e l p =
      rw (rows_size w k) (go (ltb i (size k)) refl (grafted (lv - 1) k i g) (grafted lv r (i - size k) g) e l p)
    where
      go : (b : Bool) → ltb i (size k) ≡ b
          → (i < size k → size g ≡ size (subtree k i) → levels (graft k i g) ≤ lv - 1 → Fine w (graft k i g) → Grafted w (lv - 1) (graft (rows_of w k) i (rows_of w g)) i (graft k i g))
          → (i - size k < size r → size g ≡ size (subtree r (i - size k)) → levels (graft r (i - size k) g) ≤ lv → Fine w (graft r (i - size k) g)
          → Grafted w lv (graft (rows_of w r) (i - size k) (rows_of w g)) (i - size k) (graft r (i - size k) g))
          → size g ≡ size (cond b (subtree k i) (subtree r (i - size k)))
          → levels (cond b (folder f (graft k i g) r) (folder f k (graft r (i - size k) g))) ≤ lv
          → Fine w (cond b (folder f (graft k i g) r) (folder f k (graft r (i - size k) g)))
          → Grafted w lv (cond b (folder (folder_row w f k) (graft (rows_of w k) i (rows_of w g)) (rows_of w r))
          (folder (folder_row w f k) (rows_of w k) (graft (rows_of w r) (i - size k) (rows_of w g)))) (suc i)
          (cond b (folder f (graft k i g) r) (folder f k (graft r (i - size k) g)))
      go true t a b e l p =
          let q = a (ltb-true _ _ t) e (omega arith) p.1 in
          let n = graft_size k i g e in
          let m = q.size ∙ n in
          record {
            size = ap (λ z. suc (z.0 + z.1)) (ap₂ (λ x y. let o : ℕ × ℕ = (x, y) in o) q.size (rows_size w r));
            formed = (omega arith, rw m (folder_formed w (size k) f (newest k) (least f k) (most f k)), q.formed, rows_formed w r lv (omega arith));
            named = (q.named, rows_named w r p.2);
            right =
                rw (lt-ltb i (size (graft (rows_of w k) i (rows_of w g))) (omega (arith, m, ltb-true i (size k) t)), q.right)
                (ap (λ x. folder x (rows_of w (graft k i g)) (rows_of w r)) (ap (λ z. mended w z (folder_row w f k)) (stored_sums w (graft k i g) p.1) ∙ row_mended w f k (graft k i g) p.0 n));
          }
      go false t a b e l p =
          let q = b (omega (arith, ltb-false i (size k) t)) e (omega arith) p.2 in
          record {
            size = ap (λ z. suc (z.0 + z.1)) (ap₂ (λ x y. let o : ℕ × ℕ = (x, y) in o) (rows_size w k) q.size);
            formed = (omega arith, rw (rows_size w k) (folder_formed w (size k) f (newest k) (least f k) (most f k)), rows_formed w k (lv - 1) (omega arith), q.formed);
            named = (rows_named w k p.1, q.named);
            right = rw (rows_size w k, t) (ap (folder (folder_row w f k) (rows_of w k)) q.right);
          }
