-- Rows whose summaries are put right keep their order, their size and their stamps.
use Prim.{tt}
use Prim.Native.Nat.{ℕ, zero, suc, ◌+◌, ◌-◌, ◌≤◌, ◌<◌}
use mathlib.Core.Path.{◌≡◌, refl, sym, ap, ◌∙◌}
use mathlib.Core.List.{List, ◌++◌}
use mathlib.Core.Bool.{Bool, true, false, cond}
use native.Mathlib.Omega.{arith}
use lib.Dec.{ltb}
use lib.ListN.{length, get_or, take, drop, get_or-append}
use lib.Seq.{length-take-le, get_or-take}
use Rattle.paper.specs.Columns.{greatest, columns}
use Rattle.paper.specs.Tree.{end, sheet, folder, size, greatest_with}
use Rattle.paper.specs.Order.{Raw}
use Rattle.paper.specs.Words.{wide, newest_at, least_at, most_at, floor_of}
use Rattle.laws.proofs.Columns.{length_columns}
use Rattle.laws.proofs.FormedRows.{FolderRow, Formed}
use Rattle.vector.specs.Places.{put}
use Rattle.summary.specs.Sums.{Sums, mended, Named, stored}
use Rattle.vector.proofs.Places.{length_put, put_append, part_append}
use Rattle.mend.specs.Mended.{mended_rows}

-- a word before the place where others are put
put_before : (at : ℕ) (l t : List ℕ) (j : ℕ) → j < at → at ≤ length t → get_or (put at l t) j 0 ≡ get_or t j 0
unfolding put
put_before at l t j h g =
    get_or-append (take at t) (l ++ drop (at + length l) t) 0 j (omega (arith, length-take-le at t g)) ∙ get_or-take at t j 0 h

module _ (w : ℕ) (s : Sums) (r : List ℕ) (long : wide w ≤ length r) where
  abbrev one : List ℕ
  one = put (newest_at w) (columns w s.newest) r

  abbrev two : List ℕ
  two = put (least_at w) (columns w (greatest_with (floor_of w r) s.least)) one

  one_length : length one ≡ length r
  one_length = length_put (newest_at w) (columns w s.newest) r (omega (arith, length_columns w s.newest))

  two_length : length two ≡ length r
  two_length =
      length_put (least_at w) (columns w (greatest_with (floor_of w r) s.least)) one (omega (arith, one_length, length_columns w (greatest_with (floor_of w r) s.least))) ∙ one_length

  -- a row that is put right is as long, and its first words are as they were
  pub mended_length : length (mended w s r) ≡ length r
  unfolding mended
  mended_length =
      length_put (most_at w) (columns w (greatest (floor_of w r) s.most)) two (omega (arith, two_length, length_columns w (greatest (floor_of w r) s.most))) ∙ two_length

  mended_word : (j : ℕ) → j < 8 → get_or (mended w s r) j 0 ≡ get_or r j 0
  unfolding mended
  mended_word j h =
      put_before (most_at w) (columns w (greatest (floor_of w r) s.most)) two j (omega arith) (omega (arith, two_length))
      ∙ put_before (least_at w) (columns w (greatest_with (floor_of w r) s.least)) one j (omega arith) (omega (arith, one_length))
      ∙ put_before (newest_at w) (columns w s.newest) r j (omega arith) (omega arith)

  -- what stands after the row does not matter
  pub mended_append : (q : List ℕ) → mended w s (r ++ q) ≡ mended w s r ++ q
  unfolding mended
  mended_append q =
      let f = floor_of w r in
      ap (λ g. put (most_at w) (columns w (greatest g s.most)) (put (least_at w) (columns w (greatest_with g s.least)) (put (newest_at w) (columns w s.newest) (r ++ q))))
      (part_append r q w 8 (omega arith))
      ∙ ap (λ l. put (most_at w) (columns w (greatest f s.most)) (put (least_at w) (columns w (greatest_with f s.least)) l))
      (put_append r q (newest_at w) (columns w s.newest) (omega (arith, length_columns w s.newest)))
      ∙ ap (put (most_at w) (columns w (greatest f s.most)))
      (put_append one q (least_at w) (columns w (greatest_with f s.least)) (omega (arith, one_length, length_columns w (greatest_with f s.least))))
      ∙ put_append two q (most_at w) (columns w (greatest f s.most)) (omega (arith, two_length, length_columns w (greatest f s.most)))

module _ (w : ℕ) where
  pub mended_size : (f : Raw) (i : ℕ) → size (mended_rows w f i) ≡ size f
  unfolding mended_rows size
  mended_size end i = refl
  mended_size (sheet r s) zero = refl
  mended_size (sheet r s) (suc i) = ap suc (mended_size s i)
  mended_size (folder r k s) zero = refl
  mended_size (folder r k s) (suc i) = go (ltb i (size k)) (mended_size k i) (mended_size s (i - size k))
    where
      go : (b : Bool) → size (mended_rows w k i) ≡ size k → size (mended_rows w s (i - size k)) ≡ size s
          → size (cond b (folder (mended w (stored w (mended_rows w k i)) r) (mended_rows w k i) s) (folder r k (mended_rows w s (i - size k)))) ≡ suc (size k + size s)
      go true p q = ap (λ x. suc (x + size s)) p
      go false p q = ap (λ x. suc (size k + x)) q

  pub mended_formed : (f : Raw) (lv i : ℕ) → Formed (wide w) lv f → Formed (wide w) lv (mended_rows w f i)
  unfolding mended_rows
  mended_formed end lv i g = tt
  mended_formed (sheet r s) lv zero g = g
  mended_formed (sheet r s) lv (suc i) g = (g.0, g.1, mended_formed s lv i g.2)
  mended_formed (folder r k s) lv zero g = g
  mended_formed (folder r k s) lv (suc i) g = go (ltb i (size k)) (mended_formed k (lv - 1) i g.2) (mended_formed s lv (i - size k) g.3)
    where
      row : FolderRow (wide w) (size (mended_rows w k i)) (mended w (stored w (mended_rows w k i)) r)
      row =
          let l : wide w ≤ length r = omega (arith, g.1.long) in
          let z = stored w (mended_rows w k i) in
          record {
            long = mended_length w z r l ∙ g.1.long;
            kind = mended_word w z r l 0 (omega arith) ∙ g.1.kind;
            rows = mended_word w z r l 1 (omega arith) ∙ g.1.rows ∙ ap suc (sym (mended_size k i));
          }

      go : (b : Bool) → Formed (wide w) (lv - 1) (mended_rows w k i) → Formed (wide w) lv (mended_rows w s (i - size k))
          → Formed (wide w) lv (cond b (folder (mended w (stored w (mended_rows w k i)) r) (mended_rows w k i) s) (folder r k (mended_rows w s (i - size k))))
      go true p q = (g.0, row, p, g.3)
      go false p q = (g.0, g.1, g.2, q)

  pub mended_named : (f : Raw) (i : ℕ) → Named w f → Named w (mended_rows w f i)
  unfolding mended_rows
  mended_named end i m = tt
  mended_named (sheet r s) zero m = m
  mended_named (sheet r s) (suc i) m = (m.0, mended_named s i m.1)
  mended_named (folder r k s) zero m = m
  mended_named (folder r k s) (suc i) m = go (ltb i (size k)) (mended_named k i m.0) (mended_named s (i - size k) m.1)
    where
      go : (b : Bool) → Named w (mended_rows w k i) → Named w (mended_rows w s (i - size k))
          → Named w (cond b (folder (mended w (stored w (mended_rows w k i)) r) (mended_rows w k i) s) (folder r k (mended_rows w s (i - size k))))
      go true p q = (p, m.1)
      go false p q = (m.0, q)
