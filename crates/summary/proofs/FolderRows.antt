-- The row of a folder, with words q after it, that is written over and read.
use Prim.Native.Nat.{ℕ, ◌+◌, ◌*◌, ◌≤◌}
use mathlib.Core.Path.{◌≡◌, refl, sym, ap, ◌∙◌}
use mathlib.Core.List.{List, [], ◌∷◌, ◌++◌, append-nil}
use mathlib.Core.Option.{some}
use native.Mathlib.Omega.{arith}
use lib.ListN.{length}
use Rattle.paper.specs.Columns.{Vec, Narrow, greatest, columns}
use Rattle.paper.specs.Tree.{greatest_with}
use Rattle.paper.specs.Words.{wide, floor_at, newest_at, least_at, most_at, floor_of, folder_words}
use Rattle.laws.proofs.Columns.{length_columns, vec_columns}
use Rattle.laws.proofs.WrittenRows.{folder_long, row_floor, row_newest, row_least, row_most}
use Rattle.vector.specs.Places.{put}
use Rattle.vector.proofs.Places.{put_after, put_over, part_append, put_append}
use Rattle.summary.specs.Sums.{Sums, sums_row, mended}
use Rattle.summary.proofs.SiblingSums.{sums_same}

module _ (w : ℕ) where
  -- the eight words before the floor, and the four vectors
  folder_head : ℕ → List ℕ
  folder_head n = 3 ∷ n ∷ 0 ∷ 0 ∷ 0 ∷ 0 ∷ 0 ∷ 0 ∷ []

  -- one of its vectors is written over
  module _ (n : ℕ) (f new low high v : Vec) where
    over : (k : ℕ) (xs : List ℕ) (u : Vec) (q : List ℕ) → k ≡ length xs → put k (columns w v) (xs ++ (columns w u ++ q)) ≡ xs ++ (columns w v ++ q)
    over k xs u q e =
        put_after k 0 xs (columns w u ++ q) (columns w v) (omega arith)
        ∙ ap (λ (x : List ℕ). xs ++ x) (put_over (columns w u) q (columns w v) (length_columns w u ∙ sym (length_columns w v)))

    pub put_floor : put floor_at (columns w v) (folder_words w n f new low high) ≡ folder_words w n v new low high
    unfolding folder_words folder_head
    put_floor = over floor_at (folder_head n) f (columns w new ++ (columns w low ++ columns w high)) refl

    put_newest : put (newest_at w) (columns w v) (folder_words w n f new low high) ≡ folder_words w n f v low high
    unfolding folder_words folder_head
    put_newest =
        put_after (newest_at w) w (folder_head n) (columns w f ++ (columns w new ++ (columns w low ++ columns w high))) (columns w v) refl
        ∙ ap (λ (x : List ℕ). folder_head n ++ x) (over w (columns w f) new (columns w low ++ columns w high) (sym (length_columns w f)))

    put_least : put (least_at w) (columns w v) (folder_words w n f new low high) ≡ folder_words w n f new v high
    unfolding folder_words folder_head
    put_least =
        put_after (least_at w) (2 * w) (folder_head n) (columns w f ++ (columns w new ++ (columns w low ++ columns w high))) (columns w v) refl
        ∙ ap (λ (x : List ℕ). folder_head n ++ x)
        (put_after (2 * w) w (columns w f) (columns w new ++ (columns w low ++ columns w high)) (columns w v) (omega (arith, length_columns w f))
        ∙ ap (λ (x : List ℕ). columns w f ++ x) (over w (columns w new) low (columns w high) (sym (length_columns w new))))

    put_most : put (most_at w) (columns w v) (folder_words w n f new low high) ≡ folder_words w n f new low v
    unfolding folder_words folder_head
    put_most =
        put_after (most_at w) (3 * w) (folder_head n) (columns w f ++ (columns w new ++ (columns w low ++ columns w high))) (columns w v) refl
        ∙ ap (λ (x : List ℕ). folder_head n ++ x)
        (put_after (3 * w) (2 * w) (columns w f) (columns w new ++ (columns w low ++ columns w high)) (columns w v) (omega (arith, length_columns w f))
        ∙ ap (λ (x : List ℕ). columns w f ++ x)
        (put_after (2 * w) w (columns w new) (columns w low ++ columns w high) (columns w v) (omega (arith, length_columns w new))
        ∙ ap (λ (x : List ℕ). columns w new ++ x)
        (ap (λ (x : List ℕ). put w (columns w v) (columns w low ++ x)) (sym (append-nil (columns w high)))
        ∙ over w (columns w low) high [] (sym (length_columns w low))
        ∙ ap (λ (x : List ℕ). columns w low ++ x) (append-nil (columns w v)))))

  -- with words after it
  pub put_row_lem : (at : ℕ) (v : Vec) (r : List ℕ) {r' : List ℕ} (q : List ℕ) → put at (columns w v) r ≡ r' → length r ≡ wide w → at + w ≤ wide w → put at (columns w v) (r ++ q) ≡ r' ++ q
  put_row_lem at v r q e l h = put_append r q at (columns w v) (omega (arith, length_columns w v)) ∙ ap (λ (x : List ℕ). x ++ q) e

  module _ (n : ℕ) (f new low high : Vec) (q : List ℕ) where
    -- what its vectors say
    module _ (nf : Narrow w f) where
      -- the floor that was written
      pub folder_says_floor : floor_of w (folder_words w n f new low high ++ q) ≡ f
      folder_says_floor =
          part_append (folder_words w n f new low high) q w floor_at (omega (arith, folder_long w n f new low high))
          ∙ row_floor w n f new low high
          ∙ vec_columns w f nf

      -- with its summaries put right
      pub folder_mended : (s : Sums) → mended w s (folder_words w n f new low high ++ q) ≡ folder_words w n f s.newest (greatest_with f s.least) (greatest f s.most) ++ q
      unfolding mended
      folder_mended s =
          let l = greatest_with f s.least in
          let m = greatest f s.most in
          rw folder_says_floor
          (ap (λ (x : List ℕ). put (most_at w) (columns w m) (put (least_at w) (columns w l) x))
          (put_row_lem (newest_at w) s.newest (folder_words w n f new low high) q (put_newest n f new low high s.newest) (folder_long w n f new low high) (omega arith))
          ∙ ap (put (most_at w) (columns w m))
          (put_row_lem (least_at w) l (folder_words w n f s.newest low high) q (put_least n f s.newest low high l) (folder_long w n f s.newest low high) (omega arith))
          ∙ put_row_lem (most_at w) m (folder_words w n f s.newest l high) q (put_most n f s.newest l high m) (folder_long w n f s.newest l high) (omega arith))

    -- the summaries that were written
    pub folder_says_lem : Narrow w new → Narrow w low → Narrow w high → sums_row w (folder_words w n f new low high ++ q) ≡ record { newest = new; least = some low; most = high }
    folder_says_lem hn hl hm =
        let r = folder_words w n f new low high in
        let e = folder_long w n f new low high in
        sums_same (part_append r q w (newest_at w) (omega arith) ∙ row_newest w n f new low high ∙ vec_columns w new hn)
        (ap some (part_append r q w (least_at w) (omega arith) ∙ row_least w n f new low high ∙ vec_columns w low hl))
        (part_append r q w (most_at w) (omega arith) ∙ row_most w n f new low high ∙ vec_columns w high hm)
