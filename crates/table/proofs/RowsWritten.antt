-- A table written row by row, of n words each: its head, which is as long as a row, and then its rows.
use Prim.Native.Nat.{ℕ, ◌+◌, ◌-◌, ◌*◌, ◌≤◌}
use mathlib.Core.Path.{◌≡◌, sym, ap, ◌∙◌}
use mathlib.Core.List.{List, ◌++◌, append_assoc}
use native.Mathlib.Omega.{arith}
use native.Mathlib.Nat.{add-mul, one-mul}
use lib.ListN.{length, take, drop, length-append, length-drop}
use lib.Seq.{length-take-le, take_at}
use borrow.Rule.Slice.PartMut.{put_mid, mid_len}

module _ (n : ℕ) (a e : List ℕ) where
  -- the head e, written over the first words
  module _ (h : n ≤ length a) (l : length e ≡ length (take n a)) where
    pub head_length : length (e ++ drop n a) ≡ length a
    head_length = length-append e (drop n a) ∙ omega (arith, length-drop n a, l ∙ length-take-le n a h)

    pub head_words_lem : take (1 * n) (e ++ drop n a) ≡ e
    head_words_lem = take_at e (drop n a) (1 * n) (l ∙ length-take-le n a h ∙ sym (one-mul n))

  -- one row e more after the words d
  pub row_words : (i : ℕ) (d : List ℕ) → take (i * n) a ≡ d → i * n + n ≤ length a → length e ≡ length (take (i * n + n - i * n) (drop (i * n) a))
      → take ((i + 1) * n) (put_mid (i * n) (i * n + n - i * n) a e) ≡ d ++ e
  row_words i d q h l =
      let m = i * n in
      let k = l ∙ mid_len m (m + n) a h in
      ap (take ((i + 1) * n)) (sym (append_assoc (take m a) e (drop (m + n - m) (drop m a))))
      ∙ take_at (take m a ++ e) (drop (m + n - m) (drop m a)) ((i + 1) * n) (omega (arith, length-append (take m a) e, length-take-le m a (omega arith), add-mul i 1 n))
      ∙ ap (λ x. x ++ e) q
