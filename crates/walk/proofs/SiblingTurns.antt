-- Siblings passed one after the other: up to a row they are done, and from there on they stand as they were.
use Prim.Native.Nat.{ℕ, suc, ◌+◌, ◌-◌, ◌*◌, ◌≤◌, ◌<◌}
use mathlib.Core.Path.{◌≡◌, refl, sym, ap, subst, ◌∙◌}
use mathlib.Core.List.{List}
use native.Mathlib.Omega.{arith}
use native.Mathlib.Nat.{add-zero, add-mul, suc-mul, zero-mul, mul-le-mul_right}
use lib.ListN.{length, get_or, take, drop, length-drop, take-append-drop}
use lib.Seq.{get_or-drop, drop-drop}
use borrow.Rule.Slice.PartMut.{put_mid, same_len_mid, mid_len}
use Rattle.paper.specs.declared.Clock.{Clock}
use Rattle.paper.specs.Columns.{Vec}
use Rattle.paper.specs.Tree.{end, size, plus}
use Rattle.paper.specs.Walk.{Pair}
use Rattle.paper.specs.Order.{size_word}
use Rattle.paper.specs.Words.{wide}
use Rattle.laws.proofs.FormedRows.{cancel}
use Rattle.laws.proofs.Forests.{plus_size}
use Rattle.walk.specs.Parts.{Single, Fit, Parts, RowParts, Passed}
use Rattle.walk.proofs.LentLists.{put_through, put_past}
use Rattle.walk.proofs.SiblingsWalked.{plus_plus, looked_size}
use Rattle.walk.proofs.PartsCut.{Long, cut_first, fit_long, single_size}
use Rattle.walk.proofs.RowsWalked.{end_passed, none_passed, plus_passed}

-- the size of the row at a place
abbrev pub size_at : ℕ → List ℕ → ℕ → ℕ
size_at w s row = get_or s (row * wide w + 1) 0

-- where the row with all beneath it ends, and its part of the words
abbrev pub end_at : ℕ → List ℕ → ℕ → ℕ
end_at w s row = row * wide w + size_at w s row * wide w

abbrev pub row_in : ℕ → List ℕ → ℕ → List ℕ → List ℕ
row_in w s row t = take (end_at w s row - row * wide w) (drop (row * wide w) t)

module _ (w : ℕ) (a b : Clock) (ua ub : Vec) where
  -- of the pair p the rows before `row` are done, and the others stand as they were
  pub record Turn (p : Pair) (s t o : List ℕ) (row count : ℕ) : Type 0 where
    pub done : Pair
    pub left : Pair
    pub whole : p ≡ plus done left
    pub passed : Passed w a b done ua ub (take (row * wide w) t) (take row o) count
    pub fit : Fit w a b ua ub left (drop (row * wide w) s) (drop (row * wide w) t)

  -- so of every pair that fits the words s and t₀; the lengths stay
  pub record Turns (s t₀ o₀ t o : List ℕ) (row count : ℕ) : Type 0 where
    pub target : length t ≡ length t₀
    pub answers : length o ≡ length o₀
    pub turn : (p : Pair) → Fit w a b ua ub p s t₀ → Turn p s t o row count

  -- the row at a place with all beneath it, as the code cuts it, and the rows after
  record Next (p : Pair) (s t : List ℕ) (row : ℕ) : Type 0 where
    first : Pair
    rest : Pair
    single : Single first
    whole : p ≡ plus first rest
    size : size first ≡ size_at w s row
    fit_first : Fit w a b ua ub first (row_in w s row s) (row_in w s row t)
    fit_rest : Fit w a b ua ub rest (drop (end_at w s row) s) (drop (end_at w s row) t)

  next : (p : Pair) (s t : List ℕ) (row : ℕ) → Fit w a b ua ub p (drop (row * wide w) s) (drop (row * wide w) t) → row * wide w < length s → Next p s t row
  next p s t row f h =
      let m = row * wide w in
      let c = cut_first w a b ua ub p f (omega (arith, length-drop m s)) in
      let k : size_word (drop m s) ≡ size_at w s row = get_or-drop m s 1 0 in
      let z : size_word (drop m s) * wide w ≡ end_at w s row - m = omega (arith, ap (λ (x : ℕ). x * wide w) k) in
      let e : end_at w s row ≡ m + size_word (drop m s) * wide w = omega (arith, ap (λ (x : ℕ). x * wide w) k) in
      record {
        first = c.first;
        rest = c.rest;
        single = c.single;
        whole = c.whole;
        size = c.size ∙ k;
        fit_first = subst (λ (n : ℕ). Fit w a b ua ub c.first (take n (drop m s)) (take n (drop m t))) z c.fit_first;
        fit_rest = rw (e, sym (drop-drop (size_word (drop m s) * wide w) m s), sym (drop-drop (size_word (drop m s) * wide w) m t)) c.fit_rest;
      }

  -- there is a row at a place that has an answer
  pub record Here (s t o : List ℕ) (row : ℕ) : Type 0 where
    pub word : row * wide w + 1 < length s
    pub some : 1 ≤ size_at w s row
    pub fits : row + size_at w s row ≤ length o
    pub cut_a : end_at w s row ≤ length s
    pub cut_b : end_at w s row ≤ length t
    pub first : RowParts w a b ua ub (row_in w s row s) (row_in w s row t) (length (take (row + size_at w s row - row) (drop row o)))

  -- NOTHING IS DONE
  turn_start : (p : Pair) (s t o : List ℕ) → Fit w a b ua ub p s t → Turn p s t o 0 0
  unfolding plus
  turn_start p s t o f = record { done = end; left = p; whole = refl; passed = rw (zero-mul (wide w)) (end_passed w a b ua ub); fit = rw (zero-mul (wide w)) f }

  pub turns_start : (s t o : List ℕ) → Turns s t o t o 0 0
  turns_start s t o = record { target = refl; answers = refl; turn = λ p f. turn_start p s t o f }

  -- ONE ROW MORE: its parts came back as e and v
  module _ (s t o : List ℕ) (row count : ℕ) (h : Here s t o row) (e v : List ℕ) (l : ℕ)
      (he : length e ≡ length (row_in w s row t)) (hv : length v ≡ length (take (row + size_at w s row - row) (drop row o)))
      (f : (q : Pair) → Single q → Fit w a b ua ub q (row_in w s row s) (row_in w s row t) → Passed w a b q ua ub e v l) where
    turn_step : (p : Pair) → Turn p s t o row count
        → Turn p s (put_mid (row * wide w) (end_at w s row - row * wide w) t e) (put_mid row (row + size_at w s row - row) o v) (row + size_at w s row) (count + l)
    turn_step p g =
        let m = row * wide w in
        let k = size_at w s row in
        let c = next g.left s t row g.fit (omega (arith, h.word)) in
        let z : (row + k) * wide w ≡ end_at w s row = add-mul row k (wide w) in
        record {
          done = plus g.done c.first;
          left = c.rest;
          whole = g.whole ∙ ap (plus g.done) c.whole ∙ sym (plus_plus g.done c.first c.rest);
          passed = rw (z, put_through m (end_at w s row) t e (omega arith) h.cut_b he, put_through row (row + k) o v (omega arith) h.fits hv)
              (plus_passed w a b ua ub g.done c.first (take m t) e (take row o) v count l g.passed (f c.first c.single c.fit_first));
          fit = rw (z, put_past m (end_at w s row) t e (omega arith) h.cut_b he) c.fit_rest;
        }

    pub turns_step : {t₀ o₀ : List ℕ} → Turns s t₀ o₀ t o row count
        → Turns s t₀ o₀ (put_mid (row * wide w) (end_at w s row - row * wide w) t e) (put_mid row (row + size_at w s row - row) o v) (row + size_at w s row) (count + l)
    turns_step g = record {
      target = same_len_mid (row * wide w) (end_at w s row - row * wide w) t e he ∙ g.target;
      answers = same_len_mid row (row + size_at w s row - row) o v hv ∙ g.answers;
      turn = λ p x. turn_step p (g.turn p x);
    }

  -- ALL ARE DONE
  turn_all : (p : Pair) (s t o : List ℕ) (row count : ℕ) → Turn p s t o row count → length s ≤ row * wide w → length o ≤ row → Passed w a b p ua ub t o count
  turn_all p s t o row count g hs ho =
      let m = row * wide w in
      rw g.whole
      (rw (take-append-drop m t, take-append-drop row o, add-zero count) at
      (plus_passed w a b ua ub g.done g.left (take m t) (drop m t) (take row o) (drop row o) count 0 g.passed
      (none_passed w a b ua ub g.left (drop row o) g.fit (omega (arith, length-drop m s)) (omega (arith, length-drop row o)))))

  -- by what is taken for granted at the start
  module _ {s t₀ o₀ : List ℕ} (p : Parts w a b ua ub s t₀ (length o₀)) (t o : List ℕ) (row count : ℕ) (g : Turns s t₀ o₀ t o row count) where
    long : Long w a b ua ub (length o₀) s t₀
    long = subst (λ (n : ℕ). Long w a b ua ub n s t₀) p.each (fit_long w a b ua ub p.pair p.fit)

    pub turns_all : length o ≤ row → (q : Pair) → Fit w a b ua ub q s t₀ → Passed w a b q ua ub t o count
    turns_all h q f = turn_all q s t o row count (g.turn q f) (omega (arith, long.source, mul-le-mul_right {m = length o} {n = row} (wide w) h, ap (λ (x : ℕ). x * wide w) g.answers)) h

    -- no more rows are looked at than there are places
    pub turns_few : count ≤ length o₀
    turns_few = let d = g.turn p.pair p.fit in
        omega (arith, d.passed.looked, looked_size w a b d.done ua ub, ap size d.whole ∙ plus_size d.done d.left, p.each)

    pub here : row < length o → Here s t o row
    here h =
        let d = g.turn p.pair p.fit in
        let m = row * wide w in
        let k = size_at w s row in
        let ls = long.source in
        let lt = g.target ∙ long.target in
        let lo = g.answers in
        let n = length o₀ in
        let more : suc row * wide w ≤ n * wide w = mul-le-mul_right (wide w) (omega (arith, lo)) in
        let one : suc row * wide w ≡ row * wide w + wide w = suc-mul row (wide w) in
        let c = next d.left s t row d.fit (omega arith) in
        let z = single_size w c.first c.single in
        let y = ap size c.whole ∙ plus_size c.first c.rest in
        let x = c.size in
        let q : row + size d.left ≡ n =
        cancel (wide w) (omega arith) (row + size d.left) n (add-mul row (size d.left) (wide w) ∙ omega (arith, length-drop m s, (fit_long w a b ua ub d.left d.fit).source)) in
        let r : row + k ≤ length o = omega arith in
        let cut : (row + k) * wide w ≤ n * wide w = mul-le-mul_right (wide w) (omega arith) in
        let far : (row + k) * wide w ≡ row * wide w + k * wide w = add-mul row k (wide w) in
        record {
          word = omega arith;
          some = omega arith;
          fits = r;
          cut_a = omega arith;
          cut_b = omega arith;
          first = record {
            parts = record { narrow = p.narrow; device_a = p.device_a; device_b = p.device_b; pair = c.first; fit = c.fit_first; each = x ∙ sym (mid_len row (row + k) o r ∙ omega arith) };
            single = c.single;
          };
        }
