-- Some siblings and then others: words, good trees, and a walk over them.
use Prim.{tt}
use Prim.Native.Nat.{ℕ, suc, ◌+◌, ◌≤◌}
use mathlib.Core.Path.{◌≡◌, refl, sym, ap, ◌∙◌}
use mathlib.Core.List.{List, ◌∷◌, ◌++◌, append_assoc}
use mathlib.Core.Bool.{Bool, true, false, cond}
use native.Mathlib.Omega.{arith}
use Rattle.paper.specs.declared.Clock.{Clock}
use Rattle.paper.specs.Columns.{Vec, greatest}
use Rattle.paper.specs.Rules.{number_of}
use Rattle.paper.specs.Tree.{end, sheet, folder, size, plus, Tree, full_least}
use Rattle.paper.specs.Walk.{Pair, left, right, raised, silent, rule_at, ruled, over, walk, answers, looked}
use Rattle.paper.specs.Order.{words_of}
use Rattle.paper.specs.Words.{sheet_words, folder_row, rows_of, tree_words}
use Rattle.paper.specs.Good.{Good}

-- three parts
pub plus_plus : (p q r : Pair) → plus (plus p q) r ≡ plus p (plus q r)
unfolding plus
plus_plus end q r = refl
plus_plus (sheet x p) q r = ap (sheet x) (plus_plus p q r)
plus_plus (folder y k p) q r = ap (folder y k) (plus_plus p q r)

module _ (w : ℕ) where
  -- WORDS
  pub tree_plus : (s t : Tree) → tree_words w (plus s t) ≡ tree_words w s ++ tree_words w t
  unfolding rows_of words_of plus
  tree_plus end t = refl
  tree_plus (sheet x r) t =
      ap (λ (l : List ℕ). sheet_words w x ++ l) (tree_plus r t) ∙ sym (append_assoc (sheet_words w x) (tree_words w r) (tree_words w t))
  tree_plus (folder f k r) t =
      ap (λ (l : List ℕ). folder_row w f k ++ (tree_words w k ++ l)) (tree_plus r t)
      ∙ ap (λ (l : List ℕ). folder_row w f k ++ l) (sym (append_assoc (tree_words w k) (tree_words w r) (tree_words w t)))
      ∙ sym (append_assoc (folder_row w f k) (tree_words w k ++ tree_words w r) (tree_words w t))

  -- GOOD TREES
  pub good_plus : (c : Clock) (u : Vec) (s t : Tree) → Good w c (plus s t) u → Good w c s u × Good w c t u
  unfolding plus
  good_plus c u end t g = (tt, g)
  good_plus c u (sheet x r) t g = let h = good_plus c u r t g.1 in ((g.0, h.0), h.1)
  good_plus c u (folder f k r) t g = let h = good_plus c u r t g.2 in ((g.0, g.1, h.0), h.1)

  -- A WALK
  module _ (a b : Clock) where
    -- target, answers and rows looked at, one part after the other
    pub walk_plus : (p q : Pair) (ua ub : Vec) → walk w a b (plus p q) ua ub ≡ plus (walk w a b p ua ub) (walk w a b q ua ub)
    unfolding walk plus
    walk_plus end q ua ub = refl
    walk_plus (sheet x r) q ua ub = ap (sheet (ruled a b ua (rule_at a b ua ub x) x)) (walk_plus r q ua ub)
    walk_plus (folder y k r) q ua ub =
        go (over w a b ua ub y k) (raised b y.b (full_least a ua y.a (left k))) (right k) y.b
        (walk w a b k (greatest ua y.a) (greatest ub y.b)) (walk w a b r ua ub) (walk w a b q ua ub) (walk_plus r q ua ub)
      where
        go : (o : Bool) (f : Vec) (l : Tree) (g : Vec) (m x y : Tree) {z : Tree} → z ≡ plus x y → cond o (folder f l z) (folder g m z) ≡ plus (cond o (folder f l x) (folder g m x)) y
        go true f l g m x y e = ap (folder f l) e
        go false f l g m x y e = ap (folder g m) e

    pub answers_plus : (p q : Pair) (ua ub : Vec) → answers w a b (plus p q) ua ub ≡ answers w a b p ua ub ++ answers w a b q ua ub
    unfolding answers plus
    answers_plus end q ua ub = refl
    answers_plus (sheet x r) q ua ub = ap (λ (l : List ℕ). number_of (rule_at a b ua ub x) ∷ l) (answers_plus r q ua ub)
    answers_plus (folder y k r) q ua ub =
        go (over w a b ua ub y k) (silent k) (answers w a b k (greatest ua y.a) (greatest ub y.b)) (answers w a b r ua ub) (answers w a b q ua ub) (answers_plus r q ua ub)
      where
        go : (o : Bool) (s t x y : List ℕ) {z : List ℕ} → z ≡ x ++ y → cond o (5 ∷ s ++ z) (4 ∷ t ++ z) ≡ cond o (5 ∷ s ++ x) (4 ∷ t ++ x) ++ y
        go true s t x y e = ap (λ (l : List ℕ). 5 ∷ l) (ap (λ (l : List ℕ). s ++ l) e ∙ sym (append_assoc s x y))
        go false s t x y e = ap (λ (l : List ℕ). 4 ∷ l) (ap (λ (l : List ℕ). t ++ l) e ∙ sym (append_assoc t x y))

    pub looked_plus : (p q : Pair) (ua ub : Vec) → looked w a b (plus p q) ua ub ≡ looked w a b p ua ub + looked w a b q ua ub
    unfolding looked plus
    looked_plus end q ua ub = omega arith
    looked_plus (sheet x r) q ua ub = omega (arith, looked_plus r q ua ub)
    looked_plus (folder y k r) q ua ub = omega (arith, looked_plus r q ua ub)

    -- no more rows are looked at than there are
    pub looked_size : (p : Pair) (ua ub : Vec) → looked w a b p ua ub ≤ size p
    unfolding looked size
    looked_size end ua ub = omega arith
    looked_size (sheet x r) ua ub = omega (arith, looked_size r ua ub)
    looked_size (folder y k r) ua ub = go (over w a b ua ub y k) (looked_size k (greatest ua y.a) (greatest ub y.b)) (looked_size r ua ub)
      where
        go : (o : Bool) {t u m n : ℕ} → t ≤ m → u ≤ n → suc (cond o 0 t + u) ≤ suc (m + n)
        go true h l = omega arith
        go false h l = omega arith
