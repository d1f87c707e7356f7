-- How parts are cut: at the end of the first row with all beneath it, and after a folder's own row.
use Prim.Native.Nat.{ℕ, ◌*◌, ◌<◌}
use mathlib.Core.Path.{◌≡◌, refl, sym, ap, subst, ◌∙◌}
use mathlib.Core.List.{List, [], ◌++◌, append-nil}
use native.Mathlib.Omega.{arith}
use lib.ListN.{length, take, drop}
use lib.Seq.{take_at, drop_at}
use Rattle.paper.specs.declared.Clock.{Clock}
use Rattle.paper.specs.Columns.{Vec, greatest}
use Rattle.paper.specs.declared.Kind.{Kind}
use Rattle.paper.specs.declared.Kind.TheVariants.{Never as never, Live as live, Removed as removed}
use Rattle.paper.specs.Tree.{end, sheet, folder, mapped, size, plus, Sheet, Tree}
use Rattle.paper.specs.Walk.{Two, Pair, left, right}
use Rattle.paper.specs.Order.{kind_word, size_word, words_of}
use Rattle.paper.specs.Words.{wide, kind_number, sheet_words, folder_words, folder_row, rows_of, tree_words}
use Rattle.paper.specs.Good.{GoodFloor, GoodSheet, Good}
use Rattle.laws.proofs.Forests.{mapped_size, mapped_plus}
use Rattle.laws.proofs.WrittenRows.{folder_long, tree_length}
use Rattle.walk.specs.Parts.{Single, one_sheet, one_folder, Fit}
use Rattle.walk.proofs.SiblingsWalked.{tree_plus, good_plus}

-- no sheet's kind is a folder's
not_folder : (k : Kind) → kind_number k ≡ 3 → ⊥
unfolding kind_number
not_folder never e = omega arith
not_folder live e = omega arith
not_folder removed e = omega arith

-- some siblings are none, or a row and then others
data View : Pair → Type 0 where
  none : View end
  cut : (h r : Pair) → Single h → View (plus h r)

view : (p : Pair) → View p
unfolding plus
view end = none
view (sheet x r) = cut (sheet x end) r (one_sheet x)
view (folder y k r) = cut (folder y k end) r (one_folder y k)

module _ (w : ℕ) where
  abbrev words_a : Pair → List ℕ
  words_a p = tree_words w (left p)

  abbrev words_b : Pair → List ℕ
  words_b p = tree_words w (right p)

  length_a : (p : Pair) → length (words_a p) ≡ size p * wide w
  length_a p = tree_length w (left p) ∙ ap (λ (n : ℕ). n * wide w) (mapped_size _ _ p)

  length_b : (p : Pair) → length (words_b p) ≡ size p * wide w
  length_b p = tree_length w (right p) ∙ ap (λ (n : ℕ). n * wide w) (mapped_size _ _ p)

  plus_a : (h r : Pair) → words_a (plus h r) ≡ words_a h ++ words_a r
  plus_a h r = ap (tree_words w) (mapped_plus _ _ h r) ∙ tree_plus w (left h) (left r)

  plus_b : (h r : Pair) → words_b (plus h r) ≡ words_b h ++ words_b r
  plus_b h r = ap (tree_words w) (mapped_plus _ _ h r) ∙ tree_plus w (right h) (right r)

  -- the kind and the size in the first row
  folder_kind : (f : Vec) (k : Tree) (q : List ℕ) → kind_word (folder_row w f k ++ q) ≡ 3
  unfolding folder_words
  folder_kind f k q = refl

  sheet_kind : (s : Sheet) (q : List ℕ) → kind_word (sheet_words w s ++ q) ≡ kind_number s.row.kind
  unfolding sheet_words
  sheet_kind s q = refl

  size_word_lem : (h : Pair) (q : List ℕ) → Single h → size_word (words_a h ++ q) ≡ size h
  unfolding words_of rows_of mapped size sheet_words folder_words
  size_word_lem _ q (one_sheet x) = refl
  size_word_lem _ q (one_folder y k) = omega (arith, mapped_size (λ (x : Two Sheet). x.a) (λ (z : Two Vec). z.a) k)

  -- there is at least one row
  pub single_size : (h : Pair) → Single h → 0 < size h
  unfolding size
  single_size _ (one_sheet x) = omega arith
  single_size _ (one_folder y k) = omega arith

  module _ (a b : Clock) (ua ub : Vec) where
    -- as many words on either side as rows
    pub record Long (n : ℕ) (s t : List ℕ) : Type 0 where
      pub source : length s ≡ n * wide w
      pub target : length t ≡ n * wide w

    -- so of every pair that fits
    pub fit_long : (p : Pair) {s t : List ℕ} → Fit w a b ua ub p s t → Long (size p) s t
    fit_long p f = record { source = ap length (sym f.source) ∙ length_a p; target = ap length (sym f.target) ∙ length_b p }

    -- a part cut after the first row and all beneath it, k rows
    pub record Cut (p : Pair) (s t : List ℕ) (k : ℕ) : Type 0 where
      pub first : Pair
      pub rest : Pair
      pub single : Single first
      pub whole : p ≡ plus first rest
      pub size : size first ≡ k
      pub fit_first : Fit w a b ua ub first (take (k * wide w) s) (take (k * wide w) t)
      pub fit_rest : Fit w a b ua ub rest (drop (k * wide w) s) (drop (k * wide w) t)

    cut_of : (p : Pair) {s t : List ℕ} → Fit w a b ua ub p s t → 0 < length s → View p → Cut p s t (size_word s)
    unfolding words_of rows_of mapped
    cut_of _ f l none = absurd (omega (arith, ap length f.source))
    cut_of _ {s} {t} f l (cut h r x) =
        let ea = sym f.source ∙ plus_a h r in
        let eb = sym f.target ∙ plus_b h r in
        let z : size_word s ≡ size h = ap size_word ea ∙ size_word_lem h (words_a r) x in
        let ga = good_plus w a ua (left h) (left r) (subst (λ (q : Tree). Good w a q ua) (mapped_plus _ _ h r) f.good_a) in
        let gb = good_plus w b ub (right h) (right r) (subst (λ (q : Tree). Good w b q ub) (mapped_plus _ _ h r) f.good_b) in
        let n = size_word s * wide w in
        let la : length (words_a h) ≡ n = length_a h ∙ ap (λ (k : ℕ). k * wide w) (sym z) in
        let lb : length (words_b h) ≡ n = length_b h ∙ ap (λ (k : ℕ). k * wide w) (sym z) in
        record {
          first = h;
          rest = r;
          single = x;
          whole = refl;
          size = sym z;
          fit_first = record {
            good_a = ga.0;
            good_b = gb.0;
            source = sym (ap (take n) ea ∙ take_at (words_a h) (words_a r) n la);
            target = sym (ap (take n) eb ∙ take_at (words_b h) (words_b r) n lb);
          };
          fit_rest = record {
            good_a = ga.1;
            good_b = gb.1;
            source = sym (ap (drop n) ea ∙ drop_at (words_a h) (words_a r) n la);
            target = sym (ap (drop n) eb ∙ drop_at (words_b h) (words_b r) n lb);
          };
        }

    -- a part with words can be cut
    pub cut_first : (p : Pair) {s t : List ℕ} → Fit w a b ua ub p s t → 0 < length s → Cut p s t (size_word s)
    cut_first p f l = cut_of p f l (view p)

    -- a part with no words has no rows
    pub no_rows : (p : Pair) {s t : List ℕ} → Fit w a b ua ub p s t → length s ≡ 0 → (p ≡ end) × (t ≡ [])
    unfolding size words_of rows_of mapped
    no_rows end f e = (refl, sym f.target)
    no_rows (sheet x r) f e = absurd (omega (arith, (fit_long (sheet x r) f).source))
    no_rows (folder y k r) f e = absurd (omega (arith, (fit_long (folder y k r) f).source))

    -- a row that is a sheet
    pub record Leaf (p : Pair) (s t : List ℕ) : Type 0 where
      pub at : Two Sheet
      pub whole : p ≡ sheet at end
      pub source : s ≡ sheet_words w at.a ++ []
      pub target : t ≡ sheet_words w at.b ++ []
      pub good_a : GoodSheet w a ua at.a
      pub good_b : GoodSheet w b ub at.b

    pub leaf : (p : Pair) {s t : List ℕ} → Single p → Fit w a b ua ub p s t → (kind_word s ≡ 3 → ⊥) → Leaf p s t
    unfolding words_of rows_of mapped
    leaf _ (one_sheet x) f h =
        record { at = x; whole = refl; source = sym f.source; target = sym f.target; good_a = f.good_a.0; good_b = f.good_b.0 }
    leaf _ {s} (one_folder y k) f h = absurd (h (ap kind_word (sym f.source) ∙ folder_kind y.a (left k) (words_a k ++ [])))

    -- a row that is a folder: its own words, and those of its children
    pub record Below (p : Pair) (s t : List ℕ) : Type 0 where
      pub floors : Two Vec
      pub children : Pair
      pub whole : p ≡ folder floors children end
      pub source : s ≡ folder_row w floors.a (left children) ++ words_a children
      pub target : t ≡ folder_row w floors.b (right children) ++ words_b children
      pub good_a : GoodFloor w a floors.a
      pub good_b : GoodFloor w b floors.b
      pub fit : Fit w a b (greatest ua floors.a) (greatest ub floors.b) children (drop (wide w) s) (drop (wide w) t)

    pub below : (p : Pair) {s t : List ℕ} → Single p → Fit w a b ua ub p s t → kind_word s ≡ 3 → Below p s t
    unfolding words_of rows_of mapped
    below _ {s} (one_sheet x) f h = absurd (not_folder x.a.row.kind (sym (ap kind_word (sym f.source) ∙ sheet_kind x.a []) ∙ h))
    below _ {s} {t} (one_folder y k) f h =
        let ra = folder_row w y.a (left k) in
        let rb = folder_row w y.b (right k) in
        let ea : s ≡ ra ++ words_a k = sym f.source ∙ ap (λ (l : List ℕ). ra ++ l) (append-nil (words_a k)) in
        let eb : t ≡ rb ++ words_b k = sym f.target ∙ ap (λ (l : List ℕ). rb ++ l) (append-nil (words_b k)) in
        record {
          floors = y;
          children = k;
          whole = refl;
          source = ea;
          target = eb;
          good_a = f.good_a.0;
          good_b = f.good_b.0;
          fit = record {
            good_a = f.good_a.1;
            good_b = f.good_b.1;
            source = sym (ap (drop (wide w)) ea ∙ drop_at ra (words_a k) (wide w) (folder_long w _ _ _ _ _));
            target = sym (ap (drop (wide w)) eb ∙ drop_at rb (words_b k) (wide w) (folder_long w _ _ _ _ _));
          };
        }
