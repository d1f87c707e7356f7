-- One cell known by a vector and one known by a set of events: they fit each other when they have one row, and the vector
-- covers exactly those events of the sheet that are in the set. Cells that fit give one ruling, and they fit again when they
-- are ruled, joined, or told of an own event.
use Prim.{Unit, tt}
use Prim.Native.Nat.{ℕ, suc, ◌≤◌, max, ◌<◌}
use mathlib.Core.Path.{◌≡◌, refl, sym, ap, ap₂, ◌∙◌}
use mathlib.Core.Bool.{Bool, true, false, ◌&&◌, ◌||◌, cond}
use native.Mathlib.Omega.{arith}
use lib.Dec.{leb, eqb}
use borrow.Author.Tests.{leb-true, leb-false, eqb-true, eqb-false, le-leb, lt-leb, eq-eqb}
use Rattle.paper.specs.declared.Ruling.{Ruling}
use Rattle.paper.specs.declared.Ruling.TheVariants.{KeepOwn, KeepTheirs, Copy, Remove, Conflict}
use Rattle.paper.specs.declared.Stamp.{Stamp}
use Rattle.paper.specs.Columns.{Vec, covers}
use Rattle.paper.specs.declared.Kind.{Kind}
use Rattle.paper.specs.declared.Kind.TheVariants.{Never as never, Live as live, Removed as removed}
use Rattle.paper.specs.Rules.{Row, Heard, news, rule, Cell, ruling}
use Rattle.laws.proofs.Bools.{and_both, not_so}
use Rattle.run.specs.Knowledge.{sets, same, ruled, passed}
use Rattle.history.specs.Vectors.{vectors}

abbrev pub Set : Type 0
Set = Stamp → Bool

-- X, of a row that has a stamp; of a row that has a birth
abbrev pub Stamped : Kind → Type 0 → Type 0
Stamped never X = Unit {0}
Stamped live X = X
Stamped removed X = X

abbrev pub Born : Kind → Type 0 → Type 0
Born never X = Unit {0}
Born live X = X
Born removed X = Unit {0}

-- facts of a stamp, and of a birth, pass on
pub stamped_map : {X Y : Type 0} (k : Kind) → (X → Y) → Stamped k X → Stamped k Y
stamped_map never f x = tt
stamped_map live f x = f x
stamped_map removed f x = f x

-- facts of a birth
pub born_map : {X Y : Type 0} (k : Kind) → (X → Y) → Born k X → Born k Y
born_map never f x = tt
born_map live f x = f x
born_map removed f x = tt

-- Device d's cells of one sheet fit, where `count` says how many events each device has made, and `log` which events were
-- made at this sheet: the rows are one; the vector names no event that wasn't made yet, and all the own ones; of the
-- sheet's events it covers exactly those in the set; the set holds the sheet's events alone, and the row's stamp and birth.
pub record Fits (count : ℕ → ℕ) (log : Set) (d : ℕ) (v : Cell Vec) (h : Cell Set) : Type 0 where
  pub rows : v.row ≡ h.row
  pub bound : (x : ℕ) → v.known x ≤ count x
  pub own : v.known d ≡ count d
  pub agree : (e : Stamp) → log e ≡ true → covers v.known e ≡ h.known e
  pub sub : (e : Stamp) → h.known e ≡ true → log e ≡ true
  pub stamp : Stamped h.row.kind (h.known h.row.stamp ≡ true)
  pub birth : Born h.row.kind (h.known h.row.birth ≡ true)

-- THE RULES read a stamp only of a row that has one, and a birth only of a row that has one.
rule_agree : (ka kb : Kind) (p q : Heard) → Stamped ka (p.stamp_a ≡ q.stamp_a) → Stamped kb (p.stamp_b ≡ q.stamp_b) → Born ka (p.birth_a ≡ q.birth_a) → Born kb (p.birth_b ≡ q.birth_b)
    → rule ka kb p ≡ rule ka kb q
unfolding rule news
rule_agree never kb p q e₁ e₂ e₃ e₄ = go p.stamp_a q.stamp_a
  where
    go : (s t : Bool) → cond s KeepOwn KeepOwn ≡ cond t KeepOwn KeepOwn
    go true true = refl
    go true false = refl
    go false true = refl
    go false false = refl
rule_agree live never p q e₁ e₂ e₃ e₄ = rw e₁
rule_agree live live p q e₁ e₂ e₃ e₄ = rw (e₁, e₂)
rule_agree live removed p q e₁ e₂ e₃ e₄ = rw (e₁, e₂, e₃)
rule_agree removed never p q e₁ e₂ e₃ e₄ = rw e₁
rule_agree removed live p q e₁ e₂ e₃ e₄ = rw (e₁, e₂, e₄)
rule_agree removed removed p q e₁ e₂ e₃ e₄ = rw (e₁, e₂)

-- A RULING is one for both
pub rulings : {count : ℕ → ℕ} {log : Set} {a b : ℕ} {va vb : Cell Vec} {ha hb : Cell Set} → Fits count log a va ha → Fits count log b vb hb → ruling vectors.knows va vb ≡ ruling sets.knows ha hb
unfolding ruling
rulings {ha = ha} {hb = hb} fa fb =
    rw (fa.rows, fb.rows)
    (rule_agree ha.row.kind hb.row.kind _ _
    (stamped_map ha.row.kind (λ k. fb.agree ha.row.stamp (fa.sub _ k)) fa.stamp)
    (stamped_map hb.row.kind (λ k. fa.agree hb.row.stamp (fb.sub _ k)) fb.stamp)
    (born_map ha.row.kind (λ k. fb.agree ha.row.birth (fa.sub _ k)) fa.birth)
    (born_map hb.row.kind (λ k. fa.agree hb.row.birth (fb.sub _ k)) fb.birth))

-- JOINING

leb_max : (n a b : ℕ) → leb n (max a b) ≡ (leb n a || leb n b)
leb_max n a b = go (leb n a) (leb n b) refl refl
  where
    go : (p q : Bool) → leb n a ≡ p → leb n b ≡ q → leb n (max a b) ≡ (leb n a || leb n b)
    go true q e f = rw e (le-leb n (max a b) (omega (arith, leb-true n a e)))
    go false true e f = rw (e, f) (le-leb n (max a b) (omega (arith, leb-true n b f)))
    go false false e f = rw (e, f) (lt-leb n (max a b) (omega (arith, leb-false n a e, leb-false n b f)))

-- the first of two is enough
pub or_first : (p q : Bool) → p ≡ true → (p || q) ≡ true
or_first p q e = rw e

-- and so is the second
pub or_second : (p q : Bool) → q ≡ true → (p || q) ≡ true
or_second true q e = refl
or_second false q e = e

or_cases : {X : Type 0} (p q : Bool) → (p ≡ true → X) → (q ≡ true → X) → (p || q) ≡ true → X
or_cases true q f g e = f refl
or_cases false q f g e = g e

module _ {count : ℕ → ℕ} {log : Set} {a b : ℕ} {va vb : Cell Vec} {ha hb : Cell Set} (fa : Fits count log a va ha) (fb : Fits count log b vb hb) where
  -- what both know, with a row whose stamp and birth are in the joined set
  pub join_fits : (rv rh : Row) → rv ≡ rh
      → Stamped rh.kind (sets.join ha.known hb.known rh.stamp ≡ true)
      → Born rh.kind (sets.join ha.known hb.known rh.birth ≡ true)
      → Fits count log b (record { row = rv; known = vectors.join va.known vb.known }) (record { row = rh; known = sets.join ha.known hb.known })
  join_fits rv rh e st bi = record {
    rows = e;
    bound = λ x. omega (arith, fa.bound x, fb.bound x);
    own = omega (arith, fa.bound b, fb.own);
    agree = λ e l. leb_max e.count (va.known e.device) (vb.known e.device) ∙ ap₂ ◌||◌ (fa.agree e l) (fb.agree e l);
    sub = λ e k. or_cases (ha.known e) (hb.known e) (fa.sub e) (fb.sub e) k;
    stamp = st;
    birth = bi;
  }

  pub take_fits : Fits count log b (record { row = va.row; known = vectors.join va.known vb.known }) (record { row = ha.row; known = sets.join ha.known hb.known })
  take_fits =
      join_fits va.row ha.row fa.rows
      (stamped_map ha.row.kind (or_first _ (hb.known ha.row.stamp)) fa.stamp)
      (born_map ha.row.kind (or_first _ (hb.known ha.row.birth)) fa.birth)

  pub stay_fits : Fits count log b (record { row = vb.row; known = vectors.join va.known vb.known }) (record { row = hb.row; known = sets.join ha.known hb.known })
  stay_fits =
      join_fits vb.row hb.row fb.rows
      (stamped_map hb.row.kind (or_second (ha.known hb.row.stamp) _) fb.stamp)
      (born_map hb.row.kind (or_second (ha.known hb.row.birth) _) fb.birth)

  ruled_fits : (r : Ruling) → Fits count log b (ruled vectors r va vb) (ruled sets r ha hb)
  unfolding ruled
  ruled_fits KeepOwn = stay_fits
  ruled_fits KeepTheirs = take_fits
  ruled_fits Copy = take_fits
  ruled_fits Remove = take_fits
  ruled_fits Conflict = fb

  -- and under the ruling of the rules
  pub passed_fits : Fits count log b (passed vectors va vb) (passed sets ha hb)
  unfolding passed
  passed_fits = rw (rulings fa fb) (ruled_fits (ruling sets.knows ha hb))

-- AN OWN EVENT

same_true : (e f : Stamp) → same e f ≡ true → (e.device ≡ f.device) × (e.count ≡ f.count)
same_true e f h = let p = and_both (eqb e.device f.device) (eqb e.count f.count) h in (eqb-true _ _ p.0, eqb-true _ _ p.1)

-- an event is itself
pub same_refl : (e : Stamp) → same e e ≡ true
same_refl e = rw (eq-eqb e.device e.device refl, eq-eqb e.count e.count refl)

-- what is in a set after the event n: that event, if it was made here, or what was in it before
made_cases : {X : Type 0} (here : Bool) (n : Stamp) (k : Set) (e : Stamp) → (here ≡ true → same e n ≡ true → e.device ≡ n.device → e.count ≡ n.count → X) → (k e ≡ true → X)
    → sets.made here n k e ≡ true → X
made_cases here n k e f g =
    or_cases (here && same e n) (k e)
    (λ y.
    let p = and_both here (same e n) y in
    let q = same_true e n p.1 in
    f p.0 p.1 q.0 q.1)
    g

made_old : (here : Bool) (n : Stamp) (k : Set) (e : Stamp) → k e ≡ true → sets.made here n k e ≡ true
made_old here n k e = or_second (here && same e n) (k e)

-- one device's count goes up
module _ (count : ℕ → ℕ) (d : ℕ) where
  abbrev pub up : ℕ → ℕ
  up x = cond (eqb x d) (suc (count x)) (count x)

  abbrev pub fresh : Stamp
  fresh = record { device = d; count = suc (count d) }

  -- counts only go up
  pub up_le : (z : ℕ) → count z ≤ up z
  up_le z = go (eqb z d)
    where
      go : (t : Bool) → count z ≤ cond t (suc (count z)) (count z)
      go true = omega arith
      go false = omega arith

  up_at : (z : ℕ) → z ≡ d → up z ≡ suc (count d)
  up_at z e = rw (eq-eqb z d e) (ap (λ y. suc (count y)) e)

  -- an event of a log after the next one has a count of at least 1, as those of the log before have
  pub made_named : (log : Set) (here : Bool) (e : Stamp) → (log e ≡ true → 0 < e.count) → sets.made here fresh log e ≡ true → 0 < e.count
  made_named log here e h = made_cases here fresh log e (λ k q p₀ p₁. omega (arith, p₁)) h

  module _ (log : Set) (past : (e : Stamp) → log e ≡ true → e.count ≤ count e.device) (here : Bool) where
    abbrev pub logged : Set
    logged = sets.made here fresh log

    -- every logged event has been made
    pub past_up : (e : Stamp) → logged e ≡ true → e.count ≤ up e.device
    past_up e = made_cases here fresh log e (λ k q p₀ p₁. omega (arith, up_at e.device p₀)) (λ k. omega (arith, past e k, up_le e.device))

    module _ (x : ℕ) (v : Cell Vec) (h : Cell Set) (f : Fits count log x v h) where
      -- another device
      pub other_fits : eqb x d ≡ false → Fits up logged x v h
      other_fits ne = record {
        rows = f.rows;
        bound = λ z. omega (arith, f.bound z, up_le z);
        own = rw ne f.own;
        agree = λ e. made_cases here fresh log e
            (λ k q p₀ p₁.
            lt-leb e.count (v.known e.device) (omega (arith, f.bound e.device, ap count p₀))
            ∙ sym (not_so (h.known e) (λ y. omega (arith, past e (f.sub e y), ap count p₀))))
            (f.agree e);
        sub = λ e y. made_old here fresh log e (f.sub e y);
        stamp = f.stamp;
        birth = f.birth;
      }

      -- the device itself
      pub self_fits : eqb x d ≡ true → Fits up logged x (record { row = v.row; known = vectors.made here fresh v.known }) (record { row = h.row; known = sets.made here fresh h.known })
      self_fits eq = record {
        rows = f.rows;
        bound = λ z. bound' z (eqb z d) refl;
        own = rw eq (ap (λ y. suc (count y)) (sym (eqb-true x d eq)));
        agree = λ e l. agree' e l (eqb e.device d) refl;
        sub = λ e. made_cases here fresh h.known e (λ k q p₀ p₁. rw (k, q)) (λ y. made_old here fresh log e (f.sub e y));
        stamp = stamped_map h.row.kind (made_old here fresh h.known h.row.stamp) f.stamp;
        birth = born_map h.row.kind (made_old here fresh h.known h.row.birth) f.birth;
      }
        where
          bound' : (z : ℕ) (t : Bool) → eqb z d ≡ t → cond t (suc (count d)) (v.known z) ≤ cond t (suc (count z)) (count z)
          bound' z true e = omega (arith, ap count (eqb-true z d e))
          bound' z false e = f.bound z

          known_own : (e : Stamp) → e.device ≡ d → log e ≡ true → h.known e ≡ true
          known_own e p l =
              sym (f.agree e l)
              ∙ le-leb e.count (v.known e.device) (omega (arith, past e l, f.own, ap v.known p, ap count p, ap v.known (eqb-true x d eq), ap count (eqb-true x d eq)))

          agree' : (e : Stamp) → logged e ≡ true → (t : Bool) → eqb e.device d ≡ t
              → leb e.count (cond t (suc (count d)) (v.known e.device)) ≡ ((here && (t && eqb e.count (suc (count d)))) || h.known e)
          agree' e l true q = made_cases here fresh log e
              (λ k s p₀ p₁. le-leb e.count (suc (count d)) (omega arith) ∙ sym (rw (k, eq-eqb e.count (suc (count d)) p₁)))
              (λ k.
              le-leb e.count (suc (count d)) (omega (arith, past e k, ap count (eqb-true e.device d q)))
              ∙ sym (or_second (here && eqb e.count (suc (count d))) _ (known_own e (eqb-true e.device d q) k)))
              l
          agree' e l false q = made_cases here fresh log e
              (λ k s p₀ p₁. absurd (eqb-false e.device d q p₀))
              (λ k. f.agree e k ∙ no here)
              l
            where
              no : (t : Bool) → h.known e ≡ ((t && false) || h.known e)
              no true = refl
              no false = refl
