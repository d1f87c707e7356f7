-- What holds after any run: every table is sound, of its own device and of the plan's shape; no floor names an event that
-- was not made; and beside the history there is a world of vectors, which fits the history and whose cells the tables hold.
use Prim.{Unit, tt}
use Prim.Native.Nat.{ℕ, ◌≤◌, ◌<◌}
use mathlib.Core.Path.{◌≡◌, refl, sym, ap, ap₂, ◌∙◌, subst}
use mathlib.Core.Bool.{Bool, true, false, cond, false≢true, true≢false}
use mathlib.Core.List.{List, []}
use mathlib.Core.Option.{Option, none, some, map}
use native.Mathlib.Nat.{le_refl}
use native.Mathlib.Omega.{arith}
use lib.Dec.{ltb, eqb}
use lib.Seq.{drop-nil}
use borrow.Author.Tests.{eqb-true, eq-eqb, ltb-true, ltb-false}
use Rattle.paper.specs.Columns.{Vec, zeros, covers}
use Rattle.paper.specs.Rules.{Cell, ruling, number_of}
use Rattle.paper.specs.Tree.{Forest, end, mapped}
use Rattle.paper.specs.Words.{wide, tree_from, Table, table_of, written}
use Rattle.paper.specs.Widths.{Width, width_of, table_any, check_any}
use Rattle.paper.specs.Order.{parse, forest_of}
use Rattle.paper.specs.Good.{rooted, GoodTable}
use Rattle.laws.proofs.Widths.{any_passes, any_read}
use Rattle.laws.proofs.Forests.{shape}
use Rattle.run.specs.Knowledge.{Sort}
use Rattle.run.specs.World.{World, next, tick, put}
use Rattle.paper.specs.Devices.{devices}
use Rattle.run.specs.Run.{State, replaced}
use Rattle.history.specs.Look.{cell_at, both}
use Rattle.history.proofs.Bridge.{Said}
use Rattle.paper.specs.Calls.{is_folder}
use Rattle.history.proofs.CellsFit.{Set}
use Rattle.history.proofs.WorldsAgree.{Inv}
use Rattle.history.proofs.CountersAhead.{Early, early_more}

-- WORLDS, cell by cell
module _ (S : Sort) (v : World S.K) where
  abbrev pub ticked_cell : ℕ → Bool → Cell S.K → Cell S.K
  ticked_cell d here c = record { row = c.row; known = S.made here (next S v d) c.known }

  -- another device
  pub put_there : (d : ℕ) (here : ℕ → Bool) (c : ℕ → Cell S.K) (x y : ℕ) → eqb x d ≡ false → (put S v d here c).cell x y ≡ v.cell x y
  unfolding put
  put_there d here c x y e = rw e

  -- a sheet that is put
  pub put_here : (d : ℕ) (here : ℕ → Bool) (c : ℕ → Cell S.K) (y : ℕ) → here y ≡ true → (put S v d here c).cell d y ≡ c y
  unfolding put
  put_here d here c y e = rw (eq-eqb d d refl, e)

  -- one that is not
  pub put_away : (d : ℕ) (here : ℕ → Bool) (c : ℕ → Cell S.K) (y : ℕ) → here y ≡ false → (put S v d here c).cell d y ≡ v.cell d y
  unfolding put
  put_away d here c y e = rw (eq-eqb d d refl, e)

  -- another device
  pub tick_there : (d s x y : ℕ) → eqb x d ≡ false → (tick S v d s).cell x y ≡ v.cell x y
  unfolding tick
  tick_there d s x y e = rw e

  -- the device itself
  pub tick_here : (d s y : ℕ) → (tick S v d s).cell d y ≡ ticked_cell d (eqb y s) (v.cell d y)
  unfolding tick
  tick_here d s y = rw (eq-eqb d d refl)

-- A table holds a world's cell, if it has a sheet there
abbrev pub Holds : Option (Cell Vec) → Cell Vec → Type 0
Holds none c = Unit {0}
Holds (some k) c = k ≡ c

-- what is done to both
pub holds_map : (f g : Cell Vec → Cell Vec) (o : Option (Cell Vec)) (c : Cell Vec) → ((k : Cell Vec) → k ≡ c → f k ≡ g c) → Holds o c → Holds (map f o) (g c)
holds_map f g none c h p = tt
holds_map f g (some k) c h p = h k p

-- what is made of two
pub holds_both : (f : Cell Vec → Cell Vec → Cell Vec) (o p : Option (Cell Vec)) (c d : Cell Vec) → Holds o c → Holds p d → Holds (both f o p) (f c d)
unfolding both
holds_both f none p c d h k = tt
holds_both f (some a) none c d h k = tt
holds_both f (some a) (some b) c d h k = ap₂ f h k

-- no words hold no rows, so they are no good table
pub no_tree : (table_any []).tree ≡ end
unfolding table_of mapped parse
no_tree = ap (λ l. tree_from (width_of []) (forest_of (wide (width_of [])) l)) (drop-nil (wide (width_of [])))

no_words : (w : ℕ) (t : List ℕ) → t ≡ [] → GoodTable w (table_any t) → ⊥
unfolding rooted
no_words w t e g = false≢true (sym (ap rooted (ap (λ l. (table_any l).tree) e ∙ no_tree)) ∙ g.root)

-- THE INVARIANT, of the devices and a plan's shape p, each table at its own width
pub record Kept (p : Forest (Unit {0}) (Unit {0})) (s : State) : Type 0 where
  pub sound : (d : ℕ) → d < devices → check_any (s.tables d) ≡ 0
  pub away : (d : ℕ) → devices ≤ d → s.tables d ≡ []
  pub device : (d : ℕ) → d < devices → (table_any (s.tables d)).clock.device ≡ d
  pub shapes : (d : ℕ) → d < devices → shape (table_any (s.tables d)).tree ≡ p
  pub early : (d : ℕ) → d < devices → Early (λ x. (table_any (s.tables x)).clock.counter) (table_any (s.tables d)).tree zeros
  pub flat : World Vec
  pub counts : (d : ℕ) → flat.count d ≡ (table_any (s.tables d)).clock.counter
  pub holds : (d y : ℕ) → Holds (cell_at (table_any (s.tables d)) y) (flat.cell d y)
  pub inv : Inv flat s.past

module _ (p : Forest (Unit {0}) (Unit {0})) (s : State) (k : Kept p s) where
  abbrev pub T : ℕ → Table
  T d = table_any (s.tables d)

  abbrev pub counter : Vec
  counter x = (table_any (s.tables x)).clock.counter

  -- a device on whose words a call is accepted is there
  pub there : (w d : ℕ) → GoodTable w (table_any (s.tables d)) → d < devices
  there w d c = go (ltb d devices) refl
    where
      go : (t : Bool) → ltb d devices ≡ t → d < devices
      go true e = ltb-true d devices e
      go false e = absurd (no_words w (s.tables d) (k.away d (ltb-false d devices e)) c)

  -- ONE TABLE CHANGED: device b's becomes t with w columns, and the worlds become v and h
  module _ (w : ℕ) (wide : Width w) (b : ℕ) (bw : b < devices) (t : Table) (good : GoodTable w t) (device : t.clock.device ≡ b) (shaped : shape t.tree ≡ p)
      (grows : (T b).clock.counter ≤ t.clock.counter) (early : Early counter t.tree zeros)
      (v : World Vec) (h : World Set)
      (count_b : v.count b ≡ t.clock.counter) (count_x : (x : ℕ) → eqb x b ≡ false → v.count x ≡ k.flat.count x)
      (cell_b : (y : ℕ) → Holds (cell_at t y) (v.cell b y)) (cell_x : (x y : ℕ) → eqb x b ≡ false → v.cell x y ≡ k.flat.cell x y)
      (inv : Inv v h) where
    table_at : (x : ℕ) (e : Bool) → eqb x b ≡ e → table_any (cond e (written w t) (s.tables x)) ≡ cond e t (T x)
    table_at x true e = any_read w wide t good
    table_at x false e = refl

    pub changed : Kept p (record { tables = replaced s.tables b (written w t); past = h })
    changed = record {
      sound = λ x l. sound' x l (eqb x b);
      away = λ x l. away' x l (eqb x b) refl;
      device = λ x l. ap (λ (z : Table). z.clock.device) (table_at x (eqb x b) refl) ∙ device' x l (eqb x b) refl;
      shapes = λ x l. ap (λ (z : Table). shape z.tree) (table_at x (eqb x b) refl) ∙ shapes' x l (eqb x b);
      early = λ x l.
          early_more counter (λ y. (table_any (cond (eqb y b) (written w t) (s.tables y))).clock.counter)
          (λ y. more y (eqb y b) refl) (table_any (cond (eqb x b) (written w t) (s.tables x))).tree zeros
          (subst (λ (z : Table). Early counter z.tree zeros) (sym (table_at x (eqb x b) refl)) (early' x l (eqb x b)));
      flat = v;
      counts = λ x. counts' x (eqb x b) refl ∙ sym (ap (λ (z : Table). z.clock.counter) (table_at x (eqb x b) refl));
      holds = λ x y. subst (λ z. Holds (cell_at z y) (v.cell x y)) (sym (table_at x (eqb x b) refl)) (holds' x y (eqb x b) refl);
      inv = inv;
    }
      where
        sound' : (x : ℕ) → x < devices → (e : Bool) → check_any (cond e (written w t) (s.tables x)) ≡ 0
        sound' x l true = any_passes w wide t good
        sound' x l false = k.sound x l

        away' : (x : ℕ) → devices ≤ x → (e : Bool) → eqb x b ≡ e → cond e (written w t) (s.tables x) ≡ []
        away' x l true e = absurd (omega (arith, eqb-true x b e))
        away' x l false e = k.away x l

        device' : (x : ℕ) → x < devices → (e : Bool) → eqb x b ≡ e → (cond e t (T x)).clock.device ≡ x
        device' x l true e = device ∙ sym (eqb-true x b e)
        device' x l false e = k.device x l

        shapes' : (x : ℕ) → x < devices → (e : Bool) → shape (cond e t (T x)).tree ≡ p
        shapes' x l true = shaped
        shapes' x l false = k.shapes x l

        more : (y : ℕ) (e : Bool) → eqb y b ≡ e → counter y ≤ (table_any (cond e (written w t) (s.tables y))).clock.counter
        more y true e =
            let z : (table_any (written w t)).clock.counter ≡ t.clock.counter = ap (λ (z : Table). z.clock.counter) (any_read w wide t good) in omega (arith, grows, ap counter (eqb-true y b e))
        more y false e = le_refl _

        early' : (x : ℕ) → x < devices → (e : Bool) → Early counter (cond e t (T x)).tree zeros
        early' x l true = early
        early' x l false = k.early x l

        counts' : (x : ℕ) (e : Bool) → eqb x b ≡ e → v.count x ≡ (cond e t (T x)).clock.counter
        counts' x true e = ap v.count (eqb-true x b e) ∙ count_b
        counts' x false e = count_x x e ∙ k.counts x

        holds' : (x y : ℕ) (e : Bool) → eqb x b ≡ e → Holds (cell_at (cond e t (T x)) y) (v.cell x y)
        holds' x y true e = subst (λ z. Holds (cell_at t y) (v.cell z y)) (sym (eqb-true x b e)) (cell_b y)
        holds' x y false e = subst (Holds (cell_at (T x) y)) (sym (cell_x x y e)) (k.holds x y)

  -- the cell of a sheet that a table holds
  pub held : (d y : ℕ) (c : Cell Vec) → cell_at (T d) y ≡ some c → c ≡ k.flat.cell d y
  held d y c e = subst (λ o. Holds o (k.flat.cell d y)) e (k.holds d y)

-- a number said of two sheets whose cells a world has
pub said_held : (n : ℕ) (o p : Option (Cell Vec)) (c d : Cell Vec) → is_folder o ≡ false → is_folder p ≡ false → Holds o c → Holds p d → Said n (both (ruling covers) o p)
    → n ≡ number_of (ruling covers c d)
unfolding both
said_held n none p c d e f h k s = absurd (true≢false e)
said_held n (some x) none c d e f h k s = absurd (true≢false f)
said_held n (some x) (some y) c d e f h k s = s ∙ ap₂ (λ x y. number_of (ruling covers x y)) h k
