-- A world of vectors and one of sets agree when all their cells fit. Events, passes and settlings keep that.
use Prim.{Unit, tt}
use Prim.Native.Nat.{ℕ, suc, ◌≤◌, ◌<◌}
use mathlib.Core.Path.{◌≡◌, refl, sym, ap, ap₂, ◌∙◌}
use mathlib.Core.Bool.{Bool, true, false, ◌&&◌, cond, false≢true}
use native.Mathlib.Omega.{arith}
use lib.Dec.{eqb}
use borrow.Author.Tests.{eqb-true, eq-eqb}
use Rattle.paper.specs.declared.Ruling.TheVariants.{KeepOwn, KeepTheirs, Conflict}
use Rattle.paper.specs.declared.Stamp.{Stamp}
use Rattle.paper.specs.declared.Content.{Content}
use Rattle.paper.specs.Columns.{Vec}
use Rattle.paper.specs.declared.Kind.{Kind}
use Rattle.paper.specs.declared.Kind.TheVariants.{Never as never, Live as live, Removed as removed}
use Rattle.paper.specs.Rules.{Row, Heard, news, rule, Cell, ruling}
use Rattle.paper.specs.declared.Event.{Event}
use Rattle.paper.specs.declared.Event.TheVariants.{Creates as creates, Changes as changes, Removes as removes}
use Rattle.paper.specs.declared.Choice.{Choice}
use Rattle.paper.specs.declared.Choice.TheVariants.{Theirs as theirs, Own as own, New as new}
use Rattle.paper.specs.Acts.{is_live, fits, event_row, birth_of, settle_row}
use Rattle.run.specs.Knowledge.{Sort, sets}
use Rattle.history.specs.Vectors.{vectors}
use Rattle.run.specs.World.{World, begin, next, tick, put, eventful, passing, settling}
use Rattle.history.proofs.CellsFit.{Set, Stamped, Born, born_map, Fits, or_first, or_second, join_fits, passed_fits, same_refl, up, fresh, past_up, made_named, other_fits, self_fits}

-- all cells fit; every event of a sheet's log has been made
pub record Inv (v : World Vec) (h : World Set) : Type 0 where
  pub log : ℕ → Set
  pub counts : (d : ℕ) → h.count d ≡ v.count d
  pub past : (s : ℕ) (e : Stamp) → log s e ≡ true → e.count ≤ v.count e.device
  pub named : (s : ℕ) (e : Stamp) → log s e ≡ true → 0 < e.count
  pub cells : (d s : ℕ) → Fits v.count (log s) d (v.cell d s) (h.cell d s)

-- WHOLE WORLDS
module _ {v : World Vec} {h : World Set} (i : Inv v h) where
  tick_inv : (d s : ℕ) → Inv (tick vectors v d s) (tick sets h d s)
  unfolding tick next
  tick_inv d s = record {
    log = λ y. sets.made (eqb y s) (fresh v.count d) (i.log y);
    counts = λ x. ap (λ n. cond (eqb x d) (suc n) n) (i.counts x);
    past = λ y. past_up v.count d (i.log y) (i.past y) (eqb y s);
    named = λ y e. made_named v.count d (i.log y) (eqb y s) e (i.named y e);
    cells = λ x y. cell' x y (eqb x d) refl;
  }
    where
      cell' : (x y : ℕ) (t : Bool) → eqb x d ≡ t → Fits (up v.count d) (sets.made (eqb y s) (fresh v.count d) (i.log y)) x
          (cond t (record { row = (v.cell x y).row; known = vectors.made (eqb y s) (fresh v.count d) (v.cell x y).known }) (v.cell x y))
          (cond t (record { row = (h.cell x y).row; known = sets.made (eqb y s) (record { device = d; count = suc (h.count d) }) (h.cell x y).known }) (h.cell x y))
      cell' x y true e = rw (i.counts d) (self_fits v.count d (i.log y) (i.past y) (eqb y s) x (v.cell x y) (h.cell x y) (i.cells x y) e)
      cell' x y false e = other_fits v.count d (i.log y) (i.past y) (eqb y s) x (v.cell x y) (h.cell x y) (i.cells x y) e

  put_inv : (d : ℕ) (here : ℕ → Bool) (vc : ℕ → Cell Vec) (hc : ℕ → Cell Set) → ((y : ℕ) → here y ≡ true → Fits v.count (i.log y) d (vc y) (hc y))
      → Inv (put vectors v d here vc) (put sets h d here hc)
  unfolding put
  put_inv d here vc hc f = record { log = i.log; counts = i.counts; past = i.past; named = i.named; cells = λ x y. cell' x y (eqb x d) (here y) refl refl }
    where
      cell' : (x y : ℕ) (t u : Bool) → eqb x d ≡ t → here y ≡ u → Fits v.count (i.log y) x (cond (t && u) (vc y) (v.cell x y)) (cond (t && u) (hc y) (h.cell x y))
      cell' x y true true e u = rw (eqb-true x d e) (f y u)
      cell' x y true false e u = i.cells x y
      cell' x y false u e u' = i.cells x y

  next_same : (d : ℕ) → next vectors v d ≡ next sets h d
  unfolding next
  next_same d = ap (λ n. record { device = d; count = suc n }) (sym (i.counts d))

-- a cell with another row
row_fits : {count : ℕ → ℕ} {log : Set} {d : ℕ} {v : Cell Vec} {h : Cell Set} → Fits count log d v h → (rv rh : Row) → rv ≡ rh
    → Stamped rh.kind (h.known rh.stamp ≡ true) → Born rh.kind (h.known rh.birth ≡ true)
    → Fits count log d (record { row = rv; known = v.known }) (record { row = rh; known = h.known })
row_fits f rv rh e st bi = record { rows = e; bound = f.bound; own = f.own; agree = f.agree; sub = f.sub; stamp = st; birth = bi }

-- a tick leaves every row
pub tick_row : (S : Sort) (v : World S.K) (d s x y : ℕ) → ((tick S v d s).cell x y).row ≡ (v.cell x y).row
unfolding tick
tick_row S v d s x y = go (eqb x d)
  where
    go : (t : Bool) → (cond t (record { row = (v.cell x y).row; known = S.made (eqb y s) (next S v d) (v.cell x y).known }) (v.cell x y)).row ≡ (v.cell x y).row
    go true = refl
    go false = refl

-- and the new event is in the set of its own sheet
tick_new : (h : World Set) (d s y : ℕ) → eqb y s ≡ true → ((tick sets h d s).cell d y).known (next sets h d) ≡ true
unfolding tick
tick_new h d s y e = rw (eq-eqb d d refl, e) (or_first _ ((h.cell d y).known (next sets h d)) (same_refl (next sets h d)))

event_stamp : (e : Event) (n : Stamp) (m : Content) (r : Row) (k : Set) → k n ≡ true → Stamped (event_row e n m r).kind (k (event_row e n m r).stamp ≡ true)
unfolding event_row
event_stamp creates n m r k p = p
event_stamp changes n m r k p = p
event_stamp removes n m r k p = p

event_birth : (e : Event) (n : Stamp) (m : Content) (r : Row) (k : Set) → k n ≡ true → fits e r.kind ≡ true → Born r.kind (k r.birth ≡ true)
    → Born (event_row e n m r).kind (k (event_row e n m r).birth ≡ true)
unfolding event_row fits is_live
event_birth creates n m r k p f b = p
event_birth changes n m r k p f b = go r.kind f b
  where
    go : (q : Kind) → is_live q ≡ true → Born q (k r.birth ≡ true) → k r.birth ≡ true
    go never f b = absurd (false≢true f)
    go live f b = b
    go removed f b = absurd (false≢true f)
event_birth removes n m r k p f b = tt

-- a conflict is between two live rows, or a live and a removed one: there is a birth
abbrev pub Opposed : Kind → Kind → Type 0
Opposed never kb = ⊥
Opposed live never = ⊥
Opposed live live = Unit {0}
Opposed live removed = Unit {0}
Opposed removed never = ⊥
Opposed removed live = Unit {0}
Opposed removed removed = ⊥

-- the rules say conflict of such kinds alone
pub opposed : (ka kb : Kind) (p : Heard) → rule ka kb p ≡ Conflict → Opposed ka kb
unfolding rule news
opposed ka kb p e = go ka kb p.stamp_a e
  where
    clash : {X : Type 0} → KeepOwn ≡ Conflict → X
    clash e = let z : ◌≡◌ {A = ℕ} 0 1 = cc in absurd (omega arith)

    both : {X : Type 0} (t : Bool) → cond t KeepTheirs KeepOwn ≡ Conflict → X
    both true e = let z : ◌≡◌ {A = ℕ} 0 1 = cc in absurd (omega arith)
    both false e = clash e

    go : (ka kb : Kind) (t : Bool) → cond t KeepOwn (news ka kb p) ≡ Conflict → Opposed ka kb
    go never kb true e = clash e
    go never kb false e = clash e
    go live never true e = clash e
    go live never false e = let z : ◌≡◌ {A = ℕ} 0 1 = cc in absurd (omega arith)
    go live live t e = tt
    go live removed t e = tt
    go removed never true e = clash e
    go removed never false e = let z : ◌≡◌ {A = ℕ} 0 1 = cc in absurd (omega arith)
    go removed live t e = tt
    go removed removed true e = clash e
    go removed removed false e = both p.stamp_b e

-- so the birth of a new row is one that one of them has
pub new_born : (P : Stamp → Type 0) (ka kb : Kind) (a b : Row) → Opposed ka kb → Born ka (P a.birth) → Born kb (P b.birth) → P (birth_of kb a b)
unfolding birth_of
new_born P never kb a b o x y = absurd o
new_born P live never a b o x y = absurd o
new_born P live live a b o x y = y
new_born P live removed a b o x y = x
new_born P removed never a b o x y = absurd o
new_born P removed live a b o x y = y
new_born P removed removed a b o x y = absurd o

-- whatever the choice, a settled row has the new stamp, if any, and a birth that one of them has
settle_stamp : (c : Choice) (n : Stamp) (m : Content) (a b : Row) (k : Set) → k n ≡ true → Stamped (settle_row c n m a b).kind (k (settle_row c n m a b).stamp ≡ true)
unfolding settle_row
settle_stamp c n m a b k p = go c
  where
    any : (q : Kind) → Stamped q (k n ≡ true)
    any never = tt
    any live = p
    any removed = p

    go : (c : Choice) → Stamped (settle_row c n m a b).kind (k (settle_row c n m a b).stamp ≡ true)
    go theirs = any a.kind
    go own = any b.kind
    go new = p

settle_birth : (c : Choice) (n : Stamp) (m : Content) (P : Stamp → Type 0) (a b : Row) → Opposed a.kind b.kind → Born a.kind (P a.birth) → Born b.kind (P b.birth)
    → Born (settle_row c n m a b).kind (P (settle_row c n m a b).birth)
unfolding settle_row
settle_birth theirs n m P a b o x y = x
settle_birth own n m P a b o x y = y
settle_birth new n m P a b o x y = new_born P a.kind b.kind a b o x y

-- THE STEPS keep the invariant
module _ {v : World Vec} {h : World Set} (i : Inv v h) where
  -- an own event that fits
  pub event_inv : (d s : ℕ) (e : Event) (m : Content) → fits e (h.cell d s).row.kind ≡ true → Inv (eventful vectors v d s e m) (eventful sets h d s e m)
  unfolding eventful
  event_inv d s e m f =
      put_inv ti d (λ y. eqb y s) _ _
      (λ y q.
      let g = ti.cells d y in
      let k = tick_new h d s y q in
      let r = ((tick sets h d s).cell d y).row in
      row_fits g (event_row e (next vectors v d) m ((tick vectors v d s).cell d y).row) (event_row e (next sets h d) m r)
      (ap₂ (λ n z. event_row e n m z) (next_same i d) g.rows)
      (event_stamp e (next sets h d) m r ((tick sets h d s).cell d y).known k)
      (event_birth e (next sets h d) m r ((tick sets h d s).cell d y).known k
      (ap (λ (c : Row). fits e c.kind) (tick_row sets h d s d y ∙ ap (λ z. (h.cell d z).row) (eqb-true y s q)) ∙ f) g.birth))
    where
      ti : Inv (tick vectors v d s) (tick sets h d s)
      ti = tick_inv i d s

  -- a pass over any sheets
  pub pass_inv : (a b : ℕ) (here : ℕ → Bool) → Inv (passing vectors v a b here) (passing sets h a b here)
  unfolding passing
  pass_inv a b here = put_inv i b here _ _ (λ y q. passed_fits (i.cells a y) (i.cells b y))

  -- a settling where the history says conflict
  pub settle_inv : (a b s : ℕ) (c : Choice) (m : Content) → ruling sets.knows (h.cell a s) (h.cell b s) ≡ Conflict → Inv (settling vectors v a b s c m) (settling sets h a b s c m)
  unfolding settling ruling
  settle_inv a b s c m r =
      put_inv ti b (λ y. eqb y s) _ _
      (λ y q.
      let ga = ti.cells a y in
      let gb = ti.cells b y in
      let ra = (th.cell a y).row in
      let rb = (th.cell b y).row in
      let ea : ra ≡ (h.cell a s).row = tick_row sets h b s a y ∙ ap (λ z. (h.cell a z).row) (eqb-true y s q) in
      let eb : rb ≡ (h.cell b s).row = tick_row sets h b s b y ∙ ap (λ z. (h.cell b z).row) (eqb-true y s q) in
      let o : Opposed (h.cell a s).row.kind (h.cell b s).row.kind = opposed (h.cell a s).row.kind (h.cell b s).row.kind _ r in
      join_fits ga gb
      (settle_row c (next vectors v b) m ((tick vectors v b s).cell a y).row ((tick vectors v b s).cell b y).row)
      (settle_row c (next sets h b) m ra rb)
      (cc (next_same i b, ga.rows, gb.rows))
      (settle_stamp c (next sets h b) m ra rb (sets.join (th.cell a y).known (th.cell b y).known) (or_second ((th.cell a y).known (next sets h b)) _ (tick_new h b s y q)))
      (settle_birth c (next sets h b) m (λ e. sets.join (th.cell a y).known (th.cell b y).known e ≡ true) ra rb
      (rw (ea, eb) o)
      (born_map ra.kind (or_first _ ((th.cell b y).known ra.birth)) ga.birth)
      (born_map rb.kind (or_second ((th.cell a y).known rb.birth) _) gb.birth)))
    where
      th : World Set
      th = tick sets h b s

      ti : Inv (tick vectors v b s) th
      ti = tick_inv i b s

-- and it holds at the start
pub begin_inv : Inv (begin vectors) (begin sets)
unfolding begin
begin_inv = record {
  log = λ s e. false;
  counts = λ d. refl;
  past = λ s e l. absurd (false≢true l);
  named = λ s e l. absurd (false≢true l);
  cells = λ d s. record {
    rows = refl;
    bound = λ x. omega arith;
    own = refl;
    agree = λ e l. absurd (false≢true l);
    sub = λ e k. k;
    stamp = tt;
    birth = tt;
  };
}
