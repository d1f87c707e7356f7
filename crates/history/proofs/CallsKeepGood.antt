-- Good trees stay good: under a walk, an event and a settling. This is what refusals 5 and 6 are for.
use Prim.{Unit, tt}
use Prim.Native.Nat.{ℕ, suc, ◌≤◌, ◌<◌, max}
use mathlib.Core.Path.{◌≡◌, refl, ap}
use mathlib.Core.Bool.{Bool, true, false, cond, false≢true}
use native.Mathlib.Omega.{arith}
use lib.Dec.{eqb}
use borrow.Author.Tests.{eqb-true, eq-eqb, ne_eqb, leb-true, le-leb, lt-ltb}
use Rattle.paper.specs.declared.Clock.{Clock}
use Rattle.paper.specs.declared.Stamp.{Stamp}
use Rattle.paper.specs.declared.Content.{Content}
use Rattle.paper.specs.declared.Ruling.{Ruling}
use Rattle.paper.specs.declared.Ruling.TheVariants.{KeepOwn, KeepTheirs, Copy, Remove, Conflict}
use Rattle.paper.specs.Columns.{Vec, greatest, full, covers, Narrow}
use Rattle.paper.specs.declared.Kind.{Kind}
use Rattle.paper.specs.declared.Kind.TheVariants.{Never as never, Live as live, Removed as removed}
use Rattle.paper.specs.Rules.{Row}
use Rattle.paper.specs.declared.Event.{Event}
use Rattle.paper.specs.declared.Event.TheVariants.{Creates as creates, Changes as changes, Removes as removes}
use Rattle.paper.specs.declared.Choice.{Choice}
use Rattle.paper.specs.declared.Choice.TheVariants.{Theirs as theirs, Own as own, New as new}
use Rattle.paper.specs.Acts.{is_live, fits, takes_content, event_row, choice_takes, settle_row, with_stamp}
use Rattle.paper.specs.Tree.{end, sheet, folder, mapped, Sheet, Tree, later, least, full_least}
use Rattle.paper.specs.Walk
use Rattle.paper.specs.Walk.{Two, Pair, left, right, raised, rule_at, over, walk}
use Rattle.paper.specs.Check.{laid, known, proper, absent, content_fits, content_absent}
use Rattle.paper.specs.Good.{GoodFloor, GoodSheet, Good}
use Rattle.paper.specs.Calls.{new_stamp, ticked, event_sheet, settle_sheet}
use Rattle.laws.proofs.Bools.{and_both, both_and}
use Rattle.history.proofs.CellsFit.{Born}
use Rattle.history.proofs.WorldsAgree.{Opposed, new_born}
use Rattle.history.proofs.Summaries.{full_more, least_most, greatest_narrow, later_sheet, later_folder, full_early}
use Rattle.history.proofs.EveryRow.{every_map, good_every, every_good}

-- more is known, more is covered
covers_more : (v v' : Vec) → ((j : ℕ) → v j ≤ v' j) → (s : Stamp) → covers v s ≡ true → covers v' s ≡ true
covers_more v v' h s e = le-leb s.count (v' s.device) (omega (arith, h s.device, leb-true s.count (v s.device) e))

known_more : (v v' : Vec) → ((j : ℕ) → v j ≤ v' j) → (k : Kind) (r : Row) → known v k r ≡ true → known v' k r ≡ true
unfolding known
known_more v v' h never r e = refl
known_more v v' h live r e = let a = and_both (covers v r.stamp) _ e in both_and (covers_more v v' h r.stamp a.0) (covers_more v v' h r.birth a.1)
known_more v v' h removed r e = covers_more v v' h r.stamp e

-- higher floors above
good_more : (w : ℕ) (c : Clock) (t : Tree) (u u' : Vec) → ((j : ℕ) → u j ≤ u' j) → Good w c t u → Good w c t u'
good_more w c end u u' h g = tt
good_more w c (sheet s r) u u' h g = (
  record {
    floor = g.0.floor;
    laid = g.0.laid;
    known = known_more _ _ (λ j. full_more c u u' s.floor s.floor j (omega (arith, h j))) s.row.kind s.row g.0.known;
  },
  good_more w c r u u' h g.1,
)
good_more w c (folder f k r) u u' h g = (g.0, good_more w c k (greatest u f) (greatest u' f) (λ j. omega (arith, h j)) g.1, good_more w c r u u' h g.2)

-- THE WALK, from a to b
module _ (w : ℕ) (a b : Clock) (la : a.device < w) (lb : b.device < w) (apart : a.device ≡ b.device → ⊥) where
  -- a floor f of b raised by what a knows at v, under the floors ua
  module _ (ua v f : Vec) where
    raised_good : Narrow w ua → Narrow w v → Narrow w f → GoodFloor w b (raised b f (full a ua v))
    raised_good nu nv nf = record { narrow = narrow; own = rw (eq-eqb b.device b.device refl) }
      where
        narrow : Narrow w (raised b f (full a ua v))
        narrow j h = rw (ne_eqb j b.device (omega arith), ne_eqb j a.device (omega arith)) (omega (arith, nu j h, nv j h, nf j h))

    -- it holds no less than it did, if its own column was zero
    raised_more : f b.device ≡ 0 → (j : ℕ) → f j ≤ raised b f (full a ua v) j
    raised_more z j = go (eqb j b.device) refl
      where
        go : (t : Bool) → eqb j b.device ≡ t → f j ≤ cond t 0 (max (f j) (full a ua v j))
        go true e = omega (arith, ap f (eqb-true j b.device e))
        go false e = omega arith

    -- and what a knows
    raised_known : (ub : Vec) → ua b.device ≤ b.counter → v b.device ≤ b.counter → (j : ℕ) → full a ua v j ≤ full b ub (raised b f (full a ua v)) j
    raised_known ub hu hv j = go (eqb j b.device) refl
      where
        go : (t : Bool) → eqb j b.device ≡ t → full a ua v j ≤ cond t b.counter (max (ub j) (cond t 0 (max (f j) (full a ua v j))))
        go true e = omega (arith, full_early a b apart ua v hu hv, ap (full a ua v) (eqb-true j b.device e))
        go false e = omega arith

  -- one sheet, raised, with b's row or with a's
  module _ (ua ub : Vec) (x : Two Sheet) (ga : GoodSheet w a ua x.a) (gb : GoodSheet w b ub x.b) (nu : Narrow w ua) (hu : ua b.device ≤ b.counter)
      (hx : x.a.floor b.device ≤ b.counter) where
    -- the raised floor is good
    pub floor_good : GoodFloor w b (raised b x.b.floor (full a ua x.a.floor))
    floor_good = raised_good ua x.a.floor x.b.floor nu ga.floor.narrow gb.floor.narrow

    -- b's row is known as it was
    pub stays_known : known (full b ub (raised b x.b.floor (full a ua x.a.floor))) x.b.row.kind x.b.row ≡ true
    stays_known =
        known_more (full b ub x.b.floor) (full b ub (raised b x.b.floor (full a ua x.a.floor)))
        (λ j. full_more b ub ub x.b.floor (raised b x.b.floor (full a ua x.a.floor)) j (omega (arith, raised_more ua x.a.floor x.b.floor gb.floor.own j))) x.b.row.kind
        x.b.row gb.known

    -- a's row is known to b now
    pub taken_known : known (full b ub (raised b x.b.floor (full a ua x.a.floor))) x.a.row.kind x.a.row ≡ true
    taken_known =
        known_more (full a ua x.a.floor) (full b ub (raised b x.b.floor (full a ua x.a.floor)))
        (raised_known ua x.a.floor x.b.floor ub hu hx) x.a.row.kind x.a.row ga.known

    pub stays : GoodSheet w b ub (record { row = x.b.row; floor = raised b x.b.floor (full a ua x.a.floor) })
    stays = record { floor = floor_good; laid = gb.laid; known = stays_known }

    pub taken : GoodSheet w b ub (record { row = x.a.row; floor = raised b x.b.floor (full a ua x.a.floor) })
    taken = record { floor = floor_good; laid = ga.laid; known = taken_known }

    ruled_good : (r : Ruling) → GoodSheet w b ub (Walk.ruled a b ua r x)
    unfolding Walk.ruled
    ruled_good KeepOwn = stays
    ruled_good KeepTheirs = taken
    ruled_good Copy = taken
    ruled_good Remove = taken
    ruled_good Conflict = gb

  -- a walk leaves a good tree
  pub walk_good : (p : Pair) (ua ub : Vec) → Good w a (left p) ua → Good w b (right p) ub → later b (left p) ≡ false → Narrow w ua → ua b.device ≤ b.counter → Good w b (walk w a b p ua ub) ub
  unfolding walk mapped
  walk_good end ua ub ga gb e nu hu = tt
  walk_good (sheet x r) ua ub ga gb e nu hu =
      let o = later_sheet b x.a (left r) e in
      (ruled_good ua ub x ga.0 gb.0 nu hu o.0 (rule_at a b ua ub x), walk_good r ua ub ga.1 gb.1 o.1 nu hu)
  walk_good (folder y k r) ua ub ga gb e nu hu =
      let o = later_folder b y.a (left k) (left r) e in
      go (over w a b ua ub y k)
      (walk_good k (greatest ua y.a) (greatest ub y.b) ga.1 gb.1 o.1 (λ j h. omega (arith, nu j h, ga.0.narrow j h)) (omega (arith, o.0)))
      (walk_good r ua ub ga.2 gb.2 o.2 nu hu)
    where
      low : Narrow w (least y.a (left k))
      low j h = omega (arith, least_most (left k) y.a j, ga.0.narrow j h, greatest_narrow w a (left k) (greatest ua y.a) ga.1 j h)

      go : (t : Bool) → Good w b (walk w a b k (greatest ua y.a) (greatest ub y.b)) (greatest ub y.b) → Good w b (walk w a b r ua ub) ub
          → Good w b (cond t (folder (raised b y.b (full_least a ua y.a (left k))) (right k) (walk w a b r ua ub))
          (folder y.b (walk w a b k (greatest ua y.a) (greatest ub y.b)) (walk w a b r ua ub))) ub
      go true gk gr = (
        raised_good ua (least y.a (left k)) y.b nu low gb.0.narrow,
        good_more w b (right k) (greatest ub y.b) (greatest ub (raised b y.b (full_least a ua y.a (left k))))
            (λ j. omega (arith, raised_more ua (least y.a (left k)) y.b gb.0.own j)) gb.1,
        gr,
      )
      go false gk gr = (gb.0, gk, gr)

-- THE COUNTER GOES UP
module _ (w : ℕ) (c : Clock) (l : c.device < w) where
  tick_more : (u f : Vec) (j : ℕ) → full c u f j ≤ full (ticked c) u f j
  tick_more u f j = go (eqb j c.device)
    where
      go : (t : Bool) → cond t c.counter (max (u j) (f j)) ≤ cond t (suc c.counter) (max (u j) (f j))
      go true = omega arith
      go false = omega arith

  tick_floor : (f : Vec) → GoodFloor w c f → GoodFloor w (ticked c) f
  tick_floor f g = record { narrow = g.narrow; own = g.own }

  -- a sheet stays good
  pub tick_sheet : (u : Vec) (s : Sheet) → GoodSheet w c u s → GoodSheet w (ticked c) u s
  tick_sheet u s g = record {
    floor = tick_floor s.floor g.floor;
    laid = g.laid;
    known = known_more _ _ (tick_more u s.floor) s.row.kind s.row g.known;
  }

  -- and so does a tree
  pub tick_good : (t : Tree) (u : Vec) → Good w c t u → Good w (ticked c) t u
  tick_good t u g = every_good w (ticked c) t u (every_map tick_sheet tick_floor t u (good_every w c t u g))

  -- the new stamp
  pub new_proper : proper w (new_stamp c) ≡ true
  unfolding proper
  new_proper = both_and (lt-ltb _ _ l) (lt-ltb 0 (suc c.counter) (omega arith))

  -- and is covered
  pub new_known : (u f : Vec) → covers (full (ticked c) u f) (new_stamp c) ≡ true
  new_known u f = rw (eq-eqb c.device c.device refl) (le-leb (suc c.counter) (suc c.counter) (omega arith))

  -- AN EVENT that fits
  pub event_good : (e : Event) (m : Content) (u : Vec) (s : Sheet) → fits e s.row.kind ≡ true → (takes_content e ≡ true → content_fits m ≡ true) → GoodSheet w c u s
      → GoodSheet w (ticked c) u (event_sheet e (new_stamp c) m s)
  unfolding event_sheet event_row laid known fits absent content_absent is_live
  event_good creates m u s q may g =
      let h = tick_sheet u s g in let k = new_known u s.floor in
      record { floor = h.floor; laid = both_and new_proper (both_and new_proper (may refl)); known = both_and k k }
  event_good changes m u s q may g =
      let h = tick_sheet u s g in
      let b = born s.row.kind s.row (full (ticked c) u s.floor) q h.laid h.known in
      record { floor = h.floor; laid = both_and new_proper (both_and b.0 (may refl)); known = both_and (new_known u s.floor) b.1 }
    where
      born : (k : Kind) (r : Row) (v : Vec) → is_live k ≡ true → laid w k r ≡ true → known v k r ≡ true → (proper w r.birth ≡ true) × (covers v r.birth ≡ true)
      born never r v q x y = absurd (false≢true q)
      born live r v q x y = ((and_both _ _ (and_both (proper w r.stamp) _ x).1).0, (and_both (covers v r.stamp) _ y).1)
      born removed r v q x y = absurd (false≢true q)
  event_good removes m u s q may g = let h = tick_sheet u s g in record { floor = h.floor; laid = both_and new_proper refl; known = new_known u s.floor }

-- a birth that is laid and known
abbrev pub Birth : ℕ → Vec → Stamp → Type 0
Birth w v s = (proper w s ≡ true) × (covers v s ≡ true)

-- a good live row has one
pub has_birth : (w : ℕ) (v : Vec) (k : Kind) (r : Row) → laid w k r ≡ true → known v k r ≡ true → Born k (Birth w v r.birth)
unfolding laid known
has_birth w v never r x y = tt
has_birth w v live r x y = ((and_both _ _ (and_both (proper w r.stamp) _ x).1).0, (and_both (covers v r.stamp) _ y).1)
has_birth w v removed r x y = tt

-- of this kind a row has a stamp
abbrev Stood : Kind → Type 0
Stood never = ⊥
Stood live = Unit {0}
Stood removed = Unit {0}

-- as two opposed rows have
opposed_stood : (ka kb : Kind) → Opposed ka kb → Stood ka × Stood kb
opposed_stood never kb o = absurd o
opposed_stood live never o = absurd o
opposed_stood live live o = (tt, tt)
opposed_stood live removed o = (tt, tt)
opposed_stood removed never o = absurd o
opposed_stood removed live o = (tt, tt)
opposed_stood removed removed o = absurd o

-- a good row that has a stamp stays good with another one that is proper and covered
restamped : (w : ℕ) (v : Vec) (s : Stamp) → proper w s ≡ true → covers v s ≡ true → (k : Kind) (r : Row) → Stood k → laid w k r ≡ true → known v k r ≡ true
    → (laid w k (with_stamp s r) ≡ true) × (known v k (with_stamp s r) ≡ true)
unfolding laid known
restamped w v s p q never r o x y = absurd o
restamped w v s p q live r o x y = (both_and p (and_both (proper w r.stamp) _ x).1, both_and q (and_both (covers v r.stamp) _ y).1)
restamped w v s p q removed r o x y = (both_and p (and_both (proper w r.stamp) _ x).1, q)

-- A SETTLING of two opposed sheets
module _ (w : ℕ) (a b : Clock) (la : a.device < w) (lb : b.device < w) (apart : a.device ≡ b.device → ⊥) (ua ub : Vec) (x : Two Sheet)
    (ga : GoodSheet w a ua x.a) (gb : GoodSheet w b ub x.b) (nu : Narrow w ua) (hu : ua b.device ≤ b.counter) (hx : x.a.floor b.device ≤ b.counter) where
  -- B's floor, raised as after keep
  abbrev f : Vec
  f = raised b x.b.floor (full a ua x.a.floor)

  -- either row, its floor raised and the clock gone up
  theirs_up : GoodSheet w (ticked b) ub (record { row = x.a.row; floor = f })
  theirs_up = tick_sheet w b lb ub (record { row = x.a.row; floor = f }) (taken w a b la lb apart ua ub x ga gb nu hu hx)

  own_up : GoodSheet w (ticked b) ub (record { row = x.b.row; floor = f })
  own_up = tick_sheet w b lb ub (record { row = x.b.row; floor = f }) (stays w a b la lb apart ua ub x ga gb nu hu hx)

  -- stays good with the new stamp
  anew : (r : Row) → Stood r.kind → GoodSheet w (ticked b) ub (record { row = r; floor = f }) → GoodSheet w (ticked b) ub (record { row = with_stamp (new_stamp b) r; floor = f })
  anew r o g =
      let y = restamped w (full (ticked b) ub f) (new_stamp b) (new_proper w b lb) (new_known w b lb ub f) r.kind r o g.laid g.known in
      record { floor = g.floor; laid = y.0; known = y.1 }

  -- by theirs, by own, and by a new row with a birth of one of them
  pub settle_good : (c : Choice) (m : Content) → Opposed x.a.row.kind x.b.row.kind → (choice_takes c ≡ true → content_fits m ≡ true)
      → GoodSheet w (ticked b) ub (settle_sheet a b ua c m x)
  unfolding settle_sheet settle_row laid known
  settle_good theirs m o may = anew x.a.row (opposed_stood x.a.row.kind x.b.row.kind o).0 theirs_up
  settle_good own m o may = anew x.b.row (opposed_stood x.a.row.kind x.b.row.kind o).1 own_up
  settle_good new m o may =
      let n = new_born (Birth w (full (ticked b) ub f)) x.a.row.kind x.b.row.kind x.a.row x.b.row o
      (has_birth w (full (ticked b) ub f) x.a.row.kind x.a.row theirs_up.laid theirs_up.known)
      (has_birth w (full (ticked b) ub f) x.b.row.kind x.b.row own_up.laid own_up.known) in
      record { floor = own_up.floor; laid = both_and (new_proper w b lb) (both_and n.0 (may refl)); known = both_and (new_known w b lb ub f) n.1 }
