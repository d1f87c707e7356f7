-- In a conflict each side is ahead of the other: its own stamp is known to it, and unknown to the other.
use Prim.Native.Nat.{ℕ, ◌≤◌, ◌<◌}
use mathlib.Core.Path.{◌≡◌, refl, sym, ap, ◌∙◌, subst}
use mathlib.Core.Bool.{Bool, true, false, cond}
use mathlib.Core.List.{List}
use mathlib.Core.Option.{some, map}
use native.Mathlib.Omega.{arith}
use lib.Dec.{ltb}
use borrow.Author.Tests.{ltb-true, leb-true, leb-false}
use Rattle.paper.specs.declared.Ruling.TheVariants.{KeepOwn, Conflict}
use Rattle.paper.specs.declared.Clock.{Clock}
use Rattle.paper.specs.Columns.{Vec, full, covers, ahead}
use Rattle.paper.specs.declared.Kind.{Kind}
use Rattle.paper.specs.declared.Kind.TheVariants.{Never as never, Live as live, Removed as removed}
use Rattle.paper.specs.Rules.{Row, Heard, news, rule, ruling}
use Rattle.paper.specs.Tree.{end, sheet, mapped, sheet_here, Sheet, above}
use Rattle.paper.specs.Walk.{Two, zip, left, right, rule_at}
use Rattle.paper.specs.Words.{Table, table_of}
use Rattle.paper.specs.Check.{proper, laid, known}
use Rattle.paper.specs.Good.{GoodSheet, Good}
use Rattle.paper.specs.Calls.{Masked, pair_at, ruling_here, ahead_sheet, ahead_here, masks_of}
use Rattle.paper.specs.Widths.{width_of, ahead_any}
use Rattle.laws.proofs.Bools.{and_both}
use Rattle.laws.proofs.Columns.{ahead_some}
use Rattle.laws.proofs.Forests.{mapped_here, sheet_alone}
use Rattle.laws.proofs.Calls.{two_accepted, ahead_done, ahead_accepted}
use Rattle.laws.proofs.Widths.{ahead_any_lem}
use Rattle.history.proofs.WorldsAgree.{Opposed, opposed}
use Rattle.history.proofs.CallsAccepted.{TwoGood, two_good, source_good, target_good, conflicts_true, map_some}

-- THE RULES say conflict only where neither has heard of the other's stamp
unheard_both : (ka kb : Kind) (h : Heard) → rule ka kb h ≡ Conflict → (h.stamp_a ≡ false) × (h.stamp_b ≡ false)
unfolding rule news
unheard_both ka kb h e = go ka kb h.stamp_a h.stamp_b h.birth_a h.birth_b refl refl e
  where
    go : (ka kb : Kind) (x y p q : Bool) → h.stamp_a ≡ x → h.stamp_b ≡ y → cond x KeepOwn (news ka kb (record { stamp_a = x; birth_a = p; stamp_b = y; birth_b = q })) ≡ Conflict
        → (h.stamp_a ≡ false) × (h.stamp_b ≡ false)
    go ka kb true y p q i j e = let z : ◌≡◌ {A = ℕ} 0 1 = cc in absurd (omega arith)
    go ka kb false false p q i j e = (i, j)
    go never kb false true p q i j e = let z : ◌≡◌ {A = ℕ} 0 1 = cc in absurd (omega arith)
    go live never false true p q i j e = let z : ◌≡◌ {A = ℕ} 0 1 = cc in absurd (omega arith)
    go live live false true p q i j e = let z : ◌≡◌ {A = ℕ} 0 1 = cc in absurd (omega arith)
    go live removed false true p q i j e = let z : ◌≡◌ {A = ℕ} 0 1 = cc in absurd (omega arith)
    go removed never false true p q i j e = let z : ◌≡◌ {A = ℕ} 0 1 = cc in absurd (omega arith)
    go removed removed false true p q i j e = let z : ◌≡◌ {A = ℕ} 0 1 = cc in absurd (omega arith)
    go removed live false true p true i j e = let z : ◌≡◌ {A = ℕ} 0 1 = cc in absurd (omega arith)
    go removed live false true p false i j e = let z : ◌≡◌ {A = ℕ} 0 1 = cc in absurd (omega arith)

-- a row that is no never row has a stamp, of a column, that its known time v covers
stamp_known : (w : ℕ) (v : Vec) (k : Kind) (r : Row) → (k ≡ never → ⊥) → laid w k r ≡ true → known v k r ≡ true → (r.stamp.device < w) × (r.stamp.count ≤ v r.stamp.device)
unfolding laid known proper
stamp_known w v never r o l e = absurd (o refl)
stamp_known w v live r o l e =
    (ltb-true _ _ (and_both (ltb r.stamp.device w) _ (and_both (proper w r.stamp) _ l).0).0, leb-true _ _ (and_both (covers v r.stamp) _ e).0)
stamp_known w v removed r o l e = (ltb-true _ _ (and_both (ltb r.stamp.device w) _ (and_both (proper w r.stamp) _ l).0).0, leb-true _ _ e)

-- one side is ahead where its stamp is unknown to the other
one_ahead : (w : ℕ) (c : Clock) (u other : Vec) (s : Sheet) → GoodSheet w c u s → (s.row.kind ≡ never → ⊥) → covers other s.row.stamp ≡ false → 0 < ahead w (full c u s.floor) other
one_ahead w c u other s g k e =
    let x = stamp_known w (full c u s.floor) s.row.kind s.row k g.laid g.known in
    ahead_some w (full c u s.floor) other s.row.stamp.device x.0 (omega (arith, x.1, leb-false s.row.stamp.count (other s.row.stamp.device) e))

not_never : (ka kb : Kind) → Opposed ka kb → (ka ≡ never → ⊥) × (kb ≡ never → ⊥)
not_never never kb o = absurd o
not_never live never o = absurd o
not_never live live o = (λ e. let z : ◌≡◌ {A = ℕ} 0 1 = cc in omega arith, λ e. let z : ◌≡◌ {A = ℕ} 0 1 = cc in omega arith)
not_never live removed o = (λ e. let z : ◌≡◌ {A = ℕ} 0 1 = cc in omega arith, λ e. let z : ◌≡◌ {A = ℕ} 0 1 = cc in omega arith)
not_never removed never o = absurd o
not_never removed live o = (λ e. let z : ◌≡◌ {A = ℕ} 0 1 = cc in omega arith, λ e. let z : ◌≡◌ {A = ℕ} 0 1 = cc in omega arith)
not_never removed removed o = absurd o

-- at a sheet in conflict of two good tables, each side is ahead
module _ (w : ℕ) (a b : Table) (row : ℕ) (g : TwoGood w a b row) (x : Two Sheet) (here : sheet_here (pair_at a b row) ≡ some x) where
  both_ahead : rule_at a.clock b.clock (above a.tree row) (above b.tree row) x ≡ Conflict
      → (0 < (masks_of (ahead_here w a b row)).source) × (0 < (masks_of (ahead_here w a b row)).target)
  unfolding ahead_here ahead_sheet rule_at ruling mapped
  both_ahead q =
      let alone : pair_at a b row ≡ sheet x end = sheet_alone (zip a.tree b.tree) row x here in
      let ua = above a.tree row in
      let ub = above b.tree row in
      let kinds = not_never x.a.row.kind x.b.row.kind (opposed x.a.row.kind x.b.row.kind _ q) in
      let out = unheard_both x.a.row.kind x.b.row.kind _ q in
      let ga : GoodSheet w a.clock ua x.a = (subst (λ p. Good w a.clock (left p) ua) alone (source_good w a b row g)).0 in
      let gb : GoodSheet w b.clock ub x.b = (subst (λ p. Good w b.clock (right p) ub) alone (target_good w a b row g)).0 in
      subst (λ o. (0 < (masks_of o).source) × (0 < (masks_of o).target)) (sym (mapped_here _ _ (pair_at a b row) ∙ ap (map (ahead_sheet w a.clock b.clock ua ub)) here))
      (one_ahead w a.clock ua (full b.clock ub x.b.floor) x.a ga kinds.0 out.0, one_ahead w b.clock ub (full a.clock ua x.a.floor) x.b gb kinds.1 out.1)

-- so of any tables of which who is ahead is told
pub told_ahead : (s t : List ℕ) (row : ℕ) → (ahead_any s t row).number ≡ 0 → (0 < (ahead_any s t row).source) × (0 < (ahead_any s t row).target)
unfolding ruling_here
told_ahead s t row e =
    let w = width_of t in
    let a = table_of w s in
    let b = table_of w t in
    let h = ahead_any_lem s t row e in
    let k = ahead_accepted w s t row h.accepted in
    let o = map_some (rule_at a.clock b.clock (above a.tree row) (above b.tree row)) (sheet_here (pair_at a b row)) Conflict
    (sym (mapped_here _ _ (pair_at a b row)) ∙ conflicts_true (ruling_here a b row) k.conflict) in
    subst (λ (m : Masked). (0 < m.source) × (0 < m.target)) (sym (h.same ∙ ahead_done w s t row h.accepted))
    (both_ahead w a b row (two_good w s t row (two_accepted w s t row k.two)) o.0 o.1 o.2)
