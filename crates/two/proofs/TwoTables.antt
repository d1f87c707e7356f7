-- What two tables and a row that nothing refuses are like, at their words.
use Prim.Native.Nat.{ℕ, ◌+◌, ◌*◌, ◌≤◌, ◌<◌}
use mathlib.Core.Path.{◌≡◌}
use mathlib.Core.List.{List}
use mathlib.Core.Bool.{true, false}
use native.Mathlib.Nat.{mul-le-mul_right}
use native.Mathlib.Omega.{arith}
use lib.Dec.{leb}
use borrow.Author.Tests.{le-leb, lt-leb}
use lib.ListN.{length, get_or}
use Rattle.paper.specs.declared.Clock.{Clock}
use Rattle.paper.specs.Tree.{size, shaped}
use Rattle.paper.specs.Words.{wide, table_of}
use Rattle.paper.specs.Refusals.{tens}
use Rattle.paper.specs.Check.{check_of}
use Rattle.paper.specs.Calls.{two_refused}
use Rattle.laws.proofs.Refusals.{first_both, tens_none}
use Rattle.laws.proofs.Tables.{check_facts, checked_size, checked_good}
use Rattle.laws.proofs.Calls.{two_accepted}
use Rattle.order.proofs.RowPlaces.{Begins, begins}
use Rattle.two.proofs.Shaped.{same_rows}

-- of a table that passes the check: its device is a column, and it has as many rows as its head says
module _ (w : ℕ) (t : List ℕ) (e : check_of w t ≡ 0) where
  pub clock_device : (c : Clock) → c ≡ (table_of w t).clock → c.device < w
  clock_device c k = rw k (checked_good w t (check_facts w t e)).device

  pub no_row : (row : ℕ) → get_or t 2 0 ≤ row → leb (size (table_of w t).tree) row ≡ true
  no_row row h = le-leb (size (table_of w t).tree) row (omega (arith, checked_size w t (check_facts w t e)))

  pub row_there : (row : ℕ) → row < get_or t 2 0 → leb (size (table_of w t).tree) row ≡ false
  row_there row h = lt-leb (size (table_of w t).tree) row (omega (arith, checked_size w t (check_facts w t e)))

  pub table_long : wide w ≤ length t
  table_long = omega (arith, (check_facts w t e).head.long)

-- WHERE NOTHING REFUSES: both pass the check, the shapes are the same, and the row is in both
pub record Paired (w : ℕ) (s t : List ℕ) (row : ℕ) : Type 0 where
  pub source : check_of w s ≡ 0
  pub target : check_of w t ≡ 0
  pub shaped : shaped (table_of w s).tree (table_of w t).tree ≡ true
  pub in_source : row < get_or s 2 0
  pub in_target : row < get_or t 2 0

pub paired : (w : ℕ) (s t : List ℕ) (row : ℕ) → two_refused w s t row ≡ 0 → Paired w s t row
unfolding two_refused
paired w s t row e =
    let one = first_both (check_of w s) _ e in
    let two = first_both (tens (check_of w t)) _ one.1 in
    let p = one.0 in
    let q = tens_none (check_of w t) two.0 in
    let a = two_accepted w s t row e in
    let rows = same_rows w s t p q a.shaped in
    let there : row < get_or t 2 0 = omega (arith, a.there, checked_size w t (check_facts w t q)) in
    record { source = p; target = q; shaped = a.shaped; in_source = omega arith; in_target = there }

-- where the row stands in either
pub begin_both : (w : ℕ) (s t : List ℕ) (row : ℕ) → w ≤ 16 → two_refused w s t row ≡ 0 → Begins w s row × Begins w t row
begin_both w s t row l e = let p = paired w s t row e in (begins w s row l p.source p.in_source, begins w t row l p.target p.in_target)

-- the row's words are there in both
pub record Room (n : ℕ) (s t : List ℕ) (row : ℕ) : Type 0 where
  pub few : row < 256
  pub in_source : (row + 1) * n + n ≤ length s
  pub in_target : (row + 1) * n + n ≤ length t

pub two_room : (w : ℕ) (s t : List ℕ) (row : ℕ) → two_refused w s t row ≡ 0 → Room (wide w) s t row
two_room w s t row e = let p = paired w s t row e in record {
  few = omega (arith, p.in_target, (check_facts w t p.target).head.few);
  in_source = room s p.source p.in_source;
  in_target = room t p.target p.in_target;
}
  where
    room : (t : List ℕ) → check_of w t ≡ 0 → row < get_or t 2 0 → (row + 1) * wide w + wide w ≤ length t
    room t e h =
        let l : row + 1 ≤ get_or t 2 0 = omega arith in
        omega (arith, mul-le-mul_right (wide w) l, (check_facts w t e).head.long)
