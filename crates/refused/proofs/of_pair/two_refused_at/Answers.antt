-- Each return is the first test that refuses.
use mathlib.Core.Bool.{true, false}
use mathlib.Core.Path.{◌≡◌, sym, ap, ap₂, ◌∙◌}
use native.Mathlib.Omega.{arith}
use borrow.Author.Tests.{eq-eqb, ne_eqb}
use lib.Dec.{eqb, leb}
use Rattle.paper.specs.Tree.{size, shaped, later}
use Rattle.paper.specs.Words.{Table, table_of}
use Rattle.paper.specs.Refusals.{when}
use Rattle.paper.specs.Calls.{unlike}
use Rattle.paper.specs.declared.Clock.{Clock}
use Rattle.laws.proofs.Refusals.{first_one, first_passed, first_met, first_held, first_failed, when_true, when_false}
use Rattle.two.proofs.TwoTables.{clock_device, no_row, row_there, table_long}
use Rattle.refused.proofs.FirstRefused.{two_checked}
use Rattle.refused.proofs.of_pair.two_refused_at.Goals as goal
use Rattle.refused.proofs.of_pair.two_refused_at.Given.{Over}
use Rattle.refused.proofs.of_pair.two_refused_at.Goals.{After-clock_of-a, After-clock_of-b, After-names_later, After-names_later-2, Else-a-b, Else-names_later-2, Else-not-same_shape, Start}

abbrev a : (g : Over) → Start g → Table
a g s = table_of g.row.N s.args.source.now

abbrev b : (g : Over) → Start g → Table
b g s = table_of g.row.N s.args.target.now

-- the two clocks, as they were read
clock_a : (g : Over) (c : After-clock_of-a g) → let s = (goal.at.After-clock_of-a g c).Start in c.clock_of-a.result ≡ (a g s).clock
clock_a g c = c.clock_of-a.ensures _

clock_b : (g : Over) (c : After-clock_of-b g) → let s = (goal.at.After-clock_of-b g c).Start in c.clock_of-b.result ≡ (b g s).clock
clock_b g c = c.clock_of-b.ensures _

-- the tests that were passed
same : (g : Over) (c : Else-not-same_shape g) → let s = (goal.at.Else-not-same_shape g c).Start in shaped (a g s).tree (b g s).tree ≡ true
same g c = sym c.same_shape.ensures ∙ c.if-not-same_shape.false

apart : (g : Over) (c : Else-a-b g) → let s = (goal.at.Else-a-b g c).Start in eqb (a g s).clock.device (b g s).clock.device ≡ false
apart g c = ap₂ (λ (x y : Clock). eqb x.device y.device) (sym (clock_a g (goal.at.Else-a-b g c).After-clock_of-a)) (sym (clock_b g (goal.at.Else-a-b g c).After-clock_of-b)) ∙ ne_eqb _ _ c.if-a-b.false

six : (g : Over) (c : After-names_later g) → let s = (goal.at.After-names_later g c).Start in later (b g s).clock (a g s).tree ≡ c.names_later.result
six g c =
    let s = (goal.at.After-names_later g c).Start in ap (λ (x : Clock). later x (a g s).tree) (sym (clock_b g (goal.at.After-names_later g c).After-clock_of-b)) ∙ sym c.names_later.ensures

seven : (g : Over) (c : After-names_later-2 g) → let s = (goal.at.After-names_later-2 g c).Start in later (a g s).clock (b g s).tree ≡ c.names_later-2.result
seven g c =
    let s = (goal.at.After-names_later-2 g c).Start in ap (λ (x : Clock). later x (b g s).tree) (sym (clock_a g (goal.at.After-names_later-2 g c).After-clock_of-a)) ∙ sym c.names_later-2.ensures

-- what is left once the tables are accepted
row_left : (g : Over) (c : Else-names_later-2 g) → let s = (goal.at.Else-names_later-2 g c).Start in unlike (a g s) (b g s) c.args.row ≡ when (leb (size (b g s).tree) c.args.row) 8
unfolding unlike
row_left g c =
    first_held _ _ (same g (goal.at.Else-names_later-2 g c).Else-not-same_shape) ∙ first_passed _ _ (apart g (goal.at.Else-names_later-2 g c).Else-a-b)
    ∙ first_passed _ _ (six g (goal.at.Else-names_later-2 g c).After-names_later ∙ c.if-names_later.false)
    ∙ first_passed _ _ (seven g (goal.at.Else-names_later-2 g c).After-names_later-2 ∙ c.if-names_later-2.false) ∙ first_one _

pub returns-then-not-same_shape : goal.returns-then-not-same_shape
unfolding unlike
returns-then-not-same_shape g c = sym (first_failed 3 _ (sym c.same_shape.ensures ∙ c.if-not-same_shape.true)) ∙ two_checked _ _ _ _ c.requires

pub clock_of-a-requires : goal.clock_of-a-requires
clock_of-a-requires g c = omega (arith, table_long _ _ c.requires.0)

pub clock_of-b-requires : goal.clock_of-b-requires
clock_of-b-requires g c = omega (arith, table_long _ _ c.requires.1)

pub returns-then-a-b : goal.returns-then-a-b
unfolding unlike
returns-then-a-b g c =
    sym (first_held _ _ (same g (goal.at.returns-then-a-b g c).Else-not-same_shape)
    ∙ first_met 4 _ (ap₂ (λ (x y : Clock). eqb x.device y.device) (sym (clock_a g (goal.at.returns-then-a-b g c).After-clock_of-a)) (sym (clock_b g (goal.at.returns-then-a-b g c).After-clock_of-b))
    ∙ eq-eqb _ _ c.if-a-b.true)) ∙ two_checked _ _ _ _ c.requires

pub names_later-requires : goal.names_later-requires
names_later-requires g c = (omega arith, (c.requires.0, clock_device _ _ c.requires.1 _ (clock_b g (goal.at.names_later-requires g c).After-clock_of-b)))

pub returns-then-names_later : goal.returns-then-names_later
unfolding unlike
returns-then-names_later g c =
    sym (first_held _ _ (same g (goal.at.returns-then-names_later g c).Else-not-same_shape) ∙ first_passed _ _ (apart g (goal.at.returns-then-names_later g c).Else-a-b)
    ∙ first_met 5 _ (six g (goal.at.returns-then-names_later g c).After-names_later ∙ c.if-names_later.true)) ∙ two_checked _ _ _ _ c.requires

pub names_later-requires-2 : goal.names_later-requires-2
names_later-requires-2 g c = (omega arith, (c.requires.1, clock_device _ _ c.requires.0 _ (clock_a g (goal.at.names_later-requires-2 g c).After-clock_of-a)))

pub returns-then-names_later-2 : goal.returns-then-names_later-2
unfolding unlike
returns-then-names_later-2 g c =
    sym (first_held _ _ (same g (goal.at.returns-then-names_later-2 g c).Else-not-same_shape) ∙ first_passed _ _ (apart g (goal.at.returns-then-names_later-2 g c).Else-a-b)
    ∙ first_passed _ _ (six g (goal.at.returns-then-names_later-2 g c).After-names_later ∙ c.if-names_later.false)
    ∙ first_met 6 _ (seven g (goal.at.returns-then-names_later-2 g c).After-names_later-2 ∙ c.if-names_later-2.true)) ∙ two_checked _ _ _ _ c.requires

pub bounds-target-2 : goal.bounds-target-2
bounds-target-2 g c = omega (arith, table_long _ _ c.requires.1)

pub returns-then-target-row : goal.returns-then-target-row
unfolding unlike
returns-then-target-row g c =
    sym (row_left g (goal.at.returns-then-target-row g c).Else-names_later-2 ∙ when_true _ _ (no_row _ _ c.requires.1 _ c.if-target-row.true)) ∙ two_checked _ _ _ _ c.requires

pub returns : goal.returns
unfolding unlike
returns g c = sym (row_left g (goal.at.returns g c).Else-names_later-2 ∙ when_false _ _ (row_there _ _ c.requires.1 _ c.if-target-row.false)) ∙ two_checked _ _ _ _ c.requires
