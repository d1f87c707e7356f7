-- The chains of an event and of a settling, with what their numbers name.
use Prim.Native.Nat.{ℕ}
use mathlib.Core.Path.{◌≡◌, refl, sym, ap, ◌∙◌}
use mathlib.Core.Bool.{Bool, true, not}
use mathlib.Core.List.{List, [], ◌∷◌}
use lib.Dec.{eqb, leb}
use Rattle.paper.specs.declared.Content.{Content}
use Rattle.paper.specs.declared.Event.{Event}
use Rattle.paper.specs.declared.Event.TheVariants.{Creates as creates, Changes as changes, Removes as removes}
use Rattle.paper.specs.declared.Choice.{Choice}
use Rattle.paper.specs.declared.Choice.TheVariants.{Theirs as theirs, Own as own, New as new}
use Rattle.paper.specs.Acts.{takes_content, choice_takes}
use Rattle.paper.specs.Tree.{size, subtree, sheet_here}
use Rattle.paper.specs.Words.{table_of}
use Rattle.paper.specs.Check.{check_of}
use Rattle.paper.specs.Refusals.{first, when}
use Rattle.paper.specs.Calls.{one_to_three, event_named, choice_named, fits_sheet, last_count, content_if, event_refused, two_refused, ruling_here, is_folder, conflicts, settle_refused}
use Rattle.paper.specs.Named.{event_number, choice_number}
use Rattle.laws.proofs.Refusals.{first_skip, first_flat, unless_so}

event_named_lem : (e : Event) → event_named (event_number e) ≡ e
unfolding event_named
event_named_lem creates = refl
event_named_lem changes = refl
event_named_lem removes = refl

choice_named_lem : (c : Choice) → choice_named (choice_number c) ≡ c
unfolding choice_named
choice_named_lem theirs = refl
choice_named_lem own = refl
choice_named_lem new = refl

-- an event
pub event_said : (w : ℕ) (t : List ℕ) (row n : ℕ) (content : Content) (e : Event) (takes : Bool) → (one_to_three n ≡ true) × (n ≡ event_number e) → takes ≡ takes_content e
    → event_refused w t row n content ≡ first (check_of w t
    ∷ content_if takes content
    ∷ when (leb (size (table_of w t).tree) row) 8
    ∷ when (not (fits_sheet e (sheet_here (subtree (table_of w t).tree row)))) 10
    ∷ when (eqb (table_of w t).clock.counter last_count) 15
    ∷ [])
unfolding event_refused
event_said w t row n content e takes h k =
    let b = table_of w t in
    first_skip _ _ _ (unless_so (one_to_three n) 16 h.0)
    ∙ ap (λ (x : Event). first (check_of w t
    ∷ content_if (takes_content x) content
    ∷ when (leb (size b.tree) row) 8
    ∷ when (not (fits_sheet x (sheet_here (subtree b.tree row)))) 10
    ∷ when (eqb b.clock.counter last_count) 15
    ∷ [])) (ap event_named h.1 ∙ event_named_lem e)
    ∙ ap (λ x. first (check_of w t
    ∷ content_if x content
    ∷ when (leb (size b.tree) row) 8
    ∷ when (not (fits_sheet e (sheet_here (subtree b.tree row)))) 10
    ∷ when (eqb b.clock.counter last_count) 15
    ∷ [])) (sym k)

-- a settling
pub settle_said : (w : ℕ) (s t : List ℕ) (row n : ℕ) (content : Content) (c : Choice) (takes : Bool) → (one_to_three n ≡ true) × (n ≡ choice_number c) → takes ≡ choice_takes c
    → (let said = ruling_here (table_of w s) (table_of w t) row in settle_refused w s t row n content ≡ first (two_refused w s t row
    ∷ content_if takes content
    ∷ when (is_folder said) 10
    ∷ when (not (conflicts said)) 14
    ∷ when (eqb (table_of w t).clock.counter last_count) 15
    ∷ []))
unfolding settle_refused
settle_said w s t row n content c takes h k =
    let said = ruling_here (table_of w s) (table_of w t) row in
    first_skip _ _ _ (unless_so (one_to_three n) 16 h.0)
    ∙ ap (λ (x : Choice). first (two_refused w s t row
    ∷ content_if (choice_takes x) content
    ∷ when (is_folder said) 10
    ∷ when (not (conflicts said)) 14
    ∷ when (eqb (table_of w t).clock.counter last_count) 15
    ∷ [])) (ap choice_named h.1 ∙ choice_named_lem c)
    ∙ ap (λ x. first (two_refused w s t row
    ∷ content_if x content
    ∷ when (is_folder said) 10
    ∷ when (not (conflicts said)) 14
    ∷ when (eqb (table_of w t).clock.counter last_count) 15
    ∷ [])) (sym k)

-- two tests in one
pub two_first : (a b : ℕ) (r : List ℕ) → first (a ∷ b ∷ r) ≡ first (first (a ∷ b ∷ []) ∷ r)
two_first a b r = sym (first_flat (a ∷ b ∷ []) r)
