-- What the plan says of every table of a run: which rows are sheets, how many rows there are; and that of two devices'
-- tables nothing is refused but a row that is not there.
use Prim.Native.Nat.{ℕ, ◌<◌, ◌+◌}
use mathlib.Core.Path.{◌≡◌, refl, sym, ap, ◌∙◌, subst}
use mathlib.Core.Bool.{Bool, true, false, not}
use mathlib.Core.List.{List, [], ◌∷◌}
use mathlib.Core.Logic.{◌⊎◌, inl, inr}
use native.Mathlib.Omega.{arith}
use lib.Dec.{leb, eqb}
use lib.ListN.{length, get_or}
use borrow.Author.Tests.{eq-eqb, ne_eqb}
use Rattle.paper.specs.Tree.{size, subtree, sheet_here, shaped, later}
use Rattle.paper.specs.Words.{table_of}
use Rattle.paper.specs.Check.{check_of}
use Rattle.paper.specs.Widths.{width_of, table_any, two_widths, pass_any}
use Rattle.laws.proofs.Widths.{pass_through, pass_stopped}
use Rattle.paper.specs.Refusals.{first, when, tens}
use Rattle.paper.specs.Calls.{is_folder, unlike, two_refused, pass_refused, Passed}
use Rattle.laws.proofs.Calls.{pass_number}
use Rattle.laws.proofs.Refusals.{first_next, when_false, unless_so, first_one}
use Rattle.laws.proofs.Forests.{shape, shape_size, shape_shaped}
use Rattle.paper.specs.Devices.{devices}
use Rattle.run.specs.Run.{State, Makes}
use Rattle.history.specs.Look.{cell_at}
use Rattle.history.proofs.SheetsOfForests.{shape_folder}
use Rattle.history.proofs.CountersAhead.{early_later}
use Rattle.history.proofs.CallEffects.{cell_folder, pass_said}
use Rattle.history.proofs.NewTables.{plan_length, plan_sheets, plan_rows}
use Rattle.history.proofs.EveryRun.{rows_planned}
use Rattle.history.proofs.RunInvariant.{Kept, there, said_held}
use Rattle.history.proofs.CallsAccepted.{pass_accepted}
use Rattle.history.proofs.CellsFit.{rulings}
use Rattle.run.specs.Knowledge.{sets}
use Rattle.paper.specs.Rules.{ruling, number_of}

-- a refusal by 8 and then by 9
eight_nine : (n : ℕ) (x y : Bool) → n ≡ first (when x 8 ∷ when y 9 ∷ []) → (n ≡ 0) ⊎ ((n ≡ 8) ⊎ (n ≡ 9))
unfolding first when
eight_nine n true y e = inr (inl e)
eight_nine n false true e = inr (inr e)
eight_nine n false false e = inl e

pass_two : (w : ℕ) (s t : List ℕ) (row : ℕ) (list : List ℕ)
    → pass_refused w s t row list ≡ first (two_refused w s t row ∷ when (not (eqb (length list) (size (subtree (table_of w t).tree row)))) 9 ∷ [])
unfolding pass_refused
pass_two w s t row list = refl

-- THE PLAN's zeros are the sheets of every table of a run
module _ (columns : ℕ → ℕ) (plan : List ℕ) (lent : ℕ → List ℕ) (makes : Makes columns plan lent) (s : State) (k : Kept (shape (plan_rows devices plan)) s) where
  pub sheet_there : (d i : ℕ) → d < devices → get_or plan i 1 ≡ 0 → is_folder (cell_at (table_any (s.tables d)) i) ≡ false
  sheet_there d i l z =
      cell_folder (table_any (s.tables d)) i ∙ ap (λ p. is_folder (sheet_here (subtree p i))) (k.shapes d l) ∙ shape_folder (plan_rows devices plan) i
      ∙ plan_sheets (plan_rows devices plan) i ∙ ap (λ p. not (eqb (get_or p i 1) 0)) (rows_planned columns plan lent makes) ∙ rw z

  -- every table has as many rows as the plan
  pub kept_size : (d : ℕ) → d < devices → size (table_any (s.tables d)).tree ≡ length plan
  kept_size d l =
      sym (shape_size (table_any (s.tables d)).tree) ∙ ap size (k.shapes d l) ∙ shape_size (plan_rows devices plan)
      ∙ sym (plan_length (plan_rows devices plan)) ∙ ap length (rows_planned columns plan lent makes)

  module _ (a b row : ℕ) (la : a < devices) (lb : b < devices) (ne : a ≡ b → ⊥) where
    -- of two devices' tables nothing is refused before the widths, and then 19 where they differ
    pub kept_widths : two_widths (s.tables a) (s.tables b) ≡ when (not (eqb (width_of (s.tables a)) (width_of (s.tables b)))) 19
    unfolding two_widths
    kept_widths = first_next _ _ (k.sound a la) ∙ first_next _ _ (ap tens (k.sound b lb) ∙ unfold tens in refl) ∙ first_one _

    -- and where they don't, nothing but a row that is not there
    pub kept_two : width_of (s.tables a) ≡ width_of (s.tables b) → two_refused (width_of (s.tables b)) (s.tables a) (s.tables b) row ≡ when (leb (length plan) row) 8
    unfolding two_refused unlike
    kept_two one =
        first_next _ _ (ap (λ v. check_of v (s.tables a)) (sym one) ∙ k.sound a la) ∙ first_next _ _ (ap tens (k.sound b lb) ∙ unfold tens in refl) ∙ first_one _
        ∙ subst (λ v. first (when (not (shaped (table_of v (s.tables a)).tree (table_any (s.tables b)).tree)) 4
        ∷ when (eqb (table_of v (s.tables a)).clock.device (table_any (s.tables b)).clock.device) 5
        ∷ when (later (table_any (s.tables b)).clock (table_of v (s.tables a)).tree) 6
        ∷ when (later (table_of v (s.tables a)).clock (table_any (s.tables b)).tree) 7
        ∷ when (leb (size (table_any (s.tables b)).tree) row) 8
        ∷ []) ≡ when (leb (length plan) row) 8) one rest
      where
        rest : first (when (not (shaped (table_any (s.tables a)).tree (table_any (s.tables b)).tree)) 4
            ∷ when (eqb (table_any (s.tables a)).clock.device (table_any (s.tables b)).clock.device) 5
            ∷ when (later (table_any (s.tables b)).clock (table_any (s.tables a)).tree) 6
            ∷ when (later (table_any (s.tables a)).clock (table_any (s.tables b)).tree) 7
            ∷ when (leb (size (table_any (s.tables b)).tree) row) 8
            ∷ []) ≡ when (leb (length plan) row) 8
        rest =
            first_next _ _ (unless_so _ 4 (shape_shaped _ _ (k.shapes a la ∙ sym (k.shapes b lb))))
            ∙ first_next _ _ (when_false _ 5 (ne_eqb _ _ (λ e. ne (sym (k.device a la) ∙ e ∙ k.device b lb))))
            ∙ first_next _ _ (when_false _ 6 (early_later _ (table_any (s.tables b)).clock (ap (λ x. (table_any (s.tables x)).clock.counter) (k.device b lb)) (table_any (s.tables a)).tree
            (k.early a la)))
            ∙ first_next _ _ (when_false _ 7 (early_later _ (table_any (s.tables a)).clock (ap (λ x. (table_any (s.tables x)).clock.counter) (k.device a la)) (table_any (s.tables b)).tree
            (k.early b lb)))
            ∙ first_one _ ∙ ap (λ n. when (leb n row) 8) (kept_size b lb)

    -- so a pass between tables of one width is refused by 8 or 9 alone
    pub kept_pass : (list : List ℕ) → width_of (s.tables a) ≡ width_of (s.tables b)
        → ((pass_any (s.tables a) (s.tables b) row list).number ≡ 0) ⊎ (((pass_any (s.tables a) (s.tables b) row list).number ≡ 8) ⊎ ((pass_any (s.tables a) (s.tables b) row list).number ≡ 9))
    kept_pass list one =
        let w = width_of (s.tables b) in
        let short = not (eqb (length list) (size (subtree (table_any (s.tables b)).tree row))) in
        eight_nine (pass_any (s.tables a) (s.tables b) row list).number (leb (length plan) row) short
        (ap (λ (o : Passed). o.number) (pass_through (s.tables a) (s.tables b) row list (kept_widths ∙ unless_so _ 19 (eq-eqb _ _ one)))
        ∙ pass_number w (s.tables a) (s.tables b) row list ∙ pass_two w (s.tables a) (s.tables b) row list ∙ ap (λ n. first (n ∷ when short 9 ∷ [])) (kept_two one))

    -- and between tables of two widths by 19, and nothing is changed
    pub kept_apart : (list : List ℕ) → (width_of (s.tables a) ≡ width_of (s.tables b) → ⊥)
        → pass_any (s.tables a) (s.tables b) row list ≡ record { number = 19; count = 0; target = s.tables b; answers = list }
    kept_apart list two =
        let n : two_widths (s.tables a) (s.tables b) ≡ 19 = kept_widths ∙ ap (λ x. when (not x) 19) (ne_eqb _ _ two) ∙ unfold when in refl in
        pass_stopped (s.tables a) (s.tables b) row list (omega (arith, n)) ∙ ap (λ n. record { number = n; count = 0; target = s.tables b; answers = list }) n

  -- of an accepted pass, the number at a sheet is the history's
  pub kept_said : (a b row : ℕ) (list : List ℕ) → (pass_any (s.tables a) (s.tables b) row list).number ≡ 0 → (j : ℕ) → j < length list → get_or plan (row + j) 1 ≡ 0
      → get_or (pass_any (s.tables a) (s.tables b) row list).answers j 0 ≡ number_of (ruling sets.knows (s.past.cell a (row + j)) (s.past.cell b (row + j)))
  kept_said a b row list e j l z =
      let acc = pass_accepted (s.tables a) (s.tables b) row list e in
      let ta = table_any (s.tables a) in
      let tb = table_any (s.tables b) in
      let w = width_of (s.tables b) in
      let la = there (shape (plan_rows devices plan)) s k w a acc.two.source in
      let lb = there (shape (plan_rows devices plan)) s k w b acc.two.target in
      ap (λ (o : Passed). get_or o.answers j 0) acc.done
      ∙ said_held _ (cell_at ta (row + j)) (cell_at tb (row + j)) (k.flat.cell a (row + j)) (k.flat.cell b (row + j))
      (sheet_there a (row + j) la z) (sheet_there b (row + j) lb z) (k.holds a (row + j)) (k.holds b (row + j))
      (pass_said w ta tb row acc.two j (omega (arith, acc.long)))
      ∙ ap number_of (rulings (k.inv.cells a (row + j)) (k.inv.cells b (row + j)))
