-- In a run 6 and 7 never occur: of any two devices' tables no floor of the one names a later count of the other's device,
-- whichever two numbers the devices have, and no other refusal has these numbers.
use Prim.{Unit}
use Prim.Native.Nat.{ℕ, zero, suc, ◌≤◌}
use mathlib.Core.Path.{◌≡◌, refl, sym, ap, ◌∙◌, subst}
use mathlib.Core.Bool.{Bool, true, false}
use mathlib.Core.List.{List, [], ◌∷◌}
use native.Mathlib.Omega.{arith}
use Rattle.paper.specs.declared.Content.{Content}
use Rattle.paper.specs.Columns.{Vec}
use Rattle.paper.specs.Tree.{Forest, later}
use Rattle.paper.specs.Words.{table_of}
use Rattle.paper.specs.Refusals.{first, when, tens, unless}
use Rattle.paper.specs.Check.{check_of}
use Rattle.paper.specs.Calls.{Answered, Changed, Passed, Masked, event_refused, unlike, two_refused, pass_refused, settle_refused, beneath_refused}
use Rattle.paper.specs.Calls.{standing_refused, pass_of, settle_of, standing_of, beneath_of, ahead_refused, ahead_of, event_named, choice_named, content_refused, content_if}
use Rattle.paper.specs.Widths.{width_of, table_any, check_any, widen_refused, two_widths, pass_any, settle_any, beneath_any, standing_any, ahead_any}
use Rattle.laws.proofs.Calls.{event_number, pass_number, settle_number, ahead_number}
use Rattle.paper.specs.Acts.{takes_content, choice_takes}
use Rattle.laws.proofs.Refusals.{when_false}
use Rattle.laws.proofs.Widths.{any_good, widen_number, two_any}
use Rattle.run.specs.Run.{State, Without}
use Rattle.history.proofs.CountersAhead.{early_later}
use Rattle.history.proofs.RunInvariant.{Kept, there}

module _ (n : ℕ) (least : 6 ≤ n) (most : n ≤ 7) where
  -- not the first of a list, where none of it is
  end_not : first [] ≡ n → ⊥
  unfolding first
  end_not e = omega (arith, least, e)

  first_not : (m : ℕ) (r : List ℕ) → (m ≡ n → ⊥) → (first r ≡ n → ⊥) → first (m ∷ r) ≡ n → ⊥
  unfolding first
  first_not zero r p q e = q e
  first_not (suc m) r p q e = p e

  when_not : (b : Bool) (m : ℕ) → (m ≡ n → ⊥) → when b m ≡ n → ⊥
  unfolding when
  when_not true m p e = p e
  when_not false m p e = omega (arith, least, e)

  tens_not : (m : ℕ) → tens m ≡ n → ⊥
  unfolding tens
  tens_not zero e = omega (arith, least, e)
  tens_not (suc m) e = omega (arith, most, e)

  check_not : (w : ℕ) (t : List ℕ) → check_of w t ≡ n → ⊥
  unfolding check_of
  check_not w t = first_not _ _ (when_not _ 1 (λ e. omega arith)) (first_not _ _ (when_not _ 2 (λ e. omega arith)) (first_not _ _ (when_not _ 3 (λ e. omega arith)) end_not))

  content_not : (takes : Bool) (m : Content) → content_if takes m ≡ n → ⊥
  unfolding content_refused
  content_not true m e = first_not _ _ (when_not _ 21 (λ e. omega arith)) (first_not _ _ (when_not _ 22 (λ e. omega arith)) end_not) e
  content_not false m e = omega (arith, least, e)

  -- not of a call that is refused by m or else done
  unless_not : {A : Type 0} (number : A → ℕ) (m : ℕ) (refused done : A) → number refused ≡ m → (m ≡ n → ⊥) → (m ≡ 0 → number done ≡ n → ⊥) → number (unless m refused done) ≡ n → ⊥
  unfolding unless
  unless_not number zero refused done p q r e = r refl e
  unless_not number (suc m) refused done p q r e = q (sym p ∙ e)

  widths_not : (s t : List ℕ) → two_widths s t ≡ n → ⊥
  unfolding two_widths
  widths_not s t = first_not _ _ (check_not (width_of s) s) (first_not _ _ (tens_not (check_any t)) (first_not _ _ (when_not _ 19 (λ e. omega arith)) end_not))

  -- two tables whose floors name no later counts
  two_not : (w : ℕ) (s t : List ℕ) (row : ℕ) → later (table_of w t).clock (table_of w s).tree ≡ false → later (table_of w s).clock (table_of w t).tree ≡ false → two_refused w s t row ≡ n → ⊥
  unfolding two_refused unlike
  two_not w s t row six seven =
      first_not _ _ (check_not w s)
      (first_not _ _ (tens_not (check_of w t))
      (first_not _ _
      (first_not _ _ (when_not _ 4 (λ e. omega arith))
      (first_not _ _ (when_not _ 5 (λ e. omega arith))
      (first_not _ _ (λ e. omega (arith, least, sym e ∙ when_false _ 6 six))
      (first_not _ _ (λ e. omega (arith, least, sym e ∙ when_false _ 7 seven))
      (first_not _ _ (when_not _ 8 (λ e. omega arith)) end_not)))))
      end_not))

  module _ (p : Forest (Unit {0}) (Unit {0})) (s : State) (k : Kept p s) where
    -- so the tables of any two devices that are not refused before
    kept_not : (a b row : ℕ) → two_widths (s.tables a) (s.tables b) ≡ 0 → two_refused (width_of (s.tables b)) (s.tables a) (s.tables b) row ≡ n → ⊥
    kept_not a b row e =
        let x = two_any (s.tables a) (s.tables b) e in
        let la = there p s k _ a (any_good (s.tables a) x.source) in
        let lb = there p s k _ b (any_good (s.tables b) x.target) in
        let counter : Vec = λ d. (table_any (s.tables d)).clock.counter in
        two_not (width_of (s.tables b)) (s.tables a) (s.tables b) row
        (subst (λ v. later (table_any (s.tables b)).clock (table_of v (s.tables a)).tree ≡ false) x.one
        (early_later counter (table_any (s.tables b)).clock (ap counter (k.device b lb)) (table_any (s.tables a)).tree (k.early a la)))
        (subst (λ v. later (table_of v (s.tables a)).clock (table_any (s.tables b)).tree ≡ false) x.one
        (early_later counter (table_any (s.tables a)).clock (ap counter (k.device a la)) (table_any (s.tables b)).tree (k.early b lb)))

    pub kept_without : Without n s
    kept_without = record {
      event = λ d row event content e. event' (s.tables d) row event content (sym (event_number (width_of (s.tables d)) (s.tables d) row event content) ∙ e);
      pass = pass';
      settle = settle';
      widen = λ d wider e. widen' (s.tables d) wider (sym (widen_number (s.tables d) wider) ∙ e);
      beneath = λ d row. beneath' (s.tables d) row;
      standing = standing';
      ahead = ahead';
    }
      where
        event' : (t : List ℕ) (row event : ℕ) (content : Content) → event_refused (width_of t) t row event content ≡ n → ⊥
        event' t row event content = unfold event_refused in
            (first_not _ _ (check_not (width_of t) t) (first_not _ _ (when_not _ 16 (λ e. omega arith)) (first_not _ _ (content_not (takes_content (event_named event)) content)
            (first_not _ _ (when_not _ 8 (λ e. omega arith)) (first_not _ _ (when_not _ 10 (λ e. omega arith)) (first_not _ _ (when_not _ 15 (λ e. omega arith)) end_not))))))

        widen' : (t wider : List ℕ) → widen_refused t wider ≡ n → ⊥
        widen' t wider = unfold widen_refused in
            (first_not _ _ (check_not (width_of t) t) (first_not _ _ (when_not _ 19 (λ e. omega arith)) (first_not _ _ (when_not _ 9 (λ e. omega arith)) end_not)))

        beneath' : (t : List ℕ) (row : ℕ) → (beneath_any t row).number ≡ n → ⊥
        beneath' t row = unfold beneath_of beneath_refused in
            (first_not _ _ (check_not (width_of t) t) (first_not _ _ (when_not _ 8 (λ e. omega arith)) end_not))

        pass' : (a b row : ℕ) (list : List ℕ) → (pass_any (s.tables a) (s.tables b) row list).number ≡ n → ⊥
        pass' a b row list = unfold pass_any in
            (unless_not (λ (o : Passed). o.number) (two_widths (s.tables a) (s.tables b)) _ (pass_of (width_of (s.tables b)) (s.tables a) (s.tables b) row list) refl
            (widths_not (s.tables a) (s.tables b))
            (λ z e. unfold pass_refused in (first_not _ _ (kept_not a b row z) (first_not _ _ (when_not _ 9 (λ e. omega arith)) end_not))
            (sym (pass_number (width_of (s.tables b)) (s.tables a) (s.tables b) row list) ∙ e)))

        settle' : (a b row choice : ℕ) (content : Content) → (settle_any (s.tables a) (s.tables b) row choice content).number ≡ n → ⊥
        settle' a b row choice content = unfold settle_any in
            (unless_not (λ (o : Changed). o.number) (two_widths (s.tables a) (s.tables b)) _ (settle_of (width_of (s.tables b)) (s.tables a) (s.tables b) row choice content) refl
            (widths_not (s.tables a) (s.tables b))
            (λ z e. unfold settle_refused in
            (first_not _ _ (kept_not a b row z) (first_not _ _ (when_not _ 16 (λ e. omega arith)) (first_not _ _ (content_not (choice_takes (choice_named choice)) content)
            (first_not _ _ (when_not _ 10 (λ e. omega arith)) (first_not _ _ (when_not _ 14 (λ e. omega arith)) (first_not _ _ (when_not _ 15 (λ e. omega arith)) end_not))))))
            (sym (settle_number (width_of (s.tables b)) (s.tables a) (s.tables b) row choice content) ∙ e)))

        standing' : (a b row : ℕ) → (standing_any (s.tables a) (s.tables b) row).number ≡ n → ⊥
        standing' a b row = unfold standing_any in
            (unless_not (λ (o : Answered). o.number) (two_widths (s.tables a) (s.tables b)) _ (standing_of (width_of (s.tables b)) (s.tables a) (s.tables b) row) refl
            (widths_not (s.tables a) (s.tables b))
            (λ z. unfold standing_of standing_refused in (first_not _ _ (kept_not a b row z) (first_not _ _ (when_not _ 10 (λ e. omega arith)) end_not))))

        ahead' : (a b row : ℕ) → (ahead_any (s.tables a) (s.tables b) row).number ≡ n → ⊥
        ahead' a b row = unfold ahead_any in
            (unless_not (λ (o : Masked). o.number) (two_widths (s.tables a) (s.tables b)) _ (ahead_of (width_of (s.tables b)) (s.tables a) (s.tables b) row) refl
            (widths_not (s.tables a) (s.tables b))
            (λ z e. unfold ahead_refused in (first_not _ _ (kept_not a b row z) (first_not _ _ (when_not _ 10 (λ e. omega arith)) (first_not _ _ (when_not _ 14 (λ e. omega arith)) end_not)))
            (sym (ahead_number (width_of (s.tables b)) (s.tables a) (s.tables b) row) ∙ e)))
