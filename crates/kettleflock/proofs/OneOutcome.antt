-- The contract of each call leaves one outcome: two outcomes that meet it at one entry are equal, in every number returned, every word
-- of every `&mut` buffer, and of a part that is handed back its words and its place. And it asks nothing of the caller. The contracts are
-- those that the functions are proved to meet, `clauses` of each function's own module: to weaken one in src/ is to lose its field here.
use Prim.Native.Nat.{ℕ}
use mathlib.Core.Path.{◌≡◌, refl, sym, ◌∙◌, ap}
use seplogic.Ra.Ura.{Ura}
use base.Logic.{SProp, ent, emp, id⊢}
use prog.Memory.{Memory}
use prog.Routine.{Routine}
use types.Logic.{Logic}
use contract.Lifetimes.{Lfts}
use contract.Monad.{Fun, fact, fact_i, fact_use, conj, conj_l, conj_r}
use denote.Triple.Entry.{Args, Res}
use denote.Triple.Clauses.{Ended, Clauses, Lasts, AtExit, at_exit}
use Rattle.std.specs.Prelude.{Option, Result}
use Rattle.paper.specs.declared.Ahead.{Ahead}
use Rattle.paper.specs.declared.Refusal.{Refusal}
use Rattle.paper.specs.declared.Side.{Side}
use Rattle.paper.specs.Named.{side_number}
use Rattle.paper.specs.Calls.{Answered, Changed, Passed, Masked, answer_of, masks_told}
use Rattle.kettleflock.proofs.Told.{result_in, answer_back, ahead_in, masks_back, side_in, side_back}
use Rattle.paper.specs.declared.Answer.{Answer}
use Rattle.paper.specs.declared.Masks.{Masks}
use Rattle.kettleflock.specs.contracts.check as check
use Rattle.kettleflock.specs.contracts.new as new
use Rattle.kettleflock.specs.contracts.widen as widen
use Rattle.kettleflock.specs.contracts.event as event
use Rattle.kettleflock.specs.contracts.passing.pass as pass
use Rattle.kettleflock.specs.contracts.settling.settle as settle
use Rattle.kettleflock.specs.contracts.settling.ahead as ahead
use Rattle.kettleflock.specs.contracts.showing.beneath_answer as beneath_answer
use Rattle.kettleflock.specs.contracts.showing.standing_answer as standing_answer
use Rattle.kettleflock.specs.contracts.showing.standing_side as standing_side
use Rattle.kettleflock.specs.contracts.showing.beneath as beneath
use Rattle.kettleflock.specs.contracts.showing.standing as standing

-- of a function: the lifetimes it is called at, and what two results have to have in common
abbrev pub Lives : Ended → Type 0
Lives T = Lfts T.signature.lifetimes

abbrev pub Alike : Ended → Type 1
Alike T = (κs : Lives T) → Res T.signature κs → Res T.signature κs → Type 0

module _ {M : Type 1} (𝓤 : Ura M) where
  -- the contract c at the entry a asks nothing of the caller; and of results x and y and last words u and v of what is lent to be written, if
  -- both meet it, x is like y, and u is v. (P ⊢ ⌜F⌝: who has P knows F.)
  pub record Settles (T : Ended) (Like : Alike T) (c : Clauses 𝓤 T) : Type 1 where
    pub asks_nothing : (κs : Lives T) (a : Args T.signature κs) → (g : (c κs a).ghost) × ent 𝓤 (emp 𝓤) ((c κs a).requires g)
    pub one : (κs : Lives T) (a : Args T.signature κs) (g : (c κs a).ghost) (x y : Res T.signature κs) (u v : Lasts T κs a)
        → ent 𝓤 (conj 𝓤 ((c κs a).ensures g x (at_exit T κs a u)) ((c κs a).ensures g y (at_exit T κs a v))) (fact 𝓤 (Like κs x y × (u ≡ v)))

  -- numbers are alike if they are equal
  abbrev pub One : (T : Ended) → Clauses 𝓤 T → Type 1
  One T c = Settles T (λ κs x y. x ≡ y) c

  module _ (𝓛 : Logic 𝓤) (m : Memory → SProp 𝓤) (f : Routine → Fun 𝓤) where
    -- one field a call; parts are alike if their words and their place are equal
    pub record OneOutcome : Type 1 where
      pub check : One check.ended (check.clauses 𝓛 m f)
      pub new : One new.ended (new.clauses 𝓛 m f)
      pub widen : One widen.ended (widen.clauses 𝓛 m f)
      pub event : One event.ended (event.clauses 𝓛 m f)
      pub pass : One pass.ended (pass.clauses 𝓛 m f)
      pub settle : One settle.ended (settle.clauses 𝓛 m f)
      pub ahead : One ahead.ended (ahead.clauses 𝓛 m f)
      pub beneath_answer : One beneath_answer.ended (beneath_answer.clauses 𝓛 m f)
      pub standing_answer : One standing_answer.ended (standing_answer.clauses 𝓛 m f)
      pub standing_side : One standing_side.ended (standing_side.clauses 𝓛 m f)
      pub beneath : Settles beneath.ended (λ κs x y. (x.now ≡ y.now) × (x.ref_ptr ≡ y.ref_ptr)) (beneath.clauses 𝓛 m f)
      pub standing : Settles standing.ended (λ κs x y. (x.now ≡ y.now) × (x.ref_ptr ≡ y.ref_ptr)) (standing.clauses 𝓛 m f)

  -- a contract that asks nothing and promises the plain fact F
  pub plain : (T : Ended) (Like : Alike T) (F : (κs : Lives T) → Args T.signature κs → Res T.signature κs → AtExit T κs → Type 0)
      → ((κs : Lives T) (a : Args T.signature κs) (x y : Res T.signature κs) (u v : Lasts T κs a) → F κs a x (at_exit T κs a u) → F κs a y (at_exit T κs a v) → Like κs x y × (u ≡ v))
      → Settles T Like (λ κs a. record { ghost = Unit {0}; requires = λ g. emp 𝓤; ensures = λ g r e. fact 𝓤 (F κs a r e) })
  plain T Like F h = record {
    asks_nothing = λ κs a. (tt, id⊢ 𝓤 (emp 𝓤));
    one = λ κs a g x y u v.
        let P = F κs a x (at_exit T κs a u) in
        let Q = F κs a y (at_exit T κs a v) in
        fact_use 𝓤 P (conj_l 𝓤 (fact 𝓤 P) (fact 𝓤 Q)) (λ p. fact_use 𝓤 Q (conj_r 𝓤 (fact 𝓤 P) (fact 𝓤 Q)) (λ q. fact_i 𝓤 (Like κs x y × (u ≡ v)) (conj 𝓤 (fact 𝓤 P) (fact 𝓤 Q)) (h κs a x y u v p q)));
  }

-- two outcomes that are both o agree in whatever is read off an outcome, and two parts in their words and their place
pub by : {O X U : Type 0} (f : O → X) (h : O → U) {s t o : O} → s ≡ o → t ≡ o → (f s ≡ f t) × (h s ≡ h t)
by f h p q = (ap f (p ∙ sym q), ap h (p ∙ sym q))

part : {X Y U : Type 0} {s t o : X} {i j k : Y} {u : U} → (s ≡ o) × (i ≡ k) → (t ≡ o) × (j ≡ k) → ((s ≡ t) × (i ≡ j)) × (u ≡ u)
part p q = ((p.0 ∙ sym q.0, p.1 ∙ sym q.1), refl)

-- what is returned, read off an outcome
abbrev pub answered : Answered → Answer
answered o = record { number = o.number; count = o.count }

abbrev pub changed : Changed → Answer
changed o = record { number = o.number; count = o.count }

abbrev pub passed : Passed → Answer
passed o = record { number = o.number; count = o.count }

abbrev pub masked : Masked → Masks
masked o = record { number = o.number; source = o.source; target = o.target }

abbrev pub side : ℕ → ℕ
side o = o

-- a result by what is told of it
told_same : {x y : Result ℕ Refusal} → answer_of x ≡ answer_of y → x ≡ y
told_same {x} {y} e = sym (answer_back x) ∙ ap result_in e ∙ answer_back y

by_answer : {U : Type 0} {x y : Result ℕ Refusal} {u v : U} → (answer_of x ≡ answer_of y) × (u ≡ v) → (x ≡ y) × (u ≡ v)
by_answer p = (told_same p.0, p.1)

by_masks : {U : Type 0} {x y : Result Ahead Refusal} {u v : U} → (masks_told x ≡ masks_told y) × (u ≡ v) → (x ≡ y) × (u ≡ v)
by_masks {x = x} {y = y} p = (sym (masks_back x) ∙ ap ahead_in p.0 ∙ masks_back y, p.1)

by_side_number : {U : Type 0} {x y : Option Side} {u v : U} → (side_number x ≡ side_number y) × (u ≡ v) → (x ≡ y) × (u ≡ v)
by_side_number {x = x} {y = y} p = (sym (side_back x) ∙ ap side_in p.0 ∙ side_back y, p.1)

pub one_outcome : {M : Type 1} {𝓤 : Ura M} (𝓛 : Logic 𝓤) (m : Memory → SProp 𝓤) (f : Routine → Fun 𝓤) → OneOutcome 𝓤 𝓛 m f
one_outcome {𝓤 = 𝓤} 𝓛 m f = record {
  check = plain 𝓤 _ _ _ (λ κs a x y u v p q. by_answer {x = x} {y = y} (by answered (λ o. (tt, tt)) p q));
  new = plain 𝓤 _ _ _ (λ κs a x y u v p q. by_answer {x = x} {y = y} (by changed (λ o. (tt, (tt, (tt, (o.table, tt))))) p q));
  widen = plain 𝓤 _ _ _ (λ κs a x y u v p q. by_answer {x = x} {y = y} (by changed (λ o. (tt, (o.table, tt))) p q));
  event = plain 𝓤 _ _ _ (λ κs a x y u v p q. by_answer {x = x} {y = y} (by changed (λ o. (o.table, (tt, (tt, (tt, tt))))) p q));
  pass = plain 𝓤 _ _ _ (λ κs a x y u v p q. by_answer {x = x} {y = y} (by passed (λ o. (tt, (o.target, (tt, (o.answers, tt))))) p q));
  settle = plain 𝓤 _ _ _ (λ κs a x y u v p q. by_answer {x = x} {y = y} (by changed (λ o. (tt, (o.table, (tt, (tt, (tt, tt)))))) p q));
  ahead = plain 𝓤 _ _ _ (λ κs a x y u v p q. by_masks {x = x} {y = y} (by masked (λ o. (tt, (tt, (tt, tt)))) p q));
  beneath_answer = plain 𝓤 _ _ _ (λ κs a x y u v p q. by_answer {x = x} {y = y} (by answered (λ o. (tt, (tt, tt))) p q));
  standing_answer = plain 𝓤 _ _ _ (λ κs a x y u v p q. by_answer {x = x} {y = y} (by answered (λ o. (tt, (tt, (tt, tt)))) p q));
  standing_side = plain 𝓤 _ _ _ (λ κs a x y u v p q. by_side_number {x = x} {y = y} (by side (λ o. (tt, (tt, (tt, tt)))) p q));
  beneath = plain 𝓤 _ _ _ (λ κs a x y u v. part);
  standing = plain 𝓤 _ _ _ (λ κs a x y u v. part);
}
