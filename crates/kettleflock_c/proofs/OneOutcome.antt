-- The contract of each export leaves one outcome, as that of each call of the library does: two outcomes that meet it at one entry are
-- equal, in every number returned and every word of every `&mut` buffer. And it asks nothing of the caller. To weaken a contract in src/
-- is to lose its field here. What Settles and One say is told where the library's own calls have their fields.
use seplogic.Ra.Ura.{Ura}
use base.Logic.{SProp}
use prog.Memory.{Memory}
use prog.Routine.{Routine}
use types.Logic.{Logic}
use contract.Monad.{Fun}
use Rattle.kettleflock.proofs.OneOutcome.{One, OneOutcome, one_outcome, plain, by, answered, changed, passed, masked, side}
use Rattle.kettleflock_c.specs.contracts.kf_version as kf_version
use Rattle.kettleflock_c.specs.contracts.kf_check as kf_check
use Rattle.kettleflock_c.specs.contracts.kf_new as kf_new
use Rattle.kettleflock_c.specs.contracts.kf_widen as kf_widen
use Rattle.kettleflock_c.specs.contracts.kf_event as kf_event
use Rattle.kettleflock_c.specs.contracts.kf_pass as kf_pass
use Rattle.kettleflock_c.specs.contracts.kf_settle as kf_settle
use Rattle.kettleflock_c.specs.contracts.kf_beneath as kf_beneath
use Rattle.kettleflock_c.specs.contracts.kf_standing as kf_standing
use Rattle.kettleflock_c.specs.contracts.kf_standing_side as kf_standing_side
use Rattle.kettleflock_c.specs.contracts.kf_ahead as kf_ahead

module _ {M : Type 1} (𝓤 : Ura M) (𝓛 : Logic 𝓤) (m : Memory → SProp 𝓤) (f : Routine → Fun 𝓤) where
  -- one field an export
  pub record OneOutcomeInC : Type 1 where
    pub kf_version : One 𝓤 kf_version.ended (kf_version.clauses 𝓛 m f)
    pub kf_check : One 𝓤 kf_check.ended (kf_check.clauses 𝓛 m f)
    pub kf_new : One 𝓤 kf_new.ended (kf_new.clauses 𝓛 m f)
    pub kf_widen : One 𝓤 kf_widen.ended (kf_widen.clauses 𝓛 m f)
    pub kf_event : One 𝓤 kf_event.ended (kf_event.clauses 𝓛 m f)
    pub kf_pass : One 𝓤 kf_pass.ended (kf_pass.clauses 𝓛 m f)
    pub kf_settle : One 𝓤 kf_settle.ended (kf_settle.clauses 𝓛 m f)
    pub kf_beneath : One 𝓤 kf_beneath.ended (kf_beneath.clauses 𝓛 m f)
    pub kf_standing : One 𝓤 kf_standing.ended (kf_standing.clauses 𝓛 m f)
    pub kf_standing_side : One 𝓤 kf_standing_side.ended (kf_standing_side.clauses 𝓛 m f)
    pub kf_ahead : One 𝓤 kf_ahead.ended (kf_ahead.clauses 𝓛 m f)

  -- of every call, the library's own and those for other languages
  pub record OneOutcomeInAll : Type 1 where
    pub calls : OneOutcome 𝓤 𝓛 m f
    pub exports : OneOutcomeInC

pub one_outcome_in_c : {M : Type 1} {𝓤 : Ura M} (𝓛 : Logic 𝓤) (m : Memory → SProp 𝓤) (f : Routine → Fun 𝓤) → OneOutcomeInC 𝓤 𝓛 m f
one_outcome_in_c {𝓤 = 𝓤} 𝓛 m f = record {
  kf_version = plain 𝓤 _ _ _ (λ κs a x y u v. by side (λ o. tt));
  kf_check = plain 𝓤 _ _ _ (λ κs a x y u v. by answered (λ o. (tt, tt)));
  kf_new = plain 𝓤 _ _ _ (λ κs a x y u v. by changed (λ o. (tt, (tt, (tt, (o.table, tt))))));
  kf_widen = plain 𝓤 _ _ _ (λ κs a x y u v. by changed (λ o. (tt, (o.table, tt))));
  kf_event = plain 𝓤 _ _ _ (λ κs a x y u v. by changed (λ o. (o.table, (tt, (tt, (tt, (tt, tt)))))));
  kf_pass = plain 𝓤 _ _ _ (λ κs a x y u v. by passed (λ o. (tt, (o.target, (tt, (o.answers, tt))))));
  kf_settle = plain 𝓤 _ _ _ (λ κs a x y u v. by changed (λ o. (tt, (o.table, (tt, (tt, (tt, (tt, tt))))))));
  kf_beneath = plain 𝓤 _ _ _ (λ κs a x y u v. by answered (λ o. (tt, (tt, tt))));
  kf_standing = plain 𝓤 _ _ _ (λ κs a x y u v. by answered (λ o. (tt, (tt, (tt, tt)))));
  kf_standing_side = plain 𝓤 _ _ _ (λ κs a x y u v. by side (λ o. (tt, (tt, (tt, tt)))));
  kf_ahead = plain 𝓤 _ _ _ (λ κs a x y u v. by masked (λ o. (tt, (tt, (tt, tt)))));
}

pub one_outcome_in_all : {M : Type 1} {𝓤 : Ura M} (𝓛 : Logic 𝓤) (m : Memory → SProp 𝓤) (f : Routine → Fun 𝓤) → OneOutcomeInAll 𝓤 𝓛 m f
one_outcome_in_all 𝓛 m f = record { calls = one_outcome 𝓛 m f; exports = one_outcome_in_c 𝓛 m f }
