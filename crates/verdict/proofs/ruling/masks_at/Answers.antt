-- The two known times, each over the other.
use mathlib.Core.Path.{ap₂, ◌∙◌}
use Prim.Native.Nat.{ℕ}
use Rattle.laws.proofs.Calls.{AheadAccepted, ahead_accepted}
use Rattle.two.proofs.TwoTables.{Paired, paired}
use Rattle.verdict.proofs.SheetAt.{masks_some}
use Rattle.verdict.proofs.ruling.masks_at.Goals as goal
use Rattle.verdict.proofs.ruling.masks_at.Goals.{Start}

-- both tables pass the check, the row stands in both, and it is a sheet in conflict
ok : (c : Start) → AheadAccepted c.args.columns c.args.source.now c.args.target.now c.args.row
ok c = ahead_accepted _ _ _ _ c.requires.0

two : (c : Start) → Paired c.args.columns c.args.source.now c.args.target.now c.args.row
two c = paired _ _ _ _ (ok c).two

pub known_time-ka-requires : goal.known_time-ka-requires
known_time-ka-requires c =
    let s = (goal.at.known_time-ka-requires c).Start in record { t_value = ((two s).source, c.requires.1); row_bound = (two s).in_source }

pub known_time-kb-requires : goal.known_time-kb-requires
known_time-kb-requires c =
    let s = (goal.at.known_time-kb-requires c).Start in record { t_value = ((two s).target, c.requires.1); row_bound = (two s).in_target }

pub returns : goal.returns
returns c =
    let s = (goal.at.returns c).Start in let p = two s in
    ap₂ (λ (x y : ℕ). record { number = 0; source = x; target = y }) c.ahead.ensures c.ahead-2.ensures
    ∙ masks_some _ _ _ p.source p.target _ p.in_source p.in_target p.shaped _ _ c.known_time-ka.ensures c.known_time-kb.ensures (ok s).sheet
