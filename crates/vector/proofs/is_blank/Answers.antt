-- Each word is looked at, whatever came before it.
use Rattle.std.specs.List.{fold}
use Rattle.vector.proofs.BlankSoFar.{blank_fold}
use mathlib.Core.Path.{◌≡◌, ◌∙◌}
use mathlib.Core.Bool.{Bool, true, ◌&&◌}
use lib.Dec.{eqb}
use Prim.Native.Nat.{ℕ}
use borrow.Author.Rules.{rules}
use Rattle.std.proofs.iter.runs.Made.{chains}
use Rattle.vector.proofs.is_blank.Goals as goal

pub returns : goal.returns
returns c =
    let e : c.fold.result ≡ fold (λ (all : Bool) (word : ℕ). all && eqb word 0) true c.args.t.now = search (rules, chains) in
    e ∙ blank_fold true c.args.t.now
