-- The part is as short as a table.
use mathlib.Core.Path.{sym, ap, ◌∙◌, subst, ◌≡◌}
use mathlib.Core.List.{List}
use lib.ListN.{length}
use native.Mathlib.Omega.{arith}
use Rattle.paper.specs.Calls.{beneath_refused}
use Rattle.shown.proofs.Beneath.{beneath_length}
use Rattle.vector.specs.Wideness.{columns_in}
use Rattle.kettleflock.proofs.showing.beneath_answer.Goals as goal

pub overflow_cast-result : goal.overflow_cast-result
overflow_cast-result c =
    let f = c.in_ok-w.ensures in
    let w = ap columns_in (sym c.in-Eight.is) ∙ f.width in
    omega (
      arith,
      ap (λ (l : List _). length l) c.rows_beneath.ensures.0,
      beneath_length 8 _ _ (subst (λ n. beneath_refused n c.args.table.now c.args.row ≡ 0) (sym w) (sym f.number)),
    )

pub overflow_cast-result-in-Sixteen : goal.overflow_cast-result-in-Sixteen
overflow_cast-result-in-Sixteen c =
    let f = c.in_ok-w.ensures in
    let w = ap columns_in (sym c.in-Sixteen.is) ∙ f.width in
    omega (
      arith,
      ap (λ (l : List _). length l) c.rows_beneath-in-Sixteen.ensures.0,
      beneath_length 16 _ _ (subst (λ n. beneath_refused n c.args.table.now c.args.row ≡ 0) (sym w) (sym f.number)),
    )
