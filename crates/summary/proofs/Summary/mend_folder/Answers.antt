-- The children's rows, and then the row.
use mathlib.Core.Path.{sym, ap, subst, ◌∙◌}
use mathlib.Core.List.{List}
use Prim.Native.Nat.{ℕ}
use native.Mathlib.Omega.{arith}
use Rattle.paper.specs.Order.{forest_of}
use Rattle.paper.specs.Words.{wide}
use Rattle.summary.specs.Sums.{Sums, Siblings, stored, mended}
use Rattle.vector.proofs.Parts.{tail_part}
use Rattle.summary.proofs.Summary.mend_folder.Goals as goal

pub of_rows-rows-requires : goal.of_rows-rows-requires
of_rows-rows-requires g c = (omega arith, subst (Siblings g.row.N) (sym (tail_part (wide g.row.N) c.args.t.now)) c.requires.siblings)

pub returns : goal.returns
returns g c =
    let w = g.row.N in let t = c.args.t.now in
    c.mend.ensures ∙ ap (λ (s : Sums). mended w s t)
    (c.of_rows-rows.ensures ∙ ap (λ (l : List ℕ). stored w (forest_of (wide w) l)) (tail_part (wide w) t))
