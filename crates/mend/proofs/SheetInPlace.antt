-- A sheet's row written over in place and the counter set: what an event and a settling share.
use Prim.Native.Nat.{ℕ, ◌+◌, ◌-◌, ◌*◌}
use mathlib.Core.Path.{◌≡◌, sym, ap, ap₂, subst}
use mathlib.Core.List.{List}
use mathlib.Core.Option.{some}
use lib.ListN.{take, drop, set}
use borrow.Rule.Slice.PartMut.{put_mid}
use Rattle.paper.specs.declared.Clock.{Clock}
use Rattle.paper.specs.Columns.{Vec}
use Rattle.paper.specs.Tree.{Forest, mapped, subtree, graft, sheet_here, Sheet}
use Rattle.paper.specs.Words.{wide, sheet_words, table_of}
use Rattle.laws.proofs.Forests.{sheet_alone}
use Rattle.mend.proofs.PutInPlace.{SheetAt, FineSheet, Changed, sheet_changed}

-- a row's words as the code cuts them, and the table with e put back there and the counter k
abbrev pub cut_row : ℕ → List ℕ → ℕ → List ℕ
cut_row w t row = take ((row + 1) * wide w + wide w - (row + 1) * wide w) (drop ((row + 1) * wide w) t)

abbrev pub put_row : ℕ → List ℕ → ℕ → List ℕ → ℕ → List ℕ
put_row w t row e k = set (put_mid ((row + 1) * wide w) ((row + 1) * wide w + wide w - (row + 1) * wide w) t e) 1 k

-- the sheet at the row becomes what `to` makes of x, which stands there in the forest g; c is the table's clock afterwards
pub sheet_made : {X Y : Type 0} (w : ℕ) (t : List ℕ) (row : ℕ) → SheetAt w t row → (to : X → Sheet) (by : Y → Vec) (g : Forest X Y) (x : X) → sheet_here (subtree g row) ≡ some x
    → FineSheet w (to x) → (e : List ℕ) → e ≡ sheet_words w (to x) → (c d : Clock) → c ≡ d → d.device ≡ (table_of w t).clock.device
    → Changed w t (put_row w t row e c.counter) row (record { clock = d; tree = graft (table_of w t).tree row (mapped to by (subtree g row)) })
unfolding mapped
sheet_made w t row at to by g x is fine e q c d same dev =
    subst (Changed w t (put_row w t row e c.counter) row)
    (ap₂ (λ (z : Clock) y. record { clock = z; tree = graft (table_of w t).tree row y })
    (ap₂ (λ m n. record { device = m; counter = n }) (sym dev) (ap (λ (z : Clock). z.counter) same))
    (ap (mapped to by) (sym (sheet_alone g row x is))))
    (sheet_changed w t row at (to x) fine e q c.counter)
