-- A row of two tables of one shape side by side: what the pair has there, each has on its side.
use Prim.Native.Nat.{ℕ}
use mathlib.Core.Path.{◌≡◌, refl, sym, ap, ◌∙◌}
use mathlib.Core.Bool.{true}
use mathlib.Core.Option.{Option, none, some, map}
use Rattle.paper.specs.Tree.{Forest, mapped, subtree, sheet_here, shaped, above}
use Rattle.paper.specs.Walk.{zip, rule_at}
use Rattle.paper.specs.Words.{Table}
use Rattle.paper.specs.Calls.{pair_at, ruling_here, is_folder, ahead_sheet, ahead_here}
use Rattle.laws.proofs.Forests.{mapped_subtree, mapped_here, shaped_shape, zip_left, zip_right}

-- the sheet at a row, if there is one
pub mapped_at : {X Y Z W : Type 0} (f : X → Z) (g : Y → W) (t : Forest X Y) (i : ℕ) → sheet_here (subtree (mapped f g t) i) ≡ map f (sheet_here (subtree t i))
mapped_at f g t i = ap sheet_here (sym (mapped_subtree f g t i)) ∙ mapped_here f g (subtree t i)

map_folder : {X Y : Type 0} (f : X → Y) (o : Option X) → is_folder (map f o) ≡ is_folder o
map_folder f none = refl
map_folder f (some x) = refl

-- A ROW of two tables of one shape
module _ (a b : Table) (row : ℕ) (e : shaped a.tree b.tree ≡ true) where
  -- each has its side of what the pair has
  pub side_left : sheet_here (subtree a.tree row) ≡ map (λ x. x.a) (sheet_here (pair_at a b row))
  side_left = ap (λ t. sheet_here (subtree t row)) (sym (zip_left a.tree b.tree (shaped_shape a.tree b.tree e))) ∙ mapped_at (λ x. x.a) (λ y. y.a) (zip a.tree b.tree) row

  pub side_right : sheet_here (subtree b.tree row) ≡ map (λ x. x.b) (sheet_here (pair_at a b row))
  side_right = ap (λ t. sheet_here (subtree t row)) (sym (zip_right a.tree b.tree (shaped_shape a.tree b.tree e))) ∙ mapped_at (λ x. x.b) (λ y. y.b) (zip a.tree b.tree) row

  -- the ruling there is of the sheets that the pair has
  pub ruling_pair : ruling_here a b row ≡ map (rule_at a.clock b.clock (above a.tree row) (above b.tree row)) (sheet_here (pair_at a b row))
  unfolding ruling_here
  ruling_pair = mapped_here (rule_at a.clock b.clock (above a.tree row) (above b.tree row)) (λ y. y) (pair_at a b row)

  -- and so are the masks
  pub ahead_pair : (w : ℕ) → ahead_here w a b row ≡ map (ahead_sheet w a.clock b.clock (above a.tree row) (above b.tree row)) (sheet_here (pair_at a b row))
  unfolding ahead_here
  ahead_pair w = mapped_here (ahead_sheet w a.clock b.clock (above a.tree row) (above b.tree row)) (λ y. y) (pair_at a b row)

  -- there is none where the target has a folder
  pub ruling_folder : is_folder (ruling_here a b row) ≡ is_folder (sheet_here (subtree b.tree row))
  ruling_folder = ap is_folder ruling_pair ∙ map_folder _ (sheet_here (pair_at a b row)) ∙ sym (ap is_folder side_right ∙ map_folder _ (sheet_here (pair_at a b row)))
