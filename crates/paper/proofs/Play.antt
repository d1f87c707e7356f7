-- Short runs on the paper's plan, played at the words by the calls' own definitions, for proofs by computation.
use Prim.{Unit, tt}
use Prim.Native.Nat.{ℕ, ◌*◌}
use mathlib.Core.List.{List, [], ◌∷◌, map}
use lib.ListN.{get_or, replicate, set}
use Rattle.paper.specs.declared.Content.{Content}
use Rattle.paper.specs.Acts.{holding}
use Rattle.paper.specs.Refusals.{first}
use Rattle.paper.specs.Calls.{Changed, Passed}
use Rattle.paper.specs.Words.{wide}
use Rattle.paper.specs.Widths.{new_any, event_any, pass_any, settle_any}
use Rattle.paper.proofs.Computed.{computed}

-- a step of a run: table d has event e at a row, a is passed to b from a row on, b settles with a at a row by choice c
pub data Step : Type 0 where
  works : (d row e : ℕ) (content : Content) → Step
  pass : (a b row : ℕ) → Step
  settles : (a b row c : ℕ) (content : Content) → Step

-- with a mark, and class 0
abbrev pub event : (d row e mark : ℕ) → Step
event d row e mark = works d row e (holding mark 0)

abbrev pub settle : (a b row c mark : ℕ) → Step
settle a b row c mark = settles a b row c (holding mark 0)

-- the tables of three devices, and the first refusal so far
pub record Desk : Type 0 where
  pub tables : List (List ℕ)
  pub refused : ℕ

unfoldable pub plan : List ℕ
plan = 5 ∷ 3 ∷ 0 ∷ 0 ∷ 0 ∷ []

-- new tables of w columns, of the devices named
unfoldable pub fresh : ℕ → List ℕ → Desk
fresh w devices = record { tables = map (λ d. (new_any w d plan (replicate (6 * wide w) 9)).table) devices; refused = 0 }

-- with eight columns, devices 0, 1 and 2
unfoldable pub narrow : Desk
narrow = fresh 8 (0 ∷ 1 ∷ 2 ∷ [])

unfoldable pub table : Desk → ℕ → List ℕ
table k d = get_or k.tables d []

-- a pass between two devices, with a list of the right length for the plan's rows
unfoldable pub passed : Desk → ℕ → ℕ → ℕ → Passed
passed k a b row = pass_any (table k a) (table k b) row (replicate (get_or (5 ∷ 3 ∷ 1 ∷ 1 ∷ 1 ∷ []) row 0) 9)

-- the desk with device d's table and the call's number taken in
unfoldable pub with_table : Desk → ℕ → List ℕ → ℕ → Desk
with_table k d t n = record { tables = set k.tables d t; refused = first (k.refused ∷ n ∷ []) }

unfoldable pub changed : Desk → ℕ → Changed → Desk
changed k d o = with_table k d o.table o.number

unfoldable pub received : Desk → ℕ → Passed → Desk
received k d o = with_table k d o.target o.number

unfoldable pub step : Desk → Step → Desk
step k (works d row e content) = changed k d (event_any (table k d) row e content)
step k (pass a b row) = received k b (passed k a b row)
step k (settles a b row c content) = changed k b (settle_any (table k a) (table k b) row c content)

unfoldable pub play : Desk → List Step → Desk
play k [] = k
play k (x ∷ xs) = play (step k x) xs

-- every definition here and in the paper, opened at once
unfoldable pub played : Unit {0}
unfolding plan fresh narrow table passed with_table changed received step play computed
played = tt
