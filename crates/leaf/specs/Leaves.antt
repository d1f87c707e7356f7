-- What a pass does at one row, said of the words of the source's row s and the target's row t. More words may follow
-- either row: they stay.
use Rattle.std.specs.Prelude.{ℕ, ◌≤◌, ◌<◌, ◌*◌, Bool, ◌&&◌, cond, List, ◌≡◌, eqb, length, get_or, take, drop, set}
use Rattle.paper.specs.declared.Ruling.{Ruling}
use Rattle.paper.specs.declared.Clock.{Clock}
use Rattle.paper.specs.Columns.{Vec, full, covered, alike, part, columns}
use Rattle.paper.specs.Rules.{number_of, takes}
use Rattle.paper.specs.Tree.{Sheet}
use Rattle.paper.specs.Walk.{Two, raised, rule_at, ruled}
use Rattle.paper.specs.Words.{wide, floor_at, newest_at, least_at, most_at, floor_of, sheet_of}
use Rattle.paper.specs.Devices.{devices}
use Rattle.vector.specs.Places.{put}
use Rattle.summary.specs.Sums.{sums_row, mended}

-- what the leaves take for granted: two whole rows, and devices that are columns
pub record Rows (w : ℕ) (s t : List ℕ) (a b : Clock) : Type 0 where
  pub source : wide w ≤ length s
  pub target : wide w ≤ length t
  pub device_a : a.device < w
  pub device_b : b.device < w
  pub few : w ≤ devices

-- t with what stands at s: words 0 and 2 to 7
unfoldable pub taken_from : List ℕ → List ℕ → List ℕ
taken_from s t = put 2 (take 6 (drop 2 s)) (set t 0 (get_or s 0 0))

-- the answer beneath a passed-over folder, by a row's kind
abbrev pub silent_kind : ℕ → ℕ
silent_kind kind = cond (eqb kind 3) 5 0

-- the same for row i of a part with rows of n words
abbrev pub silent_at : ℕ → List ℕ → ℕ → ℕ
silent_at n s i = silent_kind (get_or s (i * n) 0)

-- with vectors of w columns
module _ (w : ℕ) where
  -- the sheets that two rows say
  abbrev pub sheets_of : List ℕ → List ℕ → Two Sheet
  sheets_of s t = record { a = sheet_of w s; b = sheet_of w t }

  -- t with the floor f
  unfoldable pub floored : Vec → List ℕ → List ℕ
  floored f t = put floor_at (columns w f) t

  -- t with its floor raised by v, where `so`
  abbrev pub raised_where : Bool → Clock → Vec → List ℕ → List ℕ
  raised_where so c v t = floored (cond so (raised c (floor_of w t) v) (floor_of w t)) t

  -- a is the source's clock and b the target's, ua and ub the floors above
  module _ (a b : Clock) where
    -- a sheet's row after the ruling r
    unfoldable pub ruled_row : Vec → Ruling → List ℕ → List ℕ → List ℕ
    ruled_row ua r s t =
        let t' = floored (ruled a b ua r (sheets_of s t)).floor t in
        cond (takes r) (taken_from s t') t'

    -- what is promised of a sheet's row: the number n of its ruling, and the target's row t'
    abbrev pub SheetDone : Vec → Vec → List ℕ → List ℕ → ℕ → List ℕ → Type 0
    SheetDone ua ub s t n t' = let r = rule_at a b ua ub (sheets_of s t) in (n ≡ number_of r) × (t' ≡ ruled_row ua r s t)

    -- is a folder passed over, by the summaries in the two rows?
    unfoldable pub over_rows : Vec → Vec → List ℕ → List ℕ → Bool
    over_rows ua ub s t =
        covered w (part w (newest_at w) s) (full b ub (part w (least_at w) t))
        && alike w (full a ua (part w (least_at w) s)) (full a ua (part w (most_at w) s))

    -- the row of a folder that is passed over: its floor raised by A's full least, and then its summaries put right by those in the row
    unfoldable pub over_row : Vec → List ℕ → List ℕ → List ℕ
    over_row ua s t =
        let t' = floored (raised b (floor_of w t) (full a ua (part w (least_at w) s))) t in
        mended w (sums_row w t') t'

-- what is promised of the row of a folder that is passed over
pub record OverDone (w : ℕ) (a b : Clock) (ua : Vec) (s t t' list list' : List ℕ) : Type 0 where
  pub answers : list' ≡ columns (length list) (silent_at (wide w) s)
  pub row : t' ≡ over_row w a b ua s t
