-- What a name finds in cells, and which of it is told. A cell has, of each client, one more than the last place that used it, and 0 where none did.
use Rattle.std.specs.Prelude.{◌≡◌, ◌≢◌, ℕ, ◌+◌, ◌<◌, ◌≤◌, ◌==◌, nat_lt, nat_le, ◌&&◌, ◌||◌, Bool, true, false, List, [], replicate, slice_set, slice_index, slice_index_or, ◌⊎◌, Option, Some, None}
use Rattle.rc_base.specs.declared.sync.Name.{Name}
use Rattle.race_check.specs.declared.verdict.Spot.{Spot}
use Rattle.race_check.specs.declared.verdict.Spot.TheVariants.{Pixel, Shared}
use Rattle.race_check.specs.declared.cells.Cells.{Cells}
use Rattle.race_check.specs.declared.found.Found.{Found}
use Rattle.race_check.specs.declared.run.Run.{Run}

-- ---- which is told

abbrev pub is_no_later : Spot → Spot → Bool
is_no_later (Shared s) (Shared t) = nat_le s t
is_no_later (Shared s) (Pixel u v) = true
is_no_later (Pixel x y) (Shared t) = false
is_no_later (Pixel x y) (Pixel u v) = nat_lt y v || (y == v && nat_le x u)

-- of a lower client, of this client later, of one name at an earlier spot
abbrev pub leads : Found → Found → Bool
leads a b = nat_lt a.client b.client || (a.client == b.client && (nat_lt b.place a.place || (a.place == b.place && is_no_later a.spot b.spot)))

-- of a set the one that leads all is told, and nothing of the empty set
pub record IsFirst (among : Found → Type 0) (told : Option Found) : Type 0 where
  pub none : told ≡ None → (x : Found) → among x → ⊥
  pub some : (r : Found) → told ≡ Some r → among r × ((x : Found) → among x → leads r x ≡ true)

-- a set, and what was told before
abbrev pub OrBefore : Option Found → (Found → Type 0) → Found → Type 0
OrBefore best finds x = (best ≡ Some x) ⊎ finds x

-- of a set and what was told before, the first is told
abbrev pub Tells : Option Found → (Found → Type 0) → Option Found → Type 0
Tells best finds told = IsFirst (OrBefore best finds) told

-- ---- a cell

abbrev pub cell_at : List (List ℕ) → ℕ → List ℕ
cell_at cells index = slice_index_or cells index []

-- the last use of another client that the cell tells, where the clock doesn't count it
pub record IsFoundIn (own : ℕ) (clock cell : List ℕ) (spot : Spot) (x : Found) : Type 0 where
  pub other : x.client ≢ own
  pub last : slice_index cell x.client ≡ x.place + 1
  pub uncounted : slice_index clock x.client ≤ x.place
  pub at : x.spot ≡ spot

-- the clock counts all uses of the cell
abbrev pub AreCounted : List ℕ → List ℕ → ℕ → Type 0
AreCounted clock cell n = (d : ℕ) → d < n → slice_index cell d ≤ slice_index clock d

-- no cell is used
abbrev pub AreUnused : ℕ → List (List ℕ) → Type 0
AreUnused count cells = cells ≡ replicate count (replicate 8 0)

-- the name is its client's last that used the cell
abbrev pub marked : Name → List ℕ → List ℕ
marked n cell = slice_set cell n.client (n.place + 1)

-- the name uses the cell at an index
abbrev pub mark : Name → List (List ℕ) → ℕ → List (List ℕ)
mark n cells index = slice_set cells index (marked n (cell_at cells index))

abbrev pub IsMarked : Name → Cells → ℕ → Cells → Type 0
IsMarked n before index after = after.cells.items ≡ mark n before.cells.items index

-- the cell of a table at an index
abbrev pub cell_of : Cells → ℕ → List ℕ
cell_of table index = cell_at table.cells.items index

-- the cell of a shared texture tells it
abbrev pub IsFoundOf : Name → List ℕ → Cells → ℕ → Found → Type 0
IsFoundOf n clock table texture x = IsFoundIn n.client clock (cell_of table texture) (Shared texture) x

-- ---- pixels of a row

-- the run lies in a window
abbrev pub IsRunIn : ℕ → ℕ → Run → Type 0
IsRunIn width height r = (r.row < height) × (r.from ≤ r.to) × (r.to ≤ width)

abbrev pub run_has : Run → ℕ → ℕ → Bool
run_has r x y = r.row == y && (nat_le r.from x && nat_lt x r.to)
