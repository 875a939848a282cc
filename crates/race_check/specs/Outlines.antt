-- What commands may use, by the boxes of what they draw, and tables that tell no less than the last uses.
use Rattle.std.specs.Prelude.{◌≡◌, ℕ, ◌<◌, ◌≤◌, Bool, true, List, length, slice_index, ◌⊎◌, None, pos}
use Rattle.rc_base.specs.Drawing.Touch.{touches, may_sample, writes_shared}
use Rattle.rc_base.specs.Lists.{IsIn}
use Rattle.rc_base.specs.Orders.Order.{Footprint}
use Rattle.rc_base.specs.declared.scene.Decl.{Decl}
use Rattle.rc_base.specs.declared.state.Effect.{Effect}
use Rattle.rc_base.specs.declared.state.State.{State}
use Rattle.rc_base.specs.declared.sync.Name.{Name}
use Rattle.race_check.specs.Finds.{cell_at, marked}
use Rattle.race_check.specs.Uses.{HasEffect, PassesTables, named}
use Rattle.race_check.specs.declared.outlines.Outlines.{Outlines}
use Rattle.race_check.specs.declared.range.Range.{Range}
use Rattle.race_check.specs.declared.cells.Cells.{Cells}
use Rattle.race_check.specs.declared.reach.Area.{Area}
use Rattle.race_check.specs.declared.reach.Reach.{Reach}

-- ---- what a command may use

abbrev pub IsAmong : Range → ℕ → Type 0
IsAmong r k = (r.from ≤ k) × (k < r.to)

abbrev pub nowhere : Range
nowhere = record { from = 0; to = 0 }

abbrev pub no_reach : Reach
no_reach = record { rows = nowhere; columns = nowhere; samples = nowhere; writes = nowhere }

-- it lies in the window, and in the names of textures
abbrev pub IsInside : ℕ → ℕ → Reach → Type 0
IsInside width height r = (r.rows.to ≤ height) × (r.columns.to ≤ width) × (r.samples.to ≤ 256) × (r.writes.to ≤ 256)

-- the rows and columns hold all pixels of the window that pass a test
abbrev pub HoldsAll : ℕ → ℕ → (ℕ → ℕ → Bool) → Area → Type 0
HoldsAll width height has area = (x y : ℕ) → x < width → y < height → has x y ≡ true → IsAmong area.rows y × IsAmong area.columns x

-- the effect touches the pixel in column x and row y
abbrev pub touching : State → Effect → ℕ → ℕ → Bool
touching s e x y = touches s e (pos x) (pos y)

-- the pixels of the window that are touched lie in the rows and in the columns, and the textures that are sampled and written in theirs
pub record IsReach (touching : ℕ → ℕ → Bool) (sampling writing : ℕ → Bool) (width height : ℕ) (r : Reach) : Type 0 where
  pub rows : (x y : ℕ) → x < width → y < height → touching x y ≡ true → IsAmong r.rows y
  pub columns : (x y : ℕ) → x < width → y < height → touching x y ≡ true → IsAmong r.columns x
  pub samples : (t : ℕ) → sampling t ≡ true → IsAmong r.samples t
  pub writes : (t : ℕ) → writing t ≡ true → IsAmong r.writes t
  pub inside : IsInside width height r

-- so much an effect may use
abbrev pub IsReachOf : State → Effect → ℕ → ℕ → Reach → Type 0
IsReachOf s e width height r = IsReach (λ x y. touches s e (pos x) (pos y)) (may_sample s e) (writes_shared e) width height r

-- ---- tables

-- in the cell of each thing the number of a client is above the place of each of its names that was passed and used the thing
pub record TellAll (uses : Name → ℕ → Type 0) (count : ℕ) (passed : List Name) (cells : List (List ℕ)) : Type 0 where
  pub size : length cells ≡ count
  pub slots : (i : ℕ) → i < count → length (cell_at cells i) ≡ 8
  pub told : (i : ℕ) → i < count → (d p : ℕ) → IsIn (named d p) passed → uses (named d p) i → p < slice_index (cell_at cells i) d

-- of rows and of columns: who touched a pixel there; of shared textures: who wrote them, and who sampled them
pub record AreOutlined (f : Footprint (ℕ × ℕ)) (width height : ℕ) (passed : List Name) (o : Outlines) : Type 0 where
  pub rows : TellAll (λ a y. (x : ℕ) × (f.touches a (x, y) ≡ true)) height passed o.rows.cells.items
  pub columns : TellAll (λ a x. (y : ℕ) × (f.touches a (x, y) ≡ true)) width passed o.columns.cells.items
  pub writers : TellAll (λ a t. f.writes a t ≡ true) 256 passed o.writers.cells.items
  pub readers : TellAll (λ a t. f.samples a t ≡ true) 256 passed o.readers.cells.items

-- the tables of a window
pub record FitWindow (width height : ℕ) (o : Outlines) : Type 0 where
  pub rows : length o.rows.cells.items ≡ height
  pub columns : length o.columns.cells.items ≡ width
  pub writers : length o.writers.cells.items ≡ 256
  pub readers : length o.readers.cells.items ≡ 256

-- all cells of a range tell of the name, and what else they told they tell
pub record AreMarked (n : Name) (r : Range) (old new : List (List ℕ)) : Type 0 where
  pub size : length new ≡ length old
  pub inside : (i : ℕ) → IsAmong r i → cell_at new i ≡ marked n (cell_at old i)
  pub each : (i : ℕ) → (cell_at new i ≡ marked n (cell_at old i)) ⊎ (cell_at new i ≡ cell_at old i)

-- the same of the cells of a table
abbrev pub HasMarked : Name → Range → Cells → Cells → Type 0
HasMarked n r before after = AreMarked n r before.cells.items after.cells.items

-- the clock counts all that the cells of a range tell of a client
abbrev pub AreCountedIn : List ℕ → List (List ℕ) → Range → ℕ → Type 0
AreCountedIn clock cells r d = (i : ℕ) → IsAmong r i → slice_index (cell_at cells i) d ≤ slice_index clock d

-- The clock counts whatever may conflict with what has this reach: of each client what touched one of the rows, or what touched one of the columns, and the
-- uses of textures that conflict.
pub record CountsAll (clock : List ℕ) (r : Reach) (o : Outlines) : Type 0 where
  pub pixels : (d : ℕ) → d < 8 → AreCountedIn clock o.rows.cells.items r.rows d ⊎ AreCountedIn clock o.columns.cells.items r.columns d
  pub written : (d : ℕ) → d < 8 → AreCountedIn clock o.writers.cells.items r.writes d × AreCountedIn clock o.readers.cells.items r.writes d
  pub sampled : (d : ℕ) → d < 8 → AreCountedIn clock o.writers.cells.items r.samples d

-- ---- one name

-- A name passes the tables of rows and columns with nothing told: all that conflicts with it is before it.
abbrev pub PassesOutlines : Footprint (ℕ × ℕ) → ℕ → ℕ → (ℕ → ℕ) → Name → Outlines → Outlines → Type 0
PassesOutlines f width height clock n old new = PassesTables (AreOutlined f width height) f clock n old new None

-- so it does in whatever footprint it has this effect
abbrev pub IsApart : State → Effect → Decl → (ℕ → ℕ) → Name → Outlines → Outlines → Type 0
IsApart s e decl clock n old new =
    (f : Footprint (ℕ × ℕ)) → HasEffect f n decl.width decl.height s e → PassesOutlines f decl.width decl.height clock n old new
