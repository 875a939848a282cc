-- What a name that touches pixels leaves of their cells, and what it finds.
use Rattle.std.specs.Prelude.{◌≡◌, ℕ, ◌+◌, ◌*◌, ◌^◌, ◌<◌, ◌&&◌, Bool, true, cond, length, List, pos, ◌≤ℤ◌, ◌⊎◌, ◌↔◌}
use Rattle.std.specs.List.{list_any}
use Rattle.rc_base.specs.Cluster.Tiles.{is_in_rect}
use Rattle.rc_base.specs.Drawing.Cover.{is_inside, is_in_scissor}
use Rattle.rc_base.specs.Drawing.Touch.{block_touches}
use Rattle.rc_base.specs.declared.state.Block.{Block}
use Rattle.rc_base.specs.declared.state.State.{State}
use Rattle.rc_base.specs.declared.window.Rect.{Rect}
use Rattle.rc_base.specs.declared.window.WindowVertex.{WindowVertex}
use Rattle.race_check.specs.Finds.{IsFirst, IsFoundIn, OrBefore, cell_at, marked}
use Rattle.race_check.specs.declared.cells.Cells.{Cells}
use Rattle.race_check.specs.declared.found.Found.{Found}
use Rattle.race_check.specs.declared.verdict.Spot.TheVariants.{Pixel}
use Rattle.race_check.specs.declared.visit.Seen.{Seen}
use Rattle.race_check.specs.declared.visit.Visit.{Visit}

-- ---- the pixels of the window that pass a test

pub record SomePasses (width height : ℕ) (has : ℕ → ℕ → Bool) : Type 0 where
  pub column : ℕ
  pub row : ℕ
  pub wide : column < width
  pub high : row < height
  pub passes : has column row ≡ true

-- the cell of one of them tells it
pub record IsFoundWhere (has : ℕ → ℕ → Bool) (v : Visit) (cells : List (List ℕ)) (x : Found) : Type 0 where
  pub pixel : SomePasses v.width v.height has
  pub found : IsFoundIn v.name.client v.clock (cell_at cells (pixel.row * v.width + pixel.column)) (Pixel pixel.column pixel.row) x

-- their cells are the name's, and the others of the window are what they were
abbrev pub AreTouched : (ℕ → ℕ → Bool) → Visit → List (List ℕ) → List (List ℕ) → Type 0
AreTouched has v old new =
    (x y : ℕ) → x < v.width → y < v.height
    → cell_at new (y * v.width + x) ≡ cond (has x y) (marked v.name (cell_at old (y * v.width + x))) (cell_at old (y * v.width + x))

-- a name touches them
pub record IsTouch (has : ℕ → ℕ → Bool) (v : Visit) (old new : List (List ℕ)) (before after : Seen) : Type 0 where
  pub cells : AreTouched has v old new
  pub best : IsFirst (OrBefore before.best (IsFoundWhere has v old)) after.best
  pub some : (after.some ≡ true) ↔ ((before.some ≡ true) ⊎ SomePasses v.width v.height has)

-- the same of the cells of a table
pub record Touches (has : ℕ → ℕ → Bool) (v : Visit) (before after : Cells) (seen later : Seen) : Type 0 where
  pub size : length after.cells.items ≡ length before.cells.items
  pub touched : IsTouch has v before.cells.items after.cells.items seen later

-- a name of one of eight clients, with 32 bits for the place behind it, visits the window that has these cells
pub record IsVisitOf (v : Visit) (pixels : Cells) : Type 0 where
  pub client : v.name.client < 8
  pub place : v.name.place + 1 < 2 ^ 32
  pub size : length pixels.cells.items ≡ v.height * v.width

-- ---- what has pixels

-- the rectangle lies in the window
pub record IsWithinWindow (width height : ℕ) (part : Rect) : Type 0 where
  pub left : pos 0 ≤ℤ part.x0
  pub right : part.x1 ≤ℤ pos width
  pub bottom : pos 0 ≤ℤ part.y0
  pub top : part.y1 ≤ℤ pos height

-- it is a part of the window that is visited
pub record IsPartVisited (v : Visit) (pixels : Cells) (r : Rect) : Type 0 where
  pub visit : IsVisitOf v pixels
  pub part : IsWithinWindow v.width v.height r

-- the triangle covers the pixel of the part
abbrev pub triangle_has : List WindowVertex → Rect → ℕ → ℕ → Bool
triangle_has v part x y = is_inside v (pos x) (pos y) && is_in_rect part (pos x) (pos y)

-- one of the triangles does
abbrev pub triangles_have : List (List WindowVertex) → Rect → ℕ → ℕ → Bool
triangles_have vs part x y = list_any (λ v. triangle_has v part x y) vs

-- the block touches the pixel
abbrev pub block_has : State → Block → ℕ → ℕ → Bool
block_has s block x y = block_touches s block (pos x) (pos y)

abbrev pub part_has : Rect → ℕ → ℕ → Bool
part_has part x y = is_in_rect part (pos x) (pos y)

-- a Clear reaches the pixel
abbrev pub clear_has : State → ℕ → ℕ → Bool
clear_has s x y = is_in_scissor s (pos x) (pos y)
