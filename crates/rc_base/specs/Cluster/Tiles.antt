-- The tiles of a window, and which of them a command may touch.
use Rattle.std.specs.Prelude.{ℕ, ◌+◌, ◌-◌, ◌*◌, ◌/◌, ◌%◌, ◌&&◌, nat_le, nat_lt, Bool, false, List, ℤ, pos, int_le, int_lt, if◌then◌else◌}
use Rattle.std.specs.List.{flat_map, list_any, range_with_len, find}
use Rattle.std.specs.Option.{option_map_or}
use Rattle.rc_base.specs.Drawing.Triangles.{cut_modes}
use Rattle.rc_base.specs.Drawing.Pieces.{kept_triangles}
use Rattle.rc_base.specs.Drawing.Cover.{centre, is_in_area, is_in_scissor}
use Rattle.rc_base.specs.Cluster.ObjectBox.{is_in_object_box}
use Rattle.rc_base.specs.declared.state.State.{State}
use Rattle.rc_base.specs.declared.state.Block.{Block}
use Rattle.rc_base.specs.declared.state.Effect.{Effect}
use Rattle.rc_base.specs.declared.state.Effect.TheVariants as eff
use Rattle.rc_base.specs.declared.window.Layout.{Layout}
use Rattle.rc_base.specs.declared.window.Rect.{Rect}
use Rattle.rc_base.specs.declared.window.WindowVertex.{WindowVertex}

-- ---- tiles

abbrev pub tile_count : Layout → ℕ
tile_count l = l.columns * l.rows

-- where part j of a side begins that is cut into so many parts
abbrev pub boundary_of : ℕ → ℕ → ℕ → ℕ
boundary_of side parts j = j * side / parts

abbrev pub tile_column : Layout → ℕ → ℕ
tile_column l tile = tile % l.columns

abbrev pub tile_row : Layout → ℕ → ℕ
tile_row l tile = tile / l.columns

-- a column or row of pixels lies in part j of a side
abbrev pub is_in_interval : ℕ → ℕ → ℕ → ℕ → Bool
is_in_interval side parts j p = nat_le (boundary_of side parts j) p && nat_lt p (boundary_of side parts (j + 1))

-- the pixel (x, y) of the window is one of the tile's
unfoldable pub tile_pixels : Layout → ℕ → ℕ → ℕ → Bool
tile_pixels l tile x y = is_in_interval l.width l.columns (tile_column l tile) x && is_in_interval l.height l.rows (tile_row l tile) y

-- the tile that has a pixel of the window
abbrev pub tile_at : Layout → ℕ → ℕ → ℕ
tile_at l x y = option_map_or (λ (tile : ℕ). tile) (find (λ tile. tile_pixels l tile x y) (range_with_len 0 (tile_count l))) 0

-- the columns and rows of pixels of part j of a side
abbrev pub interval_of : ℕ → ℕ → ℕ → List ℕ
interval_of side parts j = range_with_len (boundary_of side parts j) (boundary_of side parts (j + 1) - boundary_of side parts j)

-- a pixel of the tile passes a test
abbrev pub some_pixel : Layout → ℕ → (ℤ → ℤ → Bool) → Bool
some_pixel l tile passes =
    list_any (λ y. list_any (λ x. passes (pos x) (pos y)) (interval_of l.width l.columns (tile_column l tile)))
    (interval_of l.height l.rows (tile_row l tile))

-- ---- rectangles

-- the rectangle has the pixel
abbrev pub is_in_rect : Rect → ℤ → ℤ → Bool
is_in_rect r x y = (int_le r.x0 x && int_lt x r.x1) && (int_le r.y0 y && int_lt y r.y1)

-- the rectangle of all pixels of a window
abbrev pub window_rect : ℕ → ℕ → Rect
window_rect width height = record { x0 = pos 0; y0 = pos 0; x1 = pos width; y1 = pos height }

-- the rectangle of a tile's pixels
abbrev pub tile_rectangle : Layout → ℕ → Rect
tile_rectangle l tile = record {
  x0 = pos (boundary_of l.width l.columns (tile_column l tile));
  y0 = pos (boundary_of l.height l.rows (tile_row l tile));
  x1 = pos (boundary_of l.width l.columns (tile_column l tile + 1));
  y1 = pos (boundary_of l.height l.rows (tile_row l tile + 1));
}

-- the rectangle has a pixel of the tile
unfoldable pub rect_meets : Layout → Rect → ℕ → Bool
rect_meets l r tile = some_pixel l tile (is_in_rect r)

-- ---- the box of a block or a Clear

-- the corners of some triangles
abbrev pub corners_in : List (List WindowVertex) → List WindowVertex
corners_in vs = flat_map (λ v. v) vs

-- the corners of all kept triangles of a block
abbrev pub kept_corners : State → Block → List WindowVertex
kept_corners s block = corners_in (kept_triangles s block)

-- a number lies between the least and the greatest of these: one isn't above it, and one isn't below it
abbrev pub is_amid : List WindowVertex → (WindowVertex → ℤ) → ℤ → Bool
is_amid corners coordinate p =
    list_any (λ v. int_le (coordinate v) p) corners && list_any (λ v. int_le p (coordinate v)) corners

-- The pixel of the window is in the box of a block in window space: its centre lies between the least and greatest corner of the kept
-- triangles, ends included, and it lies in the viewport and the scissor box.
unfoldable pub is_in_window_box : State → Block → ℤ → ℤ → Bool
is_in_window_box s block x y =
    (is_amid (kept_corners s block) (λ (v : WindowVertex). v.x) (centre x) && is_amid (kept_corners s block) (λ (v : WindowVertex). v.y) (centre y))
    && (is_in_area s.viewport x y && is_in_scissor s x y)

-- The pixel of the window is in the box of what a command draws: of a block of version 1 in window space, of one of version 2 in object
-- space. A Clear's box is the scissor box.
unfoldable pub is_in_box : State → Effect → ℤ → ℤ → Bool
is_in_box s (eff.Block block) x y =
    if nat_lt block.mode cut_modes then is_in_window_box s block x y else is_in_object_box s block x y
is_in_box s (eff.Clear mask) x y = is_in_scissor s x y
is_in_box s eff.Quiet x y = false
is_in_box s (eff.Refused fault) x y = false
is_in_box s (eff.Shared part) x y = false
is_in_box s (eff.Sync op) x y = false

-- the box has a pixel of the tile
unfoldable pub meets_tile : Layout → State → Effect → ℕ → Bool
meets_tile l s effect tile = some_pixel l tile (is_in_box s effect)
