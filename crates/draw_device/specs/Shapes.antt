-- What runs of pixels, spans, triangles and blocks leave of a grid of pixels: its lower left corner is the pixel (left, bottom) of the window.
use Rattle.std.specs.Prelude.{◌≡◌, ℕ, ◌+◌, ◌*◌, ◌<◌, ◌≤◌, fold, length, List, Bool, true, ◌&&◌, if◌then◌else◌, Option, ℤ, pos, ◌≤ℤ◌, ◌<ℤ◌, option_to_list}
use Rattle.std.specs.Ordering.{int_eq}
use Rattle.rc_base.specs.Pictures.{Picture}
use Rattle.rc_base.specs.Drawing.Cover.{is_inside}
use Rattle.rc_base.specs.Drawing.Fragment.{fragment_of}
use Rattle.rc_base.specs.Drawing.Kept.{kept_whole}
use Rattle.rc_base.specs.Drawing.Pieces.{kept_triangles}
use Rattle.rc_base.specs.Drawing.PixelStep.{fragment_step, cleared, triangle_step}
use Rattle.draw_device.specs.declared.grid.Extent.{Extent}
use Rattle.rc_base.specs.declared.command.Rgba.{Rgba}
use Rattle.rc_base.specs.declared.state.Block.{Block}
use Rattle.rc_base.specs.declared.state.State.{State}
use Rattle.rc_base.specs.declared.state.Vertex.{Vertex}
use Rattle.rc_base.specs.declared.triangle.WindowTriangle.{WindowTriangle}
use Rattle.rc_base.specs.declared.window.Pixel.{Pixel}
use Rattle.rc_base.specs.declared.window.Rect.{Rect}
use Rattle.rc_base.specs.declared.window.Span.{Span}
use Rattle.rc_base.specs.declared.window.WindowVertex.{WindowVertex}
use Rattle.geometry.specs.Listed.{listed}
use Rattle.geometry.specs.declared.cache.VertexCache.{VertexCache}
use Rattle.raster.specs.Spans.{in_span}
use Rattle.raster.specs.declared.rows.SpanIter.{SpanIter}
use Rattle.draw_device.specs.Pixels.{pixel_at, pixels_of}

-- the column and the row of the window of a grid's column and row
abbrev pub column_at : Extent → ℕ → ℤ
column_at g i = pos (g.left + i)

abbrev pub row_at : Extent → ℕ → ℤ
row_at g j = pos (g.bottom + j)

abbrev pub grid_rect : Extent → Rect
grid_rect g = record { x0 = pos g.left; y0 = pos g.bottom; x1 = pos (g.left + g.width); y1 = pos (g.bottom + g.height) }

-- a pixel after a triangle that is kept
unfoldable pub covered_step : State → Option Picture → List WindowVertex → ℤ → ℤ → Pixel → Pixel
covered_step s picture v x y old = triangle_step s picture x y old v

-- a pixel that the triangle covers, after its fragment
abbrev pub fragment_pixel : State → Option Picture → List WindowVertex → ℤ → ℤ → Pixel → Pixel
fragment_pixel s picture v x y old = fragment_step s picture (fragment_of v x y) old

-- the same where the triangle covers it; else as it is
abbrev pub tried_pixel : State → Option Picture → List WindowVertex → ℤ → ℤ → Pixel → Pixel
tried_pixel s picture v x y old = if is_inside v x y then fragment_pixel s picture v x y old else old

-- a pixel that a Clear reaches
abbrev pub cleared_pixel : State → ℕ → ℤ → ℤ → Pixel → Pixel
cleared_pixel s mask x y old = cleared s mask old

-- the columns from `from` to below `to` of a row of pixels took a step; its first pixel is (left, row) of the window
pub record IsRunStepped (step : ℤ → ℤ → Pixel → Pixel) (left row from to : ℕ) (old new : List Pixel) : Type 0 where
  pub size : length new ≡ length old
  pub run : (k : ℕ) → from ≤ k → k < to → pixel_at new k ≡ step (pos (left + k)) (pos row) (pixel_at old k)
  pub before : (k : ℕ) → k < from → pixel_at new k ≡ pixel_at old k
  pub after : (k : ℕ) → to ≤ k → pixel_at new k ≡ pixel_at old k

-- the same of a row's colours and depths
pub record IsRowChanged (step : ℤ → ℤ → Pixel → Pixel) (left row from to : ℕ) (cs : List Rgba) (ds : List ℕ) (new_cs : List Rgba) (new_ds : List ℕ) : Type 0 where
  pub colors : length new_cs ≡ length cs
  pub depths : length new_ds ≡ length ds
  pub drawn : IsRunStepped step left row from to (pixels_of cs ds) (pixels_of new_cs new_ds)

-- the same of a row that begins at the index `start` of a grid's pixels
pub record IsRowStepped (step : ℤ → ℤ → Pixel → Pixel) (left row start from to : ℕ) (old new : List Pixel) : Type 0 where
  pub run : (k : ℕ) → from ≤ k → k < to → pixel_at new (start + k) ≡ step (pos (left + k)) (pos row) (pixel_at old (start + k))
  pub before : (k : ℕ) → k < start + from → pixel_at new k ≡ pixel_at old k
  pub after : (k : ℕ) → start + to ≤ k → pixel_at new k ≡ pixel_at old k

-- the span has the pixel (x, y)
abbrev pub span_has : Span → ℤ → ℤ → Bool
span_has s x y = int_eq y s.y && in_span s x

-- the span lies in the grid
pub record IsSpanIn (g : Extent) (s : Span) : Type 0 where
  pub low : row_at g 0 ≤ℤ s.y
  pub high : s.y <ℤ row_at g g.height
  pub left : column_at g 0 ≤ℤ s.x0
  pub some : s.x0 <ℤ s.x1
  pub right : s.x1 ≤ℤ column_at g g.width

-- columns `from` to below `to` of the row that lies `up` rows above the grid's first
abbrev pub grid_span : Extent → ℕ → ℕ → ℕ → Span
grid_span g up from to = record { y = row_at g up; x0 = column_at g from; x1 = column_at g to }

-- the spans to come are all of those of a triangle in a part of the window
pub record AreRowsOf (tri : WindowTriangle) (part : Rect) (rows : SpanIter) : Type 0 where
  pub triangle : rows.tri.now ≡ tri
  pub rect : rows.rect ≡ part
  pub first : rows.y ≡ rows.rect.y0

-- the cache brings these vertices to the window, as the state has it
pub record IsCacheOf (s : State) (vs : List Vertex) (cache : VertexCache) : Type 0 where
  pub state : cache.state.now ≡ s
  pub vertices : listed cache.vertices ≡ vs

-- each pixel of the grid took a step
pub record IsStepped (step : ℤ → ℤ → Pixel → Pixel) (g : Extent) (old new : List Pixel) : Type 0 where
  pub each : (i j : ℕ) → i < g.width → j < g.height → pixel_at new (j * g.width + i) ≡ step (column_at g i) (row_at g j) (pixel_at old (j * g.width + i))

-- the pixels of one span take a step, and no others
abbrev pub span_step : (ℤ → ℤ → Pixel → Pixel) → Span → ℤ → ℤ → Pixel → Pixel
span_step step span x y old = if span_has span x y then step x y old else old

-- the rows of the window below y took a step, and the others are as before
pub record IsSteppedBelow (step : ℤ → ℤ → Pixel → Pixel) (g : Extent) (old now : List Pixel) (y : ℤ) : Type 0 where
  pub done : (i j : ℕ) → i < g.width → j < g.height → row_at g j <ℤ y
      → pixel_at now (j * g.width + i) ≡ step (column_at g i) (row_at g j) (pixel_at old (j * g.width + i))
  pub rest : (i j : ℕ) → i < g.width → j < g.height → y ≤ℤ row_at g j → pixel_at now (j * g.width + i) ≡ pixel_at old (j * g.width + i)

-- a pixel after kept triangles, one after the other
abbrev pub triangles_step : State → Option Picture → List (List WindowVertex) → ℤ → ℤ → Pixel → Pixel
triangles_step s picture ts x y old = fold (triangle_step s picture x y) old ts

-- a pixel after three vertices of a list, by their indices, where their triangle is kept
abbrev pub corners_step : State → Option Picture → List Vertex → List ℕ → ℤ → ℤ → Pixel → Pixel
corners_step s picture vs t = triangles_step s picture (option_to_list (kept_whole s vs t))

-- a pixel after the kept triangles of a block, one after the other
abbrev pub drawn_step : State → Option Picture → Block → ℤ → ℤ → Pixel → Pixel
drawn_step s picture block = triangles_step s picture (kept_triangles s block)
