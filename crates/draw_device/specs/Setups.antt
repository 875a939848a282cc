-- What a block and a triangle are drawn with, and what rows of their fragments leave.
use Rattle.std.specs.Prelude.{◌≡◌, ℕ, ◌+◌, ◌≤◌, length, List, Bool, ℤ, pos}
use Rattle.rc_base.specs.Drawing.Texel.{wrap_in_s, wrap_in_t}
use Rattle.rc_base.specs.Drawing.Pieces.{kept_corners_of}
use Rattle.rc_base.specs.declared.command.Rgba.{Rgba}
use Rattle.rc_base.specs.declared.state.Block.{Block}
use Rattle.rc_base.specs.declared.state.State.{State}
use Rattle.rc_base.specs.declared.state.Vertex.{Vertex}
use Rattle.rc_base.specs.declared.triangle.WindowTriangle.{WindowTriangle}
use Rattle.rc_base.specs.declared.window.Pixel.{Pixel}
use Rattle.rc_base.specs.declared.window.Rect.{Rect}
use Rattle.rc_base.specs.declared.window.WindowVertex.{WindowVertex}
use Rattle.raster.specs.Clips.{IsPartWhere, is_let_through}
use Rattle.raster.specs.declared.word_plane.WordPlane.{WordPlane}
use Rattle.textures.specs.Samplers.{IsSampler}
use Rattle.textures.specs.declared.sampler.Sampler.{Sampler}
use Rattle.draw_device.specs.Columns.{IsOnlyRun}
use Rattle.draw_device.specs.Loops.{AreColors, AreFlags, AreWritten, IsCoveredRow, IsRunCovered, run_fragment, texel_for}
use Rattle.draw_device.specs.Plans.{AreDepthTested, AreStored, AreTexels, IsPaint, IsShading, IsSource, IsTests}
use Rattle.draw_device.specs.Shapes.{IsRowChanged, cleared_pixel, corners_step, covered_step, drawn_step, fragment_pixel, grid_rect, triangles_step, tried_pixel}
use Rattle.draw_device.specs.declared.block_setup.BlockSetup.{BlockSetup}
use Rattle.draw_device.specs.declared.clear_setup.ClearSetup.{ClearSetup}
use Rattle.draw_device.specs.declared.column_run.ColumnRun.{ColumnRun}
use Rattle.draw_device.specs.declared.paint.Paint.{Paint}
use Rattle.draw_device.specs.declared.grid.Extent.{Extent}
use Rattle.draw_device.specs.declared.grid.Spare.{Spare}
use Rattle.draw_device.specs.declared.run.Run.{Run}
use Rattle.draw_device.specs.declared.setup.Setup.{Setup}
use Rattle.draw_device.specs.declared.shading.Shading.{Shading}
use Rattle.draw_device.specs.declared.source.Source.{Source}
use Rattle.draw_device.specs.declared.tests.Tests.{Tests}

-- ---- a block's setup: steps of pixels, each with its state and its texture

-- after a triangle that is kept
abbrev pub triangle_of : BlockSetup → WindowTriangle → ℤ → ℤ → Pixel → Pixel
triangle_of b tri = covered_step b.state.now b.texture.now tri.v

-- after the triangle of three of the vertices, where it is kept
abbrev pub corners_of : BlockSetup → List Vertex → List ℕ → ℤ → ℤ → Pixel → Pixel
corners_of b = corners_step b.state.now b.texture.now

-- after triangles, one after the other
abbrev pub triangles_of : BlockSetup → List (List WindowVertex) → ℤ → ℤ → Pixel → Pixel
triangles_of b = triangles_step b.state.now b.texture.now

-- after the kept pieces of the triangle of three of a block's vertices
abbrev pub pieces_of : BlockSetup → Block → List ℕ → ℤ → ℤ → Pixel → Pixel
pieces_of b block t = triangles_of b (kept_corners_of b.state.now block t)

-- after the kept triangles of a block
abbrev pub block_of : BlockSetup → Block → ℤ → ℤ → Pixel → Pixel
block_of b = drawn_step b.state.now b.texture.now

-- the setup is the grid's, and the colours alone of a triangle's fragments are stored
pub record AreStoredIn (b : BlockSetup) (g : Extent) (tri : WindowTriangle) : Type 0 where
  pub grid : b.extent ≡ g
  pub stored : AreStored b.state.now b.texture.now tri.v

-- the setup is the grid's, and the way that is settled for a triangle in it is right
pub record IsPaintIn (b : BlockSetup) (g : Extent) (tri : WindowTriangle) (paint : Paint) : Type 0 where
  pub grid : b.extent ≡ g
  pub settled : IsPaint b.state.now b.texture.now tri.v (pos g.left) (pos g.bottom) paint

-- the part of a grid's rectangle that lets a state's draws through
abbrev pub IsDrawnPart : State → Extent → Rect → Type 0
IsDrawnPart s g part = IsPartWhere (grid_rect g) part (is_let_through s)

-- ---- a triangle's setup

-- a pixel that its triangle covers, after the fragment there
abbrev pub fragment_by : Setup → ℤ → ℤ → Pixel → Pixel
fragment_by t = fragment_pixel t.state.now t.texture.now t.tri.now.v

-- any pixel after the fragment there, if the triangle covers it
abbrev pub tried_by : Setup → ℤ → ℤ → Pixel → Pixel
tried_by t = tried_pixel t.state.now t.texture.now t.tri.now.v

-- a pixel after its triangle
abbrev pub covered_by : Setup → ℤ → ℤ → Pixel → Pixel
covered_by t = covered_step t.state.now t.texture.now t.tri.now.v

-- the colours alone of its fragments are stored
abbrev pub IsStoredBy : Setup → Type 0
IsStoredBy t = AreStored t.state.now t.texture.now t.tri.now.v

-- the way that is settled for it is right
abbrev pub IsPaintOf : Setup → Type 0
IsPaintOf t = IsPaint t.state.now t.texture.now t.tri.now.v (pos t.extent.left) (pos t.extent.bottom) t.paint

-- it is a grid's, and the way that is settled for it is right
pub record IsPaintedIn (t : Setup) (g : Extent) : Type 0 where
  pub grid : t.extent ≡ g
  pub paint : IsPaintOf t

-- and it is drawn in this part of the grid
pub record IsDrawnIn (t : Setup) (g : Extent) (part : Rect) : Type 0 where
  pub painted : IsPaintedIn t g
  pub within : IsDrawnPart t.state.now g part

-- it covers the rows of one column alone of such a part, and its colours alone are stored
pub record IsStoredRun (t : Setup) (g : Extent) (part : Rect) (r : ColumnRun) : Type 0 where
  pub within : IsDrawnPart t.state.now g part
  pub run : IsOnlyRun t.tri.now.v g part r
  pub stored : IsStoredBy t

-- what is settled of it where its pixels are drawn one by one
abbrev pub IsShadingOf : Setup → Shading → Type 0
IsShadingOf t = IsShading t.state.now t.texture.now t.tri.now.v

-- ---- a run of a row of its fragments, whose planes hold from the grid's first pixel on

-- they are made so, and take these tests
abbrev pub IsSourceOf : Setup → Run → Source → Type 0
IsSourceOf t r = IsSource t.state.now t.texture.now t.tri.now.v (pos r.left) (pos r.bottom)

abbrev pub IsTestsOf : Setup → Run → Tests → Type 0
IsTestsOf t r = IsTests t.state.now t.tri.now.v (pos r.left) (pos r.bottom)

-- they take the depth test alone, by this plane
abbrev pub AreDepthTestedBy : Setup → Run → WordPlane → Type 0
AreDepthTestedBy t r = AreDepthTested t.state.now t.tri.now.v (pos r.left) (pos r.bottom)

-- a sampler of the setup's texture
abbrev pub IsSamplerOf : Setup → Sampler → Type 0
IsSamplerOf t = IsSampler t.texture.now (wrap_in_s t.state.now) (wrap_in_t t.state.now)

-- the sampler has the texels, and the planes are those of the coordinates
abbrev pub AreTexelsOf : Setup → Run → Sampler → WordPlane → WordPlane → Type 0
AreTexelsOf t r = AreTexels t.state.now t.texture.now t.tri.now.v (pos r.left) (pos r.bottom)

-- the triangle covers the run, a row of colours has it, and these are its texels and its planes
pub record AreTexelsAlong (t : Setup) (r : Run) (colors : List Rgba) (k : Sampler) (ss ts : WordPlane) : Type 0 where
  pub room : r.to ≤ length colors
  pub covered : IsRunCovered t.tri.now.v r
  pub texels : AreTexelsOf t r k ss ts

-- a sampler of the setup's texture, and the texture coordinates of the fragment at column k
pub record IsSampledAt (setup : Setup) (r : Run) (k : ℕ) (sampler : Sampler) (s t : ℤ) : Type 0 where
  pub image : IsSamplerOf setup sampler
  pub across : s ≡ (run_fragment setup.tri.now.v r k).s
  pub up : t ≡ (run_fragment setup.tri.now.v r k).t

-- its image repeats along both sides
pub record RepeatsBothWays (k : Sampler) : Type 0 where
  pub across : k.wrap_s ≡ 0
  pub up : k.wrap_t ≡ 0

-- the texel of the fragment at column k
abbrev pub run_texel : Setup → Run → ℕ → Rgba
run_texel t r k = texel_for t.state.now t.texture.now (run_fragment t.tri.now.v r k)

-- a row has the fragments' colours after the texture stage
abbrev pub AreColorsOf : Setup → Run → List Rgba → Type 0
AreColorsOf t = AreColors t.state.now t.texture.now t.tri.now.v

-- and reaches to the run's end
pub record AreLaidIn (t : Setup) (r : Run) (colors : List Rgba) : Type 0 where
  pub room : r.to ≤ length colors
  pub colored : AreColorsOf t r colors

-- the triangle covers the run of a row of pixels, and these are the colours of its fragments
pub record IsRowLaid (t : Setup) (r : Run) (colors : List Rgba) (depths : List ℕ) (made : List Rgba) : Type 0 where
  pub row : IsCoveredRow t.tri.now.v r colors depths
  pub laid : AreLaidIn t r made

-- or those that are to be written over the stored ones
abbrev pub AreWrittenOf : Setup → Run → List Rgba → List Rgba → Type 0
AreWrittenOf t = AreWritten t.state.now t.texture.now t.tri.now.v

-- the flags say which of the fragments pass the alpha test
abbrev pub AreFlagsOf : Setup → Run → List Bool → Type 0
AreFlagsOf t = AreFlags t.state.now t.texture.now t.tri.now.v

-- ---- a row of pixels, its colours and depths before and after

-- after the fragments of a run
abbrev pub IsRowDrawn : Setup → Run → List Rgba → List ℕ → List Rgba → List ℕ → Type 0
IsRowDrawn t r = IsRowChanged (fragment_by t) r.left r.row r.from r.to

-- the same, and the room for a row is as long as it was
pub record IsRowPut (t : Setup) (r : Run) (old : Spare) (colors : List Rgba) (depths : List ℕ) (new : Spare) (new_colors : List Rgba) (new_depths : List ℕ) : Type 0 where
  pub spare : length new.colors.items ≡ length old.colors.items
  pub drawn : IsRowDrawn t r colors depths new_colors new_depths

-- after those of columns `from` to below `to` of a row of the window
abbrev pub IsWindowRowDrawn : Setup → ℕ → ℕ → ℕ → List Rgba → List ℕ → List Rgba → List ℕ → Type 0
IsWindowRowDrawn t row = IsRowChanged (fragment_by t) t.extent.left row

-- after a Clear of columns `from` to below `to`, wherever the row stands
abbrev pub IsRowCleared : ClearSetup → ℕ → ℕ → List Rgba → List ℕ → List Rgba → List ℕ → Type 0
IsRowCleared c from to colors depths new_colors new_depths =
    (left row : ℕ) → IsRowChanged (cleared_pixel c.state.now c.mask) left row from to colors depths new_colors new_depths
