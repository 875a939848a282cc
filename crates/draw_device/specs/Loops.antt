-- What the loops over a run of pixels take and leave.
use Rattle.std.specs.Prelude.{◌≡◌, ℕ, ◌+◌, ◌^◌, ◌<◌, ◌≤◌, length, List, Bool, Option, Some, None, ℤ, pos, true}
use Rattle.rc_base.specs.Colors.{rgba}
use Rattle.rc_base.specs.Pictures.{Picture}
use Rattle.rc_base.specs.Drawing.Cover.{is_inside}
use Rattle.rc_base.specs.Drawing.Fragment.{fragment_of}
use Rattle.rc_base.specs.Drawing.PixelStep.{fragment_color, fragment_step, shaded, written_color, passes_alpha}
use Rattle.rc_base.specs.Drawing.Texel.{texel_of, wrap_in_s, wrap_in_t}
use Rattle.rc_base.specs.declared.command.Rgba.{Rgba}
use Rattle.rc_base.specs.declared.state.State.{State}
use Rattle.rc_base.specs.declared.window.Fragment.{Fragment}
use Rattle.rc_base.specs.declared.window.Pixel.{Pixel}
use Rattle.rc_base.specs.declared.window.WindowVertex.{WindowVertex}
use Rattle.raster.specs.Colors.{IsColorRamp}
use Rattle.raster.specs.Planes.{IsWordRamp}
use Rattle.raster.specs.declared.color.ColorRamp.{ColorRamp}
use Rattle.raster.specs.declared.word_plane.WordRamp.{WordRamp}
use Rattle.fragment_ops.specs.AlphaTests.{keeps_alpha}
use Rattle.fragment_ops.specs.Blends.{mixed_color}
use Rattle.fragment_ops.specs.DepthTests.{IsDepthTest, pixel}
use Rattle.fragment_ops.specs.declared.alpha.AlphaTest.{AlphaTest}
use Rattle.fragment_ops.specs.declared.depth.DepthTest.{DepthTest}
use Rattle.draw_device.specs.Pixels.{color_at, depth_at, flag_at, pixels_of}
use Rattle.draw_device.specs.Shapes.{fragment_pixel, IsRunStepped}
use Rattle.draw_device.specs.declared.grid.Extent.{Extent}
use Rattle.draw_device.specs.declared.blending.Blending.{Blending}
use Rattle.draw_device.specs.declared.run.Run.{Run}

-- the fragment at column k of the run's row
abbrev pub run_fragment : List WindowVertex → Run → ℕ → Fragment
run_fragment v r k = fragment_of v (pos (r.left + k)) (pos r.row)

-- the triangle's colour there
abbrev pub run_color : List WindowVertex → Run → ℕ → Rgba
run_color v r k = (run_fragment v r k).color

-- the triangle covers columns `from` to below `to` of a row whose first pixel is (left, row) of the window
abbrev pub AreCovered : List WindowVertex → ℕ → ℕ → ℕ → ℕ → Type 0
AreCovered v left row from to = (k : ℕ) → from ≤ k → k < to → is_inside v (pos (left + k)) (pos row) ≡ true

-- the triangle covers the run
abbrev pub IsRunCovered : List WindowVertex → Run → Type 0
IsRunCovered v r = AreCovered v r.left r.row r.from r.to

-- columns `from` to below `to` are in order, and a row of so many columns has them
pub record AreColumnsOf (width from to : ℕ) : Type 0 where
  pub order : from ≤ to
  pub room : to ≤ width

-- the same of two rows
pub record AreColumnsOfBoth (width other from to : ℕ) : Type 0 where
  pub order : from ≤ to
  pub room : to ≤ width
  pub beside : to ≤ other

-- columns `from` to below `to` are in order, and the colours and depths are of one row, which has them
pub record IsRowWith (from to : ℕ) (colors : List Rgba) (depths : List ℕ) : Type 0 where
  pub order : from ≤ to
  pub inside : to ≤ length colors
  pub alike : length depths ≡ length colors

-- the triangle covers column k of the run's row, and no step of a plane that leads there is one too many
pub record IsPlaceInReach (v : List WindowVertex) (r : Run) (k : ℕ) : Type 0 where
  pub inside : is_inside v (pos (r.left + k)) (pos r.row) ≡ true
  pub few : 1 + k + r.up < 2 ^ 12

-- the colours and depths are of one row, which has the run, and the triangle covers the run
pub record IsCoveredRow (v : List WindowVertex) (r : Run) (colors : List Rgba) (depths : List ℕ) : Type 0 where
  pub inside : r.to ≤ length colors
  pub alike : length depths ≡ length colors
  pub covered : IsRunCovered v r

-- the colours and depths are of the row that lies `up` rows above the grid's first, and the triangle covers columns `from` to below `to` of it
pub record IsGridRow (v : List WindowVertex) (g : Extent) (up from to : ℕ) (colors : List Rgba) (depths : List ℕ) : Type 0 where
  pub top : g.bottom + up ≤ 65535
  pub row : IsRowWith from to colors depths
  pub covered : AreCovered v g.left (g.bottom + up) from to

-- the row's pixels after the fragments of a triangle
abbrev pub IsRunDrawn : State → Option Picture → List WindowVertex → Run → List Pixel → List Pixel → Type 0
IsRunDrawn s picture v r old new = IsRunStepped (fragment_pixel s picture v) r.left r.row r.from r.to old new

-- columns `from` to below `to` after the fragments of a triangle, by colours alone, whatever the depths are
abbrev pub IsColorStepped : State → Option Picture → List WindowVertex → ℕ → ℕ → ℕ → ℕ → List Rgba → List Rgba → Type 0
IsColorStepped s picture v left row from to old new =
    (depths : List ℕ) → length depths ≡ length old
    → IsRunStepped (fragment_pixel s picture v) left row from to (pixels_of old depths) (pixels_of new depths)

-- the same of a run
abbrev pub IsColorDrawn : State → Option Picture → List WindowVertex → Run → List Rgba → List Rgba → Type 0
IsColorDrawn s picture v r old new = IsColorStepped s picture v r.left r.row r.from r.to old new

-- the triangle's fragments leave pixels of these depths in the run's columns below `to` as they are, whatever picture is sampled
abbrev pub IsHidden : State → List WindowVertex → Run → ℕ → List ℕ → Type 0
IsHidden s v r to depths =
    (picture : Option Picture) (color : Rgba) (k : ℕ) → r.from ≤ k → k < to
    → fragment_pixel s picture v (pos (r.left + k)) (pos r.row) (pixel color (depth_at depths k)) ≡ pixel color (depth_at depths k)

-- a column of the run, or its end, before which all is hidden
pub record IsVisibleFrom (s : State) (v : List WindowVertex) (r : Run) (depths : List ℕ) (from : ℕ) : Type 0 where
  pub low : r.from ≤ from
  pub high : from ≤ r.to
  pub hidden : IsHidden s v r from depths

-- ---- stepped values at column k of the run's row

abbrev pub IsColorAt : List WindowVertex → Run → ℕ → ColorRamp → Type 0
IsColorAt v r k ramp = IsColorRamp v (pos (r.left + k)) (pos r.row) (1 + k + r.up) ramp

abbrev pub IsValueAt : List WindowVertex → Run → (WindowVertex → ℤ) → ℕ → WordRamp → Type 0
IsValueAt v r f k ramp = IsWordRamp v (pos (r.left + k)) (pos r.row) f (1 + k + r.up) ramp

abbrev pub IsDepthAt : List WindowVertex → Run → ℕ → WordRamp → Type 0
IsDepthAt v r k ramp = IsValueAt v r (λ (c : WindowVertex). c.z) k ramp

-- the triangle covers the run, a row of colours has it, and the ramp has the triangle's colour at its first column
pub record IsRampAlong (v : List WindowVertex) (r : Run) (colors : List Rgba) (first : ColorRamp) : Type 0 where
  pub room : r.to ≤ length colors
  pub covered : IsRunCovered v r
  pub ramp : IsColorAt v r r.from first

-- of a fragment its colour alone is stored
abbrev pub StoresColor : State → Type 0
StoresColor s = (color : Rgba) (depth : ℕ) (old : Pixel) → shaded s color depth old ≡ record { color = color; depth = old.depth }

-- ---- a row of colours, one for each column of the grid

-- the colours of columns `from` to below `to` took a step, and the others are as before
pub record IsColorRun (step : ℕ → Rgba → Rgba) (from to : ℕ) (old new : List Rgba) : Type 0 where
  pub size : length new ≡ length old
  pub run : (k : ℕ) → from ≤ k → k < to → color_at new k ≡ step k (color_at old k)
  pub before : (k : ℕ) → k < from → color_at new k ≡ color_at old k
  pub after : (k : ℕ) → to ≤ k → color_at new k ≡ color_at old k

-- the same of a run
abbrev pub IsRunColored : Run → (ℕ → Rgba → Rgba) → List Rgba → List Rgba → Type 0
IsRunColored r step = IsColorRun step r.from r.to

-- a colour at column k written over the stored one there, or mixed with it by the blend factors
abbrev pub written_over : State → List Rgba → ℕ → Rgba → Rgba
written_over s stored k color = written_color s color (color_at stored k)

abbrev pub mixed_over : Blending → List Rgba → ℕ → Rgba → Rgba
mixed_over b stored k color = mixed_color b.state.now color (color_at stored k)

-- the depths of columns `from` to below `to` are one, and the others are as before
pub record IsDepthRun (depth from to : ℕ) (old new : List ℕ) : Type 0 where
  pub size : length new ≡ length old
  pub run : (k : ℕ) → from ≤ k → k < to → depth_at new k ≡ depth
  pub before : (k : ℕ) → k < from → depth_at new k ≡ depth_at old k
  pub after : (k : ℕ) → to ≤ k → depth_at new k ≡ depth_at old k

-- the colours are those of the triangle's fragments after the texture stage
abbrev pub AreColors : State → Option Picture → List WindowVertex → Run → List Rgba → Type 0
AreColors s picture v r colors = (k : ℕ) → r.from ≤ k → k < r.to → color_at colors k ≡ fragment_color s picture (run_fragment v r k)

-- the colours are those that are to be written of the triangle's fragments over the stored ones
abbrev pub AreWritten : State → Option Picture → List WindowVertex → Run → List Rgba → List Rgba → Type 0
AreWritten s picture v r stored colors =
    (k : ℕ) → r.from ≤ k → k < r.to
    → color_at colors k ≡ written_color s (fragment_color s picture (run_fragment v r k)) (color_at stored k)

-- ---- a row of flags, one for each column of the grid

-- the flags of columns `from` to below `to` are set
pub record IsFlagRun (flag : ℕ → Bool) (from to : ℕ) (old new : List Bool) : Type 0 where
  pub size : length new ≡ length old
  pub run : (k : ℕ) → from ≤ k → k < to → flag_at new k ≡ flag k

-- the alpha of the colour at column k passes
abbrev pub alpha_passes : AlphaTest → List Rgba → ℕ → Bool
alpha_passes test colors k = keeps_alpha test (color_at colors k).a

-- the flags say which of the triangle's fragments pass the alpha test
abbrev pub AreFlags : State → Option Picture → List WindowVertex → Run → List Bool → Type 0
AreFlags s picture v r flags =
    (k : ℕ) → r.from ≤ k → k < r.to → flag_at flags k ≡ passes_alpha s (fragment_color s picture (run_fragment v r k)).a

-- ---- textures

-- the texel of a fragment, where there is a picture
abbrev pub texel_for : State → Option Picture → Fragment → Rgba
texel_for s None f = rgba 0 0 0 0
texel_for s (Some p) f = texel_of p f.s f.t (wrap_in_s s) (wrap_in_t s)

-- ---- one fragment, by its depth and the colour that is to be written

-- whatever state has this depth test, a fragment of this depth leaves each pixel of that depth as it is
abbrev pub LeavesPixel : DepthTest → ℤ → ℕ → Type 0
LeavesPixel test depth stored =
    (s : State) (p : Option Picture) (f : Fragment) (color : Rgba) → IsDepthTest s test → depth ≡ f.depth
    → fragment_step s p f (pixel color stored) ≡ pixel color stored

-- whatever state has this depth test, a fragment that passes the alpha test, of this depth and written colour, makes of one pixel the other
abbrev pub IsDepthTested : DepthTest → Rgba → ℤ → Rgba → ℕ → Rgba → ℕ → Type 0
IsDepthTested test color depth old_color old_depth new_color new_depth =
    (s : State) (p : Option Picture) (f : Fragment) → IsDepthTest s test → passes_alpha s (fragment_color s p f).a ≡ true
    → color ≡ written_color s (fragment_color s p f) old_color → depth ≡ f.depth
    → pixel new_color new_depth ≡ fragment_step s p f (pixel old_color old_depth)

-- a fragment of this depth, and of this colour after the texture stage, makes of one pixel the other
abbrev pub IsPut : State → Rgba → ℤ → Rgba → ℕ → Rgba → ℕ → Type 0
IsPut s color depth old_color old_depth new_color new_depth =
    (p : Option Picture) (f : Fragment) → color ≡ fragment_color s p f → depth ≡ f.depth
    → pixel new_color new_depth ≡ fragment_step s p f (pixel old_color old_depth)

-- the same of a fragment whose flag says whether it passes the alpha test
abbrev pub IsTested : DepthTest → Bool → Rgba → ℤ → Rgba → ℕ → Rgba → ℕ → Type 0
IsTested test passes color depth old_color old_depth new_color new_depth =
    (s : State) (p : Option Picture) (f : Fragment) → IsDepthTest s test → passes ≡ passes_alpha s (fragment_color s p f).a
    → color ≡ written_color s (fragment_color s p f) old_color → depth ≡ f.depth
    → pixel new_color new_depth ≡ fragment_step s p f (pixel old_color old_depth)
