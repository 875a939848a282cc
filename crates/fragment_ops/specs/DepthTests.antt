-- A depth test that was prepared once for a draw.
use Rattle.std.specs.Prelude.{◌≡◌, ℕ, ◌==◌, ◌&&◌, ◌||◌, nat_lt, Bool, if◌then◌else◌}
use Rattle.rc_base.specs.Drawing.PixelStep.{passes_depth}
use Rattle.rc_base.specs.declared.command.Rgba.{Rgba}
use Rattle.rc_base.specs.declared.state.State.{State}
use Rattle.rc_base.specs.declared.window.Pixel.{Pixel}
use Rattle.fragment_ops.specs.declared.depth.DepthTest.{DepthTest}

-- a pixel of this colour and depth
abbrev pub pixel : Rgba → ℕ → Pixel
pixel color depth = record { color = color; depth = depth }

-- a comparison by the outcomes that pass
unfoldable pub passes : DepthTest → ℕ → ℕ → Bool
passes t depth stored = (t.below && nat_lt depth stored) || ((t.equal && depth == stored) || (t.above && nat_lt stored depth))

-- prepared for a state
pub record IsDepthTest (s : State) (t : DepthTest) : Type 0 where
  pub passes : (a b : ℕ) → passes t a b ≡ passes_depth s a b
  pub stores : t.stores ≡ (s.depth_on && s.depth_mask)

-- a pixel after it, by the colour that is to be written
unfoldable pub tested_pixel : DepthTest → Rgba → ℕ → Pixel → Pixel
tested_pixel t color depth old =
    if passes t depth old.depth then pixel color (if t.stores then depth else old.depth) else old
