-- Blend factors that were prepared once for a draw, and colours that are blended by them.
use Rattle.std.specs.Prelude.{◌≡◌, ℕ, ◌-◌, ◌==◌, Bool, true, false, List, slice_index, slice_index_or, if◌then◌else◌}
use Rattle.rc_base.specs.Colors.{rgba, prod}
use Rattle.rc_base.specs.Drawing.PixelStep.{factor, mixed}
use Rattle.rc_base.specs.declared.command.Rgba.{Rgba}
use Rattle.rc_base.specs.declared.state.State.{State}
use Rattle.fragment_ops.specs.Shortcuts.{color_sum}
use Rattle.fragment_ops.specs.declared.factor.Factor.{Factor}
use Rattle.fragment_ops.specs.declared.factor.Factor.TheVariants as factors

-- a factor for one channel, of the source's and the stored channel and alpha
abbrev pub factor_value : Factor → ℕ → ℕ → ℕ → ℕ → ℕ
factor_value factors.Zero source stored source_alpha stored_alpha = 0
factor_value factors.One source stored source_alpha stored_alpha = 255
factor_value factors.SrcColor source stored source_alpha stored_alpha = source
factor_value factors.OneMinusSrcColor source stored source_alpha stored_alpha = 255 - source
factor_value factors.DstColor source stored source_alpha stored_alpha = stored
factor_value factors.OneMinusDstColor source stored source_alpha stored_alpha = 255 - stored
factor_value factors.SrcAlpha source stored source_alpha stored_alpha = source_alpha
factor_value factors.OneMinusSrcAlpha source stored source_alpha stored_alpha = 255 - source_alpha
factor_value factors.DstAlpha source stored source_alpha stored_alpha = stored_alpha
factor_value factors.OneMinusDstAlpha source stored source_alpha stored_alpha = 255 - stored_alpha

-- the factor that a code names
abbrev pub factor_of : ℕ → Factor
factor_of code =
    if code == 0 then factors.Zero
    else if code == 1 then factors.One
    else if code == 2 then factors.SrcColor
    else if code == 3 then factors.OneMinusSrcColor
    else if code == 4 then factors.DstColor
    else if code == 5 then factors.OneMinusDstColor
    else if code == 6 then factors.SrcAlpha
    else if code == 7 then factors.OneMinusSrcAlpha
    else if code == 8 then factors.DstAlpha
    else factors.OneMinusDstAlpha

-- the factor does what a code does
abbrev pub IsFactor : ℕ → Factor → Type 0
IsFactor code f = (source stored source_alpha stored_alpha : ℕ)
    → factor_value f source stored source_alpha stored_alpha ≡ factor code source stored source_alpha stored_alpha

-- one of the two colours by a factor
unfoldable pub scaled_by : Factor → Rgba → Rgba → Rgba → Rgba
scaled_by f one c old = rgba
    (prod one.r (factor_value f c.r old.r c.a old.a))
    (prod one.g (factor_value f c.g old.g c.a old.a))
    (prod one.b (factor_value f c.b old.b c.a old.a))
    (prod one.a (factor_value f c.a old.a c.a old.a))

-- a fragment's colour and the stored one, each by its factor, together
unfoldable pub color_blended : Factor → Factor → Rgba → Rgba → Rgba
color_blended source stored c old = color_sum (scaled_by source c c old) (scaled_by stored old c old)

-- the state blends by these factors
pub record IsBlending (s : State) (source stored : Factor) : Type 0 where
  pub on : s.blend_on ≡ true
  pub first : IsFactor (slice_index s.blend 0) source
  pub second : IsFactor (slice_index s.blend 1) stored

-- a fragment's colour after blending, before the colour mask
abbrev pub mixed_color : State → Rgba → Rgba → Rgba
mixed_color s c old = rgba (mixed s c old c.r old.r) (mixed s c old c.g old.g) (mixed s c old c.b old.b) (mixed s c old c.a old.a)

-- the channels of a colour whose flags are on, and those of the stored one elsewhere
abbrev pub masked_by : List Bool → Rgba → Rgba → Rgba
masked_by flags c old = rgba
    (if slice_index_or flags 0 false then c.r else old.r)
    (if slice_index_or flags 1 false then c.g else old.g)
    (if slice_index_or flags 2 false then c.b else old.b)
    (if slice_index_or flags 3 false then c.a else old.a)
