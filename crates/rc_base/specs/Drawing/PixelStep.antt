-- What a command does to one pixel.
use Rattle.std.specs.Prelude.{ℕ, ◌+◌, ◌-◌, ◌/◌, ◌%◌, ◌==◌, ◌&&◌, ◌||◌, not, nat_lt, nat_le, min, Bool, true, false, List, fold, Option, Some, None, if◌then◌else◌, ℤ, pos, ◌*ℤ◌, slice_index, slice_index_or}
use Rattle.rc_base.specs.Numbers.{fixed_one, floor_quotient, is_between, natural}
use Rattle.rc_base.specs.Colors.{rgba, prod}
use Rattle.rc_base.specs.Pictures.{Picture}
use Rattle.rc_base.specs.Drawing.Window.{depth_most}
use Rattle.rc_base.specs.Drawing.Pieces.{kept_triangles}
use Rattle.rc_base.specs.Drawing.Cover.{covers, is_in_scissor}
use Rattle.rc_base.specs.Drawing.Fragment.{fragment_of}
use Rattle.rc_base.specs.Drawing.Texel.{sampled, texel_of, wrap_in_s, wrap_in_t}
use Rattle.rc_base.specs.declared.command.Rgba.{Rgba}
use Rattle.rc_base.specs.declared.state.State.{State}
use Rattle.rc_base.specs.declared.state.Block.{Block}
use Rattle.rc_base.specs.declared.state.Effect.{Effect}
use Rattle.rc_base.specs.declared.state.Effect.TheVariants as eff
use Rattle.rc_base.specs.declared.window.Pixel.{Pixel}
use Rattle.rc_base.specs.declared.window.Fragment.{Fragment}
use Rattle.rc_base.specs.declared.window.WindowVertex.{WindowVertex}

-- ---- fragment stages, in their order

-- the texture environment: MODULATE (0), or REPLACE
unfoldable pub textured : State → Rgba → Rgba → Rgba
textured s c t =
    if slice_index s.tex_mode 0 == 0 then rgba (prod c.r t.r) (prod c.g t.g) (prod c.b t.b) (prod c.a t.a) else t

-- a comparison function of alpha and depth tests, by its code
abbrev pub compares : ℕ → ℕ → ℕ → Bool
compares function a b =
    if function == 0 then false
    else if function == 1 then nat_lt a b
    else if function == 2 then a == b
    else if function == 3 then nat_le a b
    else if function == 4 then nat_lt b a
    else if function == 5 then not (a == b)
    else if function == 6 then nat_le b a
    else true

abbrev pub passes_alpha : State → ℕ → Bool
passes_alpha s alpha = not s.alpha_on || compares (slice_index s.alpha 0) alpha (slice_index s.alpha 1)

abbrev pub passes_depth : State → ℕ → ℕ → Bool
passes_depth s depth stored = not s.depth_on || compares s.depth_func depth stored

-- a blend factor for one channel, of the source's and the stored channel and alpha
abbrev pub factor : ℕ → ℕ → ℕ → ℕ → ℕ → ℕ
factor code source stored source_alpha stored_alpha =
    if code == 0 then 0
    else if code == 1 then 255
    else if code == 2 then source
    else if code == 3 then 255 - source
    else if code == 4 then stored
    else if code == 5 then 255 - stored
    else if code == 6 then source_alpha
    else if code == 7 then 255 - source_alpha
    else if code == 8 then stored_alpha
    else 255 - stored_alpha

-- one channel of a fragment, blended with the stored one by the source's and the destination's factor
abbrev pub blended : State → ℕ → ℕ → ℕ → ℕ → ℕ
blended s source stored source_alpha stored_alpha =
    min 255
    (prod source (factor (slice_index s.blend 0) source stored source_alpha stored_alpha)
    + prod stored (factor (slice_index s.blend 1) source stored source_alpha stored_alpha))

-- a channel of a fragment's colour as it is to be stored
abbrev pub mixed : State → Rgba → Rgba → ℕ → ℕ → ℕ
mixed s c old source stored = if s.blend_on then blended s source stored c.a old.a else source

-- the channel is written where its flag of the colour mask is on
abbrev pub masked : State → ℕ → ℕ → ℕ → ℕ
masked s channel written_color stored = if slice_index_or s.color_mask channel false then written_color else stored

abbrev pub written_color : State → Rgba → Rgba → Rgba
written_color s c old = rgba
    (masked s 0 (mixed s c old c.r old.r) old.r)
    (masked s 1 (mixed s c old c.g old.g) old.g)
    (masked s 2 (mixed s c old c.b old.b) old.b)
    (masked s 3 (mixed s c old c.a old.a) old.a)

-- A pixel after a fragment of that colour and depth: alpha test, depth test, blending, colour mask. The depth is stored where the depth test
-- is on and the depth mask too.
unfoldable pub shaded : State → Rgba → ℕ → Pixel → Pixel
shaded s c depth old =
    if passes_alpha s c.a && passes_depth s depth old.depth
    then record { color = written_color s c old.color; depth = if s.depth_on && s.depth_mask then depth else old.depth }
    else old

-- a fragment's colour after the texture stage
abbrev pub fragment_color : State → Option Picture → Fragment → Rgba
fragment_color s None f = f.color
fragment_color s (Some p) f = textured s f.color (texel_of p f.s f.t (wrap_in_s s) (wrap_in_t s))

-- a pixel after a fragment, which is discarded where its depth lies outside the buffer's range
abbrev pub fragment_step : State → Option Picture → Fragment → Pixel → Pixel
fragment_step s picture f old =
    if is_between (pos 0) (pos depth_most) f.depth then shaded s (fragment_color s picture f) (natural f.depth) old else old

-- ---- commands

-- a pixel after a kept triangle: its fragment goes through the stages where the triangle covers the pixel
abbrev pub triangle_step : State → Option Picture → ℤ → ℤ → Pixel → List WindowVertex → Pixel
triangle_step s picture x y old v = if covers s v x y then fragment_step s picture (fragment_of v x y) old else old

-- a pixel after a block: its kept triangles are drawn one after the other
unfoldable pub block_step : State → Option Picture → Block → ℤ → ℤ → Pixel → Pixel
block_step s picture block x y old = fold (triangle_step s picture x y) old (kept_triangles s block)

-- the clear depth as it is stored
abbrev pub cleared_depth : State → ℕ
cleared_depth s = natural (floor_quotient (s.clear_depth *ℤ pos depth_most) (pos fixed_one))

-- a colour after a Clear
abbrev pub cleared_color : State → Rgba → Rgba
cleared_color s old = rgba
    (masked s 0 s.clear_color.r old.r)
    (masked s 1 s.clear_color.g old.g)
    (masked s 2 s.clear_color.b old.b)
    (masked s 3 s.clear_color.a old.a)

-- a pixel in a cleared area: colour by bit 0 of the mask, depth by bit 1. Tests, blending and the viewport play no part.
unfoldable pub cleared : State → ℕ → Pixel → Pixel
cleared s mask old = record {
  color = if mask % 2 == 1 then cleared_color s old.color else old.color;
  depth = if mask / 2 % 2 == 1 && s.depth_mask then cleared_depth s else old.depth;
}

-- a pixel after a Clear
abbrev pub clear_step : State → ℕ → ℤ → ℤ → Pixel → Pixel
clear_step s mask x y old = if is_in_scissor s x y then cleared s mask old else old

-- a pixel of the window after what a command does, by the state, the private images and the shared textures
abbrev pub effect_step : State → (ℕ → Option Picture) → (ℕ → Picture) → Effect → ℤ → ℤ → Pixel → Pixel
effect_step s privates shareds eff.Quiet x y old = old
effect_step s privates shareds (eff.Refused fault) x y old = old
effect_step s privates shareds (eff.Block block) x y old = block_step s (sampled s privates shareds) block x y old
effect_step s privates shareds (eff.Clear mask) x y old = clear_step s mask x y old
effect_step s privates shareds (eff.Shared part) x y old = old
effect_step s privates shareds (eff.Sync op) x y old = old
