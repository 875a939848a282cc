-- States by how a fragment's colour is written, and what is written then.
use Rattle.std.specs.Prelude.{ℕ, ◌+◌, ◌-◌, ◌==◌, ◌&&◌, not, min, Bool, List, slice_index, slice_index_or, false}
use Rattle.rc_base.specs.Colors.{rgba, prod}
use Rattle.rc_base.specs.declared.command.Rgba.{Rgba}
use Rattle.rc_base.specs.declared.state.State.{State}

-- all channels are written
abbrev pub writes_all : List Bool → Bool
writes_all flags = slice_index_or flags 0 false && (slice_index_or flags 1 false && (slice_index_or flags 2 false && slice_index_or flags 3 false))

-- a colour is written as it is
unfoldable pub writes_plainly : State → Bool
writes_plainly s = not s.blend_on && writes_all s.color_mask

-- no stage at all
unfoldable pub stores_alone : State → Bool
stores_alone s = not s.depth_on && (not s.alpha_on && writes_plainly s)

-- a colour is blended by these two factors, and all of it is written
unfoldable pub blends_by : ℕ → ℕ → State → Bool
blends_by source stored s = s.blend_on && (writes_all s.color_mask && (slice_index s.blend 0 == source && slice_index s.blend 1 == stored))

-- SRC_ALPHA and ONE_MINUS_SRC_ALPHA
abbrev pub blends_over : State → Bool
blends_over s = blends_by 6 7 s

-- ONE and ONE
abbrev pub blends_sum : State → Bool
blends_sum s = blends_by 1 1 s

-- a channel over the stored one
abbrev pub laid_over : ℕ → ℕ → ℕ → ℕ
laid_over source stored alpha = min 255 (prod source alpha + prod stored (255 - alpha))

-- a colour over the stored one
unfoldable pub color_over : Rgba → Rgba → Rgba
color_over c old = rgba (laid_over c.r old.r c.a) (laid_over c.g old.g c.a) (laid_over c.b old.b c.a) (laid_over c.a old.a c.a)

-- a colour and the stored one together
unfoldable pub color_sum : Rgba → Rgba → Rgba
color_sum c old = rgba (min 255 (c.r + old.r)) (min 255 (c.g + old.g)) (min 255 (c.b + old.b)) (min 255 (c.a + old.a))
