-- A Clear that was prepared once.
use Rattle.std.specs.Prelude.{◌≡◌, ℕ, ◌/◌, ◌%◌, ◌==◌, ◌&&◌, Bool, if◌then◌else◌, slice_index_or, false}
use Rattle.rc_base.specs.Colors.{rgba}
use Rattle.rc_base.specs.Drawing.PixelStep.{cleared_depth}
use Rattle.rc_base.specs.declared.state.State.{State}
use Rattle.rc_base.specs.declared.window.Pixel.{Pixel}
use Rattle.fragment_ops.specs.declared.clear.Clearing.{Clearing}

-- a channel is cleared
abbrev pub clears_channel : State → ℕ → ℕ → Bool
clears_channel s mask channel = mask % 2 == 1 && slice_index_or s.color_mask channel false

-- prepared for a state and the mask of a Clear
pub record IsClearing (s : State) (mask : ℕ) (c : Clearing) : Type 0 where
  pub color : c.color ≡ s.clear_color
  pub red : c.red ≡ clears_channel s mask 0
  pub green : c.green ≡ clears_channel s mask 1
  pub blue : c.blue ≡ clears_channel s mask 2
  pub opacity : c.opacity ≡ clears_channel s mask 3
  pub depth : c.depth ≡ cleared_depth s
  pub sets_depth : c.sets_depth ≡ ((mask / 2) % 2 == 1 && s.depth_mask)

-- a pixel after it
unfoldable pub cleared_by : Clearing → Pixel → Pixel
cleared_by c old = record {
  color = rgba (if c.red then c.color.r else old.color.r) (if c.green then c.color.g else old.color.g) (if c.blue then c.color.b else old.color.b)
      (if c.opacity then c.color.a else old.color.a);
  depth = if c.sets_depth then c.depth else old.depth;
}

-- it writes all of a pixel
abbrev pub writes_pixel : Clearing → Bool
writes_pixel c = c.red && (c.green && (c.blue && (c.opacity && c.sets_depth)))
