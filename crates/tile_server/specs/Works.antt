-- What a tile draws on.
use Rattle.std.specs.Prelude.{◌≡◌, ℕ, ℤ, ◌≤ℤ◌, true, List, length, Option, None, pos, replicate, slice_get, Some}
use Rattle.rc_base.specs.Pictures.{Picture}
use Rattle.rc_base.specs.Cluster.Tiles.{is_in_rect, tile_pixels, tile_rectangle}
use Rattle.rc_base.specs.Contexts.Context.{private_count}
use Rattle.rc_base.specs.Drawing.PixelStep.{effect_step}
use Rattle.rc_base.specs.Drawing.Serial.{blank_pixel}
use Rattle.rc_base.specs.Drawing.Texel.{SharedTexels}
use Rattle.rc_base.specs.declared.command.Part.{Part}
use Rattle.rc_base.specs.declared.state.Effect.{Effect}
use Rattle.rc_base.specs.declared.state.Effect.TheVariants as eff
use Rattle.rc_base.specs.declared.state.State.{State}
use Rattle.rc_base.specs.declared.window.Layout.{Layout}
use Rattle.rc_base.specs.declared.window.Rect.{Rect}
use Rattle.draw_device.specs.Conditions.{shared_of}
use Rattle.draw_device.specs.Devices.{pixel_of, DeviceView, EachTakes}
use Rattle.draw_device.specs.Stored.{IsStorable}
use Rattle.textures.specs.Images.{texture_image}
use Rattle.tile_server.specs.declared.kept.KeptClient.{KeptClient}

-- the rectangle is the tile's, and has its pixels
pub record IsRectOf (l : Layout) (tile : ℕ) (r : Rect) : Type 0 where
  pub rectangle : r ≡ tile_rectangle l tile
  pub pixels : (x y : ℕ) → is_in_rect r (pos x) (pos y) ≡ tile_pixels l tile x y

-- the rectangle's sides are ordered, and it lies in a window of these sides
pub record LiesInWindow (width height : ℕ) (r : Rect) : Type 0 where
  pub left : pos 0 ≤ℤ r.x0
  pub across : r.x0 ≤ℤ r.x1
  pub right : r.x1 ≤ℤ pos width
  pub bottom : pos 0 ≤ℤ r.y0
  pub upward : r.y0 ≤ℤ r.y1
  pub top : r.y1 ≤ℤ pos height

-- the texels of a set of shared textures
abbrev pub texels_in : List (Option Picture) → SharedTexels
texels_in set name = (shared_of set name).texels

-- each pixel of the rectangle is blank
abbrev pub IsBlankIn : Rect → DeviceView → Type 0
IsBlankIn r device = (x y : ℤ) → is_in_rect r x y ≡ true → pixel_of device x y ≡ blank_pixel

-- ---- work

-- a part that the effect writes to a shared texture can be stored there
abbrev pub MayStore : Effect → List (Option Picture) → Type 0
MayStore effect set = (part : Part) → effect ≡ eff.Shared part → IsStorable part set

-- each pixel becomes what the effect makes of it, with what is kept of its client and the shared textures
abbrev pub TakesEffect : KeptClient → List (Option Picture) → Effect → DeviceView → DeviceView → Type 0
TakesEffect kept set effect before after =
    EachTakes (effect_step kept.state (texture_image kept.images) (shared_of set) effect) before after

-- ---- clients

-- what is kept of clients that sent nothing: their first state, and no images
pub record AreNew (first : State) (count : ℕ) (kept : List KeptClient) : Type 0 where
  pub clients : length kept ≡ count
  pub state : (client : ℕ) (k : KeptClient) → slice_get kept client ≡ Some k → k.state ≡ first
  pub images : (client : ℕ) (k : KeptClient) → slice_get kept client ≡ Some k → k.images ≡ replicate private_count None
