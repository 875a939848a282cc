-- What contracts see of a tile's canvas: the board that it keeps, of which tile it is, and its part of a frame.
use Rattle.std.specs.Prelude.{◌≡◌, ℕ, ℤ, ◌==◌, ◌&&◌, Bool, true, length, None, Some, slice_get, pos}
use Rattle.std.specs.Option.{option_map_or}
use Rattle.rc_base.specs.Contexts.Context.{default_state}
use Rattle.rc_base.specs.Cluster.Parcels.{effect_by}
use Rattle.rc_base.specs.Cluster.Tiles.{tile_pixels, tile_rectangle}
use Rattle.rc_base.specs.Drawing.PixelStep.{effect_step}
use Rattle.rc_base.specs.Drawing.Texel.{shared_picture}
use Rattle.rc_base.specs.declared.cluster.TilePart.{TilePart}
use Rattle.rc_base.specs.declared.state.Act.{Act}
use Rattle.rc_base.specs.declared.state.Parcel.{Parcel}
use Rattle.rc_base.specs.declared.window.Layout.{Layout}
use Rattle.rc_base.specs.declared.window.Pixel.{Pixel}
use Rattle.draw_device.specs.Conditions.{shared_of}
use Rattle.draw_device.specs.Devices.{pixel_index, pixel_of, rect_size}
use Rattle.order_model.specs.Board.{Kept, Board}
use Rattle.tile_model.specs.Acts.{is_draw}
use Rattle.tile_model.specs.Givable.{is_givable}
use Rattle.tile_server.specs.declared.canvas.Canvas.{Canvas}
use Rattle.tile_server.specs.Kepts.{kept_of}
use Rattle.tile_server.specs.Works.{texels_in}

-- what is kept of a client; of one beyond the last, what is kept of a client that sent nothing
abbrev pub kept_in : Canvas → ℕ → Kept
kept_in canvas client =
    option_map_or kept_of (slice_get canvas.kept.items client) (record { state = default_state canvas.decl; image = λ name. None })

abbrev pub board_on : Canvas → Board
board_on canvas = record {
  kept = kept_in canvas;
  shared = λ name. (shared_of canvas.shared name).texels;
  pixel = pixel_of canvas.device;
}

-- its number of clients
abbrev pub canvas_clients : Canvas → ℕ
canvas_clients canvas = length canvas.kept.items

-- it is of the same tile of the same cluster
pub record IsSameTile (canvas later : Canvas) : Type 0 where
  pub decl : later.decl ≡ canvas.decl
  pub clients : canvas_clients later ≡ canvas_clients canvas
  pub layout : later.layout ≡ canvas.layout
  pub tile : later.tile ≡ canvas.tile

-- all that it draws with is as it was
pub record KeepsAll (canvas later : Canvas) : Type 0 where
  pub decl : later.decl ≡ canvas.decl
  pub layout : later.layout ≡ canvas.layout
  pub tile : later.tile ≡ canvas.tile
  pub kept : later.kept.items ≡ canvas.kept.items
  pub shared : later.shared ≡ canvas.shared
  pub rect : later.device.rect ≡ canvas.device.rect

-- a pixel of the window after the client's act, with what is kept of the client and the shared textures
abbrev pub drawn_pixel : Canvas → ℕ → Act → ℤ → ℤ → Pixel → Pixel
drawn_pixel canvas client act =
    effect_step (kept_in canvas client).state (kept_in canvas client).image
    (shared_picture canvas.decl.shared (texels_in canvas.shared)) (effect_by act)

-- the parcel draws a block, and has no sets
abbrev pub is_plain : Parcel → Bool
is_plain parcel = length parcel.sets == 0 && is_draw parcel.act

-- a scene with the canvas' declaration can give the parcel
abbrev pub may_come : Canvas → Parcel → Bool
may_come canvas parcel = is_givable canvas.decl parcel

-- The part has a board's pixels of its tile, row by row from the lowest, each row from the left.
pub record IsPartOf (l : Layout) (this_tile this_frame : ℕ) (b : Board) (part : TilePart) : Type 0 where
  pub tile : part.tile ≡ this_tile
  pub frame : part.frame ≡ this_frame
  pub count : length part.pixels ≡ rect_size (tile_rectangle l this_tile)
  pub pixel : (x y : ℕ) → tile_pixels l this_tile x y ≡ true
      → slice_get part.pixels (pixel_index (tile_rectangle l this_tile) (pos x) (pos y)) ≡ Some (b.pixel (pos x) (pos y))
