-- Blocks that wait to be drawn on a canvas, and the board behind their drawing.
use Rattle.std.specs.Prelude.{◌≡◌, ℕ, ◌+◌, ◌-◌, ◌≤◌, ◌&&◌, nat_lt, nat_le, Bool, if◌then◌else◌, List, [], ◌∷◌, length, fold, ℤ}
use Rattle.std.specs.List.{list_all}
use Rattle.rc_base.specs.Cluster.Tiles.{is_in_rect, tile_rectangle}
use Rattle.rc_base.specs.Drawing.Serial.{blank_pixel}
use Rattle.rc_base.specs.declared.window.Pixel.{Pixel}
use Rattle.draw_device.specs.Devices.{pixel_of}
use Rattle.order_model.specs.Board.{Board}
use Rattle.parcel_bytes.specs.Spelling.{parcel_bytes}
use Rattle.tile_server.specs.Boards.{drawn_pixel, is_plain, kept_in}
use Rattle.tile_server.specs.Works.{texels_in}
use Rattle.tile_server.specs.declared.canvas.Canvas.{Canvas}
use Rattle.tile_server.specs.declared.waiting.WaitingBlock.{WaitingBlock}

-- ---- how many, and how large

-- how many bytes their parcels have
abbrev pub waiting_bytes : List WaitingBlock → ℕ
waiting_bytes [] = 0
waiting_bytes (w ∷ ws) = length (parcel_bytes w.parcel) + waiting_bytes ws

-- one more whose parcel has so many bytes may wait
abbrev pub has_room : List WaitingBlock → ℕ → Bool
has_room ws size = nat_lt (length ws) 1024 && nat_le size (1048576 - waiting_bytes ws)

-- At most 1,024 wait, whose parcels have at most 1 MiB of bytes, and there is memory for so many.
pub record IsBounded (capacity bytes : ℕ) (ws : List WaitingBlock) : Type 0 where
  pub room : 1024 ≤ capacity
  pub few : length ws ≤ 1024
  pub bytes_are : bytes ≡ waiting_bytes ws
  pub small : bytes ≤ 1048576

-- ---- what they draw

-- each is a block without sets, of one of so many clients
abbrev pub are_plain : ℕ → List WaitingBlock → Bool
are_plain clients = list_all (λ (w : WaitingBlock). nat_lt w.client clients && is_plain w.parcel)

-- a pixel of the window after a block that waits
abbrev pub waiting_pixel : Canvas → ℤ → ℤ → Pixel → WaitingBlock → Pixel
waiting_pixel canvas x y old w = drawn_pixel canvas w.client w.parcel.act x y old

-- a pixel of the window after all that wait, where the canvas has it
abbrev pub pixel_behind : Canvas → List WaitingBlock → ℤ → ℤ → Pixel
pixel_behind canvas ws x y =
    if is_in_rect (tile_rectangle canvas.layout canvas.tile) x y
    then fold (waiting_pixel canvas x y) (pixel_of canvas.device x y) ws else blank_pixel

-- the canvas' board after all that wait
abbrev pub board_behind : Canvas → List WaitingBlock → Board
board_behind canvas ws = record {
  kept = kept_in canvas;
  shared = texels_in canvas.shared;
  pixel = pixel_behind canvas ws;
}
