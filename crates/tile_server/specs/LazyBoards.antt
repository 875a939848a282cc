-- What contracts see of a canvas on which blocks wait to be drawn: the board behind their drawing.
use Rattle.std.specs.Prelude.{◌≡◌, ℕ, ◌<◌, true}
use Rattle.rc_base.specs.declared.state.Parcel.{Parcel}
use Rattle.order_model.specs.Board.{Board}
use Rattle.tile_model.specs.Boards.{IsCarriedOut}
use Rattle.tile_server.specs.Boards.{canvas_clients, is_plain, IsSameTile}
use Rattle.tile_server.specs.Waits.{board_behind}
use Rattle.tile_server.specs.declared.lazy.LazyCanvas.{LazyCanvas}

abbrev pub board_in : LazyCanvas → Board
board_in lazy = board_behind lazy.drawn lazy.waiting

-- what the client's parcel asks of the canvas' tile is carried out on its board
abbrev pub IsDoneIn : LazyCanvas → ℕ → Parcel → LazyCanvas → Type 0
IsDoneIn lazy client parcel later =
    IsCarriedOut lazy.drawn.decl lazy.drawn.layout client lazy.drawn.tile parcel (board_in lazy) (board_in later)

-- it is of the same tile, and contracts see the same board
pub record IsSameBoard (lazy later : LazyCanvas) : Type 0 where
  pub tile : IsSameTile lazy.drawn later.drawn
  pub board : board_in later ≡ board_in lazy

-- a block without sets, of one of its clients
pub record MayWait (lazy : LazyCanvas) (sender : ℕ) (parcel : Parcel) : Type 0 where
  pub client : sender < canvas_clients lazy.drawn
  pub plain : is_plain parcel ≡ true

-- it is of the same tile, and what the client's parcel asks is carried out
pub record IsBlockDone (lazy : LazyCanvas) (client : ℕ) (parcel : Parcel) (later : LazyCanvas) : Type 0 where
  pub same : IsSameTile lazy.drawn later.drawn
  pub done : IsDoneIn lazy client parcel later
