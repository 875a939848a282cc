-- A board that contracts see the same of is carried out on the same.
use Rattle.std.proofs.Common.{ℕ, refl, subst, ◌∙◌}
use Rattle.rc_base.specs.declared.scene.Decl.{Decl}
use Rattle.rc_base.specs.declared.state.Parcel.{Parcel}
use Rattle.rc_base.specs.declared.window.Layout.{Layout}
use Rattle.order_model.specs.Board.{Board}
use Rattle.tile_model.specs.Boards.{IsCarriedOut}
use Rattle.tile_server.specs.Boards.{IsSameTile}
use Rattle.tile_server.specs.LazyBoards.{board_in, IsSameBoard}
use Rattle.tile_server.specs.declared.canvas.Canvas.{Canvas}
use Rattle.tile_server.specs.declared.lazy.LazyCanvas.{LazyCanvas}

pub same_self : (lazy : LazyCanvas) → IsSameBoard lazy lazy
same_self lazy = record { tile = record { decl = refl; clients = refl; layout = refl; tile = refl }; board = refl }

pub tiles_in_turn : (a b c : Canvas) → IsSameTile a b → IsSameTile b c → IsSameTile a c
tiles_in_turn a b c f g = record { decl = g.decl ∙ f.decl; clients = g.clients ∙ f.clients; layout = g.layout ∙ f.layout; tile = g.tile ∙ f.tile }

pub boards_in_turn : (a b c : LazyCanvas) → IsSameBoard a b → IsSameBoard b c → IsSameBoard a c
boards_in_turn a b c f g = record { tile = tiles_in_turn a.drawn b.drawn c.drawn f.tile g.tile; board = g.board ∙ f.board }

pub done_from : (lazy mid : LazyCanvas) → IsSameBoard lazy mid → (client : ℕ) (parcel : Parcel) (later : Board)
    → IsCarriedOut mid.drawn.decl mid.drawn.layout client mid.drawn.tile parcel (board_in mid) later
    → IsCarriedOut lazy.drawn.decl lazy.drawn.layout client lazy.drawn.tile parcel (board_in lazy) later
done_from lazy mid same client parcel later h =
    subst (λ (d : Decl). IsCarriedOut d lazy.drawn.layout client lazy.drawn.tile parcel (board_in lazy) later) same.tile.decl
    (subst (λ (l : Layout). IsCarriedOut mid.drawn.decl l client lazy.drawn.tile parcel (board_in lazy) later) same.tile.layout
    (subst (λ (n : ℕ). IsCarriedOut mid.drawn.decl mid.drawn.layout client n parcel (board_in lazy) later) same.tile.tile
    (subst (λ (b : Board). IsCarriedOut mid.drawn.decl mid.drawn.layout client mid.drawn.tile parcel b later) same.board h)))
