-- What callers say of the steps of managers, clients and tiles.
use Rattle.std.specs.Prelude.{◌≡◌, ℕ, true, List, slice_index_or}
use Rattle.rc_base.specs.declared.state.Parcel.{Parcel}
use Rattle.tile_model.specs.Boards.{IsCarriedOut}
use Rattle.tile_model.specs.Givable.{is_givable}
use Rattle.tile_server.specs.Cores.{board_of, decl_of, layout_of, tile_of}
use Rattle.tile_server.specs.declared.tile_core.TileCore.{TileCore}

-- a client's lane gave a parcel, and where a scene can give it that is carried out: by what the tile keeps of this client
pub record IsTakenWork {I : Type 0} (gave : I → Parcel → I → Type 0) (d : I) (client : ℕ) (before : List I) (core : TileCore) (after : List I) (later : TileCore) : Type 0 where
  pub parcel : Parcel
  pub taken : gave (slice_index_or before client d) parcel (slice_index_or after client d)
  pub carried_out : is_givable (decl_of core) parcel ≡ true → IsCarriedOut (decl_of core) (layout_of core) client (tile_of core) parcel (board_of core) (board_of later)
