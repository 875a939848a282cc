-- Room for what the workers of a crew have.
use Rattle.std.specs.Prelude.{ℕ}
use Rattle.cluster_run.specs.Apart.{HasRoom}
use Rattle.cluster_run.specs.declared.cores.ClientParts.{ClientParts}
use Rattle.cluster_run.specs.declared.cores.Room.{Room}
use Rattle.cluster_run.specs.declared.cores.TileParts.{TileParts}

module _ {R : Type 0} where
  -- of so many clients
  pub record IsClientRoom (count : ℕ) (room : ClientParts R) : Type 0 where
    pub cores : HasRoom count room.cores
    pub rows : HasRoom count room.rows
    pub requests : HasRoom count room.requests

  -- of so many tiles
  pub record IsTileRoom (count : ℕ) (room : TileParts R) : Type 0 where
    pub cores : HasRoom count room.cores
    pub columns : HasRoom count room.columns
    pub grants : HasRoom count room.grants
    pub parts : HasRoom count room.parts

  -- of both, and for the lanes of parts
  pub record IsRoomFor (clients tiles : ℕ) (room : Room R) : Type 0 where
    pub client_parts : IsClientRoom clients room.clients
    pub tile_parts : IsTileRoom tiles room.tiles
    pub rests : HasRoom tiles room.rests
