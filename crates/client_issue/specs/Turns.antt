-- What a client's steps send, item by item.
use Rattle.std.specs.Prelude.{◌≡◌, ◌≢◌, ℕ, List, [], ◌∷◌, ◌++◌}
use Rattle.rc_base.specs.Cluster.Sending.{Sending, ToTile, ToManager}
use Rattle.rc_base.specs.declared.state.Parcel.{Parcel}
use Rattle.rc_base.specs.declared.sync.Request.{Request}

-- what a client has still to send, and what it appended so far for each tile and for the manager
pub record ClientLanes : Type 0 where
  pub left : List Sending
  pub parcels : ℕ → List Parcel
  pub requests : List Request

-- ---- a step

-- the next item went to a tile's lane
pub record IsParcelSent (v w : ClientLanes) (tile : ℕ) : Type 0 where
  pub parcel : Parcel
  pub next : v.left ≡ ToTile tile parcel ∷ w.left
  pub appended : w.parcels tile ≡ v.parcels tile ++ parcel ∷ []
  pub others : (other : ℕ) → other ≢ tile → w.parcels other ≡ v.parcels other
  pub requests : w.requests ≡ v.requests

-- the next item went to the manager
pub record IsRequestSent (v w : ClientLanes) : Type 0 where
  pub request : Request
  pub next : v.left ≡ ToManager request ∷ w.left
  pub parcels : (tile : ℕ) → w.parcels tile ≡ v.parcels tile
  pub appended : w.requests ≡ v.requests ++ request ∷ []

-- all is as it was
pub record IsNothingSent (v w : ClientLanes) : Type 0 where
  pub left : w.left ≡ v.left
  pub parcels : (tile : ℕ) → w.parcels tile ≡ v.parcels tile
  pub requests : w.requests ≡ v.requests
