-- What a step makes of one core and of its lanes, among the others.
use Rattle.std.specs.Prelude.{◌≡◌, ◌≢◌, ℕ, ◌++◌, ◌∷◌, [], List, length, slice_index_or, Result, Vec}
use Rattle.std.specs.Global.{Global}
use Rattle.rc_base.specs.Cluster.Lanes.{EachLane}
use Rattle.rc_base.specs.Cluster.PlainLanes.{held, depth_of}
use Rattle.rc_base.specs.declared.cluster.TileMoved.{TileMoved}
use Rattle.rc_base.specs.declared.cluster.TileMoved.TheVariants as tile_moved
use Rattle.rc_base.specs.declared.cluster.TilePart.{TilePart}
use Rattle.rc_base.specs.declared.out_of_memory.OutOfMemory.{OutOfMemory}
use Rattle.rc_base.specs.declared.plain_lane.PlainLane.{PlainLane}
use Rattle.rc_base.specs.declared.state.Parcel.{Parcel}
use Rattle.rc_base.specs.declared.sync.Grant.{Grant}
use Rattle.rc_base.specs.declared.cluster.ClientMoved.{ClientMoved}
use Rattle.rc_base.specs.declared.sync.Request.{Request}
use Rattle.client_issue.specs.Deeds.{ClientDeed}
use Rattle.client_issue.specs.Deeds.{answer_of as client_answer}
use Rattle.client_issue.specs.Steps.{AreSent, IsClientStep, IsRequested}
use Rattle.client_issue.specs.declared.client.ClientCore.{ClientCore}
use Rattle.step_core.specs.Ports.{waiting, HasNoRoom, IsSamePort, IsChanged}
use Rattle.step_core.specs.declared.port.Port.{Port}
use Rattle.tile_server.specs.Cores.{IsTileStep, AreTaken, AreFoundEmpty, IsHeard, CountsUnheard}
use Rattle.tile_server.specs.Deeds.{answer_of}
use Rattle.tile_server.specs.declared.deed.TileDeed.{TileDeed}
use Rattle.tile_server.specs.declared.tile_core.TileCore.{TileCore}

-- the lane holds as much as before at most
abbrev pub IsSameDepth : {T : Type 0} → PlainLane T → PlainLane T → Type 0
IsSameDepth x y = ◌≡◌ {A = List ℕ} (depth_of y ∷ []) (depth_of x ∷ [])

-- a step of a tile's core over plain lanes
pub record IsTileCoreStep (deed : TileDeed) (core core' : TileCore) (row row' : List (PlainLane Parcel)) (lane lane' : PlainLane Grant) : Type 0 where
  pub row_depths : EachLane (λ i x y. IsSameDepth x y) row row'
  pub lane_depth : IsSameDepth lane lane'
  pub step : IsTileStep core deed core'
  pub taken : AreTaken (λ x r y. held x ≡ r ∷ held y) (λ x y. held y ≡ held x) deed row row'
  pub empty : AreFoundEmpty (λ x. x.empty_seen) (λ x. held x ≡ []) core deed row row'
  pub heard : IsHeard (λ x r y. held x ≡ r ∷ held y) (λ x y. held y ≡ held x) deed lane lane'
  pub unheard : CountsUnheard (λ x. x.empty_seen) (λ x. held x ≡ []) core deed lane lane'

-- a tile's core took a step, which was answered so, among the others
pub record IsTileStepped (tile : ℕ) (r : Result TileMoved OutOfMemory) (cores cores' : List TileCore) (rows rows' : List (Vec (PlainLane Parcel) Global))
    (lanes lanes' : List (PlainLane Grant)) : Type 0 where
  pub deed : TileDeed
  pub answered : answer_of deed ≡ r
  pub core : TileCore
  pub core' : TileCore
  pub row : Vec (PlainLane Parcel) Global
  pub row' : Vec (PlainLane Parcel) Global
  pub lane : PlainLane Grant
  pub lane' : PlainLane Grant
  pub cores_changed : IsChanged tile core core' cores cores'
  pub rows_changed : IsChanged tile row row' rows rows'
  pub lanes_changed : IsChanged tile lane lane' lanes lanes'
  pub step : IsTileCoreStep deed core core' row.items row'.items lane lane'

-- a part that is shown is kept behind the others
abbrev pub with_shown : TileMoved → List TilePart → List TilePart
with_shown tile_moved.Performed parts = parts
with_shown (tile_moved.Swapped part) parts = parts ++ part ∷ []
with_shown tile_moved.Learnt parts = parts
with_shown (tile_moved.Took client) parts = parts
with_shown (tile_moved.Held client) parts = parts
with_shown (tile_moved.Closed client) parts = parts
with_shown (tile_moved.Dropped client) parts = parts
with_shown tile_moved.Blocked parts = parts
with_shown tile_moved.Ended parts = parts

-- the tile's list of parts keeps what is shown; the other tiles' are as they were
pub record ArePartsKept (tile : ℕ) (m : TileMoved) (lists lists' : List (Vec TilePart Global)) : Type 0 where
  pub count : length lists' ≡ length lists
  pub here : (d : Vec TilePart Global) → (slice_index_or lists' tile d).items ≡ with_shown m (slice_index_or lists tile d).items
  pub others : (i : ℕ) (d : Vec TilePart Global) → i ≢ tile → slice_index_or lists' i d ≡ slice_index_or lists i d

-- ---- a client

-- a step of a client's core over its ports and a plain lane
pub record IsClientCoreStep (deed : ClientDeed) (core core' : ClientCore) (row row' : List Port) (lane lane' : PlainLane Request) : Type 0 where
  pub same_ports : EachLane (λ i x y. IsSamePort x y) row row'
  pub lane_depth : IsSameDepth lane lane'
  pub step : IsClientStep core deed core'
  pub sent : AreSent waiting (λ x. x.full_seen) HasNoRoom deed row row'
  pub requested : IsRequested held (λ x. x.full_seen) (λ x. length (held x) ≡ depth_of x) deed lane lane'

-- a client's core took a step, which was answered so, among the others
pub record IsClientStepped (number : ℕ) (r : Result ClientMoved OutOfMemory) (cores cores' : List ClientCore) (ports ports' : List (Vec Port Global))
    (lanes lanes' : List (PlainLane Request)) : Type 0 where
  pub deed : ClientDeed
  pub answered : client_answer deed ≡ r
  pub core : ClientCore
  pub core' : ClientCore
  pub row : Vec Port Global
  pub row' : Vec Port Global
  pub lane : PlainLane Request
  pub lane' : PlainLane Request
  pub cores_changed : IsChanged number core core' cores cores'
  pub ports_changed : IsChanged number row row' ports ports'
  pub lanes_changed : IsChanged number lane lane' lanes lanes'
  pub step : IsClientCoreStep deed core core' row.items row'.items lane lane'
