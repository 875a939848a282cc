-- One turn of each worker: one step of its core, with what it took of its own ends of lanes and appended to them, and which of them it found empty or full; or a part that it hands
-- over. Whether a lane that an end found empty held nothing then isn't known to that end alone.
use Rattle.std.specs.Prelude.{◌≡◌, ℕ, ◌==◌, ⊤, Bool, true, false, ◌∷◌, [], cond, List, Option, Some, None, option_to_list, Ok, IfOk, OnErr}
use Rattle.rc_base.specs.declared.cluster.TilePart.{TilePart}
use Rattle.rc_base.specs.declared.state.Parcel.{Parcel}
use Rattle.rc_base.specs.declared.sync.Grant.{Grant}
use Rattle.rc_base.specs.declared.sync.Request.{Request}
use Rattle.client_issue.specs.Deeds as client
use Rattle.client_issue.specs.Deeds.ClientDeed.{Appends, Requests, FindsTileFull, FindsManagerFull, Finishes, Loses}
use Rattle.client_issue.specs.Steps as client_lanes
use Rattle.client_issue.specs.Steps.{HasGot, IsClientStep, IsFoundFull, IsRequested}
use Rattle.sync_manager.specs.Cores.{AreFoundFull, AreSent, IsManagerStep}
use Rattle.sync_manager.specs.Cores as manager_lanes
use Rattle.sync_manager.specs.Progress as manager
use Rattle.sync_manager.specs.declared.deed.ManagerDeed.{ManagerDeed}
use Rattle.tile_server.specs.Clauses.{shown_in}
use Rattle.tile_server.specs.Cores.{CountsUnheard, IsHeard, IsSameView, IsTileStep}
use Rattle.tile_server.specs.Cores as tile_lanes
use Rattle.tile_server.specs.Deeds as tile
use Rattle.tile_server.specs.declared.deed.TileDeed.{TileDeed}
use Rattle.tile_queues.specs.Ends.{empties_of, fulls_of, sent_of, MayBeFull, Took, TookNone}
use Rattle.tile_queues.specs.declared.ends.LaneIn.{LaneIn}
use Rattle.worker_crew.specs.declared.worker.Attempt.{Attempt}
use Rattle.worker_crew.specs.declared.worker.Attempt.TheVariants.{Moved, Blocked}
use Rattle.worker_crew.specs.declared.worker.Peer.TheVariants.{Caller}
use Rattle.cluster_run.specs.Attempts.{client_attempt, manager_attempt, tile_attempt}
use Rattle.cluster_run.specs.declared.workers.ClientWorker.{ClientWorker}
use Rattle.cluster_run.specs.declared.workers.ManagerWorker.{ManagerWorker}
use Rattle.cluster_run.specs.declared.workers.TileWorker.{TileWorker}

-- ---- a client

-- what a client's turn appends for a tile
abbrev pub parcels_by : client.ClientDeed → ℕ → List Parcel
parcels_by (Appends tile parcel) i = cond (i == tile) (parcel ∷ []) []
parcels_by (Requests r) i = []
parcels_by (FindsTileFull tile parcel) i = []
parcels_by (FindsManagerFull r) i = []
parcels_by Finishes i = []
parcels_by Loses i = []

-- and for the manager
abbrev pub requests_by : client.ClientDeed → List Request
requests_by (Appends tile parcel) = []
requests_by (Requests r) = r ∷ []
requests_by (FindsTileFull tile parcel) = []
requests_by (FindsManagerFull r) = []
requests_by Finishes = []
requests_by Loses = []

-- what it comes to
abbrev pub client_came : client.ClientDeed → Attempt
client_came deed = client_attempt (client.answer_of deed)

module _ {R : Type 0} where
  -- The core does this. The item's lane got just the item, or was found full, which its end counted; no other lane was touched.
  pub record IsClientTurn (before : ClientWorker R) (deed : client.ClientDeed) (after : ClientWorker R) : Type 0 where
    pub number : after.number ≡ before.number
    pub step : IsClientStep before.core deed after.core
    pub parcels : client_lanes.AreSent sent_of fulls_of MayBeFull deed before.tiles.items after.tiles.items
    pub requests : IsRequested sent_of fulls_of MayBeFull deed before.requests after.requests

-- ---- the manager

abbrev pub manager_came : ManagerDeed → Attempt
manager_came deed = manager_attempt (manager.answer_of deed)

module _ {R : Type 0} where
  -- The core does this. It took just that of the clients' lanes, and each that it found empty counted it; it appended just that to the tiles' lanes, and the one that it
  -- found full counted it.
  pub record IsManagerTurn (before : ManagerWorker R) (deed : ManagerDeed) (after : ManagerWorker R) : Type 0 where
    pub step : IsManagerStep before.core deed after.core
    pub requests : manager_lanes.AreTaken Took TookNone deed before.requests.items after.requests.items
    pub empty : manager_lanes.AreFoundEmpty empties_of (λ _. ⊤) before.core deed before.requests.items after.requests.items
    pub grants : AreSent sent_of deed before.grants.items after.grants.items
    pub full : AreFoundFull fulls_of MayBeFull deed before.grants.items after.grants.items

-- ---- a tile

-- a step of the core, with the part that it has for the caller, if any, and whether it went in; or the part that waits, and whether it went in; or the drawing of a block
-- that the core took before, of which contracts see nothing
pub data TileTurn : Type 0 where
  StepsCore : (deed : TileDeed) (offered : Option TilePart) (sent : Bool) → TileTurn
  HandsOver : (part : TilePart) (sent : Bool) → TileTurn
  DrawsBlock : TileTurn

-- what it takes of a client
abbrev pub parcels_in : TileTurn → ℕ → List Parcel
parcels_in (StepsCore deed offered sent) client = option_to_list (tile.taken_of deed client)
parcels_in (HandsOver part sent) client = []
parcels_in DrawsBlock client = []

-- and of the manager
abbrev pub grants_in : TileTurn → List Grant
grants_in (StepsCore deed offered sent) = option_to_list (tile.granted_of deed)
grants_in (HandsOver part sent) = []
grants_in DrawsBlock = []

-- what it sends to the caller
abbrev pub parts_by : TileTurn → List TilePart
parts_by (StepsCore deed offered sent) = cond sent (option_to_list offered) []
parts_by (HandsOver part sent) = cond sent (part ∷ []) []
parts_by DrawsBlock = []

-- it is a step that is tried, and more than the drawing of a block
abbrev pub is_tried : TileTurn → Bool
is_tried (StepsCore deed offered sent) = true
is_tried (HandsOver part sent) = true
is_tried DrawsBlock = false

-- what it comes to; where the part went in that is a move, whatever the core may do next
abbrev pub tile_came : TileTurn → Attempt
tile_came (StepsCore deed offered sent) = tile_attempt (tile.answer_of deed)
tile_came (HandsOver part sent) = cond sent (Moved (Some Caller)) (Blocked (Some Caller))
tile_came DrawsBlock = Blocked None

module _ {R : Type 0} where
  -- The part went into the lane, in which there was room, and none waits; or the lane was found full, which its end counted, and the part waits. Of no part nothing is done.
  abbrev pub IsPut : Option TilePart → Bool → LaneIn TilePart R → LaneIn TilePart R → Option TilePart → Type 0
  IsPut None sent before after held = (sent ≡ true) × (after ≡ before) × (held ≡ None)
  IsPut (Some part) true before after held = HasGot sent_of fulls_of MayBeFull part before after × (held ≡ None)
  IsPut (Some part) false before after held = IsFoundFull sent_of fulls_of MayBeFull before after × (held ≡ Some part)

  -- No part waits, and the core does this. It took just that of the clients' lanes and of the manager's, and each that it found empty counted it. The part that it shows, or
  -- where memory lacked one without pixels, is sent where there is room, and else waits.
  pub record IsCoreTurn (before : TileWorker R) (deed : TileDeed) (offered : Option TilePart) (sent : Bool) (after : TileWorker R) : Type 0 where
    pub none_waits : before.held ≡ None
    pub step : IsTileStep before.core deed after.core
    pub clients : tile_lanes.AreTaken Took TookNone deed before.clients.items after.clients.items
    pub empty : tile_lanes.AreFoundEmpty empties_of (λ _. ⊤) before.core deed before.clients.items after.clients.items
    pub grants : IsHeard Took TookNone deed before.grants after.grants
    pub unheard : CountsUnheard empties_of (λ _. ⊤) before.core deed before.grants after.grants
    pub shown : IfOk (tile.answer_of deed) (λ did. option_to_list offered ≡ shown_in (Ok did))
    pub lacked : OnErr (tile.answer_of deed) ((part : TilePart) × (offered ≡ Some part) × (part.pixels ≡ []))
    pub parts : IsPut offered sent before.parts after.parts after.held

  -- A part waits, and the core takes no step. The part is sent where there is room, and else waits.
  pub record IsHandOver (before : TileWorker R) (part : TilePart) (sent : Bool) (after : TileWorker R) : Type 0 where
    pub waits : before.held ≡ Some part
    pub core_is : after.core ≡ before.core
    pub clients : after.clients ≡ before.clients
    pub grants : after.grants ≡ before.grants
    pub parts : IsPut (Some part) sent before.parts after.parts after.held

  -- Contracts see the same of the core as before, and of its ends of lanes and its part.
  pub record IsDrawing (before after : TileWorker R) : Type 0 where
    pub view : IsSameView before.core after.core
    pub clients : after.clients ≡ before.clients
    pub grants : after.grants ≡ before.grants
    pub parts : after.parts ≡ before.parts
    pub held : after.held ≡ before.held

  abbrev pub IsTileDone : TileWorker R → TileTurn → TileWorker R → Type 0
  IsTileDone before (StepsCore deed offered sent) after = IsCoreTurn before deed offered sent after
  IsTileDone before (HandsOver part sent) after = IsHandOver before part sent after
  IsTileDone before DrawsBlock after = IsDrawing before after

  -- so of a tile of one number
  pub record IsTileTurn (before : TileWorker R) (turn : TileTurn) (after : TileWorker R) : Type 0 where
    pub number : after.number ≡ before.number
    pub done : IsTileDone before turn after

  -- so of a step that is tried
  pub record IsTileTried (before : TileWorker R) (turn : TileTurn) (after : TileWorker R) : Type 0 where
    pub turned : IsTileTurn before turn after
    pub tried : is_tried turn ≡ true
