-- What is true of every world that moves lead to: each lane was sent what was taken of it and what it holds, and each actor is right for that.
use Rattle.std.specs.Prelude.{◌≡◌, ℕ, ◌+◌, ◌<◌, ◌≤◌, true, false, List, [], ◌++◌, length, Some, slice_get, pos}
use Rattle.rc_base.specs.Cluster.Parcels.{parcels_of}
use Rattle.rc_base.specs.Cluster.Sending.{Sending, parcels_to, requests_in, sent_by, requests_of}
use Rattle.rc_base.specs.Cluster.Tiles.{tile_count, tile_pixels}
use Rattle.rc_base.specs.Drawing.Images.{Pixels}
use Rattle.rc_base.specs.Drawing.Serial.{frame_pixel}
use Rattle.rc_base.specs.Orders.Book.{IsLegalBook}
use Rattle.rc_base.specs.Orders.Journal.{IsLegal}
use Rattle.rc_base.specs.Orders.Sync.{sync_lists_of}
use Rattle.rc_base.specs.declared.scene.Scene.{Scene}
use Rattle.rc_base.specs.declared.state.Parcel.{Parcel}
use Rattle.rc_base.specs.declared.sync.Entry.{Entry}
use Rattle.rc_base.specs.declared.sync.Request.{Request}
use Rattle.rc_base.specs.declared.sync.SyncLists.{SyncLists}
use Rattle.rc_base.specs.declared.window.Layout.{Layout}
use Rattle.client_issue.specs.Clauses.{counted}
use Rattle.order_model.specs.Board.{StandsFor}
use Rattle.order_model.specs.Log.{Replays, recorded_order}
use Rattle.order_model.specs.Sent.{jobs_of}
use Rattle.order_model.specs.Standing.{Progress}
use Rattle.order_model.specs.declared.record.LogEntry.{LogEntry}
use Rattle.sync_manager.specs.Promises.{grants_of, IsManagerRight}
use Rattle.tile_model.specs.Items.{grants_heard, shown_frames}
use Rattle.world_model.specs.Tiles.{Tile}
use Rattle.world_model.specs.World.{World, Client, client_total}

-- ---- lanes

-- All that goes through a lane: what was taken, so many items; what it holds; and what is still to be sent.
pub record IsLane {A : Type 0} (all : List A) (taken : ℕ) (held coming : List A) : Type 0 where
  pub took : List A
  pub count : taken ≡ length took
  pub whole : all ≡ took ++ (held ++ coming)

-- what is left of a sequence is its end
abbrev pub IsEndOf : List Sending → List Sending → Type 0
IsEndOf items left = (sent : List Sending) × (items ≡ sent ++ left)

-- ---- tiles

-- a journal that the present one may go on to be
pub record GoesOnTo (syncs : SyncLists) (now later : List Entry) : Type 0 where
  pub more : List Entry
  pub whole : later ≡ now ++ more
  pub legal : IsLegal syncs later

-- The parts that a tile has shown are its pixels of the frames, one for each Swap that it has performed: in the whole order that its log records,
-- whatever the journal and the log go on with.
pub record ArePartsOf (scene : Scene) (l : Layout) (tile : ℕ) (journal : List Entry) (p : Progress) (parts : List Pixels) : Type 0 where
  pub count : length parts ≡ shown_frames p
  pub pixels : (later : List Entry) → GoesOnTo (sync_lists_of scene) journal later
      → (more : List LogEntry) → Replays (sync_lists_of scene) later (λ client. jobs_of scene l client tile) (p.log ++ more)
      → (k : ℕ) (part : Pixels) → slice_get parts k ≡ Some part → (x y : ℕ) → tile_pixels l tile x y ≡ true
      → part (pos x) (pos y) ≡ frame_pixel scene (recorded_order (sync_lists_of scene) later (p.log ++ more)) (k + 1) (pos x) (pos y)

-- A tile stands for the scene and every journal that the present one may go on to be, and it has shown the frames.
pub record IsTileSound (scene : Scene) (l : Layout) (tile : ℕ) (journal : List Entry) (a : Tile) : Type 0 where
  pub stands : (later : List Entry) → GoesOnTo (sync_lists_of scene) journal later → StandsFor scene l tile later a.progress a.board
  pub parts : ArePartsOf scene l tile journal a.progress a.parts

-- ---- the manager

-- What the manager took of each client is a front of the client's requests, behind which come those that the lane holds and those still to be sent;
-- and it is right for what it took. Its book is legal, and memory has not lacked.
pub record IsManagerSound (scene : Scene) (l : Layout) (w : World) : Type 0 where
  pub took : ℕ → List Request
  pub lanes : (client : ℕ) → client < client_total scene
      → requests_of scene client ≡ took client ++ (w.requests client ++ requests_in (w.clients client).left)
  pub nobody_else : (client : ℕ) → client_total scene ≤ client → took client ≡ []
  pub right : IsManagerRight (sync_lists_of scene) (tile_count l) took (grants_of w.manager) w.manager
  pub legal : IsLegalBook (sync_lists_of scene) w.manager.book
  pub ample : w.manager.short ≡ false

-- ---- the world

-- The lane from a client to a tile, where it holds these parcels. The client's tally for the tile is that of the parcels that were sent: those that
-- were taken, and those that the lane holds.
pub record IsParcelLane (scene : Scene) (l : Layout) (client tile : ℕ) (c : Client) (held : List Parcel) (a : Tile) : Type 0 where
  pub lane : IsLane (parcels_of scene l client tile) (a.progress.taken client) held (parcels_to tile c.left)
  pub tally : c.tallies tile ≡ counted scene l client tile (lane.took ++ held)

-- A world is sound: what each client has still to send is the end of its sequence, each lane was sent what was taken of it and what it holds, and the
-- manager and the tiles are right for what they took.
pub record IsSound (scene : Scene) (l : Layout) (w : World) : Type 0 where
  pub left : (client : ℕ) → client < client_total scene → IsEndOf (sent_by scene l client) (w.clients client).left
  pub parcels : (client tile : ℕ) → client < client_total scene → tile < tile_count l
      → IsParcelLane scene l client tile (w.clients client) (w.parcels client tile) (w.tiles tile)
  -- what was sent to a tile is what the tile heard, and what the lane holds
  pub grants : (tile : ℕ) → tile < tile_count l → grants_of w.manager tile ≡ grants_heard (w.tiles tile).progress ++ w.grants tile
  pub manager : IsManagerSound scene l w
  pub tiles : (tile : ℕ) → tile < tile_count l → IsTileSound scene l tile w.manager.book.journal (w.tiles tile)
