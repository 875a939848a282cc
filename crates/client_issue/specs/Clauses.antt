-- What a client's core promises of itself and of the lists of its own lane ends alone.
use Rattle.std.specs.Prelude.{◌≡◌, ℕ, ◌<◌, min, Bool, true, false, List, [], ◌++◌, length, slice_index_or, Ok}
use Rattle.rc_base.specs.Cluster.Looks.{look_count}
use Rattle.rc_base.specs.Cluster.Parcels.{parcels_of, set_count}
use Rattle.rc_base.specs.Cluster.Sending.{Sending, parcels_to, requests_in, sent_by, sent_last, requests_of}
use Rattle.rc_base.specs.Cluster.Tiles.{tile_count}
use Rattle.rc_base.specs.Outside.Causes.{last_count}
use Rattle.rc_base.specs.declared.cluster.ClientMoved.TheVariants as moved
use Rattle.rc_base.specs.declared.cluster.Tally.{Tally}
use Rattle.rc_base.specs.declared.scene.Scene.{Scene}
use Rattle.rc_base.specs.declared.state.Parcel.{Parcel}
use Rattle.rc_base.specs.declared.sync.Request.{Request}
use Rattle.rc_base.specs.declared.window.Layout.{Layout}
use Rattle.client_issue.specs.Cores.{layout_of, left_in, short_of, no_tally, tally_of_tile, IsClientOf}
use Rattle.client_issue.specs.Deeds.{answer_of, ClientDeed}
use Rattle.client_issue.specs.Steps.{AreSent, IsClientStep, IsRequested}
use Rattle.client_issue.specs.declared.client.ClientCore.{ClientCore}

-- The tally of these parcels of a client to a tile, as a core counts: a count stands still at its type's end.
abbrev pub counted : Scene → Layout → ℕ → ℕ → List Parcel → Tally
counted scene l client tile parcels = record {
  parcels = min (length parcels) last_count;
  sets = min (set_count parcels) last_count;
  looks = min (look_count scene l client tile parcels) last_count;
}

-- ---- the clause

-- Some items at the end of the commands' are dropped; the End parcels and the End request aren't.
pub record IsCutSequence (scene : Scene) (l : Layout) (client : ℕ) (items : List Sending) : Type 0 where
  pub kept : List Sending
  pub dropped : List Sending
  pub whole : sent_by scene l client ≡ kept ++ (dropped ++ sent_last scene l client)
  pub cut : items ≡ kept ++ sent_last scene l client

-- these are all that a client sends, of which a short one drops some
abbrev pub IsSequenceOf : Bool → Scene → Layout → ℕ → List Sending → Type 0
IsSequenceOf false scene l client items = sent_by scene l client ≡ items
IsSequenceOf true scene l client items = IsCutSequence scene l client items

-- What was appended so far are, lane by lane, the items of its sequence up to one point, behind which comes what it has still to send, and its tallies
-- are those of what was appended. Where it has ended nothing is left.
pub record IsClientClause (scene : Scene) (l : Layout) (client : ℕ) (core : ClientCore) (sent : ℕ → List Parcel) (asked : List Request) (ended : Bool) : Type 0 where
  pub whose : IsClientOf core scene client l
  pub so_far : List Sending
  pub sequence : IsSequenceOf (short_of core) scene l client (so_far ++ left_in core)
  pub parcels : (tile : ℕ) → tile < tile_count l → sent tile ≡ parcels_to tile so_far
  pub requests : asked ≡ requests_in so_far
  pub tallies : (tile : ℕ) → tile < tile_count l → tally_of_tile core tile ≡ counted scene l client tile (sent tile)
  pub over : ended ≡ true → left_in core ≡ []

-- it holds of a new core and empty lists
abbrev pub NewClientsMeetTheirClause : Type 0
NewClientsMeetTheirClause = (scene : Scene) (l : Layout) (client : ℕ) (core : ClientCore) (sent : ℕ → List Parcel) (asked : List Request)
    → IsClientOf core scene client l → short_of core ≡ false → left_in core ≡ sent_by scene l client
    → ((tile : ℕ) → tally_of_tile core tile ≡ no_tally) → ((tile : ℕ) → tile < tile_count l → sent tile ≡ []) → asked ≡ []
    → IsClientClause scene l client core sent asked false

-- ---- a step over lanes

-- A core with its ends of lanes, one to each tile and one to the manager, and whether a step has told that it has ended.
pub record ClientOverLanes (P Q : Type 0) : Type 0 where
  pub core : ClientCore
  pub tiles : List P
  pub requests : Q
  pub ended : Bool

-- the clause, over what these lanes were sent
abbrev pub IsClientClauseOver : {P Q : Type 0} → (P → List Parcel) → (Q → List Request) → Scene → Layout → ℕ → P → ClientOverLanes P Q → Type 0
IsClientClauseOver {P} {Q} sent asked scene l client d c =
    IsClientClause scene l client c.core (λ tile. sent (slice_index_or c.tiles tile d)) (asked c.requests) c.ended

module _ {P Q : Type 0} (sent : P → List Parcel) (full_seen : P → ℕ) (full : P → Type 0)
    (asked : Q → List Request) (asked_full_seen : Q → ℕ) (asked_full : Q → Type 0) where
  -- a step, with what it appended to the lanes
  pub record StepOverLanes (deed : ClientDeed) (before after : ClientOverLanes P Q) : Type 0 where
    pub count : length before.tiles ≡ tile_count (layout_of before.core)
    pub step : IsClientStep before.core deed after.core
    pub appended : AreSent sent full_seen full deed before.tiles after.tiles
    pub requested : IsRequested asked asked_full_seen asked_full deed before.requests after.requests
    pub ends : after.ended ≡ true → answer_of deed ≡ Ok moved.Ended

  -- after each step the clause holds, with what the lanes were sent
  abbrev pub ClientStepsOverLanesKeepTheClause : Type 0
  ClientStepsOverLanesKeepTheClause = (scene : Scene) (l : Layout) (client : ℕ) (d : P) (deed : ClientDeed) (before after : ClientOverLanes P Q)
      → IsClientClauseOver sent asked scene l client d before → StepOverLanes deed before after → IsClientClauseOver sent asked scene l client d after

-- ---- the end

-- So far: the client's parcels for each tile are those that were appended and then those still to be sent, and its requests alike.
pub record IsClientUnderWay (scene : Scene) (l : Layout) (client : ℕ) (core : ClientCore) (sent : ℕ → List Parcel) (asked : List Request) : Type 0 where
  pub parcels : (tile : ℕ) → tile < tile_count l → parcels_of scene l client tile ≡ sent tile ++ parcels_to tile (left_in core)
  pub requests : client < length scene.streams → requests_of scene client ≡ asked ++ requests_in (left_in core)

abbrev pub ClientsAreUnderWay : Type 0
ClientsAreUnderWay = (scene : Scene) (l : Layout) (client : ℕ) (core : ClientCore) (sent : ℕ → List Parcel) (asked : List Request) (ended : Bool)
    → IsClientClause scene l client core sent asked ended → short_of core ≡ false → IsClientUnderWay scene l client core sent asked

-- Of a client that has ended and isn't short all was sent, and its tallies are those of all its parcels.
pub record IsClientDone (scene : Scene) (l : Layout) (client : ℕ) (core : ClientCore) (sent : ℕ → List Parcel) (asked : List Request) : Type 0 where
  pub nothing : left_in core ≡ []
  pub parcels : (tile : ℕ) → tile < tile_count l → sent tile ≡ parcels_of scene l client tile
  pub requests : client < length scene.streams → asked ≡ requests_of scene client
  pub tallies : (tile : ℕ) → tile < tile_count l → tally_of_tile core tile ≡ counted scene l client tile (parcels_of scene l client tile)

abbrev pub EndedClientsAreDone : Type 0
EndedClientsAreDone = (scene : Scene) (l : Layout) (client : ℕ) (core : ClientCore) (sent : ℕ → List Parcel) (asked : List Request)
    → IsClientClause scene l client core sent asked true → short_of core ≡ false → IsClientDone scene l client core sent asked
