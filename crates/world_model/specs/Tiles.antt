-- A tile with its board in the stepped cluster: what a step makes of it, what the step takes of its lanes, and what it answers.
use Rattle.std.specs.Prelude.{◌≡◌, ℕ, ◌+◌, ◌<◌, Bool, true, false, cond, List, [], ◌∷◌, ◌++◌, ◌⊎◌}
use Rattle.rc_base.specs.Cluster.Lanes.{IsEarlier}
use Rattle.rc_base.specs.Drawing.Images.{Pixels}
use Rattle.rc_base.specs.declared.cluster.TileMoved.{TileMoved}
use Rattle.rc_base.specs.declared.cluster.TileMoved.TheVariants as moved
use Rattle.rc_base.specs.declared.scene.Decl.{Decl}
use Rattle.rc_base.specs.declared.state.Act.{Act}
use Rattle.rc_base.specs.declared.state.Act.TheVariants as act
use Rattle.rc_base.specs.declared.sync.Entry.{Entry}
use Rattle.rc_base.specs.declared.sync.Entry.TheVariants.{Meet, Swap, Give, Take}
use Rattle.rc_base.specs.declared.window.Layout.{Layout}
use Rattle.order_model.specs.Board.{Board}
use Rattle.order_model.specs.Standing.{Progress, new_progress, is_over, is_listening, is_asked}
use Rattle.tile_model.specs.Boards.{IsNewBoard, IsDrawn}
use Rattle.tile_model.specs.Items.{Item, after_item, IsAwaited}
use Rattle.tile_model.specs.Items.Item.{Nothing, Due, Granted, NoMore, Sent}
use Rattle.tile_model.specs.Short.{NothingIsDue}
use Rattle.world_model.specs.declared.moves.TileAnswer.{TileAnswer}
use Rattle.world_model.specs.declared.moves.TileAnswer.TheVariants as tile_answer

-- how far it is, the client with which its rotation goes on, its board, the pixels that it has shown, one part for each frame, and whether memory
-- has lacked
pub record Tile : Type 0 where
  pub progress : Progress
  pub next : ℕ
  pub board : Board
  pub parts : List Pixels
  pub short : Bool

-- a tile of so many clients that has done nothing
pub record IsNewTile (decl : Decl) (l : Layout) (clients tile : ℕ) (a : Tile) : Type 0 where
  pub progress : a.progress ≡ new_progress clients
  pub next : a.next ≡ 0
  pub board : IsNewBoard decl l tile a.board
  pub parts : a.parts ≡ []
  pub ample : a.short ≡ false

-- ---- what an item makes of it

-- a parcel moves the rotation on
abbrev pub next_after : ℕ → Item → ℕ
next_after next Nothing = next
next_after next (Due e) = next
next_after next (Granted e) = next
next_after next NoMore = next
next_after next (Sent client parcel) = client + 1

-- a Swap shows the board
abbrev pub parts_by : Entry → Pixels → List Pixels → List Pixels
parts_by (Meet barrier members) pixels parts = parts
parts_by Swap pixels parts = parts ++ pixels ∷ []
parts_by (Give semaphore client) pixels parts = parts
parts_by (Take semaphore client) pixels parts = parts

abbrev pub parts_after : Item → Pixels → List Pixels → List Pixels
parts_after Nothing pixels parts = parts
parts_after (Due e) pixels parts = parts_by e pixels parts
parts_after (Granted e) pixels parts = parts
parts_after NoMore pixels parts = parts
parts_after (Sent client parcel) pixels parts = parts

-- an entry that can be performed comes first
abbrev pub IsUndue : Progress → Item → Type 0
IsUndue p Nothing = NothingIsDue false p
IsUndue p (Due e) = Unit {0}
IsUndue p (Granted e) = NothingIsDue false p
IsUndue p NoMore = NothingIsDue false p
IsUndue p (Sent client parcel) = NothingIsDue false p

-- A step of a tile that isn't short, with an item that it awaits.
pub record IsTileStep (decl : Decl) (l : Layout) (tile : ℕ) (item : Item) (a b : Tile) : Type 0 where
  pub ample : a.short ≡ false
  pub still_ample : b.short ≡ a.short
  pub awaited : IsAwaited a.progress item
  pub undue : IsUndue a.progress item
  pub progress : b.progress ≡ after_item a.progress item
  pub next : b.next ≡ next_after a.next item
  pub board : IsDrawn decl l tile a.progress item a.board b.board
  pub parts : b.parts ≡ parts_after item a.board.pixel a.parts

-- ---- its lanes

-- the grant lane was tried before, and found empty
abbrev pub FindsNoGrant : Progress → Item → Type 0
FindsNoGrant p Nothing = is_listening p ≡ true
FindsNoGrant p (Due e) = ⊥
FindsNoGrant p (Granted e) = ⊥
FindsNoGrant p NoMore = ⊥
FindsNoGrant p (Sent client parcel) = is_listening p ≡ true

-- and so was the client's lane: of all clients that are asked, or of those that come before the one that gave the parcel
abbrev pub FindsNoParcel : Tile → Item → ℕ → Type 0
FindsNoParcel a Nothing i = is_asked a.progress i ≡ true
FindsNoParcel a (Due e) i = ⊥
FindsNoParcel a (Granted e) i = ⊥
FindsNoParcel a NoMore i = ⊥
FindsNoParcel a (Sent client parcel) i = IsEarlier a.next client i × (is_asked a.progress i ≡ true)

-- ---- answers

-- what a step answers, without the pixels of a Swap
abbrev pub without_pixels : TileMoved → TileAnswer
without_pixels moved.Performed = tile_answer.Performed
without_pixels (moved.Swapped part) = tile_answer.Swapped
without_pixels moved.Learnt = tile_answer.Learnt
without_pixels (moved.Took client) = tile_answer.Took client
without_pixels (moved.Held client) = tile_answer.Held client
without_pixels (moved.Closed client) = tile_answer.Closed client
without_pixels (moved.Dropped client) = tile_answer.Dropped client
without_pixels moved.Blocked = tile_answer.Blocked
without_pixels moved.Ended = tile_answer.Ended

-- nothing is left to do
pub record HasEnded (p : Progress) : Type 0 where
  pub over : is_over p ≡ true
  pub closed : (client : ℕ) → client < p.count → p.closed client ≡ true

abbrev pub answer_to_entry : Entry → TileAnswer
answer_to_entry (Meet barrier members) = tile_answer.Performed
answer_to_entry Swap = tile_answer.Swapped
answer_to_entry (Give semaphore client) = tile_answer.Performed
answer_to_entry (Take semaphore client) = tile_answer.Performed

-- to a parcel of a client that is held, or isn't
abbrev pub answer_to_act : Bool → ℕ → Act → TileAnswer
answer_to_act held client (act.Draw block) = cond held (tile_answer.Dropped client) (tile_answer.Took client)
answer_to_act held client (act.Clear mask) = cond held (tile_answer.Dropped client) (tile_answer.Took client)
answer_to_act held client (act.Shared part) = cond held (tile_answer.Dropped client) (tile_answer.Took client)
answer_to_act held client (act.Sync op) = cond held (tile_answer.Dropped client) (tile_answer.Held client)
answer_to_act held client act.End = tile_answer.Closed client

abbrev pub IsTileAnswer : Progress → Item → TileAnswer → Type 0
IsTileAnswer p Nothing answer = ((answer ≡ tile_answer.Ended) × HasEnded p) ⊎ ((answer ≡ tile_answer.Blocked) × (HasEnded p → ⊥))
IsTileAnswer p (Due e) answer = answer ≡ answer_to_entry e
IsTileAnswer p (Granted e) answer = answer ≡ tile_answer.Learnt
IsTileAnswer p NoMore answer = answer ≡ tile_answer.Learnt
IsTileAnswer p (Sent client parcel) answer = answer ≡ answer_to_act (p.held client) client parcel.act
