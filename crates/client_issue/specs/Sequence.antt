-- What a client that has issued some of its commands has still to give.
use Rattle.std.specs.Prelude.{◌≡◌, ℕ, min, ◌+◌, ◌-◌, ◌<◌, ◌≤◌, ◌^◌, ◌&&◌, Bool, true, false, nat_lt, is_none, List, [], ◌∷◌, ◌++◌, length, map, Option, None, Some, Result, IfNone, IfSome, IfOk, OnOk, OnErr, if◌then◌else◌}
use Rattle.std.specs.List.{flat_map, range_with_len, AllByRecursion}
use Rattle.std.specs.Option.{option_map_or, ForSome}
use Rattle.std.specs.Coded.{Unit-prop, le_prop}
use Rattle.std.proofs.Props.{props}
use Rattle.rc_base.specs.Formats.Commands.{IsCommand}
use Rattle.rc_base.specs.Contexts.Issue.{stream_of, context_after, effect_at}
use Rattle.rc_base.specs.Orders.Journal.{has}
use Rattle.rc_base.specs.Orders.Sync.{waits_below}
use Rattle.rc_base.specs.Cluster.Tiles.{tile_count}
use Rattle.rc_base.specs.Contexts.Elements.{element_count}
use Rattle.rc_base.specs.Cluster.Looks.{is_pending, looks_at}
use Rattle.rc_base.specs.Cluster.Parcels.{told, parcels_at, parcels_before}
use Rattle.rc_base.specs.Cluster.Sending.{Sending, ToTile, ToManager, sent_at, request_of}
use Rattle.rc_base.specs.declared.command.Command.{Command}
use Rattle.rc_base.specs.declared.out_of_memory.OutOfMemory.{OutOfMemory}
use Rattle.rc_base.specs.declared.scene.Decl.{Decl}
use Rattle.rc_base.specs.declared.scene.Scene.{Scene}
use Rattle.rc_base.specs.declared.state.Act.{Act}
use Rattle.rc_base.specs.declared.state.Parcel.{Parcel}
use Rattle.rc_base.specs.declared.sync.Request.TheVariants as request
use Rattle.rc_base.specs.declared.sync.WaitAt.{WaitAt}
use Rattle.rc_base.specs.declared.window.Layout.{Layout}
use Rattle.state_update.specs.Knowledge.{Knows, pending}
use Rattle.client_issue.specs.Acts.{act_by, goes_to}
use Rattle.client_issue.specs.declared.item.Item.{Item}
use Rattle.client_issue.specs.declared.item.Item.TheVariants as item
use Rattle.client_issue.specs.declared.pending.Pending.{Pending}
use Rattle.client_issue.specs.declared.sender.Sender.{Sender}

-- the scene of one client alone
abbrev pub alone : Decl → List Command → Scene
alone d stream = record { decl = d; streams = stream ∷ [] }

abbrev pub scene_of : Sender → Scene
scene_of s = alone s.decl s.stream

-- what a command gives to a tile
abbrev pub sent_to : Scene → Layout → ℕ → ℕ → List Sending
sent_to scene l place tile = map (λ p. ToTile tile p) (parcels_at scene l 0 tile place (parcels_before scene l 0 tile place))

-- to the tiles from `tile` on
unfoldable pub sent_from_tile : Scene → Layout → ℕ → ℕ → List Sending
sent_from_tile scene l place tile = flat_map (sent_to scene l place) (range_with_len tile (tile_count l - tile))

-- of the commands from a place on
unfoldable pub sent_from : Scene → Layout → ℕ → List Sending
sent_from scene l place = flat_map (sent_at scene l 0) (range_with_len place (length (stream_of scene 0) - place))

abbrev pub pending_items : Scene → Layout → Option Pending → List Sending
pending_items scene l o = option_map_or (λ (p : Pending). sent_from_tile scene l p.place p.tile) o []

abbrev pub request_items : Option WaitAt → List Sending
request_items o = option_map_or (λ w. ToManager (request_of w) ∷ []) o []

-- what is still to be given of the commands, where these parcels are pending
unfoldable pub left_with : Sender → Option Pending → List Sending
left_with s o = pending_items (scene_of s) s.layout o ++ (request_items s.request ++ sent_from (scene_of s) s.layout s.issued)

abbrev pub left_of : Sender → List Sending
left_of s = left_with s s.pending

abbrev pub item_of : Item → Sending
item_of (item.Parcel tile p looks) = ToTile tile p
item_of (item.Request r) = ToManager r

abbrev pub items_of : Option Item → List Sending
items_of o = option_map_or (λ i. item_of i ∷ []) o []

-- of so many commands, how many were issued where this item comes next: those up to its own, and all where it is an End
abbrev pub issued_for : ℕ → Sending → ℕ
issued_for count (ToTile tile p) = min (p.place + 1) count
issued_for count (ToManager (request.Op place op)) = place + 1
issued_for count (ToManager request.End) = count

-- the command issued last, of so many, is the item's own, or the item is an End and all were issued
abbrev pub IsOfLast : ℕ → ℕ → Item → Type 0
IsOfLast count issued i = issued ≡ issued_for count (item_of i)

-- the item is for one of so many tiles, or for the manager
abbrev pub IsForTile : ℕ → Item → Type 0
IsForTile count (item.Parcel tile p looks) = tile < count
IsForTile count (item.Request r) = Unit {0}

pub IsForTile-prop : (count : ℕ) (i : Item) → IsProp (IsForTile count i)
IsForTile-prop count (item.Parcel tile p looks) = le_prop
IsForTile-prop count (item.Request r) = Unit-prop

-- the looks that come with a parcel are those of its place
abbrev pub HasLooks : Scene → Layout → Item → Type 0
HasLooks scene l (item.Parcel tile p looks) = looks ≡ looks_at scene l 0 tile p.place
HasLooks scene l (item.Request r) = Unit {0}

pub HasLooks-prop : (scene : Scene) (l : Layout) (i : Item) → IsProp (HasLooks scene l i)
HasLooks-prop scene l (item.Parcel tile p looks) = hlevel props
HasLooks-prop scene l (item.Request r) = Unit-prop

-- how many commands' parcels a tile was given
abbrev pub heard : Option Pending → ℕ → ℕ → ℕ
heard o issued tile = option_map_or (λ (p : Pending). if nat_lt tile p.tile then issued else p.place) o issued

-- the parcel is of this place and act, with whatever sets
pub record IsMade (place : ℕ) (a : Act) (made : Parcel) : Type 0 where
  pub place_is : made.place ≡ place
  pub act_is : made.act ≡ a

-- Of the command issued last, the parcels from a tile on are pending; one that was made of it is of its place and act.
pub record IsPending (scene : Scene) (l : Layout) (issued : ℕ) (p : Pending) : Type 0 where
  pub last : issued ≡ p.place + 1
  pub asks : act_by (effect_at scene 0 p.place) ≡ Some p.act
  pub goes : (t : ℕ) → t < tile_count l → has p.tiles t ≡ goes_to l (context_after scene 0 p.place).state p.act t
  pub tile : p.tile < tile_count l
  pub met : has p.tiles p.tile ≡ true
  pub made : IfSome p.made (IsMade p.place p.act)

-- What stays as it is: whose commands these are, and for which tiles.
pub record IsSame (a b : Sender) : Type 0 where
  pub decl : b.decl ≡ a.decl
  pub stream : b.stream ≡ a.stream
  pub layout : b.layout ≡ a.layout
  pub count : b.count ≡ a.count

-- Of the commands issued so far a client has the context and the operations. That is so where memory was wanting, too.
pub record IsIssuing (s : Sender) : Type 0 where
  pub issued : s.issued ≤ length s.stream
  pub context : s.context ≡ context_after (scene_of s) 0 s.issued
  pub ops : s.ops.items ≡ waits_below (scene_of s) 0 s.issued

-- A client that has issued some of its commands, of the last of which these parcels are pending, and knows what its tiles were told and which elements are
-- pending to them.
pub record IsSendingWith (s : Sender) (o : Option Pending) : Type 0 where
  pub few : length s.stream < 2 ^ 32
  pub commands : ∥ AllByRecursion IsCommand s.stream ∥₁
  pub count : s.count ≡ tile_count s.layout
  pub tiles : s.count ≤ 32
  pub issued : s.issued ≤ length s.stream
  pub context : s.context ≡ context_after (scene_of s) 0 s.issued
  pub ops : s.ops.items ≡ waits_below (scene_of s) 0 s.issued
  pub tracked : length s.tracker.told ≡ s.count
  pub known : (tile : ℕ) → tile < s.count → ∥ Knows s.tracker tile (told s.decl (parcels_before (scene_of s) s.layout 0 tile (heard o s.issued tile))) ∥₁
  pub marked : (tile e : ℕ) → tile < s.count → e < element_count
      → pending s.tracker tile e ≡ is_pending (scene_of s) s.layout 0 tile (heard o s.issued tile) e
  pub pending : IfSome o (IsPending (scene_of s) s.layout s.issued)
  pub asking : (w : WaitAt) → s.request ≡ Some w → s.issued ≡ w.place + 1

abbrev pub IsSending : Sender → Type 0
IsSending s = IsSendingWith s s.pending

-- each command was issued, and all that it gives was given
pub record IsOver (s : Sender) : Type 0 where
  pub resting : (is_none s.pending && is_none s.request) ≡ true
  pub issued : s.issued ≡ length s.stream

-- it is the same client's, and has the context and the operations of what it issued
pub record KeepsIssuing (before after : Sender) : Type 0 where
  pub same : IsSame before after
  pub issuing : IsIssuing after

-- nothing of the command issued last is left to give, and one is left to issue
pub record MayIssue (s : Sender) : Type 0 where
  pub sending : IsSending s
  pub pending : s.pending ≡ None
  pub request : s.request ≡ None
  pub more : s.issued < length s.stream

-- that one is issued, which leaves what is still to be given as it was
pub record HasIssuedNext (before after : Sender) : Type 0 where
  pub sending : IsSending after
  pub left : left_of after ≡ left_of before
  pub issued : after.issued ≡ before.issued + 1

-- the item is the next one, of the command issued last; there is none only once all is over
pub record IsNextItem (before : Sender) (o : Option Item) (after : Sender) : Type 0 where
  pub sending : IsSending after
  pub left : left_of before ≡ items_of o ++ left_of after
  pub all : IfNone o (IsOver after)
  pub tile : IfSome o (IsForTile before.count)
  pub looked : IfSome o (HasLooks (scene_of before) before.layout)
  pub next : IfSome o (IsOfLast (length before.stream) after.issued)

-- the command is issued, unless memory lacks
pub record IssuesNext (before : Sender) (result : Result (Unit {0}) OutOfMemory) (after : Sender) : Type 0 where
  pub keeps : KeepsIssuing before after
  pub issued : OnOk result (HasIssuedNext before after)

-- the next item is given; where memory lacks for it, not all is over
pub record GivesNext (before : Sender) (result : Result (Option Item) OutOfMemory) (after : Sender) : Type 0 where
  pub keeps : KeepsIssuing before after
  pub given : IfOk result (λ o. IsNextItem before o after)
  pub err : OnErr result (IsOver before → ⊥)

-- ---- a core

-- What holds of a core's sender, the item that waits for its lane, the tile of the next End, and whether the core is short. It knows what it issued. One that
-- isn't short knows what its tiles were told; the item that waits is of the command issued last, or an End; and the Ends come when all commands are over.
pub record IsInOrder (s : Sender) (ready : Option Item) (ends : ℕ) (short : Bool) : Type 0 where
  pub fits : IfSome ready (IsForTile s.count)
  pub last : short ≡ false → ForSome ready (IsOfLast (length s.stream) s.issued)
  pub looked : ForSome ready (HasLooks (scene_of s) s.layout)
  pub issuing : IsIssuing s
  pub sending : short ≡ false → IsSending s
  pub over : short ≡ false → 0 < ends → IsOver s

unfoldable pub IsSound : Sender → Option Item → ℕ → Bool → Type 0
IsSound s ready ends short = IsInOrder s ready ends short

pub IsSound-prop : (s : Sender) (ready : Option Item) (ends : ℕ) (short : Bool) → IsProp (IsSound s ready ends short)
unfolding IsSound
IsSound-prop s ready ends short = Prim.hlevel (props, IsForTile-prop, HasLooks-prop)
