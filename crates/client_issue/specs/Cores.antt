-- What a core has still to send.
use Rattle.std.specs.Prelude.{◌≡◌, ◌≢◌, ℕ, min, slice_index_or, ◌+◌, ◌-◌, Bool, nat_le, List, [], ◌∷◌, ◌++◌, length, Option, if◌then◌else◌}
use Rattle.std.specs.List.{flat_map, range_with_len}
use Rattle.rc_base.specs.Contexts.Issue.{stream_of}
use Rattle.rc_base.specs.Cluster.Tiles.{tile_count}
use Rattle.rc_base.specs.Cluster.Looks.{looks_at}
use Rattle.rc_base.specs.Cluster.Parcels.{end_parcel}
use Rattle.rc_base.specs.Cluster.Sending.{Sending, ToTile, ToManager}
use Rattle.rc_base.specs.Outside.Causes.{last_count}
use Rattle.rc_base.specs.declared.cluster.Tally.{Tally}
use Rattle.rc_base.specs.declared.scene.Scene.{Scene}
use Rattle.rc_base.specs.declared.state.Parcel.{Parcel}
use Rattle.rc_base.specs.declared.sync.Request.TheVariants as request
use Rattle.rc_base.specs.declared.window.Layout.{Layout}
use Rattle.client_issue.specs.Sequence.{IsSame, left_of, items_of, scene_of}
use Rattle.client_issue.specs.declared.client.ClientCore.{ClientCore}
use Rattle.client_issue.specs.declared.item.Item.{Item}
use Rattle.client_issue.specs.declared.sender.Sender.{Sender}

abbrev pub layout_of : ClientCore → Layout
layout_of core = core.sender.layout

-- how many commands its client has
abbrev pub commands_of : ClientCore → ℕ
commands_of core = length core.sender.stream

-- how many of them were issued
abbrev pub issued_of : ClientCore → ℕ
issued_of core = core.sender.issued

-- memory was wanting
abbrev pub short_of : ClientCore → Bool
short_of core = core.short

-- ---- what is left

-- the End parcels to the tiles from one on, and the End request; nothing when it was sent
unfoldable pub ends_from : Layout → ℕ → ℕ → List Sending
ends_from l place tile =
    if nat_le tile (tile_count l)
    then flat_map (λ t. ToTile t (end_parcel place) ∷ []) (range_with_len tile (tile_count l - tile)) ++ ToManager request.End ∷ []
    else []

-- what its commands have still to give; nothing where memory was wanting
abbrev pub commands_left : Bool → Sender → List Sending
commands_left short s = if short then [] else left_of s

-- an item that is ready, then what the commands have still to give, then the Ends from one tile on
unfoldable pub left_by : Sender → Option Item → ℕ → Bool → List Sending
left_by s ready ends short = items_of ready ++ (commands_left short s ++ ends_from s.layout (length s.stream) ends)

-- all that a core has still to send, in its sequence: a short one its End parcels and its End request alone
abbrev pub left_in : ClientCore → List Sending
left_in core = left_by core.sender core.ready core.ends core.short

-- the core is that of a client of a scene, for tiles in this layout
pub record IsClientOf (core : ClientCore) (scene : Scene) (client : ℕ) (l : Layout) : Type 0 where
  pub decl : core.sender.decl ≡ scene.decl
  pub stream : core.sender.stream ≡ stream_of scene client
  pub layout : core.sender.layout ≡ l

abbrev pub IsSameCore : ClientCore → ClientCore → Type 0
IsSameCore a b = IsSame a.sender b.sender

-- ---- tallies

-- a tally after one more parcel, which cost so many looks; a count stands still at its type's end
abbrev pub tally_after : Tally → Parcel → ℕ → Tally
tally_after t p looks = record {
  parcels = min (t.parcels + 1) last_count;
  sets = min (t.sets + length p.sets) last_count;
  looks = min (t.looks + looks) last_count;
}

-- the looks that a parcel of the core's client to a tile costs
abbrev pub looks_of : ClientCore → ℕ → Parcel → ℕ
looks_of core tile p = looks_at (scene_of core.sender) core.sender.layout 0 tile p.place

abbrev pub no_tally : Tally
no_tally = record { parcels = 0; sets = 0; looks = 0 }

unfoldable pub tally_in : List Tally → ℕ → Tally
tally_in tallies tile = slice_index_or tallies tile no_tally

-- the tally of a tile
abbrev pub tally_of_tile : ClientCore → ℕ → Tally
tally_of_tile core tile = tally_in core.tallies.items tile

-- the tile's tally counts one more parcel, and no other is changed
pub record IsTallied (before after : ClientCore) (tile : ℕ) (p : Parcel) : Type 0 where
  pub counted : tally_of_tile after tile ≡ tally_after (tally_of_tile before tile) p (looks_of before tile p)
  pub others : (other : ℕ) → other ≢ tile → tally_of_tile after other ≡ tally_of_tile before other

-- the tallies are as they were
abbrev pub AreSameTallies : ClientCore → ClientCore → Type 0
AreSameTallies before after = (tile : ℕ) → tally_of_tile after tile ≡ tally_of_tile before tile
