-- What is kept of a core.
use Rattle.std.specs.Prelude.{◌≡◌, ℕ, ◌≤◌, false, [], length, slice_index_or}
use Rattle.rc_base.specs.Contexts.Issue.{stream_of, context_after}
use Rattle.rc_base.specs.Cluster.Tiles.{tile_count}
use Rattle.rc_base.specs.Orders.Sync.{waits_below}
use Rattle.rc_base.specs.declared.scene.Scene.{Scene}
use Rattle.client_issue.specs.Cores.{issued_of, layout_of, left_in, no_tally, short_of, tally_of_tile}
use Rattle.client_issue.specs.declared.client.ClientCore.{ClientCore}
use Rattle.client_issue.specs.declared.client.ClientKept.{ClientKept}

-- The operations and faults of the commands issued so far, which are all where all was sent and memory never lacked, and the tallies, one for each tile.
pub record IsKept (core : ClientCore) (scene : Scene) (client : ℕ) (kept : ClientKept) : Type 0 where
  pub within : issued_of core ≤ length (stream_of scene client)
  pub ops : kept.syncs.ops ≡ waits_below scene client (issued_of core)
  pub length_is : kept.syncs.length ≡ length (stream_of scene client)
  pub faults : kept.faults ≡ (context_after scene client (issued_of core)).faults
  pub count : length kept.tallies ≡ tile_count (layout_of core)
  pub tallies : (tile : ℕ) → slice_index_or kept.tallies tile no_tally ≡ tally_of_tile core tile
  pub whole : short_of core ≡ false → left_in core ≡ [] → issued_of core ≡ length (stream_of scene client)
