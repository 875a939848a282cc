-- What the lists of a scene count.
use Rattle.std.proofs.Common.{◌≡◌, length, refl}
use Rattle.std.proofs.lemmas.List.FromFn.{length-map-range_with_len}
use Rattle.rc_base.specs.Orders.Sync.{client_count, sync_row_of, sync_lists_of}
use Rattle.rc_base.specs.declared.scene.Scene.{Scene}

pub scene_client_count : (scene : Scene) → client_count (sync_lists_of scene) ≡ length scene.streams
unfolding sync_lists_of
scene_client_count scene = length-map-range_with_len (sync_row_of scene) 0 (length scene.streams)

pub scene_counts : (scene : Scene) → (sync_lists_of scene).counts ≡ scene.decl.barriers
unfolding sync_lists_of
scene_counts scene = refl
