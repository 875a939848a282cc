-- In a cluster that is seen as a world of the model, no lane holds more than its depth.
use Rattle.std.proofs.Common.{ℕ}
use Rattle.rc_base.specs.Cluster.Tiles.{tile_count}
use Rattle.rc_base.specs.declared.scene.Scene.{Scene}
use Rattle.rc_base.specs.declared.window.Layout.{Layout}
use Rattle.world_model.specs.World.{client_total, LanesFit}
use Rattle.world_model.specs.World.{World as Model}
use Rattle.step_core.specs.Worlds.{IsSeenAs}
use Rattle.step_core.specs.declared.cluster.Cluster.{Cluster}
use Rattle.step_core.proofs.Lanes.{lanes_fit, rows_fit}

-- no lane holds more than its depth
pub view_fits : (scene : Scene) (l : Layout) (depth : ℕ) (world : Cluster) (w : Model) → IsSeenAs scene l depth world w → LanesFit scene l depth w
view_fits scene l depth world w v = record {
  parcels = λ client tile low lt. rows_fit depth (client_total scene) (tile_count l) w.parcels world.parcels.items v.parcels client tile low lt;
  requests = λ client low. lanes_fit depth (client_total scene) w.requests world.requests.items v.requests client low;
  grants = λ tile lt. lanes_fit depth (tile_count l) w.grants world.grants.items v.grants tile lt;
}
