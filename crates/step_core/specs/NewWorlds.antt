-- A cluster before its first step.
use Rattle.rc_base.specs.declared.scene.Scene.{Scene}
use Rattle.rc_base.specs.declared.window.Layout.{Layout}
use Rattle.world_model.specs.World.{IsNewWorld}
use Rattle.world_model.specs.World.{World as Model}
use Rattle.step_core.specs.Worlds.{IsViewOf}
use Rattle.step_core.specs.declared.cluster.Cluster.{Cluster}
use Rattle.std.specs.Prelude.{ℕ}

-- it is seen as a new world of the model
pub record IsNew (scene : Scene) (l : Layout) (depth : ℕ) (world : Cluster) : Type 0 where
  pub model : Model
  pub new : IsNewWorld scene l model
  pub view : IsViewOf scene l depth world model
