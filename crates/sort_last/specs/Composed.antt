-- How far the frames are put together.
use Rattle.std.specs.Prelude.{◌≡◌, ℕ, length}
use Rattle.rc_base.specs.Contexts.Issue.{context_after}
use Rattle.rc_base.specs.Orders.Sync.{sync_row_of}
use Rattle.rc_base.specs.declared.scene.Scene.{Scene}
use Rattle.serial_render.specs.Shown.{images_of}
use Rattle.serial_render.specs.Steps.{Holds}
use Rattle.sort_last.specs.Layers.{composed_pixel}
use Rattle.sort_last.specs.Players.{start_of, scene_window, HaveDrawn, HaveLayers, HoldEach}
use Rattle.sort_last.specs.declared.apart.Batch.{Batch}
use Rattle.sort_last.specs.declared.compose.Composition.{Composition}
use Rattle.sort_last.specs.declared.compose.Window.{Window}

-- the frames up to one are put together and shown: the window holds that one, and client 0's context stands behind it
pub record IsComposed (scene : Scene) (frame : ℕ) (w : Window) : Type 0 where
  pub clears : w.clears ≡ context_after scene 0 (start_of (sync_row_of scene 0).ops frame)
  pub rect : w.device.rect ≡ scene_window scene
  pub holds : Holds w.device (composed_pixel scene frame)
  pub count : length w.frames ≡ frame
  pub shown : w.frames ≡ images_of scene.decl (composed_pixel scene) frame

-- and the window has the clients' layers of the batch
pub record IsComposing (b : Batch) (frame : ℕ) (w : Window) : Type 0 where
  pub layers : HaveLayers b w.layers.items
  pub composed : IsComposed b.scene.now frame w

-- The frames up to one are put together and shown, the clients have drawn their layers of those behind it up to another, and the window's layers are spare.
pub record IsUpTo (scene : Scene) (frame drawn : ℕ) (c : Composition) : Type 0 where
  pub players : HaveDrawn scene frame drawn c.players.items
  pub spare : HoldEach scene frame frame c.window.layers.items
  pub composed : IsComposed scene frame c.window
