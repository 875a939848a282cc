-- What a client is given: a declaration and commands.
use Rattle.std.specs.Prelude.{◌≡◌, ℕ, List}
use Rattle.rc_base.specs.Contexts.Issue.{stream_of}
use Rattle.rc_base.specs.Formats.Within.{IsWithin, IsLayoutFor}
use Rattle.rc_base.specs.declared.command.Command.{Command}
use Rattle.rc_base.specs.declared.scene.Decl.{Decl}
use Rattle.rc_base.specs.declared.scene.Scene.{Scene}
use Rattle.rc_base.specs.declared.window.Layout.{Layout}

-- they are those of a client of the scene
pub record IsStreamOf (scene : Scene) (client : ℕ) (decl : Decl) (stream : List Command) : Type 0 where
  pub decl_is : decl ≡ scene.decl
  pub stream_is : stream ≡ stream_of scene client

-- the scene that they are of is within the limits, and the layout is one for it, with lanes of some depth
pub record AreWithin (decl : Decl) (stream : List Command) (l : Layout) : Type 0 where
  pub scene : Scene
  pub client : ℕ
  pub depth : ℕ
  pub is_stream : IsStreamOf scene client decl stream
  pub within : IsWithin scene
  pub fits : IsLayoutFor scene l depth
