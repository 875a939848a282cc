-- What a call may ask of a scene that it is given, and of a layout for it.
use Rattle.std.specs.Prelude.{◌≡◌, ℕ, None}
use Rattle.std.specs.List.{AllByRecursion}
use Rattle.rc_base.specs.Formats.Commands.{IsCommand}
use Rattle.rc_base.specs.Formats.Limits.{limit_of, layout_limit}
use Rattle.rc_base.specs.Formats.Spelling.{IsSize}
use Rattle.rc_base.specs.declared.scene.Scene.{Scene}
use Rattle.rc_base.specs.declared.window.Layout.{Layout}

-- Each quantity of the scene lies in its range, each field of a command in its own, and each picture has its texels.
pub record IsWithin (scene : Scene) : Type 0 where
  pub limits : limit_of scene ≡ None
  pub commands : AllByRecursion (AllByRecursion IsCommand) scene.streams
  pub sizes : AllByRecursion IsSize scene.decl.shared

-- The layout cuts the scene's window into tiles, and lanes of this depth may join its actors.
pub record IsLayoutFor (scene : Scene) (l : Layout) (depth : ℕ) : Type 0 where
  pub width : l.width ≡ scene.decl.width
  pub height : l.height ≡ scene.decl.height
  pub limits : layout_limit l.width l.height l.columns l.rows depth ≡ None
