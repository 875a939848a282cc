-- The shared textures that a command writes.
use Rattle.std.specs.Prelude.{◌≡◌, ◌*◌, ◌<◌, ◌≤◌, List, length, Option}
use Rattle.rc_base.specs.Pictures.{Picture}
use Rattle.rc_base.specs.declared.command.Part.{Part}
use Rattle.rc_base.specs.declared.state.Effect.{Effect}
use Rattle.rc_base.specs.declared.state.Effect.TheVariants as eff
use Rattle.textures.specs.Images.{LiesInside, texture_image, with_texture_part}

-- the part names one of the textures, lies inside it, and has bytes for its texels
pub record IsStorable (part : Part) (set : List (Option Picture)) : Type 0 where
  pub low : 0 < part.name
  pub high : part.name ≤ length set
  pub whole : length part.texels ≡ 4 * (part.w * part.h)
  pub inside : LiesInside part (texture_image set part.name)

-- the shared textures after an effect
abbrev pub set_after : Effect → List (Option Picture) → List (Option Picture)
set_after eff.Quiet set = set
set_after (eff.Refused fault) set = set
set_after (eff.Block block) set = set
set_after (eff.Clear mask) set = set
set_after (eff.Shared part) set = with_texture_part set part
set_after (eff.Sync op) set = set
