-- A set of shared textures as the texels that an order of commands leaves.
use Rattle.std.specs.Prelude.{◌≡◌, ℕ, ◌*◌, ◌<◌, ◌≤◌, List, length, map, Option, Some}
use Rattle.rc_base.specs.Pictures.{Picture}
use Rattle.rc_base.specs.Drawing.Serial.{blank_textures, stored}
use Rattle.rc_base.specs.Drawing.Texel.{SharedTexels, shared_picture}
use Rattle.rc_base.specs.declared.command.Part.{Part}
use Rattle.rc_base.specs.declared.scene.Scene.{Scene}
use Rattle.rc_base.specs.declared.state.Effect.TheVariants as eff
use Rattle.textures.specs.Images.{IsWhole, LiesInside, texture_image, with_texture_part, blank_texture}

-- the set has these texels, each texture with its declared sides and four bytes for each texel
pub record HasTexels (sizes : List (List ℕ)) (shared : SharedTexels) (set : List (Option Picture)) : Type 0 where
  pub count : length set ≡ length sizes
  pub whole : (name : ℕ) → 0 < name → name ≤ length sizes → IsWhole (shared_picture sizes shared name)
  pub each : (name : ℕ) → 0 < name → name ≤ length sizes → texture_image set name ≡ Some (shared_picture sizes shared name)

-- blank textures
abbrev pub BlankTexturesHaveZeros : Type 0
BlankTexturesHaveZeros = (scene : Scene) → HasTexels scene.decl.shared (blank_textures scene) (map blank_texture scene.decl.shared)

-- a part that is written into one of them
abbrev pub WrittenPartsAreStored : Type 0
WrittenPartsAreStored =
    (sizes : List (List ℕ)) (shared : SharedTexels) (set : List (Option Picture)) (part : Part) → HasTexels sizes shared set
    → 0 < part.name → part.name ≤ length sizes → length part.texels ≡ 4 * (part.w * part.h) → LiesInside part (texture_image set part.name)
    → HasTexels sizes (stored sizes (eff.Shared part) shared) (with_texture_part set part)
