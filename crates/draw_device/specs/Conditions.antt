-- With what a device draws.
use Rattle.std.specs.Prelude.{ℕ, [], List, Option, pos, ◌≤ℤ◌, unwrap_or}
use Rattle.rc_base.specs.Pictures.{Picture}
use Rattle.rc_base.specs.Drawing.PixelStep.{effect_step}
use Rattle.rc_base.specs.Drawing.Texel.{sampled}
use Rattle.rc_base.specs.declared.state.Block.{Block}
use Rattle.rc_base.specs.declared.state.Effect.TheVariants as eff
use Rattle.rc_base.specs.declared.state.State.{State}
use Rattle.draw_device.specs.Devices.{DeviceView, EachTakes}
use Rattle.textures.specs.Images.{HasTexelIfAny, picture, texture_image}

-- the picture of a shared texture; of a name that isn't declared, a picture without texels
abbrev pub shared_of : List (Option Picture) → ℕ → Picture
shared_of shareds name = unwrap_or (texture_image shareds name) (picture 0 0 [])

-- the picture that a draw samples, of sets of textures
abbrev pub sampled_of : State → List (Option Picture) → List (Option Picture) → Option Picture
sampled_of s privates shareds = sampled s (texture_image privates) (shared_of shareds)

-- each pixel of a device took the step of a block, with sets of textures
abbrev pub TakesBlock : State → Block → List (Option Picture) → List (Option Picture) → DeviceView → DeviceView → Type 0
TakesBlock s block privates shareds = EachTakes (effect_step s (texture_image privates) (shared_of shareds) (eff.Block block))

-- the texture that a draw samples, if any, has a texel
pub record IsDrawable (s : State) (privates shareds : List (Option Picture)) : Type 0 where
  pub texel : HasTexelIfAny (sampled_of s privates shareds)

-- the clear depth lies in its range, 0 to 1 in 16.16 fixed point
pub record IsClearable (s : State) : Type 0 where
  pub low : pos 0 ≤ℤ s.clear_depth
  pub high : s.clear_depth ≤ℤ pos 65536
