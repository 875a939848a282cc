-- Samplers of textures.
use Rattle.std.specs.Prelude.{◌≡◌, ℕ, Option, Some, MatchOption}
use Rattle.rc_base.specs.Pictures.{Picture}
use Rattle.textures.specs.Images.{HasTexel, picture}
use Rattle.textures.specs.declared.sampler.Sampler.{Sampler}

-- the image that is sampled
abbrev pub sampled_image : Sampler → Option Picture
sampled_image k = Some (picture k.w k.h k.texels.now)

-- the sampler has the texture's image, and these wraps
pub record IsSampler (p : Option Picture) (wrap_s wrap_t : ℕ) (k : Sampler) : Type 0 where
  pub image : p ≡ sampled_image k
  pub across : k.wrap_s ≡ wrap_s
  pub up : k.wrap_t ≡ wrap_t

-- a sampler of the texture with these wraps, or none, where the texture has no texel
abbrev pub IsSamplerIfAny : Option Picture → ℕ → ℕ → Option Sampler → Type 0
IsSamplerIfAny p wrap_s wrap_t result = MatchOption result (HasTexel p → ⊥) (λ k. IsSampler p wrap_s wrap_t k)
