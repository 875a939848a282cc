-- When the images of two elements are the same.
use Rattle.std.proofs.Common.{◌≡◌, ℕ, ◌==◌, List, refl, sym, ap, ◌∙◌}
use Rattle.rc_base.specs.Contexts.Elements.{same_value}
use Rattle.rc_base.specs.declared.state.ElementValue.{ElementValue}
use Rattle.rc_base.specs.declared.state.ElementValue.TheVariants as val
use Rattle.state_update.specs.Knowledge.{IsImageOf}

-- an image is the same as another where their edit numbers are the same
pub image_decides : (v : ElementValue) (k e w h : ℕ) (ts : List ℕ) → IsImageOf v k → same_value v (val.Image e w h ts) ≡ (k == e)
unfolding same_value
image_decides (val.Image f a b us) k e w h ts is = ap (λ (n : ℕ). n == e) is
image_decides (val.Matrix a) k e w h ts is = absurd is
image_decides (val.Area a) k e w h ts is = absurd is
image_decides (val.Range a) k e w h ts is = absurd is
image_decides (val.Flag a) k e w h ts is = absurd is
image_decides (val.Code a) k e w h ts is = absurd is
image_decides (val.Pair a) k e w h ts is = absurd is
image_decides (val.Mask a) k e w h ts is = absurd is
image_decides (val.Color a) k e w h ts is = absurd is
image_decides (val.Depth a) k e w h ts is = absurd is
image_decides (val.Mode a) k e w h ts is = absurd is

-- two images with one edit number are the same as the same values
pub alike : (v w z : ElementValue) (k : ℕ) → IsImageOf v k → IsImageOf w k → same_value v z ≡ same_value w z
unfolding same_value
alike (val.Image f a b us) (val.Image g c d vs) (val.Image e x y ws) k is is' = ap (λ (n : ℕ). n == e) (is ∙ sym is')
alike (val.Image f a b us) (val.Image g c d vs) z k is is' = refl
alike (val.Image f a b us) w z k is is' = absurd is'
alike v w z k is is' = absurd is
