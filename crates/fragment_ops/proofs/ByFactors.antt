-- Blending by two factors.
use Rattle.std.proofs.Common.{◌≡◌, ℕ, ◌+◌, min, arith, refl, ◌∙◌}
use Rattle.rc_base.specs.Colors.{rgba, prod}
use Rattle.rc_base.specs.declared.command.Rgba.{Rgba}
use Rattle.rc_base.specs.declared.state.State.{State}
use Rattle.fragment_ops.specs.Blends.{IsBlending, scaled_by, color_blended, mixed_color}
use Rattle.fragment_ops.specs.Shortcuts.{color_sum}
use Rattle.fragment_ops.specs.declared.factor.Factor.{Factor}
use Rattle.fragment_ops.specs.declared.factor.Factor.TheVariants as factors

nothing : (a : ℕ) → prod a 0 ≡ 0
nothing a = omega arith

whole : (a : ℕ) → prod a 255 ≡ a
whole a = omega arith

pub zero_is : (one c old : Rgba) → rgba 0 0 0 0 ≡ scaled_by factors.Zero one c old
unfolding scaled_by
zero_is one c old = rw (nothing one.r, nothing one.g, nothing one.b, nothing one.a) refl

pub one_is : (one c old : Rgba) → one ≡ scaled_by factors.One one c old
unfolding scaled_by
one_is one c old = rw (whole one.r, whole one.g, whole one.b, whole one.a) refl

pub blended_is : (s : State) (f g : Factor) (c old : Rgba) → IsBlending s f g → color_blended f g c old ≡ mixed_color s c old
unfolding color_blended color_sum scaled_by
blended_is s f g c old b =
    (λ i. rgba
    (min 255 (prod c.r (b.first c.r old.r c.a old.a i) + prod old.r (b.second c.r old.r c.a old.a i)))
    (min 255 (prod c.g (b.first c.g old.g c.a old.a i) + prod old.g (b.second c.g old.g c.a old.a i)))
    (min 255 (prod c.b (b.first c.b old.b c.a old.a i) + prod old.b (b.second c.b old.b c.a old.a i)))
    (min 255 (prod c.a (b.first c.a old.a c.a old.a i) + prod old.a (b.second c.a old.a c.a old.a i))))
    ∙ rw b.on refl
