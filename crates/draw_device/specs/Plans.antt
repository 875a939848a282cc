-- What is settled once a block, and once a triangle.
use Rattle.std.specs.Prelude.{◌≡◌, Bool, true, false, List, ℤ, Option, None, Some, IfSome}
use Rattle.std.proofs.Props.{props}
use Rattle.rc_base.specs.Pictures.{Picture}
use Rattle.rc_base.specs.Drawing.PixelStep.{textured, written_color}
use Rattle.rc_base.specs.Drawing.Texel.{wrap_in_s, wrap_in_t}
use Rattle.rc_base.specs.Colors.{modulated}
use Rattle.rc_base.specs.declared.command.Rgba.{Rgba}
use Rattle.rc_base.specs.declared.state.State.{State}
use Rattle.rc_base.specs.declared.window.WindowVertex.{WindowVertex}
use Rattle.raster.specs.Colors.{AreFlat, HasDepths, IsColorPlane}
use Rattle.raster.specs.Planes.{IsTriangleSetup, IsWordPlane}
use Rattle.raster.specs.declared.triangle_setup.TriangleSetup.{TriangleSetup}
use Rattle.raster.specs.declared.word_plane.WordPlane.{WordPlane}
use Rattle.textures.specs.Images.{HasTexel, HasTexelIfAny}
use Rattle.textures.specs.Samplers.{IsSampler}
use Rattle.textures.specs.declared.sampler.Sampler.{Sampler}
use Rattle.fragment_ops.specs.AlphaTests.{IsAlphaTest}
use Rattle.fragment_ops.specs.Blends.{IsBlending}
use Rattle.fragment_ops.specs.DepthTests.{IsDepthTest}
use Rattle.fragment_ops.specs.Shortcuts.{blends_over, blends_sum, writes_all}
use Rattle.draw_device.specs.Loops.{StoresColor}
use Rattle.draw_device.specs.Shades.{IsLaid}
use Rattle.draw_device.specs.declared.plan.Plan.{Plan}
use Rattle.draw_device.specs.declared.paint.Paint.{Paint}
use Rattle.draw_device.specs.declared.paint.Paint.TheVariants as paint
use Rattle.draw_device.specs.declared.shading.Shading.{Shading}
use Rattle.draw_device.specs.declared.source.Source.{Source}
use Rattle.draw_device.specs.declared.source.Source.TheVariants as source
use Rattle.draw_device.specs.declared.stages.Stages.{Stages}
use Rattle.draw_device.specs.declared.tests.Tests.{Tests}
use Rattle.draw_device.specs.declared.tests.Tests.TheVariants as tests
use Rattle.draw_device.specs.declared.write.Write.{Write}
use Rattle.draw_device.specs.declared.write.Write.TheVariants as write

-- ---- once a block

-- the state's colours are written so
abbrev pub IsWrite : State → Write → Type 0
IsWrite s write.Plain = (color old : Rgba) → written_color s color old ≡ color
IsWrite s write.Over = blends_over s ≡ true
IsWrite s write.Sum = blends_sum s ≡ true
IsWrite s write.Masked = s.blend_on ≡ false
IsWrite s (write.Blended a b) = IsBlending s a b × (writes_all s.color_mask ≡ true)
IsWrite s (write.Both a b) = IsBlending s a b

pub IsWrite-prop : (s : State) (w : Write) → IsProp (IsWrite s w)
IsWrite-prop s write.Plain = Prim.hlevel props
IsWrite-prop s write.Over = Prim.hlevel props
IsWrite-prop s write.Sum = Prim.hlevel props
IsWrite-prop s write.Masked = Prim.hlevel props
IsWrite-prop s (write.Blended a b) = Prim.hlevel props
IsWrite-prop s (write.Both a b) = Prim.hlevel props

-- texels replace the triangle's colours, or are modulated by them
abbrev pub Replaces : State → Type 0
Replaces s = (color texel : Rgba) → textured s color texel ≡ texel

abbrev pub Modulates : State → Type 0
Modulates s = (color texel : Rgba) → textured s color texel ≡ modulated color texel

-- what the plan says of a state holds
pub record IsPlan (s : State) (p : Plan) : Type 0 where
  pub depth : IsDepthTest s p.depth
  pub alpha : IsAlphaTest s p.alpha
  pub write : IsWrite s p.write
  pub stores : p.stores ≡ true → StoresColor s
  pub through : p.through ≡ true → s.alpha_on ≡ false
  pub untested : p.untested ≡ true → s.depth_on ≡ false
  pub replaces : p.replaces ≡ true → Replaces s
  pub modulates : p.replaces ≡ false → Modulates s

pub IsPlan-prop : (s : State) (p : Plan) → IsProp (IsPlan s p)
IsPlan-prop s p = Prim.hlevel (props, IsWrite-prop)

-- ---- once a triangle, whose planes hold from pixel (x, y) on

abbrev pub IsDepthPlane : List WindowVertex → ℤ → ℤ → WordPlane → Type 0
IsDepthPlane v x y plane = IsWordPlane v x y (λ (c : WindowVertex). c.z) plane

-- the sampler has the picture's texels, and the planes are those of the coordinates
pub record AreTexels (s : State) (p : Option Picture) (v : List WindowVertex) (x y : ℤ) (k : Sampler) (ss ts : WordPlane) : Type 0 where
  pub texel : HasTexel p
  pub sampler : IsSampler p (wrap_in_s s) (wrap_in_t s) k
  pub across : IsWordPlane v x y (λ (c : WindowVertex). c.s) ss
  pub up : IsWordPlane v x y (λ (c : WindowVertex). c.t) ts

-- the fragments' colours after the texture stage are made so
abbrev pub IsSource : State → Option Picture → List WindowVertex → ℤ → ℤ → Source → Type 0
IsSource s p v x y (source.Flat color) = (p ≡ None) × AreFlat v color
IsSource s p v x y (source.Smooth plane) = (p ≡ None) × IsColorPlane v x y plane
IsSource s p v x y (source.Texels k ss ts) = AreTexels s p v x y k ss ts × Replaces s
IsSource s p v x y (source.Tinted k ss ts plane) = AreTexels s p v x y k ss ts × Modulates s × IsColorPlane v x y plane

pub HasTexelIfAny-prop : (p : Option Picture) → IsProp (HasTexelIfAny p)
HasTexelIfAny-prop None = Prim.hlevel props
HasTexelIfAny-prop (Some p) = Prim.hlevel props

-- the fragments take no test
pub record AreUntested (s : State) (v : List WindowVertex) : Type 0 where
  pub ranged : HasDepths v
  pub through : s.alpha_on ≡ false
  pub untested : s.depth_on ≡ false

-- the fragments take the alpha test alone
pub record AreAlphaTested (s : State) (v : List WindowVertex) : Type 0 where
  pub ranged : HasDepths v
  pub untested : s.depth_on ≡ false

-- the fragments' depths lie in the buffer's range, and go by the plane
pub record HasDepthPlane (v : List WindowVertex) (x y : ℤ) (p : WordPlane) : Type 0 where
  pub ranged : HasDepths v
  pub plane : IsDepthPlane v x y p

-- the fragments take the depth test alone
pub record AreDepthTested (s : State) (v : List WindowVertex) (x y : ℤ) (plane : WordPlane) : Type 0 where
  pub depths : HasDepthPlane v x y plane
  pub through : s.alpha_on ≡ false

-- the fragments take these tests and no others
abbrev pub IsTests : State → List WindowVertex → ℤ → ℤ → Tests → Type 0
IsTests s v x y tests.Off = AreUntested s v
IsTests s v x y (tests.Depth plane) = AreDepthTested s v x y plane
IsTests s v x y tests.Alpha = AreAlphaTested s v
IsTests s v x y (tests.Both plane) = HasDepthPlane v x y plane
IsTests s v x y (tests.Any plane) = IsDepthPlane v x y plane

-- from the setup's pixel on they are made so
abbrev pub IsSourceFrom : State → Option Picture → List WindowVertex → TriangleSetup → Source → Type 0
IsSourceFrom s p v setup source = (x y : ℤ) → IsTriangleSetup v x y setup → IsSource s p v x y source

-- the fragments' colours alone are stored
pub record AreStored (s : State) (p : Option Picture) (v : List WindowVertex) : Type 0 where
  pub alone : StoresColor s
  pub none : p ≡ None
  pub ranged : HasDepths v

-- the fragments' colours are made so, and they take these tests
pub record AreStages (s : State) (p : Option Picture) (v : List WindowVertex) (x y : ℤ) (stages : Stages) : Type 0 where
  pub source : IsSource s p v x y stages.source.now
  pub tests : IsTests s v x y stages.tests.now

-- colours are laid over the stored ones, or written as they are, and no alpha test is taken
pub record IsLaidAlone (s : State) (over : Bool) : Type 0 where
  pub laid : IsLaid s over
  pub through : s.alpha_on ≡ false

-- what is settled of a triangle whose pixels are drawn one by one
pub record IsShading (s : State) (p : Option Picture) (v : List WindowVertex) (t : Shading) : Type 0 where
  pub none : IfSome t.flat (λ color. p ≡ None)
  pub flat : IfSome t.flat (AreFlat v)
  pub over : IfSome t.over (IsLaidAlone s)

-- the way that is settled for a triangle is right
abbrev pub IsPaint : State → Option Picture → List WindowVertex → ℤ → ℤ → Paint → Type 0
IsPaint s p v x y (paint.Fill color) = AreStored s p v × AreFlat v color
IsPaint s p v x y (paint.Store plane) = AreStored s p v × IsColorPlane v x y plane.now
IsPaint s p v x y (paint.Stages stages) = AreStages s p v x y stages
IsPaint s p v x y (paint.Pixels shading) = IsShading s p v shading
