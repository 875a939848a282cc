-- Triangles that clip coordinates tell to lie beside a rectangle's pixels.
use Rattle.std.specs.Prelude.{◌≡◌, ◌⊎◌, ℕ, ℤ, pos, ◌+ℤ◌, ◌-ℤ◌, ◌*ℤ◌, ◌<ℤ◌, ◌≤ℤ◌, Option, Some, None, IfSome}
use Rattle.std.proofs.Props.{props}
use Rattle.rc_base.specs.Numbers.{entry}
use Rattle.rc_base.specs.declared.state.State.{State}
use Rattle.rc_base.specs.declared.state.Vertex.{Vertex}
use Rattle.geometry.specs.Placed.{FixesVectors}
use Rattle.geometry.specs.declared.near.Surrounds.{Surrounds}
use Rattle.geometry.specs.declared.sides.AxisBounds.{AxisBounds}
use Rattle.geometry.specs.declared.sides.ClipBounds.{ClipBounds}

-- along an axis of the viewport, whose pixels' first and last centres are these: the window coordinate of x and w is 16 origin + 8 size (x + w) / w
pub record AreAxisBounds (origin size first last : ℤ) (b : AxisBounds) : Type 0 where
  pub scale : b.scale ≡ pos 8 *ℤ size
  pub low : b.low ≡ first -ℤ pos 16 *ℤ origin -ℤ b.scale
  pub high : b.high ≡ last +ℤ pos 1 -ℤ pos 16 *ℤ origin -ℤ b.scale

-- along both axes, where neither matrix moves a vector
pub record AreClipBounds (s : State) (near : Surrounds) (b : ClipBounds) : Type 0 where
  pub modelview : FixesVectors s.modelview.m
  pub projection : FixesVectors s.projection.m
  pub across : AreAxisBounds (entry s.viewport 0) (entry s.viewport 2) near.left near.right b.across
  pub up : AreAxisBounds (entry s.viewport 1) (entry s.viewport 3) near.bottom near.top b.up

-- a vertex lies before the pixels, or behind them
abbrev pub IsBefore : AxisBounds → ℕ → Vertex → Type 0
IsBefore b axis v = (entry v.pos axis *ℤ b.scale) <ℤ (b.low *ℤ entry v.pos 3)

abbrev pub IsBehind : AxisBounds → ℕ → Vertex → Type 0
IsBehind b axis v = (b.high *ℤ entry v.pos 3) ≤ℤ (entry v.pos axis *ℤ b.scale)

-- all three vertices do
abbrev pub AreAside : AxisBounds → ℕ → Vertex → Vertex → Vertex → Type 0
AreAside b axis u v w =
    (IsBefore b axis u × IsBefore b axis v × IsBefore b axis w) ⊎ (IsBehind b axis u × IsBehind b axis v × IsBehind b axis w)

-- three vertices before the eye that lie on one side of the pixels
pub record AreRejected (b : ClipBounds) (u v w : Vertex) : Type 0 where
  pub first : pos 0 <ℤ entry u.pos 3
  pub second : pos 0 <ℤ entry v.pos 3
  pub third : pos 0 <ℤ entry w.pos 3
  pub aside : AreAside b.across 0 u v w ⊎ AreAside b.up 1 u v w

-- where bounds are given, they are these
abbrev pub AreClipBoundsIfAny : State → Surrounds → Option ClipBounds → Type 0
AreClipBoundsIfAny s near given = IfSome given (AreClipBounds s near)

pub AreClipBoundsIfAny-prop : (s : State) (near : Surrounds) (given : Option ClipBounds) → IsProp (AreClipBoundsIfAny s near given)
AreClipBoundsIfAny-prop s near None = Prim.hlevel props
AreClipBoundsIfAny-prop s near (Some b) = Prim.hlevel props
