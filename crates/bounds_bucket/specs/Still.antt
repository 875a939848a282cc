-- Blocks that the matrices don't move, in numbers of 64 bits.
use Rattle.std.specs.Prelude.{◌≡◌, true, ◌⊎◌, List, [], ◌∷◌, ◌++◌, map, ℤ, pos, neg_ℤ, ◌<ℤ◌}
use Rattle.rc_base.specs.Drawing.Cover.{IsInBounds}
use Rattle.rc_base.specs.Drawing.Kept.{is_shown}
use Rattle.rc_base.specs.Drawing.Window.{clip_of, is_placed, window_of}
use Rattle.rc_base.specs.declared.state.State.{State}
use Rattle.rc_base.specs.declared.state.Vertex.{Vertex}
use Rattle.rc_base.specs.declared.window.WindowVertex.{WindowVertex}
use Rattle.fixed_math.specs.Bounds.{four}
use Rattle.geometry.specs.Placed.{IsUsual}
use Rattle.bounds_bucket.specs.declared.extent.Ends.{Ends}
use Rattle.bounds_bucket.specs.declared.extent.Extent.{Extent}
use Rattle.bounds_bucket.specs.declared.shown.Shown.{Shown}
use Rattle.bounds_bucket.specs.Extents.{IsHull}

-- the signs of an area of which the state shows triangles
pub record AreShown (s : State) (shown : Shown) : Type 0 where
  pub above : (a : ℤ) → pos 0 <ℤ a → is_shown s a ≡ shown.above
  pub below : (a : ℤ) → a <ℤ pos 0 → is_shown s a ≡ shown.below

-- neither matrix moves a vertex, and viewport and depth range are usual ones
pub record IsStill (s : State) : Type 0 where
  pub clip : (v : Vertex) → clip_of s v ≡ four v.pos
  pub usual : IsUsual s

-- the vertex stands there in the window, at some depth within the bounds
pub record StandsAt (s : State) (v : Vertex) (p : WindowVertex) : Type 0 where
  pub placed : is_placed s v ≡ true
  pub x : p.x ≡ (window_of s v).x
  pub y : p.y ≡ (window_of s v).y
  pub bounds : IsInBounds p

-- the corners of a triangle lie within the bounds
pub record AreCornersInBounds (u v w : WindowVertex) : Type 0 where
  pub a : IsInBounds u
  pub b : IsInBounds v
  pub c : IsInBounds w

-- ends that no number lies between: the least is the greatest number of 32 bits, and the other way round
pub record AreApart (e : Ends) : Type 0 where
  pub least : e.least ≡ pos 2147483647
  pub greatest : e.greatest ≡ neg_ℤ (pos 2147483648)

-- the least and the greatest of some numbers, if there are any
abbrev pub IsHullIfAny : Ends → List ℤ → Type 0
IsHullIfAny e zs = ((zs ≡ []) × AreApart e) ⊎ IsHull e zs

-- what corners span, if there are any
pub record SpansIfAny (corners : List WindowVertex) (e : Extent) : Type 0 where
  pub across : IsHullIfAny e.across (map (λ (v : WindowVertex). v.x) corners)
  pub up : IsHullIfAny e.up (map (λ (v : WindowVertex). v.y) corners)

-- the ends with three numbers more
abbrev pub AreWithThree : Ends → ℤ → ℤ → ℤ → Ends → Type 0
AreWithThree before a b c after = (zs : List ℤ) → IsHullIfAny before zs → IsHull after (zs ++ a ∷ b ∷ c ∷ [])

-- the extent with three corners more
pub record IsWithThree (before : Extent) (a b c : WindowVertex) (after : Extent) : Type 0 where
  pub across : AreWithThree before.across a.x b.x c.x after.across
  pub up : AreWithThree before.up a.y b.y c.y after.up
