-- Kept triangles that lie beside a rectangle's pixels.
use Rattle.std.proofs.Common.{◌≡◌, ℤ, pos, ◌<ℤ◌, List, inl, inr, Some, None}
use Rattle.std.specs.declared.option.Option.{Option}
use Rattle.rc_base.specs.Drawing.Cover.{triangle_area}
use Rattle.rc_base.specs.Drawing.Window.{window_of}
use Rattle.rc_base.specs.Drawing.Kept.{three, kept_of}
use Rattle.rc_base.specs.declared.state.State.{State}
use Rattle.rc_base.specs.declared.state.Vertex.{Vertex}
use Rattle.rc_base.specs.declared.window.WindowVertex.{WindowVertex}
use Rattle.geometry.specs.Beside.{AreOutside, AreBeside}
use Rattle.geometry.specs.declared.near.Surrounds.{Surrounds}
use Rattle.geometry.specs.Placed.{IsPlace}
use Rattle.geometry.proofs.Oriented.{kept}

-- the order of two corners doesn't matter
outside_turned : (a b c low high : ℤ) → AreOutside a b c low high → AreOutside a c b low high
outside_turned a b c low high (inl h) = inl (h.0, h.2, h.1)
outside_turned a b c low high (inr h) = inr (h.0, h.2, h.1)

beside_turned : (near : Surrounds) (a b c : WindowVertex) → AreBeside near (three a b c) → AreBeside near (three a c b)
beside_turned near a b c (inl h) = inl (outside_turned a.x b.x c.x near.left near.right h)
beside_turned near a b c (inr h) = inr (outside_turned a.y b.y c.y near.bottom near.top h)

-- three corners that lie beside
pub kept_beside : (s : State) (near : Surrounds) (a b c : Vertex) (p q r : WindowVertex) → p ≡ window_of s a → q ≡ window_of s b → r ≡ window_of s c
    → AreBeside near (three p q r) → (v : List WindowVertex) → kept_of s a b c ≡ Some v → (pos 0 <ℤ triangle_area v) × AreBeside near v
kept_beside s near a b c p q r ea eb ec beside v e =
    let h : AreBeside near (three (window_of s a) (window_of s b) (window_of s c)) = rw (ea, eb, ec) at beside in
    kept (λ (w : List WindowVertex). (pos 0 <ℤ triangle_area w) × AreBeside near w) s a b c v e
    (λ area. (area, h)) (λ area. (area, beside_turned near (window_of s a) (window_of s b) (window_of s c) h))

-- the place of a vertex that has one
pub place_is : (s : State) (v : Vertex) (r : Option WindowVertex) (p : WindowVertex) → r ≡ Some p → IsPlace s v r → p ≡ window_of s v
place_is s v None p e h = absurd cc
place_is s v (Some q) p e h = let same : p ≡ q = cc in rw same h.1
