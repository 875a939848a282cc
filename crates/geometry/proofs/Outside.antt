-- Numbers that lie on one side of the centres of a range of columns or rows have none of these centres between them.
use Rattle.std.proofs.Common.{◌≡◌, ℤ, pos, ◌-ℤ◌, ◌<ℤ◌, ◌≤ℤ◌, inl, inr, arith, List, ◌⊎◌}
use Rattle.std.specs.Int.{int_min, int_max}
use Rattle.std.proofs.lemmas.Int.{ints, int_min_is, int_max_is}
use Rattle.rc_base.specs.Drawing.Cover.{centre, corner}
use Rattle.rc_base.specs.declared.window.Rect.{Rect}
use Rattle.rc_base.specs.declared.window.WindowVertex.{WindowVertex}
use Rattle.geometry.specs.declared.near.Surrounds.{Surrounds}
use Rattle.geometry.specs.Beside.{AreOutside, AreBeside, AreSurrounds}

outside_centres : (a b c first behind p : ℤ) → AreOutside a b c (centre first) (centre (behind -ℤ pos 1)) → first ≤ℤ p → p <ℤ behind
    → int_min (int_min a b) c ≤ℤ centre p → centre p ≤ℤ int_max (int_max a b) c → ⊥
outside_centres a b c first behind p (inl h) low high least greatest =
    let x = h.0 in
    let y = h.1 in
    let z = h.2 in
    absurd (omega (arith, ints, x, y, z, low, greatest, int_max_is (int_max a b) c, int_max_is a b))
outside_centres a b c first behind p (inr h) low high least greatest =
    let x = h.0 in
    let y = h.1 in
    let z = h.2 in
    absurd (omega (arith, ints, x, y, z, high, least, int_min_is (int_min a b) c, int_min_is a b))

at_centres : (a b c first behind low high : ℤ) → low ≡ centre first → high ≡ centre (behind -ℤ pos 1) → AreOutside a b c low high
    → AreOutside a b c (centre first) (centre (behind -ℤ pos 1))
at_centres a b c first behind low high e f h = rw (e, f) at h

-- the bounds are the first centre of a range and its last one
pub not_between : (a b c first behind low high p : ℤ) → low ≡ centre first → high ≡ centre (behind -ℤ pos 1) → AreOutside a b c low high → first ≤ℤ p → p <ℤ behind
    → int_min (int_min a b) c ≤ℤ centre p → centre p ≤ℤ int_max (int_max a b) c → ⊥
not_between a b c first behind low high p e f h from to least greatest =
    outside_centres a b c first behind p (at_centres a b c first behind low high e f h) from to least greatest

-- where all corners lie on one side of the rectangle's centres, no centre of its columns lies between the corners, or none of its rows
pub beside_part : (near : Surrounds) (part : Rect) (v : List WindowVertex) → AreSurrounds part near → AreBeside near v
    → ((p : ℤ) → part.x0 ≤ℤ p → p <ℤ part.x1
    → (int_min (int_min (corner v 0).x (corner v 1).x) (corner v 2).x ≤ℤ centre p) × (centre p ≤ℤ int_max (int_max (corner v 0).x (corner v 1).x) (corner v 2).x) → ⊥)
    ⊎ ((p : ℤ) → part.y0 ≤ℤ p → p <ℤ part.y1
    → (int_min (int_min (corner v 0).y (corner v 1).y) (corner v 2).y ≤ℤ centre p) × (centre p ≤ℤ int_max (int_max (corner v 0).y (corner v 1).y) (corner v 2).y) → ⊥)
beside_part near part v n (inl h) = inl (λ p low high b. not_between _ _ _ part.x0 part.x1 near.left near.right p n.left n.right h low high b.0 b.1)
beside_part near part v n (inr h) = inr (λ p low high b. not_between _ _ _ part.y0 part.y1 near.bottom near.top p n.bottom n.top h low high b.0 b.1)
