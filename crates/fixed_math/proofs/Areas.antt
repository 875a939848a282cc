-- The bounds of a triangle's area.
use Rattle.std.proofs.Common.{◌*ℤ◌, ◌-ℤ◌, ℤ, arith, List, ◌^◌}
use Rattle.std.proofs.lemmas.Int.{ints}
use Rattle.rc_base.specs.Numbers.{Within}
use Rattle.rc_base.specs.Drawing.Cover.{corner, triangle_area, AreInBounds}
use Rattle.rc_base.specs.Drawing.Window.{place_bound}
use Rattle.rc_base.specs.declared.window.WindowVertex.{WindowVertex}
use Rattle.fixed_math.proofs.Signed.{product_within}

pub delta_within : (b a : ℤ) → Within place_bound b → Within place_bound a → Within (2 ^ 21) (b -ℤ a)
delta_within b a h k = let p = h.0 in let q = h.1 in let r = k.0 in let s = k.1 in (omega (arith, ints), omega (arith, ints))

sub_within : (p q : ℤ) → Within (2 ^ 42) p → Within (2 ^ 42) q → Within (2 ^ 44) (p -ℤ q)
sub_within p q h k = let a = h.0 in let b = h.1 in let c = k.0 in let d = k.1 in (omega (arith, ints), omega (arith, ints))

pub area_within : (v : List WindowVertex) → AreInBounds v → Within (2 ^ 44) (triangle_area v)
area_within v b =
    let a = corner v 0 in let d = corner v 1 in let e = corner v 2 in
    sub_within ((d.x -ℤ a.x) *ℤ (e.y -ℤ a.y)) ((d.y -ℤ a.y) *ℤ (e.x -ℤ a.x))
    (product_within (d.x -ℤ a.x) (e.y -ℤ a.y) (2 ^ 21) (2 ^ 21) (delta_within d.x a.x b.1.0 b.0.0) (delta_within e.y a.y b.2.1 b.0.1))
    (product_within (d.y -ℤ a.y) (e.x -ℤ a.x) (2 ^ 21) (2 ^ 21) (delta_within d.y a.y b.1.1 b.0.1) (delta_within e.x a.x b.2.0 b.0.0))
