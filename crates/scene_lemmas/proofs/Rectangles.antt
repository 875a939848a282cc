-- The bounds of a rectangle that has a place.
use Rattle.std.proofs.Common.{◌≡◌, ℤ, ◌≤ℤ◌, true, arith, ◌<ℤ◌, ℕ, ◌-◌, ◌≤◌, ap, pos, ◌-ℤ◌, ◌<◌}
use Rattle.std.proofs.lemmas.Int.{ints}
use Rattle.rc_base.specs.Cluster.Tiles.{is_in_rect, window_rect}
use Rattle.rc_base.specs.Numbers.{natural}
use Rattle.rc_base.specs.declared.window.Rect.{Rect}

pub above_left : (r : Rect) (x y : ℤ) → is_in_rect r x y ≡ true → r.x0 ≤ℤ x
above_left r x y e = grind (arith, ints)

pub below_right : (r : Rect) (x y : ℤ) → is_in_rect r x y ≡ true → x <ℤ r.x1
below_right r x y e = grind (arith, ints)

pub above_bottom : (r : Rect) (x y : ℤ) → is_in_rect r x y ≡ true → r.y0 ≤ℤ y
above_bottom r x y e = grind (arith, ints)

pub below_top : (r : Rect) (x y : ℤ) → is_in_rect r x y ≡ true → y <ℤ r.y1
below_top r x y e = grind (arith, ints)

pub inside_rect : (r : Rect) (x y : ℤ) → r.x0 ≤ℤ x → x <ℤ r.x1 → r.y0 ≤ℤ y → y <ℤ r.y1 → is_in_rect r x y ≡ true
inside_rect r x y a b c d = grind (arith, ints)

-- sides of numbers that aren't below 0
pub length_between : (a b : ℕ) → a ≤ b → natural (pos b -ℤ pos a) ≡ b - a
length_between a b le = let e : pos b -ℤ pos a ≡ pos (b - a) = omega (arith, ints) in ap natural e

-- a pixel of the window
pub in_window : (w h x y : ℕ) → x < w → y < h → is_in_rect (window_rect w h) (pos x) (pos y) ≡ true
in_window w h x y lx ly = grind (arith, ints)
