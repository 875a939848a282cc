-- Places in rows of one width, one row behind the other.
use Rattle.std.proofs.Common.{ℕ, ◌+◌, ◌*◌, ◌<◌, ◌≤◌, arith, mul-le-mul}

pub next_row : (w r j : ℕ) → r < j → r * w + w ≤ j * w
next_row w r j h = let m : (r + 1) * w ≤ j * w = mul-le-mul (omega arith) (omega arith) in omega arith

-- a part of a row
pub row_part_within : (w h r t : ℕ) → r < h → t ≤ w → r * w + t ≤ w * h
row_part_within w h r t k l = let m = next_row w r h k in omega arith

pub place_within : (w h x y : ℕ) → x < w → y < h → y * w + x < w * h
place_within w h x y lx ly = grind arith
