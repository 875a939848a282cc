-- Which of a block's vertices stand in its triangles: the first ones.
use Rattle.std.specs.Prelude.{ℕ, ◌*◌, ◌/◌, ◌==◌, nat_lt, if◌then◌else◌}

-- how many of n vertices
unfoldable pub standing_count : ℕ → ℕ → ℕ
standing_count shape n = if shape == 0 then 3 * (n / 3) else if nat_lt shape 3 then (if nat_lt n 3 then 0 else n) else 0
