-- Channels two at a time.
use Rattle.std.specs.Prelude.{ℕ, ◌+◌, ◌*◌}

-- a number of 32 bits with these in its low and its high half
abbrev pub pair_of : ℕ → ℕ → ℕ
pair_of low high = low + 65536 * high
