-- Which vertices bytes spell, 28 for each.
use Rattle.std.specs.Prelude.{ℕ, ℤ, zero, suc, ◌+◌, ◌/◌, List, [], ◌∷◌, length, take, drop, slice_index}
use Rattle.std.specs.Int.{w32, from_le_bytes, cast_signed}
use Rattle.rc_base.specs.declared.command.Rgba.{Rgba}
use Rattle.rc_base.specs.declared.state.Block.{Block}
use Rattle.rc_base.specs.declared.state.Vertex.{Vertex}
use Rattle.vertex_bytes.specs.declared.block.SpeltBlock.{SpeltBlock}

-- the signed number of 32 bits that begins there, its low byte first
abbrev pub word_in : List ℕ → ℕ → ℤ
word_in bytes at =
    cast_signed w32 (from_le_bytes w32 (slice_index bytes at ∷ slice_index bytes (at + 1) ∷ slice_index bytes (at + 2) ∷ slice_index bytes (at + 3) ∷ []))

abbrev pub color_in : List ℕ → ℕ → Rgba
color_in bytes at = record { r = slice_index bytes at; g = slice_index bytes (at + 1); b = slice_index bytes (at + 2); a = slice_index bytes (at + 3) }

-- the vertex of 28 bytes: position, colour, texture coordinate
unfoldable pub vertex_in : List ℕ → Vertex
vertex_in bytes = record {
  pos = word_in bytes 0 ∷ word_in bytes 4 ∷ word_in bytes 8 ∷ word_in bytes 12 ∷ [];
  color = color_in bytes 16;
  s = word_in bytes 20;
  t = word_in bytes 24;
}

-- so many vertices, one after the other
unfoldable pub first_vertices : ℕ → List ℕ → List Vertex
first_vertices zero bytes = []
first_vertices (suc n) bytes = vertex_in (take 28 bytes) ∷ first_vertices n (drop 28 bytes)

-- as many as there are bytes for
abbrev pub spelt_vertices : List ℕ → List Vertex
spelt_vertices bytes = first_vertices (length bytes / 28) bytes

-- the block that is spelt
abbrev pub spelt_block : SpeltBlock → Block
spelt_block b = record { mode = b.mode; vertices = spelt_vertices b.vertices.bytes.now }
