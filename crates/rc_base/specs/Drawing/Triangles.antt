-- Which vertices of a block make triangles.
use Rattle.std.specs.Prelude.{ℕ, ◌+◌, ◌-◌, ◌*◌, ◌/◌, ◌%◌, ◌==◌, nat_lt, List, [], ◌∷◌, length, map, if◌then◌else◌}
use Rattle.std.specs.List.{range_with_len}
use Rattle.rc_base.specs.declared.state.Block.{Block}

-- three vertices one after the other
abbrev pub separate : ℕ → List ℕ
separate i = 3 * i ∷ (3 * i + 1) ∷ (3 * i + 2) ∷ []

-- each vertex with the two before it; every other triangle is turned round, so that all have one winding
abbrev pub strip : ℕ → List ℕ
strip i = if i % 2 == 1 then (i + 1) ∷ i ∷ (i + 2) ∷ [] else i ∷ (i + 1) ∷ (i + 2) ∷ []

-- each vertex with the one before it and the block's first
abbrev pub fan : ℕ → List ℕ
fan i = 0 ∷ (i + 1) ∷ (i + 2) ∷ []

-- The triangles of n vertices, as triples of their indices: TRIANGLES (0), TRIANGLE_STRIP (1), TRIANGLE_FAN (2). Vertices that are left over
-- draw nothing, and another shape has no triangle.
unfoldable pub triangles_of : ℕ → ℕ → List (List ℕ)
triangles_of shape n =
    if shape == 0 then map separate (range_with_len 0 (n / 3))
    else if shape == 1 then map strip (range_with_len 0 (n - 2))
    else if shape == 2 then map fan (range_with_len 0 (n - 2))
    else []

-- The first mode of the blocks whose triangles are cut at the near plane: the blocks of scenes of version 2.
abbrev pub cut_modes : ℕ
cut_modes = 16

-- what a block of that mode is: triangles (0), a strip (1) or a fan (2)
abbrev pub shape_of : ℕ → ℕ
shape_of mode = if nat_lt mode cut_modes then mode else mode - cut_modes

-- the triangles of a block
abbrev pub triangles_in : Block → List (List ℕ)
triangles_in block = triangles_of (shape_of block.mode) (length block.vertices)
