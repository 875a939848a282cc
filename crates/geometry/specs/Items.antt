-- The triangles that an iterator has still to give.
use Rattle.std.specs.Prelude.{ℕ, ◌<◌, List, [], drop}
use Rattle.std.specs.List.{All}
use lib.ListN.{get_or}
use Rattle.rc_base.specs.Drawing.Triangles.{triangles_of, triangles_in}
use Rattle.rc_base.specs.declared.state.Block.{Block}

-- triangle i of n vertices
unfoldable pub triple_at : ℕ → ℕ → ℕ → List ℕ
triple_at mode n i = get_or (triangles_of mode n) i []

-- the triangles of a block after the first `given`, as triples of indices
unfoldable pub rest_from : Block → ℕ → List (List ℕ)
rest_from block given = drop given (triangles_in block)

-- each index of a triangle is below n
abbrev pub AreBelow : ℕ → List ℕ → Type 0
AreBelow n t = All (λ i. i < n) t
