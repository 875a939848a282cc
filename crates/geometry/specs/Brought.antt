-- A cache of vertices, and three that it has brought to the window.
use Rattle.std.specs.Prelude.{◌≡◌, ℕ, List, [], ◌∷◌, Option}
use Rattle.rc_base.specs.Drawing.Kept.{kept_whole}
use Rattle.rc_base.specs.declared.state.State.{State}
use Rattle.rc_base.specs.declared.state.Vertex.{Vertex}
use Rattle.rc_base.specs.declared.window.WindowVertex.{WindowVertex}
use Rattle.geometry.specs.Placed.{IsCorner}
use Rattle.geometry.specs.Listed.{listed}
use Rattle.geometry.specs.declared.cache.Corner.{Corner}
use Rattle.geometry.specs.declared.cache.VertexCache.{VertexCache}

-- the cache brings these vertices to the window, as the state has it
pub record IsCacheOf (s : State) (vs : List Vertex) (cache : VertexCache) : Type 0 where
  pub state : cache.state.now ≡ s
  pub vertices : listed cache.vertices ≡ vs

-- the vertex of that index is brought to the window as the third corner, and all else of the cache stays
pub record IsPlacedThird (old : VertexCache) (i : ℕ) (new : VertexCache) : Type 0 where
  pub cache : IsCacheOf old.state.now (listed old.vertices) new
  pub first : new.first ≡ old.first
  pub second : new.second ≡ old.second
  pub index : new.third.index ≡ i
  pub at : IsCorner old.state.now (listed old.vertices) new.third

-- each corner says where the vertex of its index stands
pub record AreCorners (s : State) (vs : List Vertex) (a b c : Corner) : Type 0 where
  pub first : IsCorner s vs a
  pub second : IsCorner s vs b
  pub third : IsCorner s vs c

-- their indices
abbrev pub indices_of : Corner → Corner → Corner → List ℕ
indices_of a b c = a.index ∷ b.index ∷ c.index ∷ []

-- their triangle, where it is kept
abbrev pub kept_corners : State → List Vertex → Corner → Corner → Corner → Option (List WindowVertex)
kept_corners s vs a b c = kept_whole s vs (indices_of a b c)
