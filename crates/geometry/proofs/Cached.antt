-- A corner that is kept, where there is such a vertex.
use Rattle.std.proofs.Common.{◌≡◌, ◌<◌, ℕ, List, length}
use Rattle.rc_base.specs.declared.state.State.{State}
use Rattle.rc_base.specs.declared.state.Vertex.{Vertex}
use Rattle.geometry.specs.declared.cache.Corner.{Corner}
use Rattle.geometry.specs.Placed.{IsCorner, IsCached}

pub cached_corner : (s s' : State) (vs vs' : List Vertex) (f : Corner) (i : ℕ) → IsCached s' vs' f → s' ≡ s → vs' ≡ vs → f.index ≡ i → i < length vs → IsCorner s vs f
cached_corner s s' vs vs' f i k e g h l = rw (← e, ← g) (k (rw (h, g) l))
