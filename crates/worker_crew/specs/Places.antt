-- Which place is whose: the clients' first, then the manager's, then the tiles', then the caller's.
use Rattle.std.specs.Prelude.{◌<◌, ◌+◌, ℕ, ⊤}
use Rattle.worker_crew.specs.declared.worker.Peer.{Peer}
use Rattle.worker_crew.specs.declared.worker.Peer.TheVariants.{Client, Manager, Tile, Caller}

-- a peer of a crew of so many clients and tiles
abbrev pub IsOf : ℕ → ℕ → Peer → Type 0
IsOf clients tiles (Client c) = c < clients
IsOf clients tiles Manager = ⊤
IsOf clients tiles (Tile t) = t < tiles
IsOf clients tiles Caller = ⊤

-- its place, where the caller's is this one
abbrev pub place_in : ℕ → ℕ → Peer → ℕ
place_in clients caller (Client c) = c
place_in clients caller Manager = clients
place_in clients caller (Tile t) = clients + 1 + t
place_in clients caller Caller = caller
