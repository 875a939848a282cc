-- What the answers of the cores come to for who steps them: a move, and to whom it gave something, an item or room for one; or a wait, and for whom.
use Rattle.std.specs.Prelude.{Some, None, Result, Ok, Err}
use Rattle.rc_base.specs.declared.cluster.ClientMoved.{ClientMoved}
use Rattle.rc_base.specs.declared.cluster.ClientMoved.TheVariants as client
use Rattle.rc_base.specs.declared.cluster.ManagerMoved.{ManagerMoved}
use Rattle.rc_base.specs.declared.cluster.ManagerMoved.TheVariants as manager
use Rattle.rc_base.specs.declared.cluster.TileMoved.{TileMoved}
use Rattle.rc_base.specs.declared.cluster.TileMoved.TheVariants as tile
use Rattle.rc_base.specs.declared.out_of_memory.OutOfMemory.{OutOfMemory}
use Rattle.worker_crew.specs.declared.worker.Attempt.{Attempt}
use Rattle.worker_crew.specs.declared.worker.Attempt.TheVariants.{Moved, Blocked, Ended}
use Rattle.worker_crew.specs.declared.worker.Peer.TheVariants as peer

-- of a client's core; want of memory is a move
abbrev pub client_attempt : Result ClientMoved OutOfMemory → Attempt
client_attempt (Ok (client.Appended t)) = Moved (Some (peer.Tile t))
client_attempt (Ok client.Requested) = Moved (Some peer.Manager)
client_attempt (Ok (client.BlockedTile t)) = Blocked (Some (peer.Tile t))
client_attempt (Ok client.BlockedRequest) = Blocked (Some peer.Manager)
client_attempt (Ok client.Ended) = Ended
client_attempt (Err lack) = Moved None

-- of the manager's; what it grants goes to nobody yet
abbrev pub manager_attempt : Result ManagerMoved OutOfMemory → Attempt
manager_attempt (Ok (manager.Delivered t)) = Moved (Some (peer.Tile t))
manager_attempt (Ok (manager.BlockedGrant t)) = Blocked (Some (peer.Tile t))
manager_attempt (Ok manager.Granted) = Moved None
manager_attempt (Ok (manager.Arrived c)) = Moved (Some (peer.Client c))
manager_attempt (Ok manager.BlockedRequest) = Blocked None
manager_attempt (Ok (manager.Drained c)) = Moved (Some (peer.Client c))
manager_attempt (Ok manager.Ended) = Ended
manager_attempt (Err lack) = Moved None

-- of a tile's; the caller gets the part that it shows, or the one by which it tells that memory lacked
abbrev pub tile_attempt : Result TileMoved OutOfMemory → Attempt
tile_attempt (Ok tile.Performed) = Moved None
tile_attempt (Ok (tile.Swapped part)) = Moved (Some peer.Caller)
tile_attempt (Ok tile.Learnt) = Moved (Some peer.Manager)
tile_attempt (Ok (tile.Took c)) = Moved (Some (peer.Client c))
tile_attempt (Ok (tile.Held c)) = Moved (Some (peer.Client c))
tile_attempt (Ok (tile.Closed c)) = Moved (Some (peer.Client c))
tile_attempt (Ok (tile.Dropped c)) = Moved (Some (peer.Client c))
tile_attempt (Ok tile.Blocked) = Blocked None
tile_attempt (Ok tile.Ended) = Ended
tile_attempt (Err lack) = Moved (Some peer.Caller)
