-- What an actor's answer comes to.
use Rattle.rc_base.specs.declared.cluster.ClientMoved.{ClientMoved}
use Rattle.rc_base.specs.declared.cluster.ClientMoved.TheVariants as client_moved
use Rattle.rc_base.specs.declared.cluster.ManagerMoved.{ManagerMoved}
use Rattle.rc_base.specs.declared.cluster.ManagerMoved.TheVariants as manager_moved
use Rattle.world_model.specs.declared.moves.TileAnswer.{TileAnswer}
use Rattle.world_model.specs.declared.moves.TileAnswer.TheVariants as tile_answer
use Rattle.world_model.specs.declared.moves.Move.{Move}
use Rattle.world_model.specs.declared.moves.Move.TheVariants.{Client as ClientMove, Manager as ManagerMove, Tile as TileMove}
use Rattle.step_core.specs.declared.actor.Stepped.{Stepped}
use Rattle.step_core.specs.declared.actor.Stepped.TheVariants.{Moved, Waits, Ended}

abbrev pub client_said : ClientMoved → Stepped
client_said (client_moved.Appended tile) = Moved
client_said client_moved.Requested = Moved
client_said (client_moved.BlockedTile tile) = Waits
client_said client_moved.BlockedRequest = Waits
client_said client_moved.Ended = Ended

abbrev pub manager_said : ManagerMoved → Stepped
manager_said (manager_moved.Delivered tile) = Moved
manager_said (manager_moved.BlockedGrant tile) = Waits
manager_said manager_moved.Granted = Moved
manager_said (manager_moved.Arrived client) = Moved
manager_said manager_moved.BlockedRequest = Waits
manager_said (manager_moved.Drained client) = Moved
manager_said manager_moved.Ended = Ended

abbrev pub tile_said : TileAnswer → Stepped
tile_said tile_answer.Performed = Moved
tile_said tile_answer.Swapped = Moved
tile_said tile_answer.Learnt = Moved
tile_said (tile_answer.Took client) = Moved
tile_said (tile_answer.Held client) = Moved
tile_said (tile_answer.Closed client) = Moved
tile_said (tile_answer.Dropped client) = Moved
tile_said tile_answer.Blocked = Waits
tile_said tile_answer.Ended = Ended

-- what a move's answer comes to
abbrev pub said_of : Move → Stepped
said_of (ClientMove client answer) = client_said answer
said_of (ManagerMove answer) = manager_said answer
said_of (TileMove tile answer) = tile_said answer
