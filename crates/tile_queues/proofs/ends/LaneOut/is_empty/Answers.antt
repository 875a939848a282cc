use Rattle.tile_queues.proofs.Keeps.{admits}
use Rattle.tile_queues.proofs.ends.LaneOut.is_empty.Goals as goal

pub pass-look-requires : goal.pass-look-requires
pass-look-requires g c = admits
