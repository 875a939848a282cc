use Rattle.tile_queues.proofs.Keeps.{admits}
use Rattle.tile_queues.proofs.ends.LaneIn.is_full.Goals as goal

pub pass-look-requires : goal.pass-look-requires
pass-look-requires g c = admits
