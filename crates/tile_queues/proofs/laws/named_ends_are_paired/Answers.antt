use Rattle.tile_queues.proofs.Named.{pairs_law}
use Rattle.tile_queues.proofs.laws.named_ends_are_paired.Goals as goal

pub returns : goal.returns
returns g c = pairs_law
