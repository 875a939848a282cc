use Rattle.std.proofs.Common.{to_z-of_z}
use Rattle.textures.proofs.Wraps.{repeated_is}
use Rattle.textures.proofs.axis.repeat.Goals as goal

pub returns-clause-value : goal.returns-clause-value
returns-clause-value c =
    let e = rw (to_z-of_z c.ranges.coordinate) at c.fraction.ensures.value in
    rw c.scaled.ensures (repeated_is c.args.side c.fraction.result c.args.coordinate c.requires c.fraction.ensures.small e)
