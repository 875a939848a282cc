use Rattle.std.proofs.Common.{to_z-of_z, FitsSigned}
use mir.Syntax.{w128}
use Rattle.raster.proofs.WordQuotients.{euclid}
use Rattle.raster.proofs.quotients.wide_rest.Goals as goal

pub returns-clause-value : goal.returns-clause-value
returns-clause-value c =
    let f : FitsSigned w128 c.rem_euclid.result = record { sfits = c.rem_euclid.type_inv } in
    rw (to_z-of_z f, c.rem_euclid.ensures.value, to_z-of_z c.ranges.n, to_z-of_z c.ranges.area) (euclid c.args.n c.args.area c.requires)
