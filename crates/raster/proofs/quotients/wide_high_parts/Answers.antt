use Rattle.std.proofs.Common.{to_z-of_z, FitsSigned}
use mir.Syntax.{w128}
use Rattle.raster.proofs.WordQuotients.{word_residue_high}
use Rattle.raster.proofs.quotients.wide_high_parts.Goals as goal

pub returns : goal.returns
returns c =
    let f : FitsSigned w128 c.rem_euclid.result = record { sfits = c.rem_euclid.type_inv } in
    rw (to_z-of_z f, c.rem_euclid.ensures.value, to_z-of_z c.ranges.whole) (word_residue_high c.args.whole)
