use Rattle.std.proofs.Common.{rules, arith}
use Rattle.std.proofs.lemmas.Int.{ints}
use Rattle.raster.proofs.WordQuotients.{word_is_floor, top_value}
use Rattle.raster.proofs.word_plane.top.Goals as goal

pub returns : goal.returns
returns c n area k s few some low high =
    let e = word_is_floor n area k c.args.at s few (search rules) some low high in
    top_value _ _ (omega (arith, ints)) e
