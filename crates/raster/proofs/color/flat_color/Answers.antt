use Rattle.std.proofs.Common.{◌∙◌, sym}
use Rattle.raster.proofs.Fragments.{flat_is}
use Rattle.raster.proofs.color.flat_color.Goals as goal

pub returns-clause-color : goal.returns-clause-color
returns-clause-color c x y t =
    flat_is c.args.tri.now.v x y (rw c.args.tri.now.area_is at c.args.tri.now.positive) t (sym c.are_one.ensures ∙ c.if-not-are_one.false)
