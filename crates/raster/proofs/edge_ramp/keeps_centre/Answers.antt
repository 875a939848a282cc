use Rattle.std.proofs.Common.{◌∙◌, ap, sym, pos, int_le, to_z-of_z}
use Rattle.rc_base.specs.Drawing.Cover.{centre}
use Rattle.raster.proofs.LaneBits.{within_is}
use Rattle.raster.proofs.edge_ramp.keeps_centre.Goals as goal

pub returns : goal.returns
returns c =
    ap (λ z. int_le (pos 0) z) (to_z-of_z c.ranges.at ∙ c.requires)
    ∙ sym (within_is c.args.a.now c.args.b.now (centre c.args.x) (centre c.args.y))
