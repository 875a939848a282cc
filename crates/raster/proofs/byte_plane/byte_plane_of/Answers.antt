use Rattle.std.proofs.Common.{◌≡◌, ◌∙◌, pos, sym, ap, arith}
use Rattle.raster.proofs.byte_plane.byte_plane_of.Goals as goal

pub returns-then-b-c : goal.returns-then-b-c
returns-then-b-c c v x y f s corners =
    let e : c.args.a ≡ c.args.b = omega arith in
    let g : c.args.b ≡ c.args.c = omega arith in
    c.flat_byte_plane.ensures v x y f (corners.0, corners.1 ∙ ap pos (sym e), corners.2 ∙ ap pos (sym g ∙ sym e))
