use Rattle.std.proofs.Common.{◌≡◌, ◌∙◌, sym, arith, to_z-of_z}
use Rattle.raster.proofs.word_plane.word_plane_of.Goals as goal

pub returns-then-b-c : goal.returns-then-b-c
returns-then-b-c c v x y f s corners =
    let e : c.args.a ≡ c.args.b = grind (arith, to_z-of_z) in
    let g : c.args.b ≡ c.args.c = grind (arith, to_z-of_z) in
    let a = sym (to_z-of_z c.ranges.a) in
    c.flat_word_plane.ensures v x y f (corners.0 ∙ a, corners.1 ∙ sym e ∙ a, corners.2 ∙ sym g ∙ sym e ∙ a)
