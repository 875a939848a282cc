use Rattle.std.proofs.Common.{refl}
use Rattle.raster.proofs.color.color_plane.Goals as goal

pub returns : goal.returns
returns c x y s =
    let v = c.args.tri.now.v in
    record {
      r = c.byte_plane_of.ensures v x y _ s (refl, refl, refl);
      g = c.byte_plane_of-2.ensures v x y _ s (refl, refl, refl);
      b = c.byte_plane_of-3.ensures v x y _ s (refl, refl, refl);
      a = c.byte_plane_of-4.ensures v x y _ s (refl, refl, refl);
    }
