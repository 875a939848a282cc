use Rattle.raster.proofs.color.ColorPlane.rise.Goals as goal

pub returns : goal.returns
returns c v x y p = record {
  r = c.rise.ensures v x y _ p.r;
  g = c.rise-2.ensures v x y _ p.g;
  b = c.rise-3.ensures v x y _ p.b;
  a = c.rise-4.ensures v x y _ p.a;
}
