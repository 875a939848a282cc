use Rattle.rc_base.specs.Cluster.ObjectBox.{coordinates}
use Rattle.bounds_bucket.proofs.Runs.{AreEndsOf}
use Rattle.bounds_bucket.proofs.hull.hull_of.Given as goal

abbrev pub invariant-corners : goal.invariant-corners
invariant-corners l = record {
  x : AreEndsOf l.x (coordinates 0 l.vertices) l.v-index;
  y : AreEndsOf l.y (coordinates 1 l.vertices) l.v-index;
  z : AreEndsOf l.z (coordinates 2 l.vertices) l.v-index;
  w : AreEndsOf l.w (coordinates 3 l.vertices) l.v-index;
}
