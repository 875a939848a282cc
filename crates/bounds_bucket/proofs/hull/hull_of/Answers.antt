use Rattle.std.proofs.Common.{◌≡◌, ℕ, rules, refl, [], ◌∷◌, sym, subst, to_z, of_z, w32}
use Rattle.rc_base.specs.Numbers.{entry}
use Rattle.rc_base.specs.Drawing.Kept.{vertex_at}
use Rattle.rc_base.specs.Intervals.{IsOrdered}
use Rattle.rc_base.specs.Cluster.ObjectBox.{bounding_box}
use Rattle.bounds_bucket.proofs.Corners.{spread_ordered}
use Rattle.rc_base.specs.Cluster.ObjectBox.{coordinates}
use Rattle.bounds_bucket.specs.Hulls.{interval_of}
use Rattle.bounds_bucket.specs.declared.extent.Ends.{Ends}
use Rattle.bounds_bucket.proofs.Runs.{AreEndsOf, runs_none, runs_more, runs_all}
use Rattle.bounds_bucket.proofs.hull.hull_of.Goals as goal

pub corners-init : goal.corners-init
corners-init c =
    let vs = c.args.vertices.now in
    let fx : to_z w32 (of_z w32 (entry (vertex_at c.args.vertices.now 0).pos 0)) ≡ entry (vertex_at c.args.vertices.now 0).pos 0 = search rules in
    let fy : to_z w32 (of_z w32 (entry (vertex_at c.args.vertices.now 0).pos 1)) ≡ entry (vertex_at c.args.vertices.now 0).pos 1 = search rules in
    let fz : to_z w32 (of_z w32 (entry (vertex_at c.args.vertices.now 0).pos 2)) ≡ entry (vertex_at c.args.vertices.now 0).pos 2 = search rules in
    let fw : to_z w32 (of_z w32 (entry (vertex_at c.args.vertices.now 0).pos 3)) ≡ entry (vertex_at c.args.vertices.now 0).pos 3 = search rules in
    record {
      x = runs_none 0 vs c.at-x.result c.requires (simp fx at c.at-x.ensures.least) (simp fx at c.at-x.ensures.greatest);
      y = runs_none 1 vs c.at-y.result c.requires (simp fy at c.at-y.ensures.least) (simp fy at c.at-y.ensures.greatest);
      z = runs_none 2 vs c.at-z.result c.requires (simp fz at c.at-z.ensures.least) (simp fz at c.at-z.ensures.greatest);
      w = runs_none 3 vs c.at-w.result c.requires (simp fw at c.at-w.ensures.least) (simp fw at c.at-w.ensures.greatest);
    }

pub corners-preserved : goal.corners-preserved
corners-preserved c =
    let vs = c.args.vertices.now in
    let i = c.corners.v-index in
    let fx : to_z w32 (of_z w32 (entry (vertex_at c.args.vertices.now c.corners.v-index).pos 0)) ≡ entry (vertex_at c.args.vertices.now c.corners.v-index).pos 0 = search rules in
    let fy : to_z w32 (of_z w32 (entry (vertex_at c.args.vertices.now c.corners.v-index).pos 1)) ≡ entry (vertex_at c.args.vertices.now c.corners.v-index).pos 1 = search rules in
    let fz : to_z w32 (of_z w32 (entry (vertex_at c.args.vertices.now c.corners.v-index).pos 2)) ≡ entry (vertex_at c.args.vertices.now c.corners.v-index).pos 2 = search rules in
    let fw : to_z w32 (of_z w32 (entry (vertex_at c.args.vertices.now c.corners.v-index).pos 3)) ≡ entry (vertex_at c.args.vertices.now c.corners.v-index).pos 3 = search rules in
    record {
      x = runs_more 0 vs i c.corners.x c.grown-x.result c.corners-test.true c.corners.invariant.x (simp fx at c.grown-x.ensures.least) (simp fx at c.grown-x.ensures.greatest);
      y = runs_more 1 vs i c.corners.y c.grown-y.result c.corners-test.true c.corners.invariant.y (simp fy at c.grown-y.ensures.least) (simp fy at c.grown-y.ensures.greatest);
      z = runs_more 2 vs i c.corners.z c.grown-z.result c.corners-test.true c.corners.invariant.z (simp fz at c.grown-z.ensures.least) (simp fz at c.grown-z.ensures.greatest);
      w = runs_more 3 vs i c.corners.w c.grown-w.result c.corners-test.true c.corners.invariant.w (simp fw at c.grown-w.ensures.least) (simp fw at c.grown-w.ensures.greatest);
    }

pub returns-clause-value : goal.returns-clause-value
unfolding bounding_box
returns-clause-value c =
    let vs = c.args.vertices.now in
    let all = λ (k : ℕ) (e : Ends) (h : AreEndsOf e (coordinates k c.args.vertices.now) c.corners.v-index). runs_all k vs c.corners.v-index e (interval_of e) c.corners-test.false h refl refl in
    let x = all 0 c.corners.x c.corners.invariant.x in
    let y = all 1 c.corners.y c.corners.invariant.y in
    let z = all 2 c.corners.z c.corners.invariant.z in
    let w = all 3 c.corners.w c.corners.invariant.w in
    λ i. x i ∷ y i ∷ z i ∷ w i ∷ []

pub returns-clause-ordered : goal.returns-clause-ordered
returns-clause-ordered c =
    let vs = c.args.vertices.now in
    let all = λ (k : ℕ) (e : Ends) (h : AreEndsOf e (coordinates k c.args.vertices.now) c.corners.v-index). runs_all k vs c.corners.v-index e (interval_of e) c.corners-test.false h refl refl in
    record {
      first = subst IsOrdered (sym (all 0 c.corners.x c.corners.invariant.x)) (spread_ordered 0 vs c.requires);
      second = subst IsOrdered (sym (all 1 c.corners.y c.corners.invariant.y)) (spread_ordered 1 vs c.requires);
      third = subst IsOrdered (sym (all 2 c.corners.z c.corners.invariant.z)) (spread_ordered 2 vs c.requires);
      fourth = subst IsOrdered (sym (all 3 c.corners.w c.corners.invariant.w)) (spread_ordered 3 vs c.requires);
    }
