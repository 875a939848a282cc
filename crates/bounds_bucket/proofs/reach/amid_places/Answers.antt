use Rattle.std.proofs.Common.{◌≡◌, rules, w32, to_z, of_z}
use Rattle.rc_base.specs.Numbers.{entry}
use Rattle.rc_base.specs.Drawing.Cover.{centre}
use Rattle.rc_base.specs.Intervals.{interval_at}
use Rattle.rc_base.specs.Cluster.ObjectBox.{is_amid_places, is_enclosed, axis_over}
use Rattle.bounds_bucket.proofs.Cutting.{part_is}
use Rattle.bounds_bucket.proofs.reach.amid_places.Goals as goal

pub returns : goal.returns
unfolding is_amid_places
returns c =
    let v = c.args.state.now.viewport in
    let d = c.args.clip.now in
    let left : to_z w32 (of_z w32 (entry c.args.state.now.viewport 0)) ≡ entry c.args.state.now.viewport 0 = search rules in
    let bottom : to_z w32 (of_z w32 (entry c.args.state.now.viewport 1)) ≡ entry c.args.state.now.viewport 1 = search rules in
    let width : to_z w32 (of_z w32 (entry c.args.state.now.viewport 2)) ≡ entry c.args.state.now.viewport 2 = search rules in
    let height : to_z w32 (of_z w32 (entry c.args.state.now.viewport 3)) ≡ entry c.args.state.now.viewport 3 = search rules in
    let x : c.axis_over.result ≡ axis_over (entry v 0) (entry v 2) (interval_at d 0) (interval_at d 3) = simp (left, width) at c.axis_over.ensures.value in
    let y : c.axis_over-2.result ≡ axis_over (entry v 1) (entry v 3) (interval_at d 1) (interval_at d 3) = simp (bottom, height) at c.axis_over-2.ensures.value in
    rw c.rect_of.ensures
    (part_is c.args.rect (record { x0 = c.centred.result.from; y0 = c.centred-2.result.from; x1 = c.centred.result.end; y1 = c.centred-2.result.end })
    (λ p. is_enclosed (axis_over (entry v 0) (entry v 2) (interval_at d 0) (interval_at d 3)) (centre p))
    (λ p. is_enclosed (axis_over (entry v 1) (entry v 3) (interval_at d 1) (interval_at d 3)) (centre p))
    (simp (c.columns_of.ensures, x) at c.centred.ensures) (simp (c.rows_of.ensures, y) at c.centred-2.ensures))
