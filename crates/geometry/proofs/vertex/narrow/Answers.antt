use Rattle.std.proofs.Common.{◌≡◌, arith, to_z-of_z, true, sym, ◌∙◌, refl, w32, FitsSigned, rules}
use Rattle.rc_base.specs.Numbers.{is_within}
use Rattle.rc_base.specs.Drawing.Window.{is_in_bounds, place_bound, depth_bound}
use Rattle.geometry.specs.Vertices.{vertex_with}
use Rattle.geometry.proofs.Facing.{within_fits, vertex_bounds}
use Rattle.geometry.proofs.vertex.narrow.Goals as goal

pub returns : goal.returns
returns c =
    let ex : is_within place_bound c.args.x ≡ true = simp (to_z-of_z c.ranges.x) at (sym c.is_in.ensures ∙ c.if-not-is_in.false) in
    let ey : is_within place_bound c.args.y ≡ true = simp (to_z-of_z c.ranges.y) at (sym c.is_in-2.ensures ∙ c.if-not-is_in-2.false) in
    let ez : is_within depth_bound c.args.z ≡ true = simp (to_z-of_z c.ranges.z) at (sym c.is_in-3.ensures ∙ c.if-not-is_in-3.false) in
    let fx = within_fits place_bound c.args.x (omega arith) ex in
    let fy = within_fits place_bound c.args.y (omega arith) ey in
    let fz = within_fits depth_bound c.args.z (omega arith) ez in
    let fs : FitsSigned w32 c.args.v.now.s = search rules in
    let ft : FitsSigned w32 c.args.v.now.t = search rules in
    let e : is_in_bounds (vertex_with c.args.v.now c.args.x c.args.y c.args.z) ≡ true = rw (ex, ey, ez) refl in (
      e,
      rw (to_z-of_z c.ranges.x, to_z-of_z c.ranges.y, to_z-of_z c.ranges.z, to_z-of_z fx, to_z-of_z fy, to_z-of_z fz, to_z-of_z fs, to_z-of_z ft) refl,
      rw (to_z-of_z c.ranges.x, to_z-of_z c.ranges.y, to_z-of_z c.ranges.z, to_z-of_z fx, to_z-of_z fy, to_z-of_z fz) (vertex_bounds (vertex_with c.args.v.now c.args.x c.args.y c.args.z) e),
    )
