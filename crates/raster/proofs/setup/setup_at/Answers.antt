use Rattle.std.proofs.Common.{rules, ◌≡◌, ◌∙◌, pos, ◌+ℤ◌, ap, to_z, of_z, to_z-of_z, w64, FitsSigned}
use Rattle.rc_base.specs.Drawing.Cover.{centre}
use Rattle.raster.proofs.Average.{area_within_sides}
use Rattle.raster.proofs.setup.setup_at.Goals as goal

pub returns : goal.returns
returns c =
    let f : FitsSigned w64 c.next_centre.result = record { sfits = c.next_centre.type_inv } in
    let g : FitsSigned w64 c.next_centre-2.result = record { sfits = c.next_centre-2.type_inv } in
    let f0 : FitsSigned w64 c.args.tri.now.area = search rules in
    let p : FitsSigned w64 c.centre_of-px.result = record { sfits = c.centre_of-px.type_inv } in
    let q : FitsSigned w64 c.centre_of-py.result = record { sfits = c.centre_of-py.type_inv } in
    let x : to_z w64 (of_z w64 c.centre_of-px.result) ≡ centre c.args.x = to_z-of_z p ∙ c.centre_of-px.ensures.value ∙ ap (λ z. centre z) (to_z-of_z c.ranges.x) in
    let y : to_z w64 (of_z w64 c.centre_of-py.result) ≡ centre c.args.y = to_z-of_z q ∙ c.centre_of-py.ensures.value ∙ ap (λ z. centre z) (to_z-of_z c.ranges.y) in
    let r : to_z w64 (of_z w64 c.next_centre.result) ≡ centre (c.args.x +ℤ pos 1) =
    to_z-of_z f ∙ c.next_centre.ensures.value ∙ ap (λ z. centre (z +ℤ pos 1)) (to_z-of_z c.ranges.x) in
    let u : to_z w64 (of_z w64 c.next_centre-2.result) ≡ centre (c.args.y +ℤ pos 1) =
    to_z-of_z g ∙ c.next_centre-2.ensures.value ∙ ap (λ z. centre (z +ℤ pos 1)) (to_z-of_z c.ranges.y) in
    record {
      area = to_z-of_z f0 ∙ c.args.tri.now.area_is;
      here = record { first = rw (x, y) at c.edges_at-here.ensures.first; second = rw (x, y) at c.edges_at-here.ensures.second; third = rw (x, y) at c.edges_at-here.ensures.third };
      right = record { first = rw (r, y) at c.edges_at-right.ensures.first; second = rw (r, y) at c.edges_at-right.ensures.second; third = rw (r, y) at c.edges_at-right.ensures.third };
      above = record { first = rw (x, u) at c.edges_at-above.ensures.first; second = rw (x, u) at c.edges_at-above.ensures.second; third = rw (x, u) at c.edges_at-above.ensures.third };
    }

pub invariant_of-result : goal.invariant_of-result
invariant_of-result c =
    let f : FitsSigned w64 c.args.tri.now.area = search rules in
    record {
      some = rw (to_z-of_z f) c.args.tri.now.positive;
      small = rw (to_z-of_z f, c.args.tri.now.area_is) (area_within_sides c.args.tri.now.v c.args.tri.now.bounded);
      inverse = c.reciprocal.ensures;
    }
