use Rattle.std.proofs.Common.{◌≡◌, ◌∙◌, ◌&&◌, w64, to_z-of_z, FitsSigned}
use Rattle.std.specs.Prelude.{int_le}
use Rattle.rc_base.specs.Cluster.ObjectBox.{axis_over}
use Rattle.rc_base.specs.Drawing.Cover.{centre}
use Rattle.bounds_bucket.specs.Hulls.{interval_of}
use Rattle.bounds_bucket.specs.Ranges.{is_among}
use Rattle.bounds_bucket.proofs.short.amid_places.Goals as goal

pub returns : goal.returns
returns c p =
    let a = c.args in
    let origin = to_z-of_z c.ranges.origin in
    let size = to_z-of_z c.ranges.size in
    let least : FitsSigned w64 c.least_place.result = record { sfits = c.least_place.type_inv } in
    let greatest : FitsSigned w64 c.greatest_place.result = record { sfits = c.greatest_place.type_inv } in
    let l : c.least_place.result ≡ (axis_over c.args.origin c.args.size (interval_of c.args.x) (interval_of c.args.w)).lo = simp (origin, size) at c.least_place.ensures.value in
    let g : c.greatest_place.result ≡ (axis_over c.args.origin c.args.size (interval_of c.args.x) (interval_of c.args.w)).hi = simp (origin, size) at c.greatest_place.ensures.value in
    c.centred.ensures p ∙ (λ i. is_among a.range p && (int_le ((to_z-of_z least ∙ l) i) (centre p) && int_le (centre p) ((to_z-of_z greatest ∙ g) i)))
