use Rattle.std.proofs.Common.{◌≡◌, ◌∙◌, ap, sym, subst, List, ℤ, pos, ◌+ℤ◌, ◌-ℤ◌, ◌*ℤ◌, ◌^◌, map, int_le, to_z, of_z, to_z-of_z, w64, FitsSigned, arith}
use Rattle.std.specs.Simd.Lanes.{Each1, mask_l}
use Rattle.rc_base.specs.Numbers.{Within}
use Rattle.fixed_math.proofs.Signed.{within_more}
use Rattle.raster.specs.Lanes.{edge_lanes}
use Rattle.raster.proofs.LaneBits.{fits_all, edge_bit, eight_bits}
use Rattle.raster.proofs.EdgeLanes.{lanes_back, lanes_small, raised_back}
use Rattle.raster.proofs.lanes.edge_bits.Goals as goal

pub raised-requires-clause-small : goal.raised-requires-clause-small
raised-requires-clause-small c =
    let l = lanes_back c.args.a.now c.args.b.now c.args.x c.args.y0 c.args.lanes c.ranges.x c.ranges.y0 c.requires.edge.from c.requires.edge.to c.requires.lanes in
    subst (λ (l : List ℤ). Each1 (λ e. Within (2 ^ 62) e) l) (sym l) (lanes_small c.args.a.now c.args.b.now c.args.x c.args.y0 c.ranges.x c.ranges.y0 c.requires.edge.from c.requires.edge.to)

pub bits_from_0-requires-clause-fit : goal.bits_from_0-requires-clause-fit
bits_from_0-requires-clause-fit c = fits_all c.raised.result

abbrev up : goal.After-bits_from_0 → ℤ
up c = to_z w64 (of_z w64 c.rise.result)

up_is : (c : goal.After-bits_from_0) → up c ≡ (c.args.b.now.x -ℤ c.args.a.now.x) *ℤ (pos 16 *ℤ (c.args.y -ℤ c.args.y0))
up_is c =
    let f : FitsSigned w64 c.rise.result = record { sfits = c.rise.type_inv } in
    let g : FitsSigned w64 c.climb.result = record { sfits = c.climb.type_inv } in
    let r : to_z w64 (of_z w64 c.climb.result) ≡ pos 16 *ℤ (c.args.y -ℤ c.args.y0) = to_z-of_z g ∙ (rw (to_z-of_z c.ranges.y, to_z-of_z c.ranges.y0) at c.climb.ensures.value) in
    to_z-of_z f ∙ (rw r at c.rise.ensures.value)

bits_are : (c : goal.After-bits_from_0)
    → c.bits_from_0.result ≡ mask_l (map (λ e. int_le (pos 0) e) (map (λ e. e +ℤ up c) (edge_lanes c.args.a.now c.args.b.now c.args.x c.args.y0)))
bits_are c =
    let f : FitsSigned w64 c.rise.result = record { sfits = c.rise.type_inv } in
    let w : Within (2 ^ 60) (up c) = rw (to_z-of_z f) (within_more c.rise.result (2 ^ 58) (2 ^ 60) (omega arith) c.rise.ensures.small) in
    let l = lanes_back c.args.a.now c.args.b.now c.args.x c.args.y0 c.args.lanes c.ranges.x c.ranges.y0 c.requires.edge.from c.requires.edge.to c.requires.lanes in
    let r = raised_back c.args.a.now c.args.b.now c.args.x c.args.y0 (up c) _ c.raised.result c.ranges.x c.ranges.y0 c.requires.edge.from c.requires.edge.to w l c.raised.ensures in
    c.bits_from_0.ensures ∙ ap (λ v. mask_l (map (λ e. int_le (pos 0) e) v)) r

pub returns-clause-eight : goal.returns-clause-eight
returns-clause-eight c = eight_bits c.args.a.now c.args.b.now c.args.x c.args.y0 (up c) c.bits_from_0.result (bits_are c)

pub returns-clause-each : goal.returns-clause-each
returns-clause-each c k h = edge_bit c.args.a.now c.args.b.now c.args.x c.args.y0 c.args.y (up c) c.bits_from_0.result k h (up_is c) (bits_are c)
