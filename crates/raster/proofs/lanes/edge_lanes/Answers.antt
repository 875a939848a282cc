use Rattle.std.proofs.Common.{◌≡◌, ◌∙◌, sym, subst, List, ℤ, to_z, of_z, to_z-of_z, w64, FitsSigned, ◌^◌, arith, neg_ℤ, pos, ◌*ℤ◌, ◌-ℤ◌}
use Rattle.std.specs.Simd.Lanes.{Each1}
use Rattle.rc_base.specs.Numbers.{Within}
use Rattle.rc_base.specs.Drawing.Cover.{edge_value, centre, keeps_line}
use Rattle.raster.specs.Lanes.{kept_value, ramp_of}
use Rattle.raster.proofs.LaneBits.{back_all, fits_small, ramp_small}
use Rattle.raster.proofs.lanes.edge_lanes.Goals as goal

pub returns : goal.returns
returns c =
    let a = c.args.a.now in
    let b = c.args.b.now in
    let f : FitsSigned w64 c.kept.result = record { sfits = c.kept.type_inv } in
    let g : FitsSigned w64 c.step_of.result = record { sfits = c.step_of.type_inv } in
    let e : to_z w64 (of_z w64 c.edge-e.result) ≡ edge_value a b (centre c.args.x) (centre c.args.y) = grind (arith, to_z-of_z) in
    let ek : to_z w64 (of_z w64 c.kept.result) ≡ kept_value (edge_value a b (centre c.args.x) (centre c.args.y)) (keeps_line a b) = to_z-of_z f ∙ (rw (e, c.keeps.ensures) at c.kept.ensures.value) in
    let es : to_z w64 (of_z w64 c.step_of.result) ≡ neg_ℤ (pos 16 *ℤ (b.y -ℤ a.y)) = to_z-of_z g ∙ c.step_of.ensures.value in
    let wk : Within (2 ^ 61) (to_z w64 (of_z w64 c.kept.result)) = rw (to_z-of_z f) c.kept.ensures.small in
    let ws : Within (2 ^ 40) (to_z w64 (of_z w64 c.step_of.result)) = rw (to_z-of_z g) c.step_of.ensures.small in
    let fit : Each1 (λ z. FitsSigned w64 z) c.ramp.result = subst (λ (l : List ℤ). Each1 (λ z. FitsSigned w64 z) l) (sym c.ramp.ensures) (fits_small (ramp_of (to_z w64 (of_z w64 c.kept.result)) (to_z w64 (of_z w64 c.step_of.result))) (ramp_small _ _ wk ws)) in
    back_all c.ramp.result fit ∙ c.ramp.ensures ∙ (λ i. ramp_of (ek i) (es i))
