use Rattle.std.proofs.Common.{◌≡◌, ◌∙◌, to_z, of_z, to_z-of_z, w64, FitsSigned, arith}
use Rattle.rc_base.specs.Drawing.Cover.{edge_value, centre}
use Rattle.raster.proofs.edge_ramp.value_at.Goals as goal

pub returns : goal.returns
returns c =
    let a = c.args.a.now in
    let b = c.args.b.now in
    let f : FitsSigned w64 c.kept.result = record { sfits = c.kept.type_inv } in
    let e : to_z w64 (of_z w64 c.edge-e.result) ≡ edge_value a b (centre c.args.x) (centre c.args.y) = grind (arith, to_z-of_z) in
    to_z-of_z f ∙ (rw (e, c.keeps.ensures) at c.kept.ensures.value)
