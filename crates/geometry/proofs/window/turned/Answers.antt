use Rattle.std.proofs.Common.{◌∙◌, ap, to_z, of_z, to_z-of_z, w64, ℤ, pos, int_lt, FitsSigned}
use Rattle.geometry.proofs.Turned.{ordered_is, ordered_area}
use Rattle.geometry.proofs.window.turned.Goals as goal

pub make-requires-clause-area : goal.make-requires-clause-area
make-requires-clause-area c =
    let m = to_z w64 (of_z w64 c.signed_area-area.result) in
    let f : FitsSigned w64 c.signed_area-area.result = record { sfits = c.signed_area-area.type_inv } in
    let g : FitsSigned w64 c.magnitude.result = record { sfits = c.magnitude.type_inv } in
    to_z-of_z g ∙ ordered_area (int_lt m (pos 0)) c.args.a.now c.args.b.now c.args.c.now c.chosen.result.now c.chosen-2.result.now m c.magnitude.result
    (to_z-of_z f ∙ c.signed_area-area.ensures.value) c.chosen.ensures.value c.chosen-2.ensures.value c.magnitude.ensures

pub returns : goal.returns
returns c =
    let m = to_z w64 (of_z w64 c.signed_area-area.result) in
    let f : FitsSigned w64 c.signed_area-area.result = record { sfits = c.signed_area-area.type_inv } in
    c.make.ensures ∙ ordered_is (int_lt m (pos 0)) c.args.a.now c.args.b.now c.args.c.now c.chosen.result.now c.chosen-2.result.now
    (ap (λ (z : ℤ). int_lt z (pos 0)) (to_z-of_z f ∙ c.signed_area-area.ensures.value)) c.chosen.ensures.value c.chosen-2.ensures.value
