use Rattle.std.proofs.Common.{◌≡◌, ◌∙◌, pos, ◌+ℤ◌, ◌*ℤ◌, ◌∷◌, [], to_z, of_z, to_z-of_z, w64, FitsSigned}
use Rattle.raster.proofs.lanes.ramp.Goals as goal

pub returns : goal.returns
returns c =
    let f0 : FitsSigned w64 c.lane.result = record { sfits = c.lane.type_inv } in
    let e0 : to_z w64 (of_z w64 c.lane.result) ≡ c.args.first +ℤ pos 0 *ℤ c.args.step = to_z-of_z f0 ∙ (rw (to_z-of_z c.ranges.first, to_z-of_z c.ranges.step) at c.lane.ensures) in
    let f1 : FitsSigned w64 c.lane-2.result = record { sfits = c.lane-2.type_inv } in
    let e1 : to_z w64 (of_z w64 c.lane-2.result) ≡ c.args.first +ℤ pos 1 *ℤ c.args.step = to_z-of_z f1 ∙ (rw (to_z-of_z c.ranges.first, to_z-of_z c.ranges.step) at c.lane-2.ensures) in
    let f2 : FitsSigned w64 c.lane-3.result = record { sfits = c.lane-3.type_inv } in
    let e2 : to_z w64 (of_z w64 c.lane-3.result) ≡ c.args.first +ℤ pos 2 *ℤ c.args.step = to_z-of_z f2 ∙ (rw (to_z-of_z c.ranges.first, to_z-of_z c.ranges.step) at c.lane-3.ensures) in
    let f3 : FitsSigned w64 c.lane-4.result = record { sfits = c.lane-4.type_inv } in
    let e3 : to_z w64 (of_z w64 c.lane-4.result) ≡ c.args.first +ℤ pos 3 *ℤ c.args.step = to_z-of_z f3 ∙ (rw (to_z-of_z c.ranges.first, to_z-of_z c.ranges.step) at c.lane-4.ensures) in
    let f4 : FitsSigned w64 c.lane-5.result = record { sfits = c.lane-5.type_inv } in
    let e4 : to_z w64 (of_z w64 c.lane-5.result) ≡ c.args.first +ℤ pos 4 *ℤ c.args.step = to_z-of_z f4 ∙ (rw (to_z-of_z c.ranges.first, to_z-of_z c.ranges.step) at c.lane-5.ensures) in
    let f5 : FitsSigned w64 c.lane-6.result = record { sfits = c.lane-6.type_inv } in
    let e5 : to_z w64 (of_z w64 c.lane-6.result) ≡ c.args.first +ℤ pos 5 *ℤ c.args.step = to_z-of_z f5 ∙ (rw (to_z-of_z c.ranges.first, to_z-of_z c.ranges.step) at c.lane-6.ensures) in
    let f6 : FitsSigned w64 c.lane-7.result = record { sfits = c.lane-7.type_inv } in
    let e6 : to_z w64 (of_z w64 c.lane-7.result) ≡ c.args.first +ℤ pos 6 *ℤ c.args.step = to_z-of_z f6 ∙ (rw (to_z-of_z c.ranges.first, to_z-of_z c.ranges.step) at c.lane-7.ensures) in
    let f7 : FitsSigned w64 c.lane-8.result = record { sfits = c.lane-8.type_inv } in
    let e7 : to_z w64 (of_z w64 c.lane-8.result) ≡ c.args.first +ℤ pos 7 *ℤ c.args.step = to_z-of_z f7 ∙ (rw (to_z-of_z c.ranges.first, to_z-of_z c.ranges.step) at c.lane-8.ensures) in
    λ i. e0 i ∷ e1 i ∷ e2 i ∷ e3 i ∷ e4 i ∷ e5 i ∷ e6 i ∷ e7 i ∷ []
