use Rattle.std.proofs.Common.{◌≡◌, ◌∙◌, to_z, of_z, to_z-of_z, FitsSigned, pos, neg_ℤ, ◌-ℤ◌, ◌+ℤ◌, ◌*ℤ◌, w32, w64, ◌^◌}
use Rattle.rc_base.specs.Numbers.{floor_quotient}
use Rattle.fixed_math.proofs.Signed.{fits_low, fits_from_ends}
use Rattle.geometry.proofs.clipping.crossing_word.Goals as goal

from_is : (c : goal.After-crossing_value) → to_z w64 (of_z w64 c.from.result) ≡ c.args.from
from_is c =
    let f : FitsSigned w64 c.from.result = record { sfits = c.from.type_inv } in
    to_z-of_z f ∙ c.from.ensures ∙ to_z-of_z c.ranges.from

to_is : (c : goal.After-crossing_value) → to_z w64 (of_z w64 c.from-2.result) ≡ c.args.to
to_is c =
    let f : FitsSigned w64 c.from-2.result = record { sfits = c.from-2.type_inv } in
    to_z-of_z f ∙ c.from-2.ensures ∙ to_z-of_z c.ranges.to

met_is : (c : goal.After-crossing_value) → to_z w64 (of_z w64 c.crossing_value.result) ≡ c.crossing_value.result
met_is c = let f : FitsSigned w64 c.crossing_value.result = record { sfits = c.crossing_value.type_inv } in to_z-of_z f

fits : (c : goal.After-crossing_value) → FitsSigned w32 c.crossing_value.result
fits c =
    let between = rw (from_is c, to_is c) at c.crossing_value.ensures.between in
    let a = fits_low w32 c.args.from c.ranges.from in
    let b = fits_low w32 c.args.to c.ranges.to in
    let r = between (neg_ℤ (pos (2 ^ 31))) (pos (2 ^ 31) -ℤ pos 1) a.0 b.0 a.1 b.1 in
    fits_from_ends w32 c.crossing_value.result r.0 r.1

pub overflow_cast-result : goal.overflow_cast-result
overflow_cast-result c = rw (met_is c) (fits c)

pub returns : goal.returns
returns c =
    rw (met_is c, to_z-of_z (fits c))
    (c.crossing_value.ensures.value ∙ (λ i. from_is c i +ℤ floor_quotient ((to_is c i -ℤ from_is c i) *ℤ c.args.fraction.part) c.args.fraction.whole))
