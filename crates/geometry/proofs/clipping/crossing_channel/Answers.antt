use Rattle.std.proofs.Common.{◌≡◌, ◌∙◌, arith, ap, to_z, of_z, to_z-of_z, FitsSigned, ℤ, pos, nat_abs, negsuc, ◌≤ℤ◌, ◌-ℤ◌, ◌+ℤ◌, ◌*ℤ◌, w64}
use Rattle.std.proofs.lemmas.Int.{ints}
use Rattle.rc_base.specs.Numbers.{floor_quotient, natural}
use Rattle.geometry.proofs.clipping.crossing_channel.Goals as goal

from_is : (c : goal.After-crossing_value) → to_z w64 (of_z w64 c.from.result) ≡ pos c.args.from
from_is c =
    let f : FitsSigned w64 c.from.result = record { sfits = c.from.type_inv } in
    to_z-of_z f ∙ c.from.ensures

to_is : (c : goal.After-crossing_value) → to_z w64 (of_z w64 c.from-2.result) ≡ pos c.args.to
to_is c =
    let f : FitsSigned w64 c.from-2.result = record { sfits = c.from-2.type_inv } in
    to_z-of_z f ∙ c.from-2.ensures

met_is : (c : goal.After-crossing_value) → to_z w64 (of_z w64 c.crossing_value.result) ≡ c.crossing_value.result
met_is c = let f : FitsSigned w64 c.crossing_value.result = record { sfits = c.crossing_value.type_inv } in to_z-of_z f

bounds : (c : goal.After-crossing_value) → (pos 0 ≤ℤ c.crossing_value.result) × (c.crossing_value.result ≤ℤ pos 255)
bounds c =
    let between = rw (from_is c, to_is c) at c.crossing_value.ensures.between in
    let a = c.ranges.from in
    let b = c.ranges.to in
    between (pos 0) (pos 255) (omega (arith, ints)) (omega (arith, ints)) (omega (arith, ints)) (omega (arith, ints))

natural_is : (z : ℤ) → pos 0 ≤ℤ z → nat_abs z ≡ natural z
natural_is (pos n) h = λ i. n
natural_is (negsuc n) h = absurd (omega (arith, ints))

pub overflow_cast-result : goal.overflow_cast-result
overflow_cast-result c = let b = bounds c in let l = b.0 in let h = b.1 in rw (met_is c) (omega (arith, ints), omega (arith, ints))

pub returns : goal.returns
returns c =
    rw (met_is c)
    (natural_is c.crossing_value.result (bounds c).0 ∙ ap natural
    (c.crossing_value.ensures.value ∙ (λ i. from_is c i +ℤ floor_quotient ((to_is c i -ℤ from_is c i) *ℤ c.args.fraction.part) c.args.fraction.whole)))
