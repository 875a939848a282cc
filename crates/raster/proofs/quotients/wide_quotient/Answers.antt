use Rattle.std.proofs.Common.{◌≡◌, pos, ◌*ℤ◌, ◌+ℤ◌, ◌≤ℤ◌, ◌<ℤ◌, ◌^◌, to_z-of_z, FitsSigned}
use mir.Syntax.{w128}
use Rattle.rc_base.specs.Numbers.{floor_quotient}
use Rattle.fixed_math.proofs.Signed.{floor_at_most, floor_greatest}
use Rattle.raster.specs.Planes.{IsWordResidue}
use Rattle.raster.proofs.WordQuotients.{wide_word_quotient, wide_low, wide_high}
use Rattle.raster.proofs.quotients.wide_quotient.Goals as goal

pub wide_low_parts-requires-clause-low : goal.wide_low_parts-requires-clause-low
wide_low_parts-requires-clause-low c =
    let fr : FitsSigned w128 c.wide_rest.result = record { sfits = c.wide_rest.type_inv } in
    let fm : FitsSigned w128 c.times_2_64.result = record { sfits = c.times_2_64.type_inv } in
    let fp : FitsSigned w128 c.floor_div-part.result = record { sfits = c.floor_div-part.type_inv } in
    let area = c.args.area in
    let r = c.wide_rest.result in
    let mq : c.floor_div-part.result ≡ floor_quotient (pos (2 ^ 64) *ℤ r) area =
    rw (to_z-of_z fm, c.times_2_64.ensures, to_z-of_z fr, to_z-of_z c.ranges.area) at c.floor_div-part.ensures.value in
    let low : pos 0 ≤ℤ r = c.wide_rest.ensures.low in
    let high : r <ℤ area = rw (to_z-of_z c.ranges.area) at c.wide_rest.ensures.high in
    rw (to_z-of_z fp, mq) (wide_low r area c.requires.some low)

pub wide_low_parts-requires-clause-high : goal.wide_low_parts-requires-clause-high
wide_low_parts-requires-clause-high c =
    let fr : FitsSigned w128 c.wide_rest.result = record { sfits = c.wide_rest.type_inv } in
    let fm : FitsSigned w128 c.times_2_64.result = record { sfits = c.times_2_64.type_inv } in
    let fp : FitsSigned w128 c.floor_div-part.result = record { sfits = c.floor_div-part.type_inv } in
    let area = c.args.area in
    let r = c.wide_rest.result in
    let mq : c.floor_div-part.result ≡ floor_quotient (pos (2 ^ 64) *ℤ r) area =
    rw (to_z-of_z fm, c.times_2_64.ensures, to_z-of_z fr, to_z-of_z c.ranges.area) at c.floor_div-part.ensures.value in
    let low : pos 0 ≤ℤ r = c.wide_rest.ensures.low in
    let high : r <ℤ area = rw (to_z-of_z c.ranges.area) at c.wide_rest.ensures.high in
    rw (to_z-of_z fp, mq) (wide_high r area c.requires.some high)

pub returns : goal.returns
returns c =
    let fr : FitsSigned w128 c.wide_rest.result = record { sfits = c.wide_rest.type_inv } in
    let fm : FitsSigned w128 c.times_2_64.result = record { sfits = c.times_2_64.type_inv } in
    let fp : FitsSigned w128 c.floor_div-part.result = record { sfits = c.floor_div-part.type_inv } in
    let area = c.args.area in
    let r = c.wide_rest.result in
    let mq : c.floor_div-part.result ≡ floor_quotient (pos (2 ^ 64) *ℤ r) area =
    rw (to_z-of_z fm, c.times_2_64.ensures, to_z-of_z fr, to_z-of_z c.ranges.area) at c.floor_div-part.ensures.value in
    let low : pos 0 ≤ℤ r = c.wide_rest.ensures.low in
    let high : r <ℤ area = rw (to_z-of_z c.ranges.area) at c.wide_rest.ensures.high in
    let fw : FitsSigned w128 c.floor_div-whole.result = record { sfits = c.floor_div-whole.type_inv } in
    let wq : c.floor_div-whole.result ≡ floor_quotient c.args.n area = rw (to_z-of_z c.ranges.n, to_z-of_z c.ranges.area) at c.floor_div-whole.ensures.value in
    let value : floor_quotient c.args.n area *ℤ area +ℤ r ≡ c.args.n = rw (to_z-of_z c.ranges.n, to_z-of_z c.ranges.area) at c.wide_rest.ensures.value in
    let whole : IsWordResidue (pos (2 ^ 96) *ℤ floor_quotient c.args.n area) c.wide_high_parts.result = rw (to_z-of_z fw, wq) at c.wide_high_parts.ensures in
    let parts : IsWordResidue (pos (2 ^ 32) *ℤ (floor_quotient (pos (2 ^ 64) *ℤ r) area +ℤ pos 1)) c.wide_low_parts.result = rw (to_z-of_z fp, mq) at c.wide_low_parts.ensures in
    wide_word_quotient c.args.n area (floor_quotient c.args.n area) r (floor_quotient (pos (2 ^ 64) *ℤ r) area) _ value
    (floor_at_most (pos (2 ^ 64) *ℤ r) area c.requires.some) (floor_greatest (pos (2 ^ 64) *ℤ r) area c.requires.some) c.requires.small
    (c.combined.ensures _ _ whole parts)
