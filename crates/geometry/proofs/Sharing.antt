-- Shares of differences, which lie between the ends.
use Rattle.std.proofs.Common.{to_z, of_z, to_z-of_z, FitsSigned, w64, ◌≡◌, ℤ, pos, ◌+ℤ◌, ◌-ℤ◌, ◌*ℤ◌, ◌≤ℤ◌, ◌<ℤ◌, ◌^◌, true, false, ◌&&◌, arith}
use Rattle.std.proofs.lemmas.Int.{ints, by_lt_z}
use Rattle.std.proofs.lemmas.Bool.{and_parts}
use Rattle.std.proofs.Math.IntN.{*ℤ_comm}
use borrow.Author.Differences.{same_out, le_out, at_most_in}
use Rattle.rc_base.specs.Numbers.{floor_quotient, Within, is_within}
use Rattle.fixed_math.proofs.Signed.{floor_from_low, floor_to_high, mul_mono, mul_anti}
use Rattle.geometry.specs.Fractions.{IsBetweenEnds, IsFraction}
use Rattle.rc_base.specs.Drawing.Pieces.{is_cuttable, is_in_front, clip_bound}
use Rattle.rc_base.specs.declared.window.ClipVertex.{ClipVertex}

-- a share of a difference that isn't negative
rising : (d p w : ℤ) → pos 0 ≤ℤ p → p <ℤ w → pos 0 ≤ℤ d → (pos 0 ≤ℤ floor_quotient (d *ℤ p) w) × (floor_quotient (d *ℤ p) w ≤ℤ d)
rising d p w low high up =
    let positive : pos 0 <ℤ w = omega (arith, ints) in
    let below : p ≤ℤ w = omega (arith, ints) in
    let a = mul_mono d (pos 0) p up low in
    let b = mul_mono d p w up below in
    let c = *ℤ_comm d w in
    let z : d *ℤ pos 0 ≡ pos 0 = omega (arith, ints) in
    let y : w *ℤ pos 0 ≡ pos 0 = omega (arith, ints) in (
      floor_from_low (d *ℤ p) w (pos 0) positive (omega (arith, le_out, at_most_in, same_out, a, z, y)),
      floor_to_high (d *ℤ p) w d positive (omega (arith, le_out, at_most_in, same_out, b, c)),
    )

-- and of one that isn't positive
falling : (d p w : ℤ) → pos 0 ≤ℤ p → p <ℤ w → d ≤ℤ pos 0 → (d ≤ℤ floor_quotient (d *ℤ p) w) × (floor_quotient (d *ℤ p) w ≤ℤ pos 0)
falling d p w low high down =
    let positive : pos 0 <ℤ w = omega (arith, ints) in
    let below : p ≤ℤ w = omega (arith, ints) in
    let a = mul_anti d (pos 0) p down low in
    let b = mul_anti d p w down below in
    let c = *ℤ_comm d w in
    let z : d *ℤ pos 0 ≡ pos 0 = omega (arith, ints) in
    let y : w *ℤ pos 0 ≡ pos 0 = omega (arith, ints) in (
      floor_from_low (d *ℤ p) w d positive (omega (arith, le_out, at_most_in, same_out, b, c)),
      floor_to_high (d *ℤ p) w (pos 0) positive (omega (arith, le_out, at_most_in, same_out, a, z, y)),
    )

pub share_between : (d p w : ℤ) → pos 0 ≤ℤ p → p <ℤ w → IsBetweenEnds (pos 0) d (floor_quotient (d *ℤ p) w)
share_between d p w low high l h l0 ld h0 hd =
    by_lt_z d (pos 0)
    (λ below. let f = falling d p w low high (omega (arith, ints)) in let a = f.0 in let b = f.1 in (omega (arith, ints, a, b, ld), omega (arith, ints, a, b, h0)))
    (λ above. let f = rising d p w low high above in let a = f.0 in let b = f.1 in (omega (arith, ints, a, b, l0), omega (arith, ints, a, b, hd)))

-- what is moved by such a share lies between the ends
pub moved_between : (from to z : ℤ) → IsBetweenEnds (pos 0) (to -ℤ from) z → IsBetweenEnds from to (from +ℤ z)
moved_between from to z b l h lf lt fh th =
    let s = b (l -ℤ from) (h -ℤ from) (omega (arith, ints)) (omega (arith, ints)) (omega (arith, ints)) (omega (arith, ints)) in
    let p = s.0 in let q = s.1 in (omega (arith, ints), omega (arith, ints))

within : (z : ℤ) → is_within clip_bound z ≡ true → Within (2 ^ 46) z
within z e = (grind (arith, ints), grind (arith, ints))

-- the bounds of a vertex that can be cut
pub cuttable_bounds : (c : ClipVertex) → is_cuttable c ≡ true → Within (2 ^ 46) c.x × Within (2 ^ 46) c.y × Within (2 ^ 46) c.z × Within (2 ^ 46) c.w
unfolding is_cuttable
cuttable_bounds c e =
    let a = and_parts (is_within clip_bound c.x) (is_within clip_bound c.y && (is_within clip_bound c.z && is_within clip_bound c.w)) e in
    let b = and_parts (is_within clip_bound c.y) (is_within clip_bound c.z && is_within clip_bound c.w) a.1 in
    let d = and_parts (is_within clip_bound c.z) (is_within clip_bound c.w) b.1 in
    (within c.x a.0, within c.y b.0, within c.z d.0, within c.w d.1)

pub front_is : (c : ClipVertex) → is_in_front c ≡ true → pos 256 ≤ℤ c.w
unfolding is_in_front
front_is c e = grind (arith, ints)

pub behind_is : (c : ClipVertex) → is_in_front c ≡ false → c.w <ℤ pos 256
unfolding is_in_front
behind_is c e = grind (arith, ints)

-- the part of an edge that is in front, of the whole edge
pub cut_is : (a b : ClipVertex) (part whole : ℤ) → is_in_front a ≡ true → is_in_front b ≡ false → is_cuttable a ≡ true → part ≡ a.w -ℤ pos 256 → whole ≡ a.w -ℤ b.w → IsFraction part whole
cut_is a b part whole front behind small e f =
    let p = front_is a front in
    let q = behind_is b behind in
    let bounds = (cuttable_bounds a small).3 in
    let u = bounds.0 in
    let v = bounds.1 in
    record {
      small = (omega (arith, ints), omega (arith, ints));
      low = omega (arith, ints);
      high = omega (arith, ints);
    }

pub word_fits : (z : ℤ) → Within (2 ^ 47) z → FitsSigned w64 z
word_fits z h = let a = h.0 in let b = h.1 in omega (arith, ints)

-- a coordinate as it is read
pub word_within : (z : ℤ) → Within (2 ^ 46) z → Within (2 ^ 46) (to_z w64 (of_z w64 z))
word_within z h = let a = h.0 in let b = h.1 in let f = word_fits z (omega (arith, ints), omega (arith, ints)) in rw (to_z-of_z f) h
