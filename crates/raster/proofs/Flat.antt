-- An attribute that is the same at all three corners is the same everywhere.
use Rattle.std.proofs.Common.{◌≡◌, ℕ, ◌*◌, ◌^◌, List, ℤ, pos, ◌+ℤ◌, ◌*ℤ◌, arith, ap, sym, ◌∙◌}
use Rattle.std.proofs.lemmas.Int.{ints}
use lib.IntN.{*ℤ_comm}
use Rattle.fixed_math.proofs.Signed.{times_assoc}
use Rattle.rc_base.specs.Drawing.Cover.{triangle_area, centre}
use Rattle.rc_base.specs.Drawing.Fragment.{weight, weighted_sum}
use Rattle.rc_base.specs.declared.window.WindowVertex.{WindowVertex}
use Rattle.raster.specs.Planes.{sum_at, gain_across, gain_up, AreCorners, IsByteQuotient, IsWordResidue, IsWordQuotient}
use Rattle.raster.proofs.Average.{weights_sum, sum_of_three}

-- its sum is the area times it
flat_sum : (v : List WindowVertex) (x y : ℤ) (f : WindowVertex → ℤ) (a : ℤ) → AreCorners v f a a a → sum_at v x y f ≡ triangle_area v *ℤ a
unfolding sum_at
flat_sum v x y f a h =
    let w0 = weight v 0 (centre x) (centre y) in
    let w1 = weight v 1 (centre x) (centre y) in
    let w2 = weight v 2 (centre x) (centre y) in
    (λ i. weighted_sum w0 w1 w2 (h.0 i) (h.1 i) (h.2 i)) ∙ sym (sum_of_three w0 w1 w2 a) ∙ ap (λ z. z *ℤ a) (weights_sum v (centre x) (centre y))

flat_across : (v : List WindowVertex) (x y : ℤ) (f : WindowVertex → ℤ) (a : ℤ) → AreCorners v f a a a → gain_across v x y f ≡ pos 0
flat_across v x y f a h = let p = flat_sum v x y f a h in let q = flat_sum v (x +ℤ pos 1) y f a h in omega (arith, ints, p, q)

flat_up : (v : List WindowVertex) (x y : ℤ) (f : WindowVertex → ℤ) (a : ℤ) → AreCorners v f a a a → gain_up v x y f ≡ pos 0
flat_up v x y f a h = let p = flat_sum v x y f a h in let q = flat_sum v x (y +ℤ pos 1) f a h in omega (arith, ints, p, q)

apart : (area c a : ℤ) → c *ℤ (area *ℤ a) ≡ area *ℤ (c *ℤ a)
apart area c a = sym (times_assoc c area a) ∙ ap (λ z. z *ℤ a) (*ℤ_comm c area) ∙ times_assoc area c a

-- ---- in parts of 2^56

byte_quotient_nothing : (n area : ℤ) → n ≡ pos 0 → IsByteQuotient n area 1 0
byte_quotient_nothing n area e =
    let z : area *ℤ pos 0 ≡ pos 0 = omega (arith, ints) in
    record { whole = pos 0; low = omega (arith, ints); high = omega (arith, ints); residue = record { turns = pos 0; is = omega (arith, ints) } }

pub byte_quotient_flat : (v : List WindowVertex) (x y : ℤ) (f : WindowVertex → ℤ) (a p : ℕ) → AreCorners v f (pos a) (pos a) (pos a) → p ≡ a * 2 ^ 56
    → IsByteQuotient (sum_at v x y f) (triangle_area v) 1 p
byte_quotient_flat v x y f a p h e =
    let s = flat_sum v x y f (pos a) h in
    let q = apart (triangle_area v) (pos (2 ^ 56)) (pos a) in
    record {
      whole = pos (2 ^ 56) *ℤ pos a;
      low = omega (arith, ints, s, q);
      high = omega (arith, ints, s, q);
      residue = record { turns = pos 0; is = omega (arith, ints) };
    }

pub byte_quotient_across : (v : List WindowVertex) (x y : ℤ) (f : WindowVertex → ℤ) (a : ℤ) → AreCorners v f a a a → IsByteQuotient (gain_across v x y f) (triangle_area v) 1 0
byte_quotient_across v x y f a h = byte_quotient_nothing _ _ (flat_across v x y f a h)

pub byte_quotient_up : (v : List WindowVertex) (x y : ℤ) (f : WindowVertex → ℤ) (a : ℤ) → AreCorners v f a a a → IsByteQuotient (gain_up v x y f) (triangle_area v) 1 0
byte_quotient_up v x y f a h = byte_quotient_nothing _ _ (flat_up v x y f a h)

-- ---- in parts of 2^96

word_quotient_nothing : (n area : ℤ) → n ≡ pos 0 → IsWordQuotient n area 1 0
word_quotient_nothing n area e =
    let z : area *ℤ pos 0 ≡ pos 0 = omega (arith, ints) in
    record { whole = pos 0; low = omega (arith, ints); high = omega (arith, ints); residue = record { turns = pos 0; is = omega (arith, ints) } }

pub word_quotient_flat : (v : List WindowVertex) (x y : ℤ) (f : WindowVertex → ℤ) (a : ℤ) (p : ℕ) → AreCorners v f a a a → IsWordResidue (pos (2 ^ 96) *ℤ a) p
    → IsWordQuotient (sum_at v x y f) (triangle_area v) 1 p
word_quotient_flat v x y f a p h e =
    let s = flat_sum v x y f a h in
    let q = apart (triangle_area v) (pos (2 ^ 96)) a in
    record { whole = pos (2 ^ 96) *ℤ a; low = omega (arith, ints, s, q); high = omega (arith, ints, s, q); residue = e }

pub word_quotient_across : (v : List WindowVertex) (x y : ℤ) (f : WindowVertex → ℤ) (a : ℤ) → AreCorners v f a a a → IsWordQuotient (gain_across v x y f) (triangle_area v) 1 0
word_quotient_across v x y f a h = word_quotient_nothing _ _ (flat_across v x y f a h)

pub word_quotient_up : (v : List WindowVertex) (x y : ℤ) (f : WindowVertex → ℤ) (a : ℤ) → AreCorners v f a a a → IsWordQuotient (gain_up v x y f) (triangle_area v) 1 0
word_quotient_up v x y f a h = word_quotient_nothing _ _ (flat_up v x y f a h)
