-- Vertices whose clip coordinates tell on which side of a rectangle's pixels they lie.
use Rattle.std.proofs.Common.{◌≡◌, ◌⊎◌, ◌∙◌, ℤ, ℕ, pos, ◌+ℤ◌, ◌-ℤ◌, ◌*ℤ◌, ◌<ℤ◌, ◌≤ℤ◌, List, inl, inr, Some, ap, sym, refl, subst, arith}
use Rattle.std.specs.Prelude.{Option, None, IfSome}
use lib.IntN.{*ℤ_comm}
use Rattle.std.proofs.lemmas.Int.{ints, by_lt_z}
use Rattle.rc_base.proofs.Signed.{times_assoc}
use Rattle.rc_base.specs.Numbers.{entry, floor_quotient}
use Rattle.rc_base.specs.Drawing.Cover.{triangle_area}
use Rattle.rc_base.specs.Drawing.Window.{clip_of, axis_of, window_of, window_at}
use Rattle.rc_base.specs.Drawing.Kept.{kept_of, three}
use Rattle.rc_base.specs.declared.state.State.{State}
use Rattle.rc_base.specs.declared.state.Vertex.{Vertex}
use Rattle.rc_base.specs.declared.window.WindowVertex.{WindowVertex}
use Rattle.fixed_math.specs.Bounds.{four}
use Rattle.fixed_math.proofs.Signed.{floor_at_most, floor_from_low, times_sum, mul_mono}
use Rattle.geometry.specs.Beside.{AreBeside, AreOutside}
use Rattle.geometry.specs.Rejected.{AreAxisBounds, AreClipBounds, AreAside, AreRejected}
use Rattle.geometry.specs.declared.near.Surrounds.{Surrounds}
use Rattle.geometry.specs.declared.sides.AxisBounds.{AxisBounds}
use Rattle.geometry.specs.declared.sides.ClipBounds.{ClipBounds}
use Rattle.geometry.proofs.Beside.{kept_beside}
use Rattle.geometry.proofs.Units.{clip_fixed, short_axis_is}

-- a quotient with the floor is below a number where what is divided is below its product with the divisor
below_by : (n w b : ℤ) → pos 0 <ℤ w → n <ℤ (b *ℤ w) → floor_quotient n w <ℤ b
below_by n w b h l =
    let q = floor_quotient n w in
    let g = floor_at_most n w h in
    by_lt_z q b (λ k. k)
    (λ k.
    let m : (w *ℤ b) ≤ℤ (w *ℤ q) = mul_mono w b q (omega (arith, ints)) k in
    let c = *ℤ_comm w b in
    let d = *ℤ_comm w q in
    absurd (omega (arith, ints)))

-- and it is no less where what is divided is no less
at_least_by : (n w b : ℤ) → pos 0 <ℤ w → (b *ℤ w) ≤ℤ n → b ≤ℤ floor_quotient n w
at_least_by n w b h l =
    let c = *ℤ_comm w b in
    floor_from_low n w b h (omega (arith, ints))

-- what is divided, and the product of a bound
divided_is : (x w size scale : ℤ) → scale ≡ pos 8 *ℤ size → (x +ℤ w) *ℤ size *ℤ pos 8 ≡ x *ℤ scale +ℤ w *ℤ scale
divided_is x w size scale e =
    let a = times_assoc (x +ℤ w) size (pos 8) in
    let b : size *ℤ pos 8 ≡ scale = *ℤ_comm size (pos 8) ∙ sym e in
    let c : (x +ℤ w) *ℤ size *ℤ pos 8 ≡ (x +ℤ w) *ℤ scale = a ∙ ap (λ k. (x +ℤ w) *ℤ k) b in
    let d = *ℤ_comm (x +ℤ w) scale in
    let f = times_sum x w scale in
    let g = *ℤ_comm scale x in
    let h = *ℤ_comm scale w in
    omega (arith, ints)

bound_is : (bound low w scale : ℤ) → low ≡ bound -ℤ scale → bound *ℤ w ≡ low *ℤ w +ℤ w *ℤ scale
bound_is bound low w scale e =
    let s : bound ≡ low +ℤ scale = omega (arith, ints) in
    let a : bound *ℤ w ≡ w *ℤ (low +ℤ scale) = *ℤ_comm bound w ∙ ap (λ k. w *ℤ k) s in
    let f = times_sum low scale w in
    let g = *ℤ_comm w low in
    omega (arith, ints)

before : (origin size first last : ℤ) (b : AxisBounds) (x w : ℤ) → AreAxisBounds origin size first last b → pos 0 <ℤ w
    → (x *ℤ b.scale) <ℤ (b.low *ℤ w) → axis_of origin size x w <ℤ first
before origin size first last b x w known h l =
    let bound = first -ℤ pos 16 *ℤ origin in
    let n = (x +ℤ w) *ℤ size *ℤ pos 8 in
    let d = divided_is x w size b.scale known.scale in
    let e = bound_is bound b.low w b.scale known.low in
    let q = below_by n w bound h (omega (arith, ints)) in
    let a = short_axis_is origin size x w h in
    omega (arith, ints)

behind : (origin size first last : ℤ) (b : AxisBounds) (x w : ℤ) → AreAxisBounds origin size first last b → pos 0 <ℤ w
    → (b.high *ℤ w) ≤ℤ (x *ℤ b.scale) → last <ℤ axis_of origin size x w
behind origin size first last b x w known h l =
    let bound = last +ℤ pos 1 -ℤ pos 16 *ℤ origin in
    let n = (x +ℤ w) *ℤ size *ℤ pos 8 in
    let d = divided_is x w size b.scale known.scale in
    let e = bound_is bound b.high w b.scale known.high in
    let q = at_least_by n w bound h (omega (arith, ints)) in
    let a = short_axis_is origin size x w h in
    omega (arith, ints)

-- the places of a vertex that no matrix moves
across_is : (s : State) (v : Vertex) → clip_of s v ≡ four v.pos → axis_of (entry s.viewport 0) (entry s.viewport 2) (entry v.pos 0) (entry v.pos 3) ≡ (window_of s v).x
unfolding window_of window_at
across_is s v e = rw e refl

up_is : (s : State) (v : Vertex) → clip_of s v ≡ four v.pos → axis_of (entry s.viewport 1) (entry s.viewport 3) (entry v.pos 1) (entry v.pos 3) ≡ (window_of s v).y
unfolding window_of window_at
up_is s v e = rw e refl

-- three vertices on one side of an axis
aside : (origin size first last : ℤ) (b : AxisBounds) (axis : ℕ) (u v w : Vertex) (p q r : ℤ) → AreAxisBounds origin size first last b
    → pos 0 <ℤ entry u.pos 3 → pos 0 <ℤ entry v.pos 3 → pos 0 <ℤ entry w.pos 3
    → axis_of origin size (entry u.pos axis) (entry u.pos 3) ≡ p → axis_of origin size (entry v.pos axis) (entry v.pos 3) ≡ q → axis_of origin size (entry w.pos axis) (entry w.pos 3) ≡ r
    → AreAside b axis u v w → AreOutside p q r first last
aside origin size first last b axis u v w p q r known hu hv hw eu ev ew (inl h) =
    inl (
      subst (λ (k : ℤ). k <ℤ first) eu (before origin size first last b (entry u.pos axis) (entry u.pos 3) known hu h.0),
      subst (λ (k : ℤ). k <ℤ first) ev (before origin size first last b (entry v.pos axis) (entry v.pos 3) known hv h.1),
      subst (λ (k : ℤ). k <ℤ first) ew (before origin size first last b (entry w.pos axis) (entry w.pos 3) known hw h.2),
    )
aside origin size first last b axis u v w p q r known hu hv hw eu ev ew (inr h) =
    inr (
      subst (λ (k : ℤ). last <ℤ k) eu (behind origin size first last b (entry u.pos axis) (entry u.pos 3) known hu h.0),
      subst (λ (k : ℤ). last <ℤ k) ev (behind origin size first last b (entry v.pos axis) (entry v.pos 3) known hv h.1),
      subst (λ (k : ℤ). last <ℤ k) ew (behind origin size first last b (entry w.pos axis) (entry w.pos 3) known hw h.2),
    )

beside_of : (s : State) (near : Surrounds) (b : ClipBounds) (u v w : Vertex) → AreClipBounds s near b
    → pos 0 <ℤ entry u.pos 3 → pos 0 <ℤ entry v.pos 3 → pos 0 <ℤ entry w.pos 3
    → AreAside b.across 0 u v w ⊎ AreAside b.up 1 u v w → AreBeside near (three (window_of s u) (window_of s v) (window_of s w))
beside_of s near b u v w known hu hv hw (inl h) =
    let fixed : (x : Vertex) → clip_of s x ≡ four x.pos = λ x. clip_fixed s x known.modelview known.projection in
    inl (aside _ _ _ _ b.across 0 u v w _ _ _ known.across hu hv hw (across_is s u (fixed u)) (across_is s v (fixed v)) (across_is s w (fixed w)) h)
beside_of s near b u v w known hu hv hw (inr h) =
    let fixed : (x : Vertex) → clip_of s x ≡ four x.pos = λ x. clip_fixed s x known.modelview known.projection in
    inr (aside _ _ _ _ b.up 1 u v w _ _ _ known.up hu hv hw (up_is s u (fixed u)) (up_is s v (fixed v)) (up_is s w (fixed w)) h)

pub rejected : (s : State) (near : Surrounds) (b : ClipBounds) (u v w : Vertex) → AreClipBounds s near b → AreRejected b u v w
    → (t : List WindowVertex) → kept_of s u v w ≡ Some t → (pos 0 <ℤ triangle_area t) × AreBeside near t
rejected s near b u v w known r t e =
    kept_beside s near u v w (window_of s u) (window_of s v) (window_of s w) refl refl refl
    (beside_of s near b u v w known r.first r.second r.third r.aside) t e

-- bounds that there are
pub bounds_of : (s : State) (near : Surrounds) (given : Option ClipBounds) (b : ClipBounds) → given ≡ Some b → IfSome given (AreClipBounds s near) → AreClipBounds s near b
bounds_of s near None b e h = absurd cc
bounds_of s near (Some k) b e h = let same : b ≡ k = cc in rw same h
