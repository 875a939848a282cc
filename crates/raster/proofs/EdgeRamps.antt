-- An edge's value from one pixel of a row to the next.
use Rattle.std.proofs.Common.{◌≡◌, ◌∙◌, ap, sym, subst, ℤ, pos, neg_ℤ, ◌+ℤ◌, ◌-ℤ◌, ◌*ℤ◌, ◌^◌, w32, w64, FitsSigned, Bool, true, false, arith}
use Rattle.std.proofs.lemmas.Int.{ints}
use Rattle.fixed_math.proofs.Signed.{times_sum}
use Rattle.rc_base.specs.Numbers.{Within}
use Rattle.rc_base.specs.Drawing.Cover.{edge_value, keeps_line, centre, IsInBounds}
use Rattle.rc_base.specs.declared.window.WindowVertex.{WindowVertex}
use Rattle.raster.specs.EdgeRamps.{edge_at, edge_gain}
use Rattle.raster.specs.Lanes.{kept_value}
use Rattle.raster.proofs.LaneBits.{kept_sum, edge_small, kept_small}

moved : (a b : WindowVertex) (x y : ℤ)
    → edge_value a b (centre (x +ℤ pos 1)) (centre y) ≡ edge_value a b (centre x) (centre y) +ℤ edge_gain a b
moved a b x y =
    let g : (centre (x +ℤ pos 1) -ℤ a.x) ≡ (centre x -ℤ a.x) +ℤ pos 16 = omega (arith, ints) in
    let h = ap (λ z. (b.y -ℤ a.y) *ℤ z) g ∙ times_sum (centre x -ℤ a.x) (pos 16) (b.y -ℤ a.y) in
    omega (arith, ints, h)

pub next_value : (a b : WindowVertex) (x y at gain : ℤ) → at ≡ edge_at a b x y → gain ≡ edge_gain a b
    → at +ℤ gain ≡ edge_at a b (x +ℤ pos 1) y
next_value a b x y at gain e f =
    (λ i. e i +ℤ f i)
    ∙ sym (kept_sum (edge_value a b (centre x) (centre y)) (edge_gain a b) (keeps_line a b))
    ∙ ap (λ z. kept_value z (keeps_line a b)) (sym (moved a b x y))

-- the value is bounded, and so is what it gains
pub value_small : (a b : WindowVertex) (x y at : ℤ) → FitsSigned w32 x → FitsSigned w32 y → IsInBounds a → IsInBounds b
    → at ≡ edge_at a b x y → Within (2 ^ 61) at
value_small a b x y at f g h k e =
    let cx : Within (2 ^ 36) (centre x) = (omega (arith, ints), omega (arith, ints)) in
    let cy : Within (2 ^ 36) (centre y) = (omega (arith, ints), omega (arith, ints)) in
    subst (λ z. Within (2 ^ 61) z) (sym e) (kept_small _ (keeps_line a b) (edge_small a b (centre x) (centre y) h k cx cy))

pub gain_small : (a b : WindowVertex) (gain : ℤ) → IsInBounds a → IsInBounds b → gain ≡ edge_gain a b → Within (2 ^ 40) gain
gain_small a b gain h k e =
    (let l = h.1.0 in let m = k.1.1 in omega (arith, ints, e), let l = h.1.1 in let m = k.1.0 in omega (arith, ints, e))

-- the edge function itself, where the edge keeps its line and where not
pub own_kept : (e at : ℤ) (k : Bool) → k ≡ true → at ≡ kept_value e k → at ≡ e
own_kept e at true h f = f
own_kept e at false h f = grind (arith, h)

pub own_strict : (e at : ℤ) (k : Bool) → k ≡ false → at ≡ kept_value e k → at +ℤ pos 1 ≡ e
own_strict e at true h f = grind (arith, h)
own_strict e at false h f = omega (arith, ints, f)

-- so their sum fits its type
pub next_fits : (a b : WindowVertex) (x y at gain : ℤ) → FitsSigned w32 x → FitsSigned w32 y → IsInBounds a → IsInBounds b
    → at ≡ edge_at a b x y → gain ≡ edge_gain a b → FitsSigned w64 (at +ℤ gain)
next_fits a b x y at gain f g h k e d =
    let s = value_small a b x y at f g h k e in let t = gain_small a b gain h k d in
    let l = s.0 in let u = s.1 in let m = t.0 in let n = t.1 in omega (arith, ints)

pub own_fits : (a b : WindowVertex) (x y at : ℤ) → FitsSigned w32 x → FitsSigned w32 y → IsInBounds a → IsInBounds b
    → at ≡ edge_at a b x y → FitsSigned w64 (at +ℤ pos 1)
own_fits a b x y at f g h k e = let s = value_small a b x y at f g h k e in let l = s.0 in let u = s.1 in omega (arith, ints)
