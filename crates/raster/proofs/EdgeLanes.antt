-- An edge's lanes fit their type, so they go through a call as they are.
use Rattle.std.proofs.Common.{◌≡◌, ◌∙◌, sym, subst, ap, List, [], ◌∷◌, ◌+ℤ◌, ℤ, pos, neg_ℤ, ◌-ℤ◌, ◌*ℤ◌, ◌^◌, map, to_z, of_z, w32, w64, FitsSigned, arith}
use Rattle.std.proofs.lemmas.Int.{ints}
use Rattle.std.specs.Simd.Lanes.{Each1}
use Rattle.rc_base.specs.Numbers.{Within}
use Rattle.rc_base.specs.Drawing.Cover.{centre, keeps_line, IsInBounds}
use Rattle.rc_base.specs.declared.window.WindowVertex.{WindowVertex}
use Rattle.raster.specs.Lanes.{edge_lanes}
use Rattle.raster.proofs.LaneBits.{back_all, fits_small, ramp_small, edge_small, kept_small}

centre_small : (x : ℤ) → FitsSigned w32 x → Within (2 ^ 36) (centre x)
centre_small x f = (omega (arith, ints), omega (arith, ints))

pub lanes_small : (a b : WindowVertex) (x y : ℤ) → FitsSigned w32 x → FitsSigned w32 y → IsInBounds a → IsInBounds b → Each1 (λ e. Within (2 ^ 62) e) (edge_lanes a b x y)
lanes_small a b x y f g h k =
    let s : Within (2 ^ 40) (neg_ℤ (pos 16 *ℤ (b.y -ℤ a.y))) =
    (let l = h.1.0 in let m = k.1.1 in omega (arith, ints), let l = h.1.1 in let m = k.1.0 in omega (arith, ints)) in
    ramp_small _ _ (kept_small _ (keeps_line a b) (edge_small a b (centre x) (centre y) h k (centre_small x f) (centre_small y g))) s

pub lanes_back : (a b : WindowVertex) (x y : ℤ) (lanes : List ℤ) → FitsSigned w32 x → FitsSigned w32 y → IsInBounds a → IsInBounds b → lanes ≡ edge_lanes a b x y
    → map (to_z w64) (map (of_z w64) lanes) ≡ edge_lanes a b x y
lanes_back a b x y lanes f g h k e =
    let fit : Each1 (λ z. FitsSigned w64 z) lanes = subst (λ (l : List ℤ). Each1 (λ z. FitsSigned w64 z) l) (sym e) (fits_small (edge_lanes a b x y) (lanes_small a b x y f g h k)) in
    back_all lanes fit ∙ e

all_raised : (v : List ℤ) (up : ℤ) → Each1 (λ e. Within (2 ^ 62) e) v → Within (2 ^ 60) up → Each1 (λ e. FitsSigned w64 e) (map (λ e. e +ℤ up) v)
all_raised [] up f b = tt
all_raised (e ∷ v) up f b = (let l = f.0.0 in let u = f.0.1 in let m = b.0 in let n = b.1 in omega (arith, ints), all_raised v up f.1 b)

-- nor do they leave it where they are raised
pub raised_back : (a b : WindowVertex) (x y up : ℤ) (lanes raised : List ℤ) → FitsSigned w32 x → FitsSigned w32 y → IsInBounds a → IsInBounds b → Within (2 ^ 60) up
    → lanes ≡ edge_lanes a b x y → raised ≡ map (λ e. e +ℤ up) lanes → map (to_z w64) (map (of_z w64) raised) ≡ map (λ e. e +ℤ up) (edge_lanes a b x y)
raised_back a b x y up lanes raised f g h k w e r =
    let is : raised ≡ map (λ z. z +ℤ up) (edge_lanes a b x y) = r ∙ ap (λ l. map (λ z. z +ℤ up) l) e in
    let fit : Each1 (λ z. FitsSigned w64 z) raised =
    subst (λ (l : List ℤ). Each1 (λ z. FitsSigned w64 z) l) (sym is) (all_raised (edge_lanes a b x y) up (lanes_small a b x y f g h k) w) in
    back_all raised fit ∙ is
