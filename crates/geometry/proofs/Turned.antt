-- The corners of a triangle that is turned counterclockwise, and its area.
use Rattle.std.proofs.Common.{◌≡◌, ◌∙◌, sym, ap, refl, true, false, Bool, ℤ, pos, neg_ℤ}
use Rattle.std.specs.Prelude.{if◌then◌else◌, int_lt}
use Rattle.rc_base.specs.Drawing.Cover.{triangle_area}
use Rattle.rc_base.specs.Drawing.Kept.{three, oriented}
use Rattle.rc_base.specs.declared.window.WindowVertex.{WindowVertex}
use Rattle.geometry.proofs.Facing.{area_turned}

pub ordered_is : (k : Bool) (a b c x y : WindowVertex) → k ≡ int_lt (triangle_area (three a b c)) (pos 0) → x ≡ (if k then c else b) → y ≡ (if k then b else c)
    → three a x y ≡ oriented a b c
unfolding oriented
ordered_is true a b c x y e f g = rw (f, g, sym e) refl
ordered_is false a b c x y e f g = rw (f, g, sym e) refl

pub ordered_area : (k : Bool) (a b c x y : WindowVertex) (m n : ℤ) → m ≡ triangle_area (three a b c) → x ≡ (if k then c else b) → y ≡ (if k then b else c)
    → n ≡ (if k then neg_ℤ m else m) → n ≡ triangle_area (three a x y)
ordered_area true a b c x y m n e f g h = rw (f, g) (h ∙ ap neg_ℤ e ∙ sym (area_turned a b c))
ordered_area false a b c x y m n e f g h = rw (f, g) (h ∙ e)
