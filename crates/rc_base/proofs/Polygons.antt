-- The pieces of a triangle, by the eight ways in which its vertices can stand to the near plane.
use Rattle.std.proofs.Common.{◌≡◌, true, false, [], ◌∷◌, refl}
use Rattle.rc_base.specs.Drawing.Pieces.{is_in_front, crossing_point, polygon_of, fan_of}
use Rattle.rc_base.specs.declared.window.ClipVertex.{ClipVertex}

pub front_all : (a b c : ClipVertex) → is_in_front a ≡ true → is_in_front b ≡ true → is_in_front c ≡ true → fan_of (polygon_of a b c) ≡ (a ∷ b ∷ c ∷ []) ∷ []
unfolding polygon_of
front_all a b c f g h = rw (f, g, h) refl

pub front_ab : (a b c : ClipVertex) → is_in_front a ≡ true → is_in_front b ≡ true → is_in_front c ≡ false
    → fan_of (polygon_of a b c) ≡ (a ∷ b ∷ crossing_point b c ∷ []) ∷ (a ∷ crossing_point b c ∷ crossing_point a c ∷ []) ∷ []
unfolding polygon_of
front_ab a b c f g h = rw (f, g, h) refl

pub front_ac : (a b c : ClipVertex) → is_in_front a ≡ true → is_in_front b ≡ false → is_in_front c ≡ true
    → fan_of (polygon_of a b c) ≡ (a ∷ crossing_point a b ∷ crossing_point c b ∷ []) ∷ (a ∷ crossing_point c b ∷ c ∷ []) ∷ []
unfolding polygon_of
front_ac a b c f g h = rw (f, g, h) refl

pub front_a : (a b c : ClipVertex) → is_in_front a ≡ true → is_in_front b ≡ false → is_in_front c ≡ false
    → fan_of (polygon_of a b c) ≡ (a ∷ crossing_point a b ∷ crossing_point a c ∷ []) ∷ []
unfolding polygon_of
front_a a b c f g h = rw (f, g, h) refl

pub front_bc : (a b c : ClipVertex) → is_in_front a ≡ false → is_in_front b ≡ true → is_in_front c ≡ true
    → fan_of (polygon_of a b c) ≡ (crossing_point b a ∷ b ∷ c ∷ []) ∷ (crossing_point b a ∷ c ∷ crossing_point c a ∷ []) ∷ []
unfolding polygon_of
front_bc a b c f g h = rw (f, g, h) refl

pub front_b : (a b c : ClipVertex) → is_in_front a ≡ false → is_in_front b ≡ true → is_in_front c ≡ false
    → fan_of (polygon_of a b c) ≡ (crossing_point b a ∷ b ∷ crossing_point b c ∷ []) ∷ []
unfolding polygon_of
front_b a b c f g h = rw (f, g, h) refl

pub front_c : (a b c : ClipVertex) → is_in_front a ≡ false → is_in_front b ≡ false → is_in_front c ≡ true
    → fan_of (polygon_of a b c) ≡ (crossing_point c b ∷ c ∷ crossing_point c a ∷ []) ∷ []
unfolding polygon_of
front_c a b c f g h = rw (f, g, h) refl

pub front_none : (a b c : ClipVertex) → is_in_front a ≡ false → is_in_front b ≡ false → is_in_front c ≡ false → fan_of (polygon_of a b c) ≡ []
unfolding polygon_of
front_none a b c f g h = rw (f, g, h) refl
