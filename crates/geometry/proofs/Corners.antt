-- The triangle of three vertices that were brought to the window, or found to stand nowhere in it.
use Rattle.std.proofs.Common.{◌≡◌, ◌∙◌, sym, ap, true, false, ◌&&◌, List, Some, None, pos, Bool, ◌<ℤ◌}
use Rattle.std.specs.declared.option.Option.{Option}
use Rattle.std.proofs.lemmas.Bool.{and_from, and_right}
use Rattle.rc_base.specs.Drawing.Cover.{triangle_area, IsInBounds}
use Rattle.rc_base.specs.Drawing.Window.{window_of, is_placed}
use Rattle.rc_base.specs.Drawing.Kept.{three, is_shown, oriented, clip_corners, is_kept_at, kept_of}
use Rattle.rc_base.specs.declared.state.State.{State}
use Rattle.rc_base.specs.declared.state.Vertex.{Vertex}
use Rattle.rc_base.specs.declared.window.WindowVertex.{WindowVertex}
use Rattle.geometry.specs.Beside.{AreBeside}
use Rattle.geometry.specs.Placed.{IsPlace}
use Rattle.geometry.specs.declared.near.Surrounds.{Surrounds}
use Rattle.geometry.proofs.Facing.{dropped, kept_is}

-- a vertex that stands in the window, and one that doesn't
pub found : (s : State) (v : Vertex) (r : Option WindowVertex) (p : WindowVertex) → r ≡ Some p → IsPlace s v r → (is_placed s v ≡ true) × (p ≡ window_of s v) × IsInBounds p
found s v None p e h = absurd cc
found s v (Some q) p e h = let same : p ≡ q = cc in rw same h

pub missing : (s : State) (v : Vertex) (r : Option WindowVertex) → r ≡ None → IsPlace s v r → is_placed s v ≡ false
missing s v None e h = h
missing s v (Some q) e h = absurd cc

-- whether the corners in the window make a triangle that isn't dropped
abbrev last : State → Vertex → Vertex → Vertex → Bool
last s a b c = is_shown s (triangle_area (three (window_of s a) (window_of s b) (window_of s c)))

pub without_first : (s : State) (a b c : Vertex) → is_placed s a ≡ false → kept_of s a b c ≡ None
unfolding is_kept_at is_placed window_of
without_first s a b c h = dropped s a b c (ap (λ t. t && (is_placed s b && (is_placed s c && last s a b c))) h)

pub without_second : (s : State) (a b c : Vertex) → is_placed s b ≡ false → kept_of s a b c ≡ None
unfolding is_kept_at is_placed window_of
without_second s a b c h = dropped s a b c (and_right (is_placed s a) _ (ap (λ t. t && (is_placed s c && last s a b c)) h))

pub without_third : (s : State) (a b c : Vertex) → is_placed s c ≡ false → kept_of s a b c ≡ None
unfolding is_kept_at is_placed window_of
without_third s a b c h = dropped s a b c (and_right (is_placed s a) _ (and_right (is_placed s b) _ (ap (λ t. t && last s a b c) h)))

not_last : (s : State) (a b c : Vertex) → last s a b c ≡ false → kept_of s a b c ≡ None
unfolding is_kept_at is_placed window_of
not_last s a b c h = dropped s a b c (and_right (is_placed s a) _ (and_right (is_placed s b) _ (and_right (is_placed s c) _ h)))

pub not_shown : (s : State) (a b c : Vertex) (p q r : WindowVertex) → p ≡ window_of s a → q ≡ window_of s b → r ≡ window_of s c
    → is_shown s (triangle_area (three p q r)) ≡ false → kept_of s a b c ≡ None
not_shown s a b c p q r e f g h = not_last s a b c (rw (e, f, g) at h)

all_kept : (s : State) (a b c : Vertex) → is_placed s a ≡ true → is_placed s b ≡ true → is_placed s c ≡ true → last s a b c ≡ true → is_kept_at s (clip_corners s a b c) ≡ true
unfolding is_kept_at is_placed window_of
all_kept s a b c x y z h = and_from (is_placed s a) _ x (and_from (is_placed s b) _ y (and_from (is_placed s c) _ z h))

pub shown : (s : State) (a b c : Vertex) (p q r : WindowVertex) (v : List WindowVertex) → is_placed s a ≡ true → is_placed s b ≡ true → is_placed s c ≡ true
    → p ≡ window_of s a → q ≡ window_of s b → r ≡ window_of s c → is_shown s (triangle_area (three p q r)) ≡ true → v ≡ oriented p q r → kept_of s a b c ≡ Some v
shown s a b c p q r v x y z e f g h k =
    let l : last s a b c ≡ true = rw (e, f, g) at h in
    let o : v ≡ oriented (window_of s a) (window_of s b) (window_of s c) = rw (e, f, g) at k in
    kept_is s a b c (all_kept s a b c x y z l) ∙ ap Some (sym o)

-- a triangle that isn't kept lies anywhere
pub none_beside : (near : Surrounds) (r : Option (List WindowVertex)) → r ≡ None → (v : List WindowVertex) → r ≡ Some v → (pos 0 <ℤ triangle_area v) × AreBeside near v
none_beside near r e v f = absurd cc
