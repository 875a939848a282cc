-- What holds of three corners in both turns, wherever the area is above 0, holds of the kept triangle.
use Rattle.std.proofs.Common.{◌≡◌, ℤ, pos, ◌<ℤ◌, Bool, true, false, ◌&&◌, List, Some, None, refl, sym, subst, arith}
use Rattle.std.specs.Prelude.{if◌then◌else◌}
use Rattle.std.proofs.lemmas.Int.{ints, by_lt_z}
use Rattle.std.proofs.lemmas.Bool.{and_parts}
use Rattle.rc_base.specs.Drawing.Cover.{triangle_area}
use Rattle.rc_base.specs.Drawing.Window.{window_of, is_placed}
use Rattle.rc_base.specs.Drawing.Kept.{three, is_shown, oriented, clip_corners, is_kept_at, kept_at, kept_of}
use Rattle.rc_base.specs.declared.state.State.{State}
use Rattle.rc_base.specs.declared.state.Vertex.{Vertex}
use Rattle.rc_base.specs.declared.window.WindowVertex.{WindowVertex}
use Rattle.scene_lemmas.proofs.Triangles.{turned_round}
use Rattle.geometry.proofs.Facing.{not_shown_flat, left_as_is, area_turned}

pub not_flat : (s : State) (area : ℤ) → is_shown s area ≡ true → area ≡ pos 0 → ⊥
not_flat s area h e = let flat = not_shown_flat s area e in absurd cc

turned : (P : List WindowVertex → Type 0) (s : State) (a b c : WindowVertex) → is_shown s (triangle_area (three a b c)) ≡ true
    → (pos 0 <ℤ triangle_area (three a b c) → P (three a b c)) → (pos 0 <ℤ triangle_area (three a c b) → P (three a c b)) → P (oriented a b c)
turned P s a b c shown left right =
    let area = triangle_area (three a b c) in
    by_lt_z area (pos 0)
    (λ below.
    let high : pos 0 <ℤ triangle_area (three a c b) = let e = area_turned a b c in omega (arith, ints, e, below) in
    subst P (sym (turned_round a b c below)) (right high))
    (λ above.
    let apart = not_flat s area shown in
    let high : pos 0 <ℤ area = by_lt_z (pos 0) area (λ g. g) (λ g. absurd (apart (let k = above in omega (arith, ints, g, k)))) in
    subst P (sym (left_as_is a b c above)) (left high))

pub kept_by : (P : List WindowVertex → Type 0) (s : State) (a b c : WindowVertex) (v : List WindowVertex) (t : Bool) → (t ≡ true → is_shown s (triangle_area (three a b c)) ≡ true)
    → (if t then Some (oriented a b c) else None) ≡ Some v
    → (pos 0 <ℤ triangle_area (three a b c) → P (three a b c)) → (pos 0 <ℤ triangle_area (three a c b) → P (three a c b)) → P v
kept_by P s a b c v true shown e left right =
    let same : oriented a b c ≡ v = cc in
    subst P same (turned P s a b c (shown refl) left right)
kept_by P s a b c v false shown e left right = absurd cc

shown_of : (s : State) (a b c : Vertex) → is_kept_at s (clip_corners s a b c) ≡ true → is_shown s (triangle_area (three (window_of s a) (window_of s b) (window_of s c))) ≡ true
unfolding is_kept_at is_placed window_of
shown_of s a b c h =
    let last = is_shown s (triangle_area (three (window_of s a) (window_of s b) (window_of s c))) in
    let first = and_parts (is_placed s a) (is_placed s b && (is_placed s c && last)) h in
    let second = and_parts (is_placed s b) (is_placed s c && last) first.1 in
    (and_parts (is_placed s c) last second.1).1

pub kept : (P : List WindowVertex → Type 0) (s : State) (a b c : Vertex) (v : List WindowVertex) → kept_of s a b c ≡ Some v
    → (pos 0 <ℤ triangle_area (three (window_of s a) (window_of s b) (window_of s c)) → P (three (window_of s a) (window_of s b) (window_of s c)))
    → (pos 0 <ℤ triangle_area (three (window_of s a) (window_of s c) (window_of s b)) → P (three (window_of s a) (window_of s c) (window_of s b))) → P v
unfolding kept_of kept_at window_of
kept P s a b c v e left right = kept_by P s (window_of s a) (window_of s b) (window_of s c) v (is_kept_at s (clip_corners s a b c)) (shown_of s a b c) e left right
