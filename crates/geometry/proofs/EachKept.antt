-- What holds of three corners wherever the area is above 0 holds of each kept triangle of a block.
use Rattle.std.proofs.Common.{◌≡◌, ℕ, pos, ◌<ℤ◌, true, ◌&&◌, List, [], ◌∷◌, ◌++◌, Option, Some, None, refl}
use Rattle.std.specs.List.{AllByRecursion, filter_map, flat_map, cons_option}
use Rattle.std.proofs.lemmas.Bool.{and_parts}
use Rattle.rc_base.specs.Drawing.Cover.{triangle_area}
use Rattle.rc_base.specs.Drawing.Kept.{three, is_shown, point, is_kept_at, kept_at}
use Rattle.rc_base.specs.declared.state.Block.{Block}
use Rattle.rc_base.specs.declared.state.State.{State}
use Rattle.rc_base.specs.declared.state.Vertex.{Vertex}
use Rattle.rc_base.specs.declared.window.WindowVertex.{WindowVertex}
use Rattle.rc_base.specs.declared.window.ClipVertex.{ClipVertex}
use Rattle.rc_base.specs.Drawing.Window.{window_at, is_placed_at}
use Rattle.rc_base.specs.Drawing.Pieces.{vertex_pieces, kept_pieces, kept_corners_of, kept_triangles}
use Rattle.rc_base.specs.Drawing.Triangles.{triangles_in}
use Rattle.geometry.proofs.Oriented.{kept_by}

shown_at : (s : State) (p : List ClipVertex) → is_kept_at s p ≡ true → is_shown s (triangle_area (three (window_at s (point p 0)) (window_at s (point p 1)) (window_at s (point p 2)))) ≡ true
unfolding is_kept_at
shown_at s p h =
    let last = is_shown s (triangle_area (three (window_at s (point p 0)) (window_at s (point p 1)) (window_at s (point p 2)))) in
    let first = and_parts (is_placed_at s (point p 0)) (is_placed_at s (point p 1) && (is_placed_at s (point p 2) && last)) h in
    let second = and_parts (is_placed_at s (point p 1)) (is_placed_at s (point p 2) && last) first.1 in
    (and_parts (is_placed_at s (point p 2)) last second.1).1

one_kept : (P : List WindowVertex → Type 0) → ((a b c : WindowVertex) → pos 0 <ℤ triangle_area (three a b c) → P (three a b c))
    → (s : State) (p : List ClipVertex) (v : List WindowVertex) → kept_at s p ≡ Some v → P v
unfolding kept_at
one_kept P h s p v e =
    let a = window_at s (point p 0) in
    let b = window_at s (point p 1) in
    let c = window_at s (point p 2) in
    kept_by P s a b c v (is_kept_at s p) (shown_at s p) e (h a b c) (h a c b)

all_with : (P : List WindowVertex → Type 0) (o : Option (List WindowVertex)) (vs : List (List WindowVertex)) → ((v : List WindowVertex) → o ≡ Some v → P v)
    → AllByRecursion P vs → AllByRecursion P (cons_option o vs)
all_with P None vs one rest = rest
all_with P (Some v) vs one rest = (one v refl, rest)

each_part : (P : List WindowVertex → Type 0) → ((a b c : WindowVertex) → pos 0 <ℤ triangle_area (three a b c) → P (three a b c))
    → (s : State) (ps : List (List ClipVertex)) → AllByRecursion P (filter_map (kept_at s) ps)
each_part P h s [] = tt
each_part P h s (p ∷ ps) = all_with P (kept_at s p) (filter_map (kept_at s) ps) (one_kept P h s p) (each_part P h s ps)

all_both : (P : List WindowVertex → Type 0) (us vs : List (List WindowVertex)) → AllByRecursion P us → AllByRecursion P vs → AllByRecursion P (us ++ vs)
all_both P [] vs h k = k
all_both P (u ∷ us) vs h k = (h.0, all_both P us vs h.1 k)

all_flat : (P : List WindowVertex → Type 0) (f : List ℕ → List (List WindowVertex)) (ts : List (List ℕ)) → ((t : List ℕ) → AllByRecursion P (f t)) → AllByRecursion P (flat_map f ts)
all_flat P f [] h = tt
all_flat P f (t ∷ ts) h = all_both P (f t) (flat_map f ts) (h t) (all_flat P f ts h)

parts_all : (P : List WindowVertex → Type 0) → ((a b c : WindowVertex) → pos 0 <ℤ triangle_area (three a b c) → P (three a b c))
    → (s : State) (mode : ℕ) (a b c : Vertex) → AllByRecursion P (kept_pieces s mode a b c)
unfolding kept_pieces
parts_all P h s mode a b c = each_part P h s (vertex_pieces s mode a b c)

pub each_kept : (P : List WindowVertex → Type 0) → ((a b c : WindowVertex) → pos 0 <ℤ triangle_area (three a b c) → P (three a b c))
    → (s : State) (block : Block) → AllByRecursion P (kept_triangles s block)
each_kept P h s block = all_flat P (kept_corners_of s block) (triangles_in block) (λ t. parts_all P h s block.mode _ _ _)
