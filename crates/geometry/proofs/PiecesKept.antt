-- Kept pieces.
use Rattle.std.proofs.Common.{◌≡◌, ℕ, true, false, List, [], ◌∷◌, ◌++◌, Option, Some, None, MatchOption, refl, pos, ◌<ℤ◌, ◌≤ℤ◌, subst, int_lt, arith, ◌<◌, ◌≤◌}
use Rattle.std.proofs.lemmas.Int.{ints}
use Rattle.std.proofs.lemmas.Bool.{and_parts}
use Rattle.std.proofs.lemmas.Bool.Decides.{nat_tests}
use Rattle.std.specs.Prelude.{nat_lt, option_to_list}
use Rattle.std.specs.List.{filter_map, cons_option}
use Rattle.rc_base.specs.Drawing.Window.{is_in_bounds, clip_vertex, window_at, is_placed_at}
use Rattle.rc_base.specs.Drawing.Cover.{IsInBounds}
use Rattle.rc_base.specs.Drawing.Kept.{oriented, kept_of, is_kept_at, kept_at}
use Rattle.fixed_math.proofs.Signs.{above_is}
use Rattle.rc_base.specs.declared.state.State.{State}
use Rattle.rc_base.specs.declared.state.Vertex.{Vertex}
use Rattle.rc_base.specs.declared.triangle.WindowTriangle.{WindowTriangle}
use Rattle.rc_base.specs.declared.window.WindowVertex.{WindowVertex}
use Rattle.rc_base.specs.declared.window.ClipVertex.{ClipVertex}
use Rattle.plain_lemmas.proofs.Booleans.{if_same}
use Rattle.geometry.specs.declared.cut_triangle.Pieces.{Pieces}
use Rattle.rc_base.specs.Drawing.Pieces.{is_cuttable, is_in_front, front_pieces, pieces_of, vertex_pieces, kept_pieces}
use Rattle.rc_base.proofs.Polygons.{front_all}
use Rattle.geometry.specs.Pieces.{IsPlaceAt, IsPiece, ArePieces, found}
use Rattle.geometry.specs.Placed.{stands_in_front}

-- ---- one window, by vertices and by clip coordinates

pub kept_same : (s : State) (a b c : Vertex) → kept_of s a b c ≡ kept_at s (clip_vertex s a ∷ clip_vertex s b ∷ clip_vertex s c ∷ [])
unfolding kept_of
kept_same s a b c = refl

-- ---- whether a part is kept

dropped : (s : State) (p : List ClipVertex) → is_kept_at s p ≡ false → kept_at s p ≡ None
unfolding kept_at
dropped s p h = rw h refl

kept_is : (s : State) (a b c : ClipVertex) → is_kept_at s (a ∷ b ∷ c ∷ []) ≡ true → kept_at s (a ∷ b ∷ c ∷ []) ≡ Some (oriented (window_at s a) (window_at s b) (window_at s c))
unfolding kept_at
kept_is s a b c h = rw h refl

pub part_whole : (s : State) (a b c : ClipVertex) (r : Option WindowTriangle)
    → MatchOption r (is_kept_at s (a ∷ b ∷ c ∷ []) ≡ false) (λ t. (is_kept_at s (a ∷ b ∷ c ∷ []) ≡ true) × (t.v ≡ oriented (window_at s a) (window_at s b) (window_at s c)))
    → IsPiece s ((a ∷ b ∷ c ∷ []) ∷ []) 0 r
part_whole s a b c None h = dropped s (a ∷ b ∷ c ∷ []) h
part_whole s a b c (Some t) h = rw (h.1) (kept_is s a b c h.0)

-- ---- the kept ones of one part and of two

pub one_all : (s : State) (p : List ClipVertex) (r : Option WindowTriangle) → IsPiece s (p ∷ []) 0 r → filter_map (kept_at s) (p ∷ []) ≡ found r ++ []
one_all s p None h = rw h refl
one_all s p (Some t) h = rw h refl

pub two_all : (s : State) (p q : List ClipVertex) (r u : Option WindowTriangle) → IsPiece s (p ∷ []) 0 r → IsPiece s (q ∷ []) 0 u → filter_map (kept_at s) (p ∷ q ∷ []) ≡ found r ++ found u
two_all s p q None None h k = rw (h, k) refl
two_all s p q None (Some u) h k = rw (h, k) refl
two_all s p q (Some t) None h k = rw (h, k) refl
two_all s p q (Some t) (Some u) h k = rw (h, k) refl

-- ---- where a vertex stands

pub not_placed : (s : State) (c : ClipVertex) → c.w ≤ℤ pos 0 → is_placed_at s c ≡ false
unfolding is_placed_at
not_placed s c h = let e : int_lt (pos 0) c.w ≡ false = grind (arith, ints) in rw e refl

placed_above : (s : State) (c : ClipVertex) → pos 0 <ℤ c.w → is_placed_at s c ≡ is_in_bounds (window_at s c)
unfolding is_placed_at
placed_above s c h = rw (above_is c.w h) refl

-- the vertex in window coordinates, where it was judged by the bounds
pub place_at : (s : State) (c : ClipVertex) (a : WindowVertex) (r : Option WindowVertex) → pos 0 <ℤ c.w → a ≡ window_at s c
    → MatchOption r (is_in_bounds a ≡ false) (λ p. (is_in_bounds a ≡ true) × (p ≡ a) × IsInBounds p) → IsPlaceAt s c r
place_at s c a r h q n =
    let m : MatchOption r (is_in_bounds (window_at s c) ≡ false) (λ p. (is_in_bounds (window_at s c) ≡ true) × (p ≡ window_at s c) × IsInBounds p) =
    subst (λ (b : WindowVertex). MatchOption r (is_in_bounds b ≡ false) (λ p. (is_in_bounds b ≡ true) × (p ≡ b) × IsInBounds p)) q n in
    rw (placed_above s c h) m

-- ---- the parts by the mode

whole_parts : (mode : ℕ) (a b c : ClipVertex) → mode < 16 → pieces_of mode a b c ≡ (a ∷ b ∷ c ∷ []) ∷ []
unfolding pieces_of
whole_parts mode a b c h = let e : nat_lt mode 16 ≡ true = grind (arith, nat_tests) in rw e refl

cut_parts : (mode : ℕ) (a b c : ClipVertex) → 16 ≤ mode → pieces_of mode a b c ≡ front_pieces a b c
unfolding pieces_of
cut_parts mode a b c h = let e : nat_lt mode 16 ≡ false = grind (arith, nat_tests) in rw e refl

-- one triangle, as `to_window` gives it
pub whole_pieces : (s : State) (mode : ℕ) (a b c : Vertex) (r : Option WindowTriangle) → mode < 16
    → MatchOption r (kept_of s a b c ≡ None) (λ t. kept_of s a b c ≡ Some t.v) → ArePieces s (vertex_pieces s mode a b c) (record { first = r; second = None })
whole_pieces s mode a b c r h w =
    let p = clip_vertex s a ∷ clip_vertex s b ∷ clip_vertex s c ∷ [] in
    let one : IsPiece s (p ∷ []) 0 r = rw (kept_same s a b c) at w in
    rw (whole_parts mode (clip_vertex s a) (clip_vertex s b) (clip_vertex s c) h) (record { first = one; second = refl; all = one_all s p r one })

pub cut_pieces : (s : State) (mode : ℕ) (a b c : Vertex) (p : Pieces) → 16 ≤ mode
    → ArePieces s (front_pieces (clip_vertex s a) (clip_vertex s b) (clip_vertex s c)) p → ArePieces s (vertex_pieces s mode a b c) p
cut_pieces s mode a b c p h w = rw (cut_parts mode (clip_vertex s a) (clip_vertex s b) (clip_vertex s c) h) w

pub all_kept : (s : State) (mode : ℕ) (a b c : Vertex) (p : Pieces) → ArePieces s (vertex_pieces s mode a b c) p → kept_pieces s mode a b c ≡ found p.first ++ found p.second
unfolding kept_pieces
all_kept s mode a b c p w = w.all

-- in a block whose triangles aren't cut, the kept parts are the triangle, where it is kept
pub whole_kept : (s : State) (mode : ℕ) (a b c : Vertex) → mode < 16 → kept_pieces s mode a b c ≡ option_to_list (kept_of s a b c)
unfolding kept_pieces
whole_kept s mode a b c h =
    rw (whole_parts mode (clip_vertex s a) (clip_vertex s b) (clip_vertex s c) h, kept_same s a b c)
    (by (kept_at s (clip_vertex s a ∷ clip_vertex s b ∷ clip_vertex s c ∷ [])))
  where
    by : (o : Option (List WindowVertex)) → cons_option o [] ≡ option_to_list o
    by None = refl
    by (Some v) = refl

-- where all three vertices stand in front, the kept piece is the triangle, where it is kept, in a block of any mode
front_is : (s : State) (a b c : Vertex) → stands_in_front s a ≡ true → stands_in_front s b ≡ true → stands_in_front s c ≡ true
    → front_pieces (clip_vertex s a) (clip_vertex s b) (clip_vertex s c) ≡ (clip_vertex s a ∷ clip_vertex s b ∷ clip_vertex s c ∷ []) ∷ []
unfolding front_pieces stands_in_front
front_is s a b c p q r =
    let f = and_parts (is_cuttable (clip_vertex s a)) (is_in_front (clip_vertex s a)) p in
    let g = and_parts (is_cuttable (clip_vertex s b)) (is_in_front (clip_vertex s b)) q in
    let h = and_parts (is_cuttable (clip_vertex s c)) (is_in_front (clip_vertex s c)) r in
    rw (f.0, g.0, h.0) (front_all (clip_vertex s a) (clip_vertex s b) (clip_vertex s c) f.1 g.1 h.1)

front_piece : (s : State) (mode : ℕ) (a b c : Vertex) → stands_in_front s a ≡ true → stands_in_front s b ≡ true → stands_in_front s c ≡ true
    → vertex_pieces s mode a b c ≡ (clip_vertex s a ∷ clip_vertex s b ∷ clip_vertex s c ∷ []) ∷ []
unfolding pieces_of
front_piece s mode a b c p q r = rw (front_is s a b c p q r) (if_same (nat_lt mode 16) ((clip_vertex s a ∷ clip_vertex s b ∷ clip_vertex s c ∷ []) ∷ []))

pub front_kept : (s : State) (mode : ℕ) (a b c : Vertex) → stands_in_front s a ≡ true → stands_in_front s b ≡ true → stands_in_front s c ≡ true → kept_pieces s mode a b c ≡ option_to_list (kept_of s a b c)
unfolding kept_pieces
front_kept s mode a b c p q r =
    rw (front_piece s mode a b c p q r, kept_same s a b c) (by (kept_at s (clip_vertex s a ∷ clip_vertex s b ∷ clip_vertex s c ∷ [])))
  where
    by : (o : Option (List WindowVertex)) → cons_option o [] ≡ option_to_list o
    by None = refl
    by (Some v) = refl
