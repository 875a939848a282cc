-- The pixels that a block of version 2 touches lie in its box.
use Rattle.std.proofs.Common.{◌≡◌, ◌∙◌, ℕ, ◌≤◌, ℤ, pos, ◌+ℤ◌, ◌≤ℤ◌, ◌<ℤ◌, Bool, true, false, ◌&&◌, List, [], ◌∷◌, Option, Some, None, length, refl, sym, subst, arith, inl, inr}
use Rattle.std.specs.Prelude.{◌||◌, nat_lt, option_to_list, slice_index}
use Rattle.std.specs.Int.{int_min, int_max}
use Rattle.std.specs.List.{AllByRecursion, list_any, flat_map}
use Rattle.std.proofs.lemmas.Int.{ints, int_min_is, int_max_is}
use Rattle.std.proofs.lemmas.Bool.{and_parts, cases_Bool}
use Rattle.std.proofs.lemmas.Bool.Decides.{nat_tests}
use Rattle.std.proofs.lemmas.List.Folds.{list_any-append}
use Rattle.rc_base.specs.Numbers.{entry}
use Rattle.rc_base.specs.Intervals.{Encloses, EncloseEach, interval_at}
use Rattle.rc_base.specs.Drawing.Cover.{triangle_area, is_inside, covers, centre, is_in_area, is_in_scissor}
use Rattle.rc_base.specs.Drawing.Kept.{three, kept_of, vertex_at}
use Rattle.rc_base.specs.Drawing.Pieces.{near_w, is_cuttable, is_in_front, front_pieces, pieces_of, kept_pieces, kept_corners_of}
use Rattle.rc_base.specs.Drawing.Touch.{block_touches}
use Rattle.rc_base.specs.Drawing.Triangles.{cut_modes, triangles_in}
use Rattle.rc_base.specs.Drawing.Window.{clip_of, clip_vertex, window_at, window_of}
use Rattle.rc_base.specs.Cluster.ObjectBox.{block_corners, bounding_box, clip_over, axis_over, is_enclosed, may_be_near, is_amid_places, is_in_reach, block_clip, is_in_object_box}
use Rattle.rc_base.specs.declared.interval.Interval.{Interval}
use Rattle.rc_base.specs.declared.state.Block.{Block}
use Rattle.rc_base.specs.declared.state.State.{State}
use Rattle.rc_base.specs.declared.state.Vertex.{Vertex}
use Rattle.rc_base.specs.declared.window.WindowVertex.{WindowVertex}
use Rattle.raster.specs.Between.{CoverLiesInBounds}
use Rattle.geometry.specs.Placed.{stands_in_front}
use Rattle.geometry.proofs.Oriented.{kept}
use Rattle.geometry.proofs.PiecesKept.{front_kept}
use Rattle.plain_lemmas.proofs.Numbers.{int_le_true, from_int_le, from_int_lt, from_int_lt_false}
use Rattle.bounds_bucket.proofs.Corners.{IsPlacedIn, positions_held, clip_in}
use Rattle.bounds_bucket.proofs.Places.{axis_in}

-- a number between three that lie in an interval lies there
amid : (i : Interval) (a b c p : ℤ) → Encloses i a → Encloses i b → Encloses i c → int_min (int_min a b) c ≤ℤ p → p ≤ℤ int_max (int_max a b) c → is_enclosed i p ≡ true
amid i a b c p x y z h k =
    let al = x.low in let ah = x.high in let bl = y.low in let bh = y.high in let cl = z.low in let ch = z.high in
    let low : i.lo ≤ℤ p = omega (arith, ints, int_min_is (int_min a b) c, int_min_is a b) in
    let high : p ≤ℤ i.hi = omega (arith, ints, int_max_is (int_max a b) c, int_max_is a b) in
    rw (int_le_true i.lo p low, int_le_true p i.hi high) refl

-- the viewport has columns and rows where it has a pixel
sizes : (area : List ℤ) (x y : ℤ) → is_in_area area x y ≡ true → (pos 0 ≤ℤ entry area 2) × (pos 0 ≤ℤ entry area 3)
sizes area x y h =
    let p = and_parts _ _ h in
    let c = and_parts _ _ p.0 in
    let r = and_parts _ _ p.1 in
    let a = from_int_le (entry area 0) x c.0 in
    let b = from_int_lt x (entry area 0 +ℤ entry area 2) c.1 in
    let d = from_int_le (entry area 1) y r.0 in
    let e = from_int_lt y (entry area 1 +ℤ entry area 3) r.1 in
    (omega (arith, ints), omega (arith, ints))

-- ---- a covered pixel

-- what covers a pixel has it in the viewport and the scissor box
area_of : (s : State) (vs : List (List WindowVertex)) (x y : ℤ) → list_any (λ v. covers s v x y) vs ≡ true → is_in_area s.viewport x y && is_in_scissor s x y ≡ true
unfolding covers
area_of s [] x y h = absurd cc
area_of s (v ∷ vs) x y h =
    elim (cases_Bool (covers s v x y)) [
      | inl t ↦ (and_parts (is_inside v x y) (is_in_area s.viewport x y && is_in_scissor s x y) t).1
      | inr f ↦ area_of s vs x y (rw f at h)
    ]

inside_of : (s : State) (v : List WindowVertex) (x y : ℤ) → covers s v x y ≡ true → is_inside v x y ≡ true
unfolding covers
inside_of s v x y h = (and_parts (is_inside v x y) (is_in_area s.viewport x y && is_in_scissor s x y) h).0

-- the places of three corners lie in two intervals
record ArePlacedIn (i j : Interval) (a b c : WindowVertex) : Type 0 where
  ax : Encloses i a.x
  bx : Encloses i b.x
  cx : Encloses i c.x
  ay : Encloses j a.y
  by' : Encloses j b.y
  cy : Encloses j c.y

-- the centre of a pixel that three corners cover lies in the intervals of their places
centre_in : CoverLiesInBounds → (s : State) (i j : Interval) (a b c : WindowVertex) (x y : ℤ) → ArePlacedIn i j a b c → pos 0 <ℤ triangle_area (three a b c)
    → covers s (three a b c) x y ≡ true → is_enclosed i (centre x) && is_enclosed j (centre y) ≡ true
centre_in bounds s i j a b c x y h area k =
    let w = bounds (three a b c) x y area (inside_of s (three a b c) x y k) in
    rw (amid i a.x b.x c.x (centre x) h.ax h.bx h.cx w.0.0 w.0.1) (amid j a.y b.y c.y (centre y) h.ay h.by' h.cy w.1.0 w.1.1)

exchanged : (i j : Interval) (a b c : WindowVertex) → ArePlacedIn i j a b c → ArePlacedIn i j a c b
exchanged i j a b c h = record { ax = h.ax; bx = h.cx; cx = h.bx; ay = h.ay; by' = h.cy; cy = h.by' }

-- ---- a vertex in front

abbrev across : State → List Interval → Interval
across s d = axis_over (entry s.viewport 0) (entry s.viewport 2) (interval_at d 0) (interval_at d 3)

abbrev up : State → List Interval → Interval
up s d = axis_over (entry s.viewport 1) (entry s.viewport 3) (interval_at d 1) (interval_at d 3)

record IsVertexIn (s : State) (d : List Interval) (v : Vertex) : Type 0 where
  front : pos near_w ≤ℤ entry (clip_of s v) 3
  across : Encloses (across s d) (window_of s v).x
  up : Encloses (up s d) (window_of s v).y

vertex_in : (s : State) (d : List Interval) (v : Vertex) → pos 0 ≤ℤ entry s.viewport 2 → pos 0 ≤ℤ entry s.viewport 3 → may_be_near d ≡ false → EncloseEach d (clip_of s v) → IsVertexIn s d v
unfolding window_of window_at
vertex_in s d v wide high far h =
    let n : pos near_w ≤ℤ (interval_at d 3).lo = from_int_lt_false (interval_at d 3).lo (pos near_w) far in
    let l = h.fourth.low in
    let above : pos 0 <ℤ (interval_at d 3).lo = omega (arith, ints, n) in
    record {
      front = omega (arith, ints, n, l);
      across = axis_in (entry s.viewport 0) (entry s.viewport 2) (interval_at d 0) (interval_at d 3) (entry (clip_of s v) 0) (entry (clip_of s v) 3) wide above h.first h.fourth;
      up = axis_in (entry s.viewport 1) (entry s.viewport 3) (interval_at d 1) (interval_at d 3) (entry (clip_of s v) 1) (entry (clip_of s v) 3) high above h.second h.fourth;
    }

-- ---- a triangle whose vertices all stand in front: it is its own one piece, or it is dropped

late : (m : ℕ) → cut_modes ≤ m → nat_lt m cut_modes ≡ false
late m h = grind (arith, nat_tests)

too_large : (s : State) (mode : ℕ) (a b c : Vertex) → cut_modes ≤ mode
    → is_cuttable (clip_vertex s a) && (is_cuttable (clip_vertex s b) && is_cuttable (clip_vertex s c)) ≡ false → kept_pieces s mode a b c ≡ []
unfolding kept_pieces pieces_of front_pieces
too_large s mode a b c m h = rw (late mode m, h) refl

front_is : (s : State) (v : Vertex) → pos near_w ≤ℤ entry (clip_of s v) 3 → is_in_front (clip_vertex s v) ≡ true
unfolding is_in_front
front_is s v h = int_le_true (pos near_w) (entry (clip_of s v) 3) h

stands : (s : State) (v : Vertex) → is_cuttable (clip_vertex s v) ≡ true → pos near_w ≤ℤ entry (clip_of s v) 3 → stands_in_front s v ≡ true
unfolding stands_in_front
stands s v e h = rw (e, front_is s v h) refl

or_none : (b : Bool) → (b || false) ≡ true → b ≡ true
or_none true h = refl
or_none false h = h

-- a pixel's centre lies in two intervals
abbrev IsCentred : Interval → Interval → ℤ → ℤ → Type 0
IsCentred i j x y = is_enclosed i (centre x) && is_enclosed j (centre y) ≡ true

whole_in : CoverLiesInBounds → (s : State) (i j : Interval) (a b c : Vertex) (x y : ℤ) → ArePlacedIn i j (window_of s a) (window_of s b) (window_of s c)
    → (o : Option (List WindowVertex)) → kept_of s a b c ≡ o → list_any (λ v. covers s v x y) (option_to_list o) ≡ true → IsCentred i j x y
whole_in bounds s i j a b c x y h None e k = absurd cc
whole_in bounds s i j a b c x y h (Some v) e k =
    kept (λ (u : List WindowVertex). covers s u x y ≡ true → IsCentred i j x y) s a b c v e
    (centre_in bounds s i j (window_of s a) (window_of s b) (window_of s c) x y h)
    (centre_in bounds s i j (window_of s a) (window_of s c) (window_of s b) x y (exchanged i j (window_of s a) (window_of s b) (window_of s c) h))
    (or_none (covers s v x y) k)

piece_in : CoverLiesInBounds → (s : State) (d : List Interval) (mode : ℕ) (a b c : Vertex) (x y : ℤ) → cut_modes ≤ mode
    → EncloseEach d (clip_of s a) → EncloseEach d (clip_of s b) → EncloseEach d (clip_of s c)
    → may_be_near d ≡ false → list_any (λ v. covers s v x y) (kept_pieces s mode a b c) ≡ true → is_amid_places s d x y ≡ true
unfolding is_amid_places
piece_in bounds s d mode a b c x y m ha hb hc far h =
    let area = area_of s (kept_pieces s mode a b c) x y h in
    let size = sizes s.viewport x y (and_parts _ _ area).0 in
    let p = vertex_in s d a size.0 size.1 far ha in
    let q = vertex_in s d b size.0 size.1 far hb in
    let r = vertex_in s d c size.0 size.1 far hc in
    elim (cases_Bool (is_cuttable (clip_vertex s a) && (is_cuttable (clip_vertex s b) && is_cuttable (clip_vertex s c)))) [
      | inl small ↦
          let first = and_parts (is_cuttable (clip_vertex s a)) (is_cuttable (clip_vertex s b) && is_cuttable (clip_vertex s c)) small in
          let rest = and_parts (is_cuttable (clip_vertex s b)) (is_cuttable (clip_vertex s c)) first.1 in
          let whole = front_kept s mode a b c (stands s a first.0 p.front) (stands s b rest.0 q.front) (stands s c rest.1 r.front) in
          whole_in bounds s (across s d) (up s d) a b c x y
          (record { ax = p.across; bx = q.across; cx = r.across; ay = p.up; by' = q.up; cy = r.up }) (kept_of s a b c) refl
          (subst (λ (vs : List (List WindowVertex)). list_any (λ v. covers s v x y) vs ≡ true) whole h)
      | inr large ↦
          let none : list_any (λ v. covers s v x y) [] ≡ true = subst (λ (vs : List (List WindowVertex)). list_any (λ v. covers s v x y) vs ≡ true) (too_large s mode a b c m large) h in
          absurd cc
    ]

-- ---- a block

-- what a pixel in a box has, but for the triangle
abbrev IsReached : State → List Interval → ℤ → ℤ → Type 0
IsReached s d x y = (is_in_reach s d x y && (is_in_area s.viewport x y && is_in_scissor s x y)) ≡ true

triangle_in : CoverLiesInBounds → (s : State) (d : List Interval) (mode : ℕ) (a b c : Vertex) (x y : ℤ) → cut_modes ≤ mode
    → EncloseEach d (clip_of s a) → EncloseEach d (clip_of s b) → EncloseEach d (clip_of s c)
    → list_any (λ v. covers s v x y) (kept_pieces s mode a b c) ≡ true → IsReached s d x y
triangle_in bounds s d mode a b c x y m ha hb hc h =
    let area = area_of s (kept_pieces s mode a b c) x y h in
    elim (cases_Bool (may_be_near d)) [
      | inl t ↦ rw t area
      | inr f ↦ rw (f, piece_in bounds s d mode a b c x y m ha hb hc f h) area
    ]

corners_by : List Vertex → List ℕ → List Vertex
corners_by vs t = vertex_at vs (slice_index t 0) ∷ vertex_at vs (slice_index t 1) ∷ vertex_at vs (slice_index t 2) ∷ []

triangles_reach : CoverLiesInBounds → (s : State) (d : List Interval) (block : Block) (x y : ℤ) (ts : List (List ℕ)) → cut_modes ≤ block.mode
    → AllByRecursion (λ v. EncloseEach d (clip_of s v)) (flat_map (corners_by block.vertices) ts)
    → list_any (λ v. covers s v x y) (flat_map (kept_corners_of s block) ts) ≡ true → IsReached s d x y
unfolding corners_by
triangles_reach bounds s d block x y [] m h k = absurd cc
triangles_reach bounds s d block x y (t ∷ ts) m h k =
    let vs = block.vertices in
    let here = kept_corners_of s block t in
    let more = flat_map (kept_corners_of s block) ts in
    let both : (list_any (λ v. covers s v x y) here || list_any (λ v. covers s v x y) more) ≡ true = sym (list_any-append (λ v. covers s v x y) here more) ∙ k in
    elim (cases_Bool (list_any (λ v. covers s v x y) (kept_corners_of s block t))) [
      | inl yes' ↦
          triangle_in bounds s d block.mode (vertex_at vs (slice_index t 0)) (vertex_at vs (slice_index t 1)) (vertex_at vs (slice_index t 2)) x y m h.0 h.1.0 h.1.1.0 yes'
      | inr no' ↦ triangles_reach bounds s d block x y ts m h.1.1.1 (rw no' at both)
    ]

some_triangle : (test : List WindowVertex → Bool) (f : List ℕ → List (List WindowVertex)) (ts : List (List ℕ)) → list_any test (flat_map f ts) ≡ true → nat_lt 0 (length ts) ≡ true
some_triangle test f [] h = absurd cc
some_triangle test f (t ∷ ts) h = grind (arith, nat_tests)

clips : (s : State) (b : List Interval) (vs : List Vertex) → AllByRecursion (IsPlacedIn b) vs → AllByRecursion (λ v. EncloseEach (clip_over s b) (clip_of s v)) vs
clips s b [] h = tt
clips s b (v ∷ vs) h = (clip_in s b v h.0, clips s b vs h.1)

pub touched_in : CoverLiesInBounds → (s : State) (block : Block) (x y : ℤ) → cut_modes ≤ block.mode → block_touches s block x y ≡ true → is_in_object_box s block x y ≡ true
unfolding is_in_object_box corners_by
touched_in bounds s block x y m h =
    let held = clips s (bounding_box (block_corners block)) (block_corners block) (positions_held (block_corners block)) in
    rw (some_triangle (λ v. covers s v x y) (kept_corners_of s block) (triangles_in block) h)
    (triangles_reach bounds s (block_clip s block) block x y (triangles_in block) m held h)
