-- Edges that the near plane cuts, by the ways in which vertices can stand to it.
use Rattle.std.proofs.Common.{◌≡◌, ℕ, ◌<◌, List, [], ◌∷◌, Bool, true, false, Some, None, refl, sym, ap, ◌∙◌, subst, inl, inr, pos, ◌<ℤ◌, ◌≤ℤ◌, arith}
use Rattle.std.specs.Prelude.{if◌then◌else◌, IfSome, int_le}
use Rattle.std.proofs.lemmas.Int.{ints}
use Rattle.rc_base.specs.Drawing.Cover.{triangle_area, corner}
use Rattle.rc_base.specs.Numbers.{entry}
use Rattle.rc_base.specs.Drawing.Kept.{three, point, oriented, is_kept_at, kept_at}
use Rattle.rc_base.specs.declared.state.State.{State}
use Rattle.rc_base.specs.declared.window.WindowVertex.{WindowVertex}
use Rattle.rc_base.specs.declared.window.ClipVertex.{ClipVertex}
use Rattle.rc_base.specs.Drawing.Window.{axis_of, window_at}
use Rattle.rc_base.specs.Drawing.Pieces.{near_w, is_in_front, crossing_point, polygon_of, fan_of}
use Rattle.rc_base.proofs.Polygons.{front_all, front_ab, front_ac, front_a, front_bc, front_b, front_c, front_none}
use Rattle.fixed_math.proofs.Signs.{not_below_is}
use Rattle.scene_lemmas.proofs.Triangles.{turned_round}
use Rattle.raster.specs.NearEdges.{SameClipPlace, AreTurned, FrontEdgesAreShared, FrontEdgesAreEdges, DiagonalIsShared, NeighboursShareTheirCut, IsEdgeOf, front_edge, HasEdge}
use Rattle.raster.specs.SharedEdge.{SamePlace, RunOpposite, next_corner}
use Rattle.raster.proofs.SharedEdges.{none_covered_twice_holds}

-- ---- the part of an edge that is in front

front_same : (a b : ClipVertex) → SameClipPlace a b → is_in_front a ≡ is_in_front b
unfolding is_in_front
front_same a b same = λ i. int_le (pos near_w) (same.w i)

crossing_same : (a b a' b' : ClipVertex) → SameClipPlace a a' → SameClipPlace b b' → SameClipPlace (crossing_point a b) (crossing_point a' b')
unfolding crossing_point
crossing_same a b a' b' p q = record {
  x = rw (p.x, q.x, p.w, q.w) refl;
  y = rw (p.y, q.y, p.w, q.w) refl;
  w = refl;
}

pub front_edges_are_shared : FrontEdgesAreShared
front_edges_are_shared a b a' b' p q =
    by (is_in_front a) (is_in_front b) (is_in_front a') (is_in_front b') refl refl refl refl (front_same a a' p) (front_same b b' q)
  where
    by : (f g f' g' : Bool) → is_in_front a ≡ f → is_in_front b ≡ g → is_in_front a' ≡ f' → is_in_front b' ≡ g' → is_in_front a ≡ is_in_front a' → is_in_front b ≡ is_in_front b'
        → AreTurned (front_edge a b) (front_edge b' a')
    by true true true true f g f' g' h k = rw (f, g, f', g') (p, q)
    by true false true false f g f' g' h k = rw (f, g, f', g') (p, crossing_same a b a' b' p q)
    by false true false true f g f' g' h k = rw (f, g, f', g') (crossing_same b a b' a' q p, q)
    by false false false false f g f' g' h k = rw (f, g, f', g') tt
    by true g false g' f eg f' eg' h k = let e : true ≡ false = sym f ∙ h ∙ f' in absurd cc
    by false g true g' f eg f' eg' h k = let e : false ≡ true = sym f ∙ h ∙ f' in absurd cc
    by f true f' false ef g ef' g' h k = let e : true ≡ false = sym g ∙ k ∙ g' in absurd cc
    by f false f' true ef g ef' g' h k = let e : false ≡ true = sym g ∙ k ∙ g' in absurd cc

pub front_edges_are_edges : FrontEdgesAreEdges
front_edges_are_edges a b c = by (is_in_front a) (is_in_front b) (is_in_front c) refl refl refl
  where
    by : (f g h : Bool) → is_in_front a ≡ f → is_in_front b ≡ g → is_in_front c ≡ h
        → IfSome (front_edge a b) (HasEdge (fan_of (polygon_of a b c))) × IfSome (front_edge b c) (HasEdge (fan_of (polygon_of a b c)))
        × IfSome (front_edge c a) (HasEdge (fan_of (polygon_of a b c)))
    by true true true f g h = rw (front_all a b c f g h, f, g, h) (inl (inl (refl, refl)), inl (inr (inl (refl, refl))), inl (inr (inr (refl, refl))))
    by true true false f g h = rw (front_ab a b c f g h, f, g, h) (inl (inl (refl, refl)), inl (inr (inl (refl, refl))), inr (inl (inr (inr (refl, refl)))))
    by true false true f g h = rw (front_ac a b c f g h, f, g, h) (inl (inl (refl, refl)), inr (inl (inr (inl (refl, refl)))), inr (inl (inr (inr (refl, refl)))))
    by true false false f g h = rw (front_a a b c f g h, f, g, h) (inl (inl (refl, refl)), tt, inl (inr (inr (refl, refl))))
    by false true true f g h = rw (front_bc a b c f g h, f, g, h) (inl (inl (refl, refl)), inl (inr (inl (refl, refl))), inr (inl (inr (inl (refl, refl)))))
    by false true false f g h = rw (front_b a b c f g h, f, g, h) (inl (inl (refl, refl)), inl (inr (inl (refl, refl))), tt)
    by false false true f g h = rw (front_c a b c f g h, f, g, h) (tt, inl (inl (refl, refl)), inl (inr (inl (refl, refl))))
    by false false false f g h = rw (front_none a b c f g h, f, g, h) (tt, tt, tt)

-- ---- the diagonal

-- a kept triangle is the oriented one
oriented_is : (s : State) (t : List ClipVertex) (v : List WindowVertex) → kept_at s t ≡ Some v
    → v ≡ oriented (window_at s (point t 0)) (window_at s (point t 1)) (window_at s (point t 2))
unfolding kept_at
oriented_is s t v e = by (is_kept_at s t) e
  where
    by : (k : Bool) → (if k then Some (oriented (window_at s (point t 0)) (window_at s (point t 1)) (window_at s (point t 2))) else None) ≡ Some v
        → v ≡ oriented (window_at s (point t 0)) (window_at s (point t 1)) (window_at s (point t 2))
    by true h = cc
    by false h = absurd cc

as_is : (a b c : WindowVertex) → pos 0 <ℤ triangle_area (three a b c) → oriented a b c ≡ three a b c
unfolding oriented
as_is a b c h = let l : pos 0 ≤ℤ triangle_area (three a b c) = omega (arith, ints, h) in rw (not_below_is (triangle_area (three a b c)) l) refl

pub diagonal_is_shared : DiagonalIsShared
diagonal_is_shared s a b c d v w ev ew =
    let kv = oriented_is s (a ∷ b ∷ c ∷ []) v ev in
    let kw = oriented_is s (a ∷ c ∷ d ∷ []) w ew in (
      λ h k. rw (kv, kw, as_is (window_at s a) (window_at s b) (window_at s c) h, as_is (window_at s a) (window_at s c) (window_at s d) k) ((refl, refl), (refl, refl)),
      λ h k. rw (kv, kw, turned_round (window_at s a) (window_at s b) (window_at s c) h, turned_round (window_at s a) (window_at s c) (window_at s d) k) ((refl, refl), (refl, refl)),
    )

-- ---- two pieces on both sides of an edge

same_in_window : (s : State) (a b : ClipVertex) → SameClipPlace a b → SamePlace (window_at s a) (window_at s b)
unfolding window_at
same_in_window s a b h = (λ i. axis_of (entry s.viewport 0) (entry s.viewport 2) (h.x i) (h.w i), λ i. axis_of (entry s.viewport 1) (entry s.viewport 3) (h.y i) (h.w i))

at_point : (s : State) (a b : ClipVertex) → a ≡ b → SamePlace (window_at s a) (window_at s b)
at_point s a b e = (ap (λ c. (window_at s c).x) e, ap (λ c. (window_at s c).y) e)

same_through : (a b c d : WindowVertex) → SamePlace a b → SamePlace b c → SamePlace d c → SamePlace a d
same_through a b c d h k l = (h.0 ∙ k.0 ∙ sym l.0, h.1 ∙ k.1 ∙ sym l.1)

-- an edge of the triangle runs from the place of a to that of b
abbrev HasRun : List WindowVertex → WindowVertex → WindowVertex → Type 0
HasRun v a b = (i : ℕ) × (i < 3) × SamePlace (corner v i) a × SamePlace (corner v (next_corner i)) b

runs_along : (s : State) (t : List ClipVertex) (p q : ClipVertex) → IsEdgeOf t p q
    → HasRun (three (window_at s (point t 0)) (window_at s (point t 1)) (window_at s (point t 2))) (window_at s p) (window_at s q)
runs_along s t p q (inl h) = (0, omega arith, at_point s (point t 0) p h.0, at_point s (point t 1) q h.1)
runs_along s t p q (inr (inl h)) = (1, omega arith, at_point s (point t 1) p h.0, at_point s (point t 2) q h.1)
runs_along s t p q (inr (inr h)) = (2, omega arith, at_point s (point t 2) p h.0, at_point s (point t 0) q h.1)

runs_back : (s : State) (t : List ClipVertex) (p q : ClipVertex) → IsEdgeOf t p q
    → HasRun (three (window_at s (point t 0)) (window_at s (point t 2)) (window_at s (point t 1))) (window_at s q) (window_at s p)
runs_back s t p q (inl h) = (2, omega arith, at_point s (point t 1) q h.1, at_point s (point t 0) p h.0)
runs_back s t p q (inr (inl h)) = (1, omega arith, at_point s (point t 2) q h.1, at_point s (point t 1) p h.0)
runs_back s t p q (inr (inr h)) = (0, omega arith, at_point s (point t 0) q h.1, at_point s (point t 2) p h.0)

opposite : (v w : List WindowVertex) (a b c d : WindowVertex) → HasRun v a b → HasRun w c d → SamePlace a d → SamePlace b c → (i : ℕ) × (j : ℕ) × (i < 3) × (j < 3) × RunOpposite v i w j
opposite v w a b c d h k ad bc =
    (h.0, k.0, h.1, k.1, (same_through (corner v h.0) a d (corner w (next_corner k.0)) h.2 ad k.3, same_through (corner v (next_corner h.0)) b c (corner w k.0) h.3 bc k.2))

pub neighbours_share_their_cut : NeighboursShareTheirCut
neighbours_share_their_cut s a b a' b' e f t u v w aa bb he hf et fu kt ku alike =
    let turned = subst (λ o. AreTurned o (Some f)) he (subst (λ o. AreTurned (front_edge a b) o) hf (front_edges_are_shared a b a' b' aa bb)) in
    let first = same_in_window s e.0 f.1 turned.0 in
    let last = same_in_window s e.1 f.0 turned.1 in
    let kv = oriented_is s t v kt in
    let kw = oriented_is s u w ku in
    let r : (i : ℕ) × (j : ℕ) × (i < 3) × (j < 3) × RunOpposite v i w j = elim alike [
      | inl h ↦
          opposite v w (window_at s e.0) (window_at s e.1) (window_at s f.0) (window_at s f.1)
          (subst (λ x. HasRun x (window_at s e.0) (window_at s e.1)) (sym (kv ∙ as_is (window_at s (point t 0)) (window_at s (point t 1)) (window_at s (point t 2)) h.0)) (runs_along s t e.0 e.1 et))
          (subst (λ x. HasRun x (window_at s f.0) (window_at s f.1)) (sym (kw ∙ as_is (window_at s (point u 0)) (window_at s (point u 1)) (window_at s (point u 2)) h.1)) (runs_along s u f.0 f.1 fu))
          first last
      | inr h ↦
          opposite v w (window_at s e.1) (window_at s e.0) (window_at s f.1) (window_at s f.0)
          (subst (λ x. HasRun x (window_at s e.1) (window_at s e.0)) (sym (kv ∙ turned_round (window_at s (point t 0)) (window_at s (point t 1)) (window_at s (point t 2)) h.0)) (runs_back s t e.0 e.1 et))
          (subst (λ x. HasRun x (window_at s f.1) (window_at s f.0)) (sym (kw ∙ turned_round (window_at s (point u 0)) (window_at s (point u 1)) (window_at s (point u 2)) h.1)) (runs_back s u f.0 f.1 fu))
          last first
    ] in
    (r, λ x y. (none_covered_twice_holds v w r.0 r.1 x y r.2 r.3 r.4).1 s s)
