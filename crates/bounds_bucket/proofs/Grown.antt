-- What corners span, if there are any, with the corners of one triangle more.
use Rattle.std.proofs.Common.{◌≡◌, inl, inr, ℕ, ◌<◌, ℤ, pos, neg_ℤ, ◌-ℤ◌, ◌*ℤ◌, ◌≤ℤ◌, subst, Bool, true, false, List, [], ◌∷◌, ◌++◌, map, Some, None, refl, sym, ap, ◌∙◌, arith, append_assoc, slice_index}
use Rattle.std.specs.Prelude.{if◌then◌else◌, option_to_list, int_lt}
use Rattle.std.specs.declared.option.Option.{Option}
use Rattle.std.specs.Int.{int_min, int_max}
use Rattle.std.specs.List.{flat_map}
use Rattle.std.proofs.lemmas.Int.{ints, int_min_is, int_max_is}
use Rattle.std.proofs.lemmas.Bool.{cases_Bool}
use Rattle.std.proofs.lemmas.List.{append-nil, map-append}
use Rattle.std.proofs.lemmas.Grind.{flat_map-append}
use Rattle.rc_base.specs.Lists.{IsIn}
use Rattle.rc_base.specs.Cluster.Tiles.{corners_in}
use Rattle.rc_base.specs.Drawing.Cover.{triangle_area}
use Rattle.rc_base.specs.Drawing.Kept.{three, is_shown, oriented, is_kept_at, kept_at, kept_of, vertex_at}
use Rattle.rc_base.specs.Drawing.Pieces.{kept_corners_of}
use Rattle.rc_base.specs.Drawing.Window.{is_placed, window_of}
use Rattle.rc_base.specs.declared.state.Block.{Block}
use Rattle.rc_base.specs.declared.state.State.{State}
use Rattle.rc_base.specs.declared.state.Vertex.{Vertex}
use Rattle.rc_base.specs.declared.window.WindowVertex.{WindowVertex}
use Rattle.geometry.proofs.PiecesKept.{whole_kept}
use Rattle.bounds_bucket.specs.Extents.{IsHull, Spans, corners_from}
use Rattle.bounds_bucket.specs.Still.{AreWithThree, IsHullIfAny, IsWithThree, SpansIfAny, StandsAt}
use Rattle.bounds_bucket.specs.declared.extent.Ends.{Ends}
use Rattle.bounds_bucket.specs.declared.extent.Extent.{Extent}
use Rattle.bounds_bucket.proofs.EndsOfCorners.{are_ends, are_both, in_left, in_right, in_either}

-- ---- three numbers more

pub with_three : (before after : Ends) (a b c : ℤ) → neg_ℤ (pos 2147483648) ≤ℤ a → a ≤ℤ pos 2147483647
    → after.least ≡ int_min before.least (int_min (int_min a b) c) → after.greatest ≡ int_max before.greatest (int_max (int_max a b) c) → AreWithThree before a b c after
with_three before after a b c low high l g zs (inl none) =
    let k = int_min_is a b in
    let m = int_min_is (int_min a b) c in
    let n = int_min_is before.least (int_min (int_min a b) c) in
    let o = int_max_is a b in
    let p = int_max_is (int_max a b) c in
    let q = int_max_is before.greatest (int_max (int_max a b) c) in
    let x = none.1.least in
    let y = none.1.greatest in
    let ends : IsHull after (a ∷ b ∷ c ∷ []) = are_ends after a b c (omega (arith, ints, low, high, l, k, m, n, x)) (omega (arith, ints, low, high, g, o, p, q, y)) in
    subst (λ (ys : List ℤ). IsHull after (ys ++ a ∷ b ∷ c ∷ [])) (sym none.0) ends
with_three before after a b c low high l g zs (inr hull) =
    let more : Ends = record { least = int_min (int_min a b) c; greatest = int_max (int_max a b) c } in
    let three : IsHull (record { least = int_min (int_min a b) c; greatest = int_max (int_max a b) c }) (a ∷ b ∷ c ∷ []) = are_ends more a b c refl refl in
    are_both before more after (twice before.least (int_min (int_min a b) c) after.least l) (twice_over before.greatest (int_max (int_max a b) c) after.greatest g) zs (a ∷ b ∷ c ∷ []) hull three
  where
    twice : (x y z : ℤ) → z ≡ int_min x y → z ≡ int_min (int_min x x) y
    twice x y z h = let i = int_min_is x x in let j = int_min_is (int_min x x) y in let k = int_min_is x y in omega (arith, ints, h, i, j, k)

    twice_over : (x y z : ℤ) → z ≡ int_max x y → z ≡ int_max (int_max x x) y
    twice_over x y z h = let i = int_max_is x x in let j = int_max_is (int_max x x) y in let k = int_max_is x y in omega (arith, ints, h, i, j, k)

exchanged : (z a b c : ℤ) → IsIn z (a ∷ b ∷ c ∷ []) → IsIn z (a ∷ c ∷ b ∷ [])
exchanged z a b c (inl first) = inl first
exchanged z a b c (inr (inl second)) = inr (inr (inl second))
exchanged z a b c (inr (inr (inl third))) = inr (inl third)
exchanged z a b c (inr (inr (inr none))) = absurd none

turned : (e : Ends) (zs : List ℤ) (a b c : ℤ) → IsHull e (zs ++ a ∷ b ∷ c ∷ []) → IsHull e (zs ++ a ∷ c ∷ b ∷ [])
turned e zs a b c h = record {
  encloses = λ z is. h.encloses z (by z a c b is);
  least = by e.least a b c h.least;
  greatest = by e.greatest a b c h.greatest;
}
  where
    by : (z a b c : ℤ) → IsIn z (zs ++ a ∷ b ∷ c ∷ []) → IsIn z (zs ++ a ∷ c ∷ b ∷ [])
    by z a b c is = elim (in_either z zs (a ∷ b ∷ c ∷ []) is) [
      | inl left ↦ in_left z zs (a ∷ c ∷ b ∷ []) left
      | inr right ↦ in_right z zs (a ∷ c ∷ b ∷ []) (exchanged z a b c right)
    ]

-- ---- a kept triangle's corners

with_kept : (f : WindowVertex → ℤ) (before after : Ends) (corners : List WindowVertex) (a b c : WindowVertex) (t : Bool)
    → AreWithThree before (f a) (f b) (f c) after → IsHullIfAny before (map f corners) → IsHull after (map f (corners ++ corners_in ((if t then three a c b else three a b c) ∷ [])))
with_kept f before after corners a b c true h k = subst (IsHull after) (sym (map-append f corners (a ∷ c ∷ b ∷ []))) (turned after (map f corners) (f a) (f b) (f c) (h (map f corners) k))
with_kept f before after corners a b c false h k = subst (IsHull after) (sym (map-append f corners (a ∷ b ∷ c ∷ []))) (h (map f corners) k)

-- three vertices that stand in the window at these places
pub record StandAt (s : State) (a b c : Vertex) (p q r : WindowVertex) : Type 0 where
  pub first : StandsAt s a p
  pub second : StandsAt s b q
  pub third : StandsAt s c r

kept_is : (s : State) (a b c : Vertex) → is_placed s a ≡ true → is_placed s b ≡ true → is_placed s c ≡ true
    → kept_of s a b c ≡ (if is_shown s (triangle_area (three (window_of s a) (window_of s b) (window_of s c))) then Some (oriented (window_of s a) (window_of s b) (window_of s c)) else None)
unfolding kept_of kept_at is_kept_at is_placed window_of
kept_is s a b c h k l = rw (h, k, l) refl

same_area : (s : State) (a b c : Vertex) (p q r : WindowVertex) → StandAt s a b c p q r
    → triangle_area (three p q r) ≡ triangle_area (three (window_of s a) (window_of s b) (window_of s c))
same_area s a b c p q r h = λ i.
    (h.second.x i -ℤ h.first.x i) *ℤ (h.third.y i -ℤ h.first.y i) -ℤ (h.second.y i -ℤ h.first.y i) *ℤ (h.third.x i -ℤ h.first.x i)

-- what a function gives that adds the corners of a triangle where it is shown
pub record IsGrownBy (s : State) (before : Extent) (p q r : WindowVertex) (after : Extent) : Type 0 where
  pub grown : is_shown s (triangle_area (three p q r)) ≡ true → IsWithThree before p q r after
  pub same : is_shown s (triangle_area (three p q r)) ≡ false → after ≡ before

grown_kept : (s : State) (a b c : Vertex) (p q r : WindowVertex) (before after : Extent) → StandAt s a b c p q r → IsGrownBy s before p q r after
    → (corners : List WindowVertex) → SpansIfAny corners before → SpansIfAny (corners ++ corners_in (option_to_list (kept_of s a b c))) after
unfolding oriented
grown_kept s a b c p q r before after h g corners k =
    let wa = window_of s a in
    let wb = window_of s b in
    let wc = window_of s c in
    let area = same_area s a b c p q r h in
    let kept = kept_is s a b c h.first.placed h.second.placed h.third.placed in
    elim (cases_Bool (is_shown s (triangle_area (three p q r)))) [
      | inl yes' ↦
          let e : kept_of s a b c ≡ Some (oriented (window_of s a) (window_of s b) (window_of s c)) =
          kept ∙ ap (λ (t : Bool). if t then Some (oriented (window_of s a) (window_of s b) (window_of s c)) else None) (ap (is_shown s) (sym area) ∙ yes') in
          let w = g.grown yes' in
          let x : AreWithThree before.across wa.x wb.x wc.x after.across = subst3 before.across after.across p.x q.x r.x wa.x wb.x wc.x h.first.x h.second.x h.third.x w.across in
          let y : AreWithThree before.up wa.y wb.y wc.y after.up = subst3 before.up after.up p.y q.y r.y wa.y wb.y wc.y h.first.y h.second.y h.third.y w.up in
          let t = int_lt (triangle_area (three wa wb wc)) (pos 0) in
          subst (λ (o : Option (List WindowVertex)). SpansIfAny (corners ++ corners_in (option_to_list o)) after) (sym e)
          (record {
            across = inr (with_kept (λ (v : WindowVertex). v.x) before.across after.across corners wa wb wc t x k.across);
            up = inr (with_kept (λ (v : WindowVertex). v.y) before.up after.up corners wa wb wc t y k.up);
          })
      | inr no' ↦
          let e : kept_of s a b c ≡ None =
          kept ∙ ap (λ (t : Bool). if t then Some (oriented (window_of s a) (window_of s b) (window_of s c)) else None) (ap (is_shown s) (sym area) ∙ no') in
          subst (λ (o : Option (List WindowVertex)). SpansIfAny (corners ++ corners_in (option_to_list o)) after) (sym e)
          (subst (λ (us : List WindowVertex). SpansIfAny us after) (sym (append-nil corners)) (subst (SpansIfAny corners) (sym (g.same no')) k))
    ]
  where
    subst3 : (before after : Ends) (a b c d e f : ℤ) → a ≡ d → b ≡ e → c ≡ f → AreWithThree before a b c after → AreWithThree before d e f after
    subst3 before after a b c d e f i j k h zs l = subst (λ (ys : List ℤ). IsHull after (zs ++ ys)) (λ n. i n ∷ j n ∷ k n ∷ []) (h zs l)

-- ---- the triples of a block, one after the other

-- some of all corners were spanned, and the others are those of the triples that are left
pub record FrontSpanned (all others : List WindowVertex) (e : Extent) : Type 0 where
  pub front : List WindowVertex
  pub spanned : SpansIfAny front e
  pub parts : front ++ others ≡ all

pub none_spanned : (all : List WindowVertex) (e : Extent) → SpansIfAny [] e → FrontSpanned all all e
none_spanned all e h = record { front = []; spanned = h; parts = refl }

pub one_spanned : (s : State) (block : Block) (t : List ℕ) (rest more : List (List ℕ)) (all : List WindowVertex) (p q r : WindowVertex) (before after : Extent)
    → block.mode < 16 → rest ≡ t ∷ more → FrontSpanned all (corners_from s block rest) before
    → StandAt s (vertex_at block.vertices (slice_index t 0)) (vertex_at block.vertices (slice_index t 1)) (vertex_at block.vertices (slice_index t 2)) p q r
    → IsGrownBy s before p q r after → FrontSpanned all (corners_from s block more) after
one_spanned s block t rest more all p q r before after m e h stand g =
    let a = vertex_at block.vertices (slice_index t 0) in
    let b = vertex_at block.vertices (slice_index t 1) in
    let c = vertex_at block.vertices (slice_index t 2) in
    let whole : kept_corners_of s block t ≡ option_to_list (kept_of s a b c) = whole_kept s block.mode a b c m in
    let corners = corners_in (kept_corners_of s block t) in
    let left : corners_from s block rest ≡ corners ++ corners_from s block more =
    ap (corners_from s block) e ∙ flat_map-append (λ (v : List WindowVertex). v) (kept_corners_of s block t) (flat_map (kept_corners_of s block) more) in
    record {
      front = h.front ++ corners;
      spanned = subst (λ (us : List (List WindowVertex)). SpansIfAny (h.front ++ corners_in us) after) (sym whole) (grown_kept s a b c p q r before after stand g h.front h.spanned);
      parts = append_assoc h.front corners (corners_from s block more) ∙ ap (λ (us : List WindowVertex). h.front ++ us) (sym left) ∙ h.parts;
    }

pub all_spanned : (s : State) (block : Block) (rest : List (List ℕ)) (all : List WindowVertex) (e : Extent)
    → rest ≡ [] → FrontSpanned all (corners_from s block rest) e → SpansIfAny all e
all_spanned s block rest all e none h =
    let left : corners_from s block rest ≡ [] = ap (corners_from s block) none in
    subst (λ (us : List WindowVertex). SpansIfAny us e) (sym (append-nil h.front) ∙ ap (λ (us : List WindowVertex). h.front ++ us) (sym left) ∙ h.parts) h.spanned

-- ---- an extent, if there is one

no_numbers : (f : WindowVertex → ℤ) (corners : List WindowVertex) → map f corners ≡ [] → corners ≡ []
no_numbers f [] h = refl
no_numbers f (v ∷ vs) h = absurd cc

ordered : (e : Ends) (zs : List ℤ) → IsHull e zs → e.least ≤ℤ e.greatest
ordered e zs h = (h.encloses e.greatest h.greatest).0

pub spans_none : (corners : List WindowVertex) (e : Extent) → (e.across.least ≤ℤ e.across.greatest → ⊥) → SpansIfAny corners e → Spans corners None
spans_none corners e apart h =
    elim h.across [
      | inl none ↦ no_numbers (λ (v : WindowVertex). v.x) corners none.0
      | inr hull ↦ absurd (apart (ordered e.across (map (λ (v : WindowVertex). v.x) corners) hull))
    ]

pub spans_some : (corners : List WindowVertex) (e : Extent) → e.across.least ≤ℤ e.across.greatest → SpansIfAny corners e → Spans corners (Some e)
spans_some corners e order h =
    elim h.across [
      | inl none ↦ absurd (let l = none.1.least in let g = none.1.greatest in omega (arith, ints, order, l, g))
      | inr hull ↦ elim h.up [
        | inl nothing ↦ absurd (let c = no_numbers (λ (v : WindowVertex). v.y) corners nothing.0 in subst (λ (us : List WindowVertex). IsIn e.across.least (map (λ (v : WindowVertex). v.x) us)) c hull.least)
        | inr up ↦ (hull, up)
      ]
    ]
