-- What corners span, and what they span with others.
use Rattle.std.proofs.Common.{◌≡◌, ◌⊎◌, inl, inr, ℕ, ℤ, ◌≤ℤ◌, subst, Bool, true, false, List, [], ◌∷◌, ◌++◌, map, Some, None, refl, sym, ap, ◌∙◌, arith, length, append_assoc}
use Rattle.std.specs.Prelude.{◌||◌, MatchOption, int_le, option_to_list}
use Rattle.std.specs.declared.option.Option.{Option}
use Rattle.std.specs.Int.{int_min, int_max}
use Rattle.std.specs.List.{list_any, flat_map}
use Rattle.std.proofs.lemmas.Int.{ints, by_lt_z, int_min_is, int_max_is}
use Rattle.std.proofs.lemmas.List.{append-nil, map-append}
use Rattle.std.proofs.lemmas.Grind.{flat_map-append}
use Rattle.std.proofs.Math.Bool.{or-true}
use Rattle.rc_base.specs.Lists.{IsIn}
use Rattle.rc_base.specs.Drawing.Cover.{corner}
use Rattle.rc_base.specs.declared.state.Block.{Block}
use Rattle.rc_base.specs.declared.state.State.{State}
use Rattle.rc_base.specs.declared.triangle.WindowTriangle.{WindowTriangle}
use Rattle.rc_base.specs.declared.window.WindowVertex.{WindowVertex}
use Rattle.geometry.specs.Pieces.{found}
use Rattle.plain_lemmas.proofs.Booleans.{same_test}
use Rattle.plain_lemmas.proofs.Numbers.{int_le_true, from_int_le}
use Rattle.bounds_bucket.specs.Extents.{IsHull, Spans, IsGrown, corners_from}
use Rattle.bounds_bucket.specs.declared.extent.Ends.{Ends}
use Rattle.bounds_bucket.specs.declared.extent.Extent.{Extent}
use Rattle.rc_base.specs.Drawing.Pieces.{kept_corners_of}
use Rattle.rc_base.specs.Cluster.Tiles.{corners_in}

-- ---- the ends of three numbers

least_in : (e a b c : ℤ) → e ≡ int_min (int_min a b) c → IsIn e (a ∷ b ∷ c ∷ [])
least_in e a b c h =
    let k = int_min_is a b in
    let l = int_min_is (int_min a b) c in
    by_lt_z (int_min a b) c
    (λ first. by_lt_z a b (λ left. inl (omega (arith, ints, h, k, l, first, left))) (λ right. inr (inl (omega (arith, ints, h, k, l, first, right)))))
    (λ last. inr (inr (inl (omega (arith, ints, h, l, last)))))

greatest_in : (e a b c : ℤ) → e ≡ int_max (int_max a b) c → IsIn e (a ∷ b ∷ c ∷ [])
greatest_in e a b c h =
    let k = int_max_is a b in
    let l = int_max_is (int_max a b) c in
    by_lt_z (int_max a b) c
    (λ last. inr (inr (inl (omega (arith, ints, h, l, last)))))
    (λ first. by_lt_z a b (λ right. inr (inl (omega (arith, ints, h, k, l, first, right)))) (λ left. inl (omega (arith, ints, h, k, l, first, left))))

pub are_ends : (e : Ends) (a b c : ℤ) → e.least ≡ int_min (int_min a b) c → e.greatest ≡ int_max (int_max a b) c → IsHull e (a ∷ b ∷ c ∷ [])
are_ends e a b c l g = record { encloses = between; least = least_in e.least a b c l; greatest = greatest_in e.greatest a b c g } where
  between : (z : ℤ) → IsIn z (a ∷ b ∷ c ∷ []) → (e.least ≤ℤ z) × (z ≤ℤ e.greatest)
  between z is =
      let m = int_min_is a b in
      let n = int_min_is (int_min a b) c in
      let p = int_max_is a b in
      let q = int_max_is (int_max a b) c in
      elim is [
        | inl first ↦ (omega (arith, ints, l, m, n, first), omega (arith, ints, g, p, q, first))
        | inr more ↦ elim more [
          | inl second ↦ (omega (arith, ints, l, m, n, second), omega (arith, ints, g, p, q, second))
          | inr last ↦ elim last [
            | inl third ↦ (omega (arith, ints, l, n, third), omega (arith, ints, g, q, third))
            | inr none ↦ absurd none
          ]
        ]
      ]

-- ---- the ends of two lists of numbers

pub in_left : (z : ℤ) (zs ws : List ℤ) → IsIn z zs → IsIn z (zs ++ ws)
in_left z [] ws h = absurd h
in_left z (y ∷ zs) ws (inl e) = inl e
in_left z (y ∷ zs) ws (inr h) = inr (in_left z zs ws h)

pub in_right : (z : ℤ) (zs ws : List ℤ) → IsIn z ws → IsIn z (zs ++ ws)
in_right z [] ws h = h
in_right z (y ∷ zs) ws h = inr (in_right z zs ws h)

pub in_either : (z : ℤ) (zs ws : List ℤ) → IsIn z (zs ++ ws) → IsIn z zs ⊎ IsIn z ws
in_either z [] ws h = inr h
in_either z (y ∷ zs) ws (inl e) = inl (inl e)
in_either z (y ∷ zs) ws (inr h) = elim (in_either z zs ws h) [ inl i ↦ inl (inr i) | inr k ↦ inr k ]

pub are_both : (a b e : Ends) → e.least ≡ int_min (int_min a.least a.least) b.least → e.greatest ≡ int_max (int_max a.greatest a.greatest) b.greatest
    → (zs ws : List ℤ) → IsHull a zs → IsHull b ws → IsHull e (zs ++ ws)
are_both a b e l g zs ws h k =
    let m = int_min_is a.least a.least in
    let n = int_min_is (int_min a.least a.least) b.least in
    let p = int_max_is a.greatest a.greatest in
    let q = int_max_is (int_max a.greatest a.greatest) b.greatest in
    record {
      encloses = λ z is. elim (in_either z zs ws is) [
        | inl left ↦ let o = h.encloses z left in (omega (arith, ints, l, m, n, o.0), omega (arith, ints, g, p, q, o.1))
        | inr right ↦ let o = k.encloses z right in (omega (arith, ints, l, m, n, o.0), omega (arith, ints, g, p, q, o.1))
      ];
      least = by_lt_z a.least b.least
          (λ low. let same : a.least ≡ e.least = omega (arith, ints, l, m, n, low) in subst (λ (z : ℤ). IsIn z (zs ++ ws)) same (in_left a.least zs ws h.least))
          (λ high. let same : b.least ≡ e.least = omega (arith, ints, l, m, n, high) in subst (λ (z : ℤ). IsIn z (zs ++ ws)) same (in_right b.least zs ws k.least));
      greatest = by_lt_z a.greatest b.greatest
          (λ low. let same : b.greatest ≡ e.greatest = omega (arith, ints, g, p, q, low) in subst (λ (z : ℤ). IsIn z (zs ++ ws)) same (in_right b.greatest zs ws k.greatest))
          (λ high. let same : a.greatest ≡ e.greatest = omega (arith, ints, g, p, q, high) in subst (λ (z : ℤ). IsIn z (zs ++ ws)) same (in_left a.greatest zs ws h.greatest));
    }

-- ---- tests of numbers that lie between ends

passes_any : (f : WindowVertex → ℤ) (test : ℤ → Bool) (vs : List WindowVertex) (z : ℤ) → IsIn z (map f vs) → test z ≡ true → list_any (λ v. test (f v)) vs ≡ true
passes_any f test [] z h e = absurd h
passes_any f test (v ∷ vs) z (inl same) e = ap (λ (b : Bool). b || list_any (λ v. test (f v)) vs) (ap test same ∙ e)
passes_any f test (v ∷ vs) z (inr h) e = ap (λ (b : Bool). test (f v) || b) (passes_any f test vs z h e) ∙ or-true (test (f v))

any_passes : (f : WindowVertex → ℤ) (test : ℤ → Bool) (vs : List WindowVertex) → list_any (λ v. test (f v)) vs ≡ true → (z : ℤ) × IsIn z (map f vs) × (test z ≡ true)
any_passes f test [] e = absurd cc
any_passes f test (v ∷ vs) e = by (test (f v)) refl e (any_passes f test vs) where
  by : (b : Bool) → test (f v) ≡ b → (b || list_any (λ v. test (f v)) vs) ≡ true
      → (list_any (λ v. test (f v)) vs ≡ true → (z : ℤ) × IsIn z (map f vs) × (test z ≡ true)) → (z : ℤ) × IsIn z (map f (v ∷ vs)) × (test z ≡ true)
  by true is e rest = (f v, inl refl, is)
  by false is e rest = let more = rest e in (more.0, inr more.1, more.2)

-- some number isn't above p, or isn't below it
pub low_is : (e : Ends) (f : WindowVertex → ℤ) (vs : List WindowVertex) → IsHull e (map f vs) → (p : ℤ) → list_any (λ v. int_le (f v) p) vs ≡ int_le e.least p
low_is e f vs h p = same_test (list_any (λ v. int_le (f v) p) vs) (int_le e.least p)
    (λ any.
    let some = any_passes f (λ z. int_le z p) vs any in
    let low = from_int_le some.0 p some.2 in
    let o = (h.encloses some.0 some.1).0 in
    int_le_true e.least p (omega (arith, ints, low, o)))
    (λ low. passes_any f (λ z. int_le z p) vs e.least h.least low)

pub high_is : (e : Ends) (f : WindowVertex → ℤ) (vs : List WindowVertex) → IsHull e (map f vs) → (p : ℤ) → list_any (λ v. int_le p (f v)) vs ≡ int_le p e.greatest
high_is e f vs h p = same_test (list_any (λ v. int_le p (f v)) vs) (int_le p e.greatest)
    (λ any.
    let some = any_passes f (λ z. int_le p z) vs any in
    let high = from_int_le p some.0 some.2 in
    let o = (h.encloses some.0 some.1).1 in
    int_le_true p e.greatest (omega (arith, ints, high, o)))
    (λ high. passes_any f (λ z. int_le p z) vs e.greatest h.greatest high)

-- ---- an extent and the corners that are added to it

three_corners : (v : List WindowVertex) → length v ≡ 3 → v ≡ corner v 0 ∷ corner v 1 ∷ corner v 2 ∷ []
three_corners [] e = absurd (omega (arith, e))
three_corners (a ∷ []) e = absurd (omega (arith, e))
three_corners (a ∷ b ∷ []) e = absurd (omega (arith, e))
three_corners (a ∷ b ∷ c ∷ []) e = refl
three_corners (a ∷ b ∷ c ∷ d ∷ v) e = absurd (omega (arith, e))

pub corners_span : (v : List WindowVertex) (e : Extent) → length v ≡ 3 → IsHull e.across ((corner v 0).x ∷ (corner v 1).x ∷ (corner v 2).x ∷ [])
    → IsHull e.up ((corner v 0).y ∷ (corner v 1).y ∷ (corner v 2).y ∷ []) → Spans v (Some e)
corners_span v e n x y = subst (λ (w : List WindowVertex). Spans w (Some e)) (sym (three_corners v n)) (x, y)

pub spans_both : (a b both : Extent) → ((zs ws : List ℤ) → IsHull a.across zs → IsHull b.across ws → IsHull both.across (zs ++ ws))
    → ((zs ws : List ℤ) → IsHull a.up zs → IsHull b.up ws → IsHull both.up (zs ++ ws))
    → (us vs : List WindowVertex) → Spans us (Some a) → Spans vs (Some b) → Spans (us ++ vs) (Some both)
spans_both a b both across up us vs h k = (
  subst (IsHull both.across) (sym (map-append (λ (v : WindowVertex). v.x) us vs)) (across _ _ h.0 k.0),
  subst (IsHull both.up) (sym (map-append (λ (v : WindowVertex). v.y) us vs)) (up _ _ h.1 k.1),
)

-- the first corners
pub grown_first : (e : Extent) (v : List WindowVertex) → Spans v (Some e) → IsGrown v None (Some e)
grown_first e v h corners none = subst (λ (us : List WindowVertex). Spans (us ++ v) (Some e)) (sym none) h

-- no corners
pub grown_none : (o : Option Extent) → IsGrown (corners_in []) o o
grown_none o corners h = subst (λ (us : List WindowVertex). Spans us o) (sym (append-nil corners)) h

-- those of one triangle
pub grown_one : (v : List WindowVertex) (before after : Option Extent) → IsGrown v before after → IsGrown (corners_in (v ∷ [])) before after
grown_one v before after g = subst (λ (w : List WindowVertex). IsGrown w before after) (sym (append-nil v)) g

-- ---- the kept triangles of a block

-- a triangle that was found is the kept one
pub found_is : (r : Option WindowTriangle) (o : Option (List WindowVertex)) → MatchOption r (o ≡ None) (λ t. o ≡ Some t.v) → found r ≡ option_to_list o
found_is None o h = ap option_to_list (sym h)
found_is (Some t) o h = ap option_to_list (sym h)

-- some of all corners were spanned, and the others are those of the triples that are left
pub record SpansFront (all others : List WindowVertex) (o : Option Extent) : Type 0 where
  pub front : List WindowVertex
  pub spanned : Spans front o
  pub parts : front ++ others ≡ all

pub spans_none : (all : List WindowVertex) → SpansFront all all None
spans_none all = record { front = []; spanned = refl; parts = refl }

in_both : (us vs : List (List WindowVertex)) → corners_in (us ++ vs) ≡ corners_in us ++ corners_in vs
in_both us vs = flat_map-append (λ (v : List WindowVertex). v) us vs

-- one more triple of a block's vertices
pub one_more : (s : State) (block : Block) (t : List ℕ) (rest more : List (List ℕ)) (all : List WindowVertex) (before after : Option Extent)
    → rest ≡ t ∷ more → SpansFront all (corners_from s block rest) before → IsGrown (corners_in (kept_corners_of s block t)) before after
    → SpansFront all (corners_from s block more) after
one_more s block t rest more all before after e h g =
    let corners = corners_in (kept_corners_of s block t) in
    let left : corners_from s block rest ≡ corners ++ corners_from s block more =
    ap (corners_from s block) e ∙ in_both (kept_corners_of s block t) (flat_map (kept_corners_of s block) more) in
    record {
      front = h.front ++ corners;
      spanned = g h.front h.spanned;
      parts = append_assoc h.front corners (corners_from s block more) ∙ ap (λ (us : List WindowVertex). h.front ++ us) (sym left) ∙ h.parts;
    }

pub no_more : (s : State) (block : Block) (rest : List (List ℕ)) (all : List WindowVertex) (o : Option Extent)
    → rest ≡ [] → SpansFront all (corners_from s block rest) o → Spans all o
no_more s block rest all o e h =
    let none : corners_from s block rest ≡ [] = ap (corners_from s block) e in
    subst (λ (us : List WindowVertex). Spans us o) (sym (append-nil h.front) ∙ ap (λ (us : List WindowVertex). h.front ++ us) (sym none) ∙ h.parts) h.spanned
