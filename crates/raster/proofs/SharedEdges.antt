-- An edge read from both of its sides.
use Rattle.std.proofs.Common.{◌≡◌, ℕ, zero, suc, ◌<◌, ◌-ℤ◌, neg_ℤ, ℤ, pos, ◌<ℤ◌, ◌≤ℤ◌, Bool, true, false, true≢false, not, ◌&&◌, ◌||◌, arith, refl, sym, ◌∙◌, ap, List, int_lt, int_eq}
use Rattle.std.proofs.lemmas.Int.{ints, by_lt_z}
use Rattle.std.proofs.lemmas.Bool.{and_parts, and_right}
use Rattle.std.proofs.lemmas.Bool.Decides.{Decides-int_eq}
use Rattle.std.proofs.Math.IntN.{*ℤ_comm}
use borrow.Author.Differences.{same_in, same_out, lt_out, sum_is_lem, neg_is}
use Rattle.std.proofs.Math.Bool.{and-true}
use Rattle.fixed_math.proofs.Signed.{diff_times}
use Rattle.fixed_math.proofs.Signs.{below_is, not_below_is, off}
use Rattle.rc_base.specs.Drawing.Cover.{edge_value, passes, is_within_edge, keeps_line, is_inside, centre, corner, covers}
use Rattle.raster.specs.SharedEdge.{next_corner, edge_at, SamePlace, IsInsideOthers, NoDoubleEdge, NoDoubleCover, NoneCoveredTwice, is_shown_at}
use Rattle.rc_base.specs.declared.window.WindowVertex.{WindowVertex}

-- from b to a an edge has the opposite value
pub edge_back : (a b : WindowVertex) (x y : ℤ) → edge_value b a x y ≡ neg_ℤ (edge_value a b x y)
edge_back a b x y =
    let e1 = diff_times a.x b.x y b.y in
    let e2 = diff_times a.y b.y x b.x in
    let e3 = diff_times b.x a.x y a.y in
    let e4 = diff_times b.y a.y x a.x in
    let c1 = *ℤ_comm a.x a.y in
    let c2 = *ℤ_comm b.x b.y in
    let c3 = *ℤ_comm b.x a.y in
    let c4 = *ℤ_comm a.x b.y in
    omega (arith, same_in, same_out, sum_is_lem, neg_is)

-- an edge's value reads the places of its ends alone
edge_same : (a b c d : WindowVertex) (x y : ℤ) → SamePlace a c → SamePlace b d → edge_value a b x y ≡ edge_value c d x y
edge_same a b c d x y h k = rw (h.0, h.1, k.0, k.1) refl

passes_strictly : (e : ℤ) (keeps : Bool) → pos 0 <ℤ e → passes e keeps ≡ true
passes_strictly e keeps h = grind (arith, ints)

passes_line : (e : ℤ) (keeps : Bool) → e ≡ pos 0 → passes e keeps ≡ keeps
passes_line e keeps h = rw h refl

first_decides : (a b c : Bool) → b ≡ true → c ≡ true → (a && (b && c)) ≡ a
first_decides a b c h k = rw (h, k) (and-true a)

second_decides : (a b c : Bool) → a ≡ true → c ≡ true → (a && (b && c)) ≡ b
second_decides a b c h k = rw (h, k) (and-true b)

third_decides : (a b c : Bool) → a ≡ true → b ≡ true → (a && (b && c)) ≡ c
third_decides a b c h k = rw (h, k) refl

within_strictly : (a b : WindowVertex) (x y : ℤ) → pos 0 <ℤ edge_value a b x y → is_within_edge a b x y ≡ true
unfolding is_within_edge
within_strictly a b x y h = passes_strictly (edge_value a b x y) (keeps_line a b) h

within_line : (a b : WindowVertex) (x y : ℤ) → edge_value a b x y ≡ pos 0 → is_within_edge a b x y ≡ keeps_line a b
unfolding is_within_edge
within_line a b x y h = passes_line (edge_value a b x y) (keeps_line a b) h

-- on the line of one edge and inside the others, that edge decides
pub on_edge : (v : List WindowVertex) (i : ℕ) (x y : ℤ) → i < 3 → edge_at v i x y ≡ pos 0 → IsInsideOthers v i x y
    → is_inside v x y ≡ keeps_line (corner v i) (corner v (next_corner i))
unfolding is_inside
on_edge v zero x y h e o = first_decides _ _ _ (within_strictly _ _ _ _ (o 1 (omega arith) (omega arith))) (within_strictly _ _ _ _ (o 2 (omega arith) (omega arith))) ∙ within_line _ _ _ _ e
on_edge v (suc zero) x y h e o = second_decides _ _ _ (within_strictly _ _ _ _ (o 0 (omega arith) (omega arith))) (within_strictly _ _ _ _ (o 2 (omega arith) (omega arith))) ∙ within_line _ _ _ _ e
on_edge v (suc (suc zero)) x y h e o = third_decides _ _ _ (within_strictly _ _ _ _ (o 0 (omega arith) (omega arith))) (within_strictly _ _ _ _ (o 1 (omega arith) (omega arith))) ∙ within_line _ _ _ _ e
on_edge v (suc (suc (suc n))) x y h e o = absurd (omega arith)

-- of the two directions of an edge exactly one keeps the line
down_or_left : ℤ → ℤ → Bool
down_or_left dx dy = int_lt dy (pos 0) || (int_eq dy (pos 0) && int_lt dx (pos 0))

level : (dx : ℤ) → (dx ≡ pos 0 → ⊥) → int_lt dx (pos 0) ≡ not (int_lt (neg_ℤ dx) (pos 0))
level dx h = grind (arith, ints)

goes_down : (dx dy : ℤ) → dy <ℤ pos 0 → down_or_left dx dy ≡ true
unfolding down_or_left
goes_down dx dy h = rw (below_is dy h) refl

goes_up : (dx dy : ℤ) → pos 0 <ℤ dy → down_or_left dx dy ≡ false
unfolding down_or_left
goes_up dx dy h =
    let low : pos 0 ≤ℤ dy = omega (arith, ints) in
    let apart : dy ≡ pos 0 → ⊥ = λ e. absurd (omega (arith, ints)) in
    rw (off dy apart, not_below_is dy low) refl

goes_level : (dx dy : ℤ) → dy ≡ pos 0 → down_or_left dx dy ≡ int_lt dx (pos 0)
unfolding down_or_left
goes_level dx dy h = let low : pos 0 ≤ℤ dy = omega (arith, ints) in rw ((Decides-int_eq dy (pos 0)).1 h, not_below_is dy low) refl

one_way : (dx dy : ℤ) → (dx ≡ pos 0 → dy ≡ pos 0 → ⊥) → down_or_left dx dy ≡ not (down_or_left (neg_ℤ dx) (neg_ℤ dy))
one_way dx dy h =
    by_lt_z dy (pos 0)
    (λ l. goes_down dx dy l ∙ ap not (sym (goes_up (neg_ℤ dx) (neg_ℤ dy) (omega (arith, ints)))))
    (λ g. by_lt_z (pos 0) dy
    (λ l. goes_up dx dy l ∙ ap not (sym (goes_down (neg_ℤ dx) (neg_ℤ dy) (omega (arith, ints)))))
    (λ f. let z : dy ≡ pos 0 = omega (arith, ints) in
    goes_level dx dy z ∙ level dx (λ e. h e z) ∙ ap not (sym (goes_level (neg_ℤ dx) (neg_ℤ dy) (omega (arith, ints))))))

keeps_one_way : (a b c d : WindowVertex) → SamePlace a d → SamePlace b c → (SamePlace a b → ⊥) → keeps_line a b ≡ not (keeps_line c d)
unfolding down_or_left
keeps_one_way a b c d h k apart =
    let e : d.x -ℤ c.x ≡ neg_ℤ (b.x -ℤ a.x) = let p = h.0 in let q = k.0 in omega (arith, ints) in
    let f : d.y -ℤ c.y ≡ neg_ℤ (b.y -ℤ a.y) = let p = h.1 in let q = k.1 in omega (arith, ints) in
    let n : b.x -ℤ a.x ≡ pos 0 → b.y -ℤ a.y ≡ pos 0 → ⊥ = λ p q. let p' : a.x ≡ b.x = omega (arith, ints) in let q' : a.y ≡ b.y = omega (arith, ints) in apart (p', q') in
    one_way (b.x -ℤ a.x) (b.y -ℤ a.y) n ∙ ap not (sym (λ i. down_or_left (e i) (f i)))

-- an edge whose ends are at one place leaves no point strictly inside the two others
two_ways : (a b c : WindowVertex) (x y : ℤ) → SamePlace a b → pos 0 <ℤ edge_value b c x y → pos 0 <ℤ edge_value c a x y → ⊥
two_ways a b c x y s h k =
    let e : edge_value a c x y ≡ edge_value b c x y = edge_same a c b c x y s (refl, refl) in
    let f = edge_back a c x y in
    omega (arith, same_out, lt_out, neg_is, e, f)

no_point : (v : List WindowVertex) (i : ℕ) (x y : ℤ) → i < 3 → IsInsideOthers v i x y → SamePlace (corner v i) (corner v (next_corner i)) → ⊥
no_point v zero x y h o s = two_ways (corner v 0) (corner v 1) (corner v 2) (centre x) (centre y) s (o 1 (omega arith) (omega arith)) (o 2 (omega arith) (omega arith))
no_point v (suc zero) x y h o s = two_ways (corner v 1) (corner v 2) (corner v 0) (centre x) (centre y) s (o 2 (omega arith) (omega arith)) (o 0 (omega arith) (omega arith))
no_point v (suc (suc zero)) x y h o s = two_ways (corner v 2) (corner v 0) (corner v 1) (centre x) (centre y) s (o 0 (omega arith) (omega arith)) (o 1 (omega arith) (omega arith))
no_point v (suc (suc (suc n))) x y h o s = absurd (omega arith)

turned : (a b : WindowVertex) → SamePlace a b → SamePlace b a
turned a b s = (sym s.0, sym s.1)

pub no_double_edge_holds : NoDoubleEdge
no_double_edge_holds v w i j x y shared =
    let r = shared.opposite in
    let same : edge_at w j x y ≡ edge_value (corner v (next_corner i)) (corner v i) (centre x) (centre y) = edge_same (corner w j) (corner w (next_corner j)) (corner v (next_corner i)) (corner v i) (centre x) (centre y) (turned (corner v (next_corner i)) (corner w j) r.1) (turned (corner v i) (corner w (next_corner j)) r.0) in
    let back : edge_at w j x y ≡ pos 0 = same ∙ edge_back (corner v i) (corner v (next_corner i)) (centre x) (centre y) ∙ ap neg_ℤ shared.on_line in
    on_edge v i x y shared.edge shared.on_line shared.inside_others ∙ keeps_one_way (corner v i) (corner v (next_corner i)) (corner w j) (corner w (next_corner j)) r.0 r.1 (no_point v i x y shared.edge shared.inside_others) ∙ ap not (sym (on_edge w j x y shared.other_edge back shared.inside_others_too))

-- of two tests of which one is the other's negation
at_most_one : (p q c d : Bool) → p ≡ not q → ((p && c) && (q && d)) ≡ false
at_most_one true true c d e = absurd (cc)
at_most_one true false c d e = and_right c false refl
at_most_one false q c d e = refl

exactly_one : (p q c d : Bool) → p ≡ not q → c ≡ true → d ≡ true → (p && c) ≡ not (q && d)
exactly_one p q c d e h k = rw (h, k, and-true p, and-true q) e

pub no_double_cover_holds : NoDoubleCover
unfolding covers
no_double_cover_holds s s' block block' v w i j x y kept other shared =
    let one = no_double_edge_holds v w i j x y shared in (
      at_most_one (is_inside v x y) (is_inside w x y) (is_shown_at s x y) (is_shown_at s' x y) one,
      λ h k. exactly_one (is_inside v x y) (is_inside w x y) (is_shown_at s x y) (is_shown_at s' x y) one h k,
    )

-- ---- inside two triangles

-- what is inside a triangle lies on the inner side of each edge
inside_edge : (v : List WindowVertex) (i : ℕ) (x y : ℤ) → i < 3 → is_inside v x y ≡ true → is_within_edge (corner v i) (corner v (next_corner i)) (centre x) (centre y) ≡ true
unfolding is_inside
inside_edge v zero x y lt h = (and_parts _ _ h).0
inside_edge v (suc zero) x y lt h = (and_parts _ _ (and_parts _ _ h).1).0
inside_edge v (suc (suc zero)) x y lt h = (and_parts _ _ (and_parts _ _ h).1).1
inside_edge v (suc (suc (suc n))) x y lt h = absurd (omega arith)

passes_not : (e : ℤ) (keeps : Bool) → e <ℤ pos 0 → passes e keeps ≡ false
passes_not e keeps h = grind (arith, ints)

-- of an edge and the same one backwards, both pass a point only where both keep it on their line
pass_both : (e : ℤ) (k l : Bool) → passes e k ≡ true → passes (neg_ℤ e) l ≡ true → (k ≡ true) × (l ≡ true)
pass_both e k l h m =
    by_lt_z e (pos 0)
    (λ low. absurd (true≢false (sym h ∙ passes_not e k low)))
    (λ g. by_lt_z (pos 0) e
    (λ high. absurd (true≢false (sym m ∙ passes_not (neg_ℤ e) l (omega (arith, ints)))))
    (λ f. let z : e ≡ pos 0 = omega (arith, ints) in let z' : neg_ℤ e ≡ pos 0 = omega (arith, ints) in
    (sym (passes_line e k z) ∙ h, sym (passes_line (neg_ℤ e) l z') ∙ m)))

not_both_left : (dx : ℤ) → int_lt dx (pos 0) ≡ true → int_lt (neg_ℤ dx) (pos 0) ≡ true → ⊥
not_both_left dx h k = grind (arith, ints)

not_both_ways : (dx dy : ℤ) → down_or_left dx dy ≡ true → down_or_left (neg_ℤ dx) (neg_ℤ dy) ≡ true → ⊥
not_both_ways dx dy h k =
    by_lt_z dy (pos 0)
    (λ low. true≢false (sym k ∙ goes_up (neg_ℤ dx) (neg_ℤ dy) (omega (arith, ints))))
    (λ g. by_lt_z (pos 0) dy
    (λ high. true≢false (sym h ∙ goes_up dx dy high))
    (λ f. let z : dy ≡ pos 0 = omega (arith, ints) in let z' : neg_ℤ dy ≡ pos 0 = omega (arith, ints) in
    not_both_left dx (sym (goes_level dx dy z) ∙ h) (sym (goes_level (neg_ℤ dx) (neg_ℤ dy) z') ∙ k)))

not_kept_twice : (a b c d : WindowVertex) → SamePlace a d → SamePlace b c → keeps_line a b ≡ true → keeps_line c d ≡ true → ⊥
unfolding down_or_left
not_kept_twice a b c d h k p q =
    let e : d.x -ℤ c.x ≡ neg_ℤ (b.x -ℤ a.x) = let u = h.0 in let v = k.0 in omega (arith, ints) in
    let f : d.y -ℤ c.y ≡ neg_ℤ (b.y -ℤ a.y) = let u = h.1 in let v = k.1 in omega (arith, ints) in
    not_both_ways (b.x -ℤ a.x) (b.y -ℤ a.y) p (sym (λ i. down_or_left (e i) (f i)) ∙ q)

-- no point lies on the inner side of an edge and of the same one backwards
not_within_both : (a b c d : WindowVertex) (x y : ℤ) → SamePlace a d → SamePlace b c → is_within_edge a b x y ≡ true → is_within_edge c d x y ≡ true → ⊥
unfolding is_within_edge
not_within_both a b c d x y h k p q =
    let back : edge_value c d x y ≡ neg_ℤ (edge_value a b x y) = edge_same c d b a x y (turned b c k) (turned a d h) ∙ edge_back a b x y in
    let both = pass_both (edge_value a b x y) (keeps_line a b) (keeps_line c d) p (sym (ap (λ e. passes e (keeps_line c d)) back) ∙ q) in
    not_kept_twice a b c d h k both.0 both.1

not_both_true : (p q : Bool) → (p ≡ true → q ≡ true → ⊥) → (p && q) ≡ false
not_both_true true true h = absurd (h refl refl)
not_both_true true false h = refl
not_both_true false q h = refl

-- a test that asks more
asks_more : (p q c d : Bool) → (p && q) ≡ false → ((p && c) && (q && d)) ≡ false
asks_more true true c d e = absurd (true≢false e)
asks_more true false c d e = and_right c false refl
asks_more false q c d e = refl

pub none_covered_twice_holds : NoneCoveredTwice
unfolding covers
none_covered_twice_holds v w i j x y lt lt' r =
    let none = not_both_true (is_inside v x y) (is_inside w x y) (λ p q.
    not_within_both (corner v i) (corner v (next_corner i)) (corner w j) (corner w (next_corner j)) (centre x) (centre y) r.0 r.1 (inside_edge v i x y lt p) (inside_edge w j x y lt' q)) in
    (none, λ s s'. asks_more (is_inside v x y) (is_inside w x y) (is_shown_at s x y) (is_shown_at s' x y) none)
