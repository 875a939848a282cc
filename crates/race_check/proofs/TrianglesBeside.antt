-- A triangle that lies beside a part of the window covers no pixel of it; one that is kept touches what it covers of the part.
use Rattle.std.proofs.Common.{◌≡◌, ℕ, ℤ, pos, ◌≤ℤ◌, ◌+◌, ◌++◌, ◌∷◌, [], ◌<◌, ◌≤◌, ◌≢◌, nat_le, nat_lt, ◌&&◌, ◌||◌, Bool, true, false, inl, inr, List, Option, Some, None, refl, sym, ap, ◌∙◌, arith, eq-eqb, ne_eqb, le-leb, leb-true, lt-ltb}
use Rattle.std.specs.List.{list_any}
use Rattle.std.specs.Prelude.{option_to_list}
use Rattle.std.proofs.lemmas.List.Folds.{list_any-append}
use Rattle.std.proofs.lemmas.Int.{ints, by_lt_z}
use Rattle.std.proofs.lemmas.Bool.{cases_Bool, cases_lt, le-ltb}
use Rattle.std.proofs.lemmas.Bool.Decides.{nat_tests}
use Rattle.rc_base.specs.Cluster.Tiles.{is_in_rect, window_rect}
use Rattle.std.proofs.Math.Bool.{and-false}
use Rattle.rc_base.specs.Drawing.Cover.{is_inside, is_in_scissor, covers}
use Rattle.rc_base.specs.Drawing.Kept.{kept_whole}
use Rattle.rc_base.specs.declared.state.State.{State}
use Rattle.rc_base.specs.declared.state.Vertex.{Vertex}
use Rattle.rc_base.specs.declared.window.Rect.{Rect}
use Rattle.rc_base.specs.declared.window.WindowVertex.{WindowVertex}
use Rattle.geometry.specs.Beside.{AreSurrounds, IsBesideIfKept}
use Rattle.raster.proofs.Beside.{beside_empty}
use Rattle.geometry.specs.declared.near.Surrounds.{Surrounds}
use Rattle.raster.specs.Between.{CoverLiesInBounds}
use Rattle.raster.specs.Spans.{AreEmptyRows}
use Rattle.raster.specs.Clips.{IsPartWhere, is_let_through}
use Rattle.scene_lemmas.proofs.Rectangles.{in_window}
use Rattle.race_check.specs.Touches.{triangle_has, triangles_have, IsWithinWindow, part_has, clear_has}
use Rattle.geometry.proofs.Outside.{beside_part}
use Rattle.race_check.specs.Finds.{run_has}
use Rattle.race_check.specs.declared.run.Run.{Run}
use Rattle.race_check.proofs.TouchesInTurn.{outside_left, outside_right, outside_below, outside_above}

-- a triangle covers what it has of the part
covers_part : (s : State) (v : List WindowVertex) (part : Rect) (w h : ℕ) → IsPartWhere (window_rect w h) part (is_let_through s) → (x y : ℕ) → x < w → y < h
    → covers s v (pos x) (pos y) ≡ triangle_has v part x y
unfolding covers
covers_part s v part w h p x y lx ly = ap (λ b. is_inside v (pos x) (pos y) && b) (p.exact (pos x) (pos y) (in_window w h x y lx ly))

pub all_covers : (s : State) (vs : List (List WindowVertex)) (part : Rect) (w h : ℕ) → IsPartWhere (window_rect w h) part (is_let_through s) → (x y : ℕ) → x < w → y < h
    → list_any (λ v. covers s v (pos x) (pos y)) vs ≡ triangles_have vs part x y
all_covers s [] part w h p x y lx ly = refl
all_covers s (v ∷ vs) part w h p x y lx ly =
    ap (λ b. b || list_any (λ v. covers s v (pos x) (pos y)) vs) (covers_part s v part w h p x y lx ly) ∙ ap (λ b. triangle_has v part x y || b) (all_covers s vs part w h p x y lx ly)

none_has : (v : List WindowVertex) (part : Rect) (x y : ℕ) → AreEmptyRows v part part.y0 part.y1 → triangle_has v part x y ≡ false
none_has v part x y e =
    let outside : is_in_rect part (pos x) (pos y) ≡ false → triangle_has v part x y ≡ false = λ o. ap (λ b. is_inside v (pos x) (pos y) && b) o ∙ and-false (is_inside v (pos x) (pos y)) in
    by_lt_z (pos y) part.y0 (λ l. outside (outside_below part (pos x) (pos y) l))
    (λ low. by_lt_z (pos y) part.y1
    (λ high. by_lt_z (pos x) part.x0 (λ l. outside (outside_left part (pos x) (pos y) l))
    (λ left. by_lt_z (pos x) part.x1 (λ right. ap (λ b. b && is_in_rect part (pos x) (pos y)) (e (pos y) low high (pos x) left right)) (λ r. outside (outside_right part (pos x) (pos y) r))))
    (λ u. outside (outside_above part (pos x) (pos y) u)))

-- a triangle that is dropped, or lies beside, has nothing of the part
pub beside_has : CoverLiesInBounds → (s : State) (vs : List Vertex) (t : List ℕ) (part : Rect) (near : Surrounds) → AreSurrounds part near → IsBesideIfKept s vs t near
    → (x y : ℕ) → triangles_have (option_to_list (kept_whole s vs t)) part x y ≡ false
beside_has bounds s vs t part near n beside x y = by (kept_whole s vs t) refl
  where
    by : (o : Option (List WindowVertex)) → kept_whole s vs t ≡ o → triangles_have (option_to_list (kept_whole s vs t)) part x y ≡ false
    by None e = ap (λ o. triangles_have (option_to_list o) part x y) e
    by (Some v) e =
        let b = beside v e in
        ap (λ o. triangles_have (option_to_list o) part x y) e
        ∙ ap (λ k. k || false) (none_has v part x y (beside_empty bounds part v b.0 (beside_part near part v n b.1)))

-- triangles one after the other
pub have_then : (us vs : List (List WindowVertex)) (part : Rect) (x y : ℕ) → triangles_have (us ++ vs) part x y ≡ (triangles_have us part x y || triangles_have vs part x y)
have_then us vs part x y = list_any-append (λ v. triangle_has v part x y) us vs

pub part_of_window : (s : ℤ → ℤ → Bool) (w h : ℕ) (part : Rect) → IsPartWhere (window_rect w h) part s → IsWithinWindow w h part
part_of_window s w h part p = record { left = p.bounds.left; right = p.bounds.right; bottom = p.bounds.bottom; top = p.bounds.top }

pub clear_part : (s : State) (w h : ℕ) (part : Rect) → IsPartWhere (window_rect w h) part (is_in_scissor s) → (x y : ℕ) → x < w → y < h → clear_has s x y ≡ part_has part x y
clear_part s w h part p x y lx ly = p.exact (pos x) (pos y) (in_window w h x y lx ly)

pub no_columns : (part : Rect) (x y : ℕ) → part.x1 ≤ℤ part.x0 → part_has part x y ≡ false
no_columns part x y e = by_lt_z (pos x) part.x0 (λ l. outside_left part (pos x) (pos y) l) (λ g. outside_right part (pos x) (pos y) (omega (arith, ints)))

pub no_rows : (part : Rect) (x y : ℕ) → part.y1 ≤ℤ part.y0 → part_has part x y ≡ false
no_rows part x y e = by_lt_z (pos y) part.y0 (λ l. outside_below part (pos x) (pos y) l) (λ g. outside_above part (pos x) (pos y) (omega (arith, ints)))

-- the rows of a part up to below one
abbrev pub rows_up_to : Run → ℕ → ℕ → ℕ → Bool
rows_up_to r end x y = (nat_le r.row y && nat_lt y end) && (nat_le r.from x && nat_lt x r.to)

pub part_rows : (part : Rect) (r : Run) (end x y : ℕ) → part.y0 ≡ pos r.row → part.x0 ≡ pos r.from → part.x1 ≡ pos r.to → part.y1 ≡ pos end → part_has part x y ≡ rows_up_to r end x y
part_rows part r end x y a b c d = grind (arith, ints, nat_tests)

pub rows_none : (r : Run) (x y : ℕ) → rows_up_to r r.row x y ≡ false
rows_none r x y = elim (cases_lt y r.row) [
  | inl lt ↦ ap (λ b. (b && nat_lt y r.row) && (nat_le r.from x && nat_lt x r.to)) (no_le r.row y lt)
  | inr ge ↦ ap (λ b. (nat_le r.row y && b) && (nat_le r.from x && nat_lt x r.to)) (le-ltb y r.row ge) ∙ ap (λ b. b && (nat_le r.from x && nat_lt x r.to)) (and-false (nat_le r.row y))
]
  where
    no_le : (a b : ℕ) → b < a → nat_le a b ≡ false
    no_le a b h = elim (cases_Bool (nat_le a b)) [ inl t ↦ absurd (omega (arith, leb-true a b t)) | inr f ↦ f ]

pub rows_one_more : (r here : Run) (k x y : ℕ) → r.row ≤ k → here.row ≡ k → here.from ≡ r.from → here.to ≡ r.to → rows_up_to r (k + 1) x y ≡ (rows_up_to r k x y || run_has here x y)
rows_one_more r here k x y le a b c = elim (cases_lt y k) [
  | inl lt ↦
      let ne : here.row ≢ y = omega (arith, a) in
      ap (λ t. (nat_le r.row y && t) && C) (lt-ltb y (k + 1) (omega arith))
      ∙ sym (ap (λ t. ((nat_le r.row y && t) && C) || run_has here x y) (lt-ltb y k lt) ∙ ap (λ t. ((nat_le r.row y && true) && C) || (t && (nat_le here.from x && nat_lt x here.to))) (ne_eqb here.row y ne) ∙ or_false ((nat_le r.row y && true) && C))
  | inr ge ↦ elim (cases_lt k y) [
    | inl lt ↦
        let ne : here.row ≢ y = omega (arith, a) in
        ap (λ t. (nat_le r.row y && t) && C) (le-ltb y (k + 1) (omega arith)) ∙ none (nat_le r.row y)
        ∙ sym (ap (λ t. ((nat_le r.row y && t) && C) || run_has here x y) (le-ltb y k ge) ∙ ap (λ t. t || run_has here x y) (none (nat_le r.row y)) ∙ ap (λ t. t && (nat_le here.from x && nat_lt x here.to)) (ne_eqb here.row y ne))
    | inr eq ↦
        let e : here.row ≡ y = omega (arith, a) in
        ap (λ t. (t && nat_lt y (k + 1)) && C) (le-leb r.row y (omega arith)) ∙ ap (λ t. (true && t) && C) (lt-ltb y (k + 1) (omega arith))
        ∙ sym (ap (λ t. ((nat_le r.row y && t) && C) || run_has here x y) (le-ltb y k ge) ∙ ap (λ t. t || run_has here x y) (none (nat_le r.row y)) ∙ ap (λ t. t && (nat_le here.from x && nat_lt x here.to)) (eq-eqb here.row y e)
        ∙ ap (λ f. nat_le f x && nat_lt x here.to) b ∙ ap (λ t. nat_le r.from x && nat_lt x t) c)
  ]
]
  where
    C : Bool
    C = nat_le r.from x && nat_lt x r.to

    or_false : (b : Bool) → (b || false) ≡ b
    or_false true = refl
    or_false false = refl

    none : (b : Bool) → ((b && false) && C) ≡ false
    none true = refl
    none false = refl
