-- The covered pixels of kept triangles lie between their corners.
use Rattle.std.proofs.Common.{◌≡◌, ℤ, pos, ◌<ℤ◌, ◌≤ℤ◌, Bool, true, false, ◌&&◌, List, [], ◌∷◌, ◌++◌, refl, ◌∙◌, arith, inl, inr}
use Rattle.std.specs.Prelude.{◌||◌, int_le}
use Rattle.std.specs.Int.{int_min, int_max}
use Rattle.std.specs.List.{list_any, AllByRecursion}
use Rattle.std.proofs.lemmas.Int.{ints, int_min_is, int_max_is}
use Rattle.std.proofs.lemmas.Bool.{and_parts, cases_Bool, cases_lt, or_left, or_right}
use Rattle.std.proofs.lemmas.List.Folds.{list_any-append}
use Rattle.geometry.proofs.EachKept.{each_kept}
use Rattle.raster.specs.Between.{IsBetween, CoverLiesInBounds}
use Rattle.rc_base.specs.Drawing.Cover.{triangle_area, is_inside, covers, centre, is_in_area, is_in_scissor}
use Rattle.rc_base.specs.Drawing.Kept.{three}
use Rattle.rc_base.specs.Drawing.Pieces.{kept_triangles}
use Rattle.rc_base.specs.Drawing.Triangles.{cut_modes}
use Rattle.rc_base.specs.Cluster.Tiles.{corners_in, kept_corners, is_in_window_box, is_in_box}
use Rattle.rc_base.specs.Drawing.Touch.{block_touches, touches}
use Rattle.rc_base.specs.declared.state.Block.{Block}
use Rattle.rc_base.specs.declared.state.Effect.{Effect}
use Rattle.rc_base.specs.declared.state.Effect.TheVariants as eff
use Rattle.rc_base.specs.declared.state.State.{State}
use Rattle.rc_base.specs.declared.window.WindowVertex.{WindowVertex}
use Rattle.plain_lemmas.proofs.Numbers.{from_int_le_false}
use Rattle.bounds_bucket.proofs.InObjectBox.{touched_in}
use Rattle.bounds_bucket.proofs.ObjectRects.{object_is, window_is}

-- ---- one of three corners isn't above a number, where the least isn't

low_of : (a b c p : ℤ) → int_min (int_min a b) c ≤ℤ p → (int_le a p || (int_le b p || (int_le c p || false))) ≡ true
low_of a b c p h =
    elim (cases_Bool (int_le a p)) [
      | inl t ↦ rw t refl
      | inr f ↦ elim (cases_Bool (int_le b p)) [
        | inl t ↦ rw (f, t) refl
        | inr g ↦ elim (cases_Bool (int_le c p)) [
          | inl t ↦ rw (f, g, t) refl
          | inr k ↦ absurd (let x = from_int_le_false a p f in let y = from_int_le_false b p g in let z = from_int_le_false c p k in omega (arith, ints, x, y, z, h, int_min_is (int_min a b) c, int_min_is a b))
        ]
      ]
    ]

high_of : (a b c p : ℤ) → p ≤ℤ int_max (int_max a b) c → (int_le p a || (int_le p b || (int_le p c || false))) ≡ true
high_of a b c p h =
    elim (cases_Bool (int_le p a)) [
      | inl t ↦ rw t refl
      | inr f ↦ elim (cases_Bool (int_le p b)) [
        | inl t ↦ rw (f, t) refl
        | inr g ↦ elim (cases_Bool (int_le p c)) [
          | inl t ↦ rw (f, g, t) refl
          | inr k ↦ absurd (let x = from_int_le_false p a f in let y = from_int_le_false p b g in let z = from_int_le_false p c k in omega (arith, ints, x, y, z, h, int_max_is (int_max a b) c, int_max_is a b))
        ]
      ]
    ]

-- ---- lists of corners

any_left : (test : WindowVertex → Bool) (xs ys : List WindowVertex) → list_any test xs ≡ true → list_any test (xs ++ ys) ≡ true
any_left test xs ys h = list_any-append test xs ys ∙ or_left (list_any test xs) (list_any test ys) h

any_right : (test : WindowVertex → Bool) (xs ys : List WindowVertex) → list_any test ys ≡ true → list_any test (xs ++ ys) ≡ true
any_right test xs ys h = list_any-append test xs ys ∙ or_right (list_any test xs) (list_any test ys) h

-- a number lies between corners: one isn't above it, and one isn't below it
record IsAmid (corners : List WindowVertex) (coordinate : WindowVertex → ℤ) (p : ℤ) : Type 0 where
  low : list_any (λ v. int_le (coordinate v) p) corners ≡ true
  high : list_any (λ v. int_le p (coordinate v)) corners ≡ true

amid_left : (xs ys : List WindowVertex) (coordinate : WindowVertex → ℤ) (p : ℤ) → IsAmid xs coordinate p → IsAmid (xs ++ ys) coordinate p
amid_left xs ys coordinate p h = record { low = any_left (λ v. int_le (coordinate v) p) xs ys h.low; high = any_left (λ v. int_le p (coordinate v)) xs ys h.high }

amid_right : (xs ys : List WindowVertex) (coordinate : WindowVertex → ℤ) (p : ℤ) → IsAmid ys coordinate p → IsAmid (xs ++ ys) coordinate p
amid_right xs ys coordinate p h = record { low = any_right (λ v. int_le (coordinate v) p) xs ys h.low; high = any_right (λ v. int_le p (coordinate v)) xs ys h.high }

amid_three : (a b c : WindowVertex) (coordinate : WindowVertex → ℤ) (p : ℤ) → IsBetween (three a b c) coordinate p → IsAmid (three a b c) coordinate p
amid_three a b c coordinate p h = record {
  low = low_of (coordinate a) (coordinate b) (coordinate c) p h.0;
  high = high_of (coordinate a) (coordinate b) (coordinate c) p h.1;
}

-- ---- a pixel that a block touches

-- it lies in the box of these corners
record IsBoxed (s : State) (corners : List WindowVertex) (px py : ℤ) : Type 0 where
  across : IsAmid corners (λ (v : WindowVertex). v.x) (centre px)
  up : IsAmid corners (λ (v : WindowVertex). v.y) (centre py)
  area : is_in_area s.viewport px py && is_in_scissor s px py ≡ true

covered : CoverLiesInBounds → (s : State) (a b c : WindowVertex) (px py : ℤ) → pos 0 <ℤ triangle_area (three a b c) → covers s (three a b c) px py ≡ true → IsBoxed s (three a b c) px py
unfolding covers
covered bounds s a b c px py area h =
    let parts = and_parts (is_inside (three a b c) px py) (is_in_area s.viewport px py && is_in_scissor s px py) h in
    let within = bounds (three a b c) px py area parts.0 in
    record {
      across = amid_three a b c (λ (v : WindowVertex). v.x) (centre px) within.0;
      up = amid_three a b c (λ (v : WindowVertex). v.y) (centre py) within.1;
      area = parts.1;
    }

-- each of some triangles has its covered pixels in its box
abbrev BoxesItsPixels : State → ℤ → ℤ → List WindowVertex → Type 0
BoxesItsPixels s px py v = covers s v px py ≡ true → IsBoxed s v px py

-- one of them covers the pixel
some_covers : (s : State) (px py : ℤ) (vs : List (List WindowVertex)) → AllByRecursion (BoxesItsPixels s px py) vs
    → list_any (λ v. covers s v px py) vs ≡ true → IsBoxed s (corners_in vs) px py
some_covers s px py [] all h = absurd cc
some_covers s px py (v ∷ vs) all h =
    elim (cases_Bool (covers s v px py)) [
      | inl yes' ↦
          let box = all.0 yes' in
          record {
            across = amid_left v (corners_in vs) (λ (a : WindowVertex). a.x) (centre px) box.across;
            up = amid_left v (corners_in vs) (λ (a : WindowVertex). a.y) (centre py) box.up;
            area = box.area;
          }
      | inr no' ↦
          let rest : list_any (λ u. covers s u px py) vs ≡ true = rw no' at h in
          let box = some_covers s px py vs all.1 rest in
          record {
            across = amid_right v (corners_in vs) (λ (a : WindowVertex). a.x) (centre px) box.across;
            up = amid_right v (corners_in vs) (λ (a : WindowVertex). a.y) (centre py) box.up;
            area = box.area;
          }
    ]

boxed : (s : State) (block : Block) (px py : ℤ) → IsBoxed s (kept_corners s block) px py → is_in_window_box s block px py ≡ true
unfolding is_in_window_box
boxed s block px py box = rw (box.across.low, box.across.high, box.up.low, box.up.high) box.area

block_touched : CoverLiesInBounds → (s : State) (block : Block) (px py : ℤ) → block_touches s block px py ≡ true → is_in_box s (eff.Block block) px py ≡ true
block_touched bounds s block px py h =
    elim (cases_lt block.mode cut_modes) [
      | inl early ↦
          window_is s block px py early
          ∙ boxed s block px py (some_covers s px py (kept_triangles s block) (each_kept (BoxesItsPixels s px py) (λ a b c area k. covered bounds s a b c px py area k) s block) h)
      | inr late ↦ object_is s block px py late ∙ touched_in bounds s block px py late h
    ]

pub touched : CoverLiesInBounds → (s : State) (effect : Effect) (px py : ℤ) → touches s effect px py ≡ true → is_in_box s effect px py ≡ true
unfolding touches is_in_box
touched bounds s (eff.Block block) px py h = block_touched bounds s block px py h
touched bounds s (eff.Clear mask) px py h = h
touched bounds s effect px py h = absurd cc
