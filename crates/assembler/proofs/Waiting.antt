-- Parts in their places.
use Rattle.std.proofs.Common.{◌≡◌, ℕ, zero, suc, ◌*◌, ◌<◌, true, false, List, [], ◌∷◌, Option, Some, None, is_none, length, map, refl, ap, ap₂, sym, ◌∙◌, arith, true≢false, replicate}
use Rattle.std.specs.Prelude.{slice_get}
use Rattle.std.proofs.lemmas.Bool.{eqb-true}
use Rattle.std.proofs.lemmas.List.{length-map}
use Rattle.rc_base.specs.Cluster.Tiles.{tile_count}
use Rattle.rc_base.specs.declared.cluster.TilePart.{TilePart}
use Rattle.rc_base.specs.declared.window.Layout.{Layout}
use Rattle.assembler.specs.Parts.{ArePartsOf, tile_height, tile_width}
use Rattle.assembler.specs.Places.{AllFit, in_place, parts_in}

-- where no place is empty, there is a list of parts
pub all_there : (places : List (Option TilePart)) → ((k : ℕ) → k < length places → is_none (in_place places k) ≡ false) → places ≡ map (λ p. Some p) (parts_in places)
all_there [] h = refl
all_there (Some p ∷ places) h = ap (λ (l : List (Option TilePart)). Some p ∷ l) (all_there places (λ k lt. h (suc k) (omega (arith, lt))))
all_there (None ∷ places) h = let e : true ≡ false = h 0 (omega arith) in absurd (true≢false e)

-- where each place is empty, no part is there
pub all_empty : (places : List (Option TilePart)) → ((k : ℕ) → k < length places → in_place places k ≡ None) → places ≡ replicate (length places) None
all_empty [] h = refl
all_empty (o ∷ places) h = ap₂ (λ (q : Option TilePart) (l : List (Option TilePart)). q ∷ l) (h 0 (omega arith)) (all_empty places (λ k lt. h (suc k) (omega (arith, lt))))

-- a part stands in a place that there is
pub place_below : (places : List (Option TilePart)) (k : ℕ) (p : TilePart) → in_place places k ≡ Some p → k < length places
place_below [] k p is = absurd cc
place_below (o ∷ places) zero p is = omega arith
place_below (o ∷ places) (suc k) p is = let n = place_below places k p is in omega (arith, n)

-- a part of the list is in its place
pub stands_in : (parts : List TilePart) (tile : ℕ) (p : TilePart) → slice_get parts tile ≡ Some p → in_place (map (λ q. Some q) parts) tile ≡ Some p
stands_in [] tile p is = absurd cc
stands_in (q ∷ parts) zero p is = is
stands_in (q ∷ parts) (suc tile) p is = stands_in parts tile p is

-- one part in each place, and each fits
pub all_parts : (l : Layout) (places : List (Option TilePart)) → length places ≡ tile_count l → places ≡ map (λ p. Some p) (parts_in places) → AllFit l places
    → ArePartsOf l (parts_in places)
all_parts l places count all fit = record {
  count = sym (length-map (parts_in places) (λ (p : TilePart). Some p)) ∙ sym (ap length all) ∙ count;
  size = λ tile p is.
      eqb-true (length p.pixels) (tile_width l tile * tile_height l tile)
      (fit tile p (ap (λ (o : List (Option TilePart)). in_place o tile) all ∙ stands_in (parts_in places) tile p is));
}

-- new places are empty
pub none_in : (n tile : ℕ) → in_place (replicate n None) tile ≡ None
none_in zero tile = refl
none_in (suc n) zero = refl
none_in (suc n) (suc tile) = none_in n tile
