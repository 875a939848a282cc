-- What a call of the assembler takes stands behind what was taken before.
use Rattle.std.proofs.Common.{◌≡◌, ℕ, suc, zero, List, [], ◌∷◌, ◌++◌, Some, None, refl, sym, ap, ◌∙◌, append-nil}
use Rattle.std.specs.Prelude.{map, option_to_list, slice_get}
use Rattle.std.specs.List.{AllByRecursion}
use Rattle.std.specs.declared.option.Option.{Option}
use Rattle.std.proofs.lemmas.Grind.{flat_map-append}
use Rattle.rc_base.specs.Cluster.Lanes.{Follows}
use Rattle.rc_base.specs.declared.cluster.TilePart.{TilePart}
use Rattle.assembler.specs.Places.{in_place, IsFound}
use Rattle.frame_out.specs.OnTheWay.{parts_in}

module _ {I : Type 0} (gave : I → TilePart → I → Type 0) (same : I → I → Type 0) (empty_seen : I → ℕ) (bare : I → Type 0) (taken : I → List TilePart)
    (f : Follows gave same taken) where
  -- of one tile: its part stood in its place, or came now, or is missing still
  pub found_grows : (place found : Option TilePart) (a b : I) (base : List TilePart) → IsFound gave same empty_seen bare place a found b
      → taken a ≡ base ++ option_to_list place → taken b ≡ base ++ option_to_list found
  found_grows (Some p) found a b base h e = ap taken h.1 ∙ e ∙ ap (λ (o : Option TilePart). base ++ option_to_list o) (sym h.0)
  found_grows None (Some p) a b base h e = f.grows a b p h ∙ ap (λ (xs : List TilePart). xs ++ p ∷ []) (e ∙ append-nil base)
  found_grows None None a b base h e = f.stays a b h.0 ∙ e

pub place_is : (parts : List TilePart) (tile : ℕ) → in_place (map Some parts) tile ≡ slice_get parts tile
place_is [] tile = refl
place_is (p ∷ parts) zero = refl
place_is (p ∷ parts) (suc tile) = place_is parts tile

pub parts_more : (frames : List (List TilePart)) (parts : List TilePart) (tile : ℕ) → parts_in (frames ++ parts ∷ []) tile ≡ parts_in frames tile ++ option_to_list (slice_get parts tile)
parts_more frames parts tile =
    let f : List TilePart → List TilePart = λ (ps : List TilePart). option_to_list (slice_get ps tile) in
    flat_map-append f frames (parts ∷ []) ∙ ap (λ (xs : List TilePart). parts_in frames tile ++ xs) (append-nil (f parts))

pub all_more : {A : Type 0} (P : A → Type 0) (xs : List A) (x : A) → AllByRecursion P xs → P x → AllByRecursion P (xs ++ x ∷ [])
all_more P [] x h p = (p, tt)
all_more P (y ∷ xs) x h p = (h.0, all_more P xs x h.1 p)

pub map_more : {A B : Type 0} (f : A → B) (xs : List A) (x : A) → map f (xs ++ x ∷ []) ≡ map f xs ++ f x ∷ []
map_more f [] x = refl
map_more f (y ∷ xs) x = ap (λ ys. f y ∷ ys) (map_more f xs x)
