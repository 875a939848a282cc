-- The End parcels and the End request.
use Rattle.std.proofs.Common.{◌≡◌, ◌∙◌, ℕ, zero, suc, ◌+◌, ◌-◌, ◌<◌, ◌≤◌, Bool, List, [], ◌∷◌, ◌++◌, refl, sym, ap, arith, le-leb, replicate, Some}
use Rattle.std.specs.Prelude.{if◌then◌else◌}
use Rattle.std.specs.List.{flat_map, range_with_len}
use Rattle.std.specs.Option.{option_to_list}
use Rattle.std.specs.declared.option.Option.{Option}
use Rattle.std.proofs.lemmas.Bool.{lt-leb}
use Rattle.rc_base.specs.Cluster.Tiles.{tile_count}
use Rattle.rc_base.specs.Cluster.Parcels.{end_parcel}
use Rattle.rc_base.specs.Cluster.Sending.{Sending, ToTile, ToManager}
use Rattle.rc_base.specs.declared.state.Parcel.{Parcel}
use Rattle.rc_base.specs.declared.sync.Request.TheVariants as request
use Rattle.rc_base.specs.declared.window.Layout.{Layout}
use Rattle.client_issue.specs.Cores.{ends_from}

abbrev pub items_from : Layout → ℕ → ℕ → ℕ → List Sending
items_from l place tile n = flat_map (λ t. ToTile t (end_parcel place) ∷ []) (range_with_len tile n) ++ ToManager request.End ∷ []

pub shown : (l : Layout) (place tile : ℕ) → tile ≤ tile_count l → ends_from l place tile ≡ items_from l place tile (tile_count l - tile)
unfolding ends_from
shown l place tile h = ap (λ (b : Bool). if b then items_from l place tile (tile_count l - tile) else []) (le-leb tile (tile_count l) h)

pub ends_none : (l : Layout) (place tile : ℕ) → tile_count l < tile → ends_from l place tile ≡ []
unfolding ends_from
ends_none l place tile h = ap (λ (b : Bool). if b then items_from l place tile (tile_count l - tile) else []) (lt-leb tile (tile_count l) h)

pub ends_last : (l : Layout) (place tile : ℕ) → tile ≡ tile_count l → ends_from l place tile ≡ ToManager request.End ∷ ends_from l place (tile + 1)
ends_last l place tile h =
    let n : tile_count l - tile ≡ 0 = omega (arith, h) in
    shown l place tile (omega (arith, h)) ∙ ap (items_from l place tile) n
    ∙ ap (λ (items : List Sending). ToManager request.End ∷ items) (sym (ends_none l place (tile + 1) (omega (arith, h))))

pub ends_more : (l : Layout) (place tile : ℕ) → tile < tile_count l → ends_from l place tile ≡ ToTile tile (end_parcel place) ∷ ends_from l place (tile + 1)
ends_more l place tile h =
    let n : tile_count l - tile ≡ suc (tile_count l - (tile + 1)) = omega (arith, h) in
    shown l place tile (omega (arith, h)) ∙ ap (items_from l place tile) n
    ∙ ap (λ (items : List Sending). ToTile tile (end_parcel place) ∷ items) (sym (shown l place (tile + 1) (omega (arith, h))))

-- ---- the End parcels that were made at first

abbrev pub ends_made : ℕ → ℕ → List Parcel
ends_made n place = replicate n (end_parcel place)

-- the last one of them
pub last_one : (ps : List Parcel) (p : Parcel) (n place : ℕ) → ps ++ p ∷ [] ≡ ends_made n place → p ≡ end_parcel place
last_one [] p zero place e = absurd cc
last_one [] p (suc n) place e = cc
last_one (q ∷ ps) p zero place e = absurd cc
last_one (q ∷ ps) p (suc n) place e = let tail : ps ++ p ∷ [] ≡ ends_made n place = cc in last_one ps p n place tail

-- and the others
pub but_last : (ps : List Parcel) (p : Parcel) (n place : ℕ) → ps ++ p ∷ [] ≡ ends_made (suc n) place → ps ≡ ends_made n place
but_last [] p zero place e = refl
but_last [] p (suc n) place e = absurd cc
but_last (q ∷ []) p zero place e = absurd cc
but_last (q ∷ (r ∷ ps)) p zero place e = absurd cc
but_last (q ∷ ps) p (suc n) place e =
    let head : q ≡ end_parcel place = cc in
    let tail : ps ++ p ∷ [] ≡ ends_made (suc n) place = cc in
    λ i. head i ∷ but_last ps p n place tail i

module _ (items rest : List Parcel) (o : Option Parcel) (p : Parcel) (n place : ℕ)
    (split : items ≡ rest ++ option_to_list o) (was : o ≡ Some p) (made : items ≡ ends_made n place) where
  parts : rest ++ p ∷ [] ≡ ends_made n place
  parts = ap (λ (q : Option Parcel). rest ++ option_to_list q) (sym was) ∙ sym split ∙ made

  -- what is popped is an End parcel
  pub popped : p ≡ end_parcel place
  popped = last_one rest p n place parts

  -- and so are those that are left
  pub popped_rest : (m : ℕ) → n ≡ suc m → rest ≡ ends_made m place
  popped_rest m fewer = but_last rest p m place (parts ∙ ap (λ (k : ℕ). ends_made k place) fewer)
