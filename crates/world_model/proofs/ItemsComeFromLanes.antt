-- What a tile takes of a client's lane is the next parcel of its client.
use Rattle.std.proofs.Common.{◌≡◌, ℕ, List, ◌∷◌, ◌++◌, length, Some, slice_get, sym, ap, ◌∙◌, subst}
use Rattle.rc_base.specs.declared.state.Parcel.{Parcel}
use Rattle.world_model.specs.Sound.{IsLane}
use Rattle.world_model.proofs.LanesGoOn.{get_behind}

-- the first parcel that the lane holds is the client's next one
pub parcel_is_next : (all : List Parcel) (taken : ℕ) (held coming rest : List Parcel) (x : Parcel) → IsLane all taken held coming → held ≡ x ∷ rest → slice_get all taken ≡ Some x
parcel_is_next all taken held coming rest x h is =
    subst (λ k. slice_get all k ≡ Some x) (sym h.count)
    (subst (λ xs. slice_get xs (length h.took) ≡ Some x) (sym (h.whole ∙ ap (λ (xs : List Parcel). h.took ++ (xs ++ coming)) is)) (get_behind h.took (rest ++ coming) x))
