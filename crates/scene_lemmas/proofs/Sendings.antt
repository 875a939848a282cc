-- What a client sends: its parcels, and its requests.
use Rattle.std.proofs.Common.{◌≡◌, ℕ, ◌==◌, List, [], ◌∷◌, ◌++◌, inl, inr, refl, ap, map}
use Rattle.std.proofs.lemmas.Bool.{cases_Bool}
use Rattle.rc_base.specs.Cluster.Sending.{Sending, ToTile, ToManager, parcels_to, requests_in, request_of}
use Rattle.rc_base.specs.declared.sync.Request.{Request}
use Rattle.rc_base.specs.declared.sync.WaitAt.{WaitAt}

pub parcels_append : (tile : ℕ) (xs ys : List Sending) → parcels_to tile (xs ++ ys) ≡ parcels_to tile xs ++ parcels_to tile ys
parcels_append tile [] ys = refl
parcels_append tile (ToTile k p ∷ xs) ys = elim (cases_Bool (tile == k)) [
  | inl t ↦ rw t (ap (λ ps. p ∷ ps) (parcels_append tile xs ys))
  | inr f ↦ rw f (parcels_append tile xs ys)
]
parcels_append tile (ToManager r ∷ xs) ys = parcels_append tile xs ys

pub requests_append : (xs ys : List Sending) → requests_in (xs ++ ys) ≡ requests_in xs ++ requests_in ys
requests_append [] ys = refl
requests_append (ToTile k p ∷ xs) ys = requests_append xs ys
requests_append (ToManager r ∷ xs) ys = ap (λ (rs : List Request). r ∷ rs) (requests_append xs ys)

pub no_requests : (ws : List WaitAt) (rest : List Request) → map request_of ws ++ rest ≡ [] → ws ≡ []
no_requests [] rest e = refl
no_requests (w ∷ ws) rest e = absurd cc
