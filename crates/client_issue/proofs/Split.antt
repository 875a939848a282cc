-- What a client sends, lane by lane.
use Rattle.std.proofs.Common.{◌≡◌, ◌∙◌, ℕ, zero, suc, ◌+◌, ◌==◌, ◌<◌, ◌≤◌, true, false, List, [], ◌∷◌, ◌++◌, length, map, inl, inr, refl, sym, ap, arith, append-nil, eqb-true, eq-eqb}
use Rattle.std.specs.List.{flat_map, range_with_len}
use Rattle.std.proofs.lemmas.Bool.{cases_lt, cases_Bool}
use Rattle.std.proofs.lemmas.List.FromFn.{get_or-map-range_with_len}
use Rattle.std.proofs.lemmas.Option.{unwrap_or-slice_get}
use Rattle.rc_base.specs.Contexts.Issue.{stream_of, effect_at}
use Rattle.rc_base.specs.Orders.Sync.{client_row, wait_of, waits_below, sync_row_of, sync_lists_of}
use Rattle.rc_base.specs.Cluster.Tiles.{tile_count}
use Rattle.rc_base.specs.Cluster.Parcels.{parcels_at, parcels_before, parcels_of, end_parcel}
use Rattle.rc_base.specs.Cluster.Sending.{Sending, ToTile, ToManager, parcels_to, requests_in, request_of, sent_at, sent_before, sent_last, sent_by, requests_of}
use Rattle.rc_base.specs.declared.scene.Scene.{Scene}
use Rattle.rc_base.specs.declared.state.Parcel.{Parcel}
use Rattle.rc_base.specs.declared.sync.Request.{Request}
use Rattle.rc_base.specs.declared.sync.Request.TheVariants as request
use Rattle.rc_base.specs.declared.sync.SyncRow.{SyncRow}
use Rattle.rc_base.specs.declared.sync.WaitAt.{WaitAt}
use Rattle.rc_base.specs.declared.window.Layout.{Layout}
use Rattle.scene_lemmas.proofs.Sendings.{parcels_append, requests_append}
use Rattle.client_issue.specs.Laws.{IsSplit}

-- ---- the parcels of several tiles

to_this : (tile k : ℕ) (ps : List Parcel) → (tile == k) ≡ true → parcels_to tile (map (λ p. ToTile k p) ps) ≡ ps
to_this tile k [] t = refl
to_this tile k (p ∷ ps) t = rw t (ap (λ (qs : List Parcel). p ∷ qs) (to_this tile k ps t))

to_other : (tile k : ℕ) (ps : List Parcel) → (tile == k) ≡ false → parcels_to tile (map (λ p. ToTile k p) ps) ≡ []
to_other tile k [] f = refl
to_other tile k (p ∷ ps) f = rw f (to_other tile k ps f)

eq_off : (k n : ℕ) → k < n → (k == n) ≡ false
eq_off k n lt = elim (cases_Bool (k == n)) [ inl t ↦ absurd (let e = eqb-true k n t in omega (arith, e)) | inr f ↦ f ]

abbrev tiles_from : (ℕ → List Parcel) → ℕ → ℕ → List Sending
tiles_from f from n = flat_map (λ tile. map (λ p. ToTile tile p) (f tile)) (range_with_len from n)

-- to later tiles alone
to_later : (tile : ℕ) (f : ℕ → List Parcel) (from n : ℕ) → tile < from → parcels_to tile (tiles_from f from n) ≡ []
to_later tile f from zero lt = refl
to_later tile f from (suc n) lt =
    parcels_append tile (map (λ p. ToTile from p) (f from)) (tiles_from f (from + 1) n)
    ∙ ap (λ (ps : List Parcel). ps ++ parcels_to tile (tiles_from f (from + 1) n)) (to_other tile from (f from) (eq_off tile from lt)) ∙ to_later tile f (from + 1) n (omega (arith, lt))

to_within : (tile : ℕ) (f : ℕ → List Parcel) (from n : ℕ) → from ≤ tile → tile < from + n → parcels_to tile (tiles_from f from n) ≡ f tile
to_within tile f from zero low high = absurd (omega (arith, low, high))
to_within tile f from (suc n) low high = parcels_append tile (map (λ p. ToTile from p) (f from)) (tiles_from f (from + 1) n) ∙ elim (cases_Bool (tile == from)) [
  | inl t ↦
      let same : from ≡ tile = sym (eqb-true tile from t) in
      ap (λ (ps : List Parcel). ps ++ parcels_to tile (tiles_from f (from + 1) n)) (to_this tile from (f from) t)
      ∙ ap (λ (ps : List Parcel). f from ++ ps) (to_later tile f (from + 1) n (omega (arith, same)))
      ∙ append-nil (f from) ∙ ap f same
  | inr off ↦
      let more : from + 1 ≤ tile = elim (cases_lt from tile) [
        | inl lt ↦ omega (arith, lt)
        | inr ge ↦ let e : from ≡ tile = omega (arith, ge, low) in absurd (let h : true ≡ false = sym (eq-eqb tile tile refl) ∙ ap (λ (k : ℕ). tile == k) (sym e) ∙ off in cc)
      ] in
      ap (λ (ps : List Parcel). ps ++ parcels_to tile (tiles_from f (from + 1) n)) (to_other tile from (f from) off) ∙ to_within tile f (from + 1) n more (omega (arith, high))
]

to_manager : (tile : ℕ) (ws : List WaitAt) → parcels_to tile (map (λ (w : WaitAt). ToManager (request_of w)) ws) ≡ []
to_manager tile [] = refl
to_manager tile (w ∷ ws) = to_manager tile ws

no_requests : (k : ℕ) (ps : List Parcel) → requests_in (map (λ p. ToTile k p) ps) ≡ []
no_requests k [] = refl
no_requests k (p ∷ ps) = no_requests k ps

none_asked : (f : ℕ → List Parcel) (from n : ℕ) → requests_in (tiles_from f from n) ≡ []
none_asked f from zero = refl
none_asked f from (suc n) =
    requests_append (map (λ p. ToTile from p) (f from)) (tiles_from f (from + 1) n)
    ∙ ap (λ (rs : List Request). rs ++ requests_in (tiles_from f (from + 1) n)) (no_requests from (f from)) ∙ none_asked f (from + 1) n

asked : (ws : List WaitAt) → requests_in (map (λ (w : WaitAt). ToManager (request_of w)) ws) ≡ map request_of ws
asked [] = refl
asked (w ∷ ws) = ap (λ (rs : List Request). request_of w ∷ rs) (asked ws)

map_append : (ws vs : List WaitAt) → map request_of (ws ++ vs) ≡ map request_of ws ++ map request_of vs
map_append [] vs = refl
map_append (w ∷ ws) vs = ap (λ (rs : List Request). request_of w ∷ rs) (map_append ws vs)

-- ---- the first n commands

module _ (scene : Scene) (l : Layout) (client : ℕ) where
  abbrev of_command : ℕ → ℕ → List Parcel
  of_command place tile = parcels_at scene l client tile place (parcels_before scene l client tile place)

  before_to : (tile n : ℕ) → tile < tile_count l → parcels_to tile (sent_before scene l client n) ≡ parcels_before scene l client tile n
  unfolding sent_before parcels_before
  before_to tile zero lt = refl
  before_to tile (suc n) lt =
      let ws = wait_of n (effect_at scene client n) in
      let items = tiles_from (of_command n) 0 (tile_count l) in
      let here : parcels_to tile (sent_at scene l client n) ≡ of_command n tile =
      parcels_append tile items (map (λ (w : WaitAt). ToManager (request_of w)) ws)
      ∙ ap (λ (ps : List Parcel). parcels_to tile items ++ ps) (to_manager tile ws)
      ∙ append-nil (parcels_to tile items) ∙ to_within tile (of_command n) 0 (tile_count l) (omega arith) (omega (arith, lt)) in
      parcels_append tile (sent_before scene l client n) (sent_at scene l client n)
      ∙ ap (λ (ps : List Parcel). ps ++ parcels_to tile (sent_at scene l client n)) (before_to tile n lt)
      ∙ ap (λ (ps : List Parcel). parcels_before scene l client tile n ++ ps) here

  before_asked : (n : ℕ) → requests_in (sent_before scene l client n) ≡ map request_of (waits_below scene client n)
  unfolding sent_before waits_below
  before_asked zero = refl
  before_asked (suc n) =
      let ws = wait_of n (effect_at scene client n) in
      let items = tiles_from (of_command n) 0 (tile_count l) in
      let asks = map (λ (w : WaitAt). ToManager (request_of w)) ws in
      let here : requests_in (sent_at scene l client n) ≡ map request_of ws =
      requests_append items asks ∙ ap (λ (rs : List Request). rs ++ requests_in asks) (none_asked (of_command n) 0 (tile_count l)) ∙ asked ws in
      requests_append (sent_before scene l client n) (sent_at scene l client n)
      ∙ ap (λ (rs : List Request). rs ++ requests_in (sent_at scene l client n)) (before_asked n)
      ∙ ap (λ (rs : List Request). map request_of (waits_below scene client n) ++ rs) here ∙ sym (map_append (waits_below scene client n) ws)

  -- ---- all of it

  pub all_to : (tile : ℕ) → tile < tile_count l → parcels_to tile (sent_by scene l client) ≡ parcels_of scene l client tile
  unfolding sent_by parcels_of
  all_to tile lt =
      let n = length (stream_of scene client) in
      let last : ℕ → List Parcel = λ tile. end_parcel n ∷ [] in
      let ends = tiles_from last 0 (tile_count l) in
      let here : parcels_to tile (sent_last scene l client) ≡ end_parcel n ∷ [] =
      parcels_append tile ends (ToManager request.End ∷ []) ∙ append-nil (parcels_to tile ends) ∙ to_within tile last 0 (tile_count l) (omega arith) (omega (arith, lt)) in
      parcels_append tile (sent_before scene l client n) (sent_last scene l client)
      ∙ ap (λ (ps : List Parcel). ps ++ parcels_to tile (sent_last scene l client)) (before_to tile n lt)
      ∙ ap (λ (ps : List Parcel). parcels_before scene l client tile n ++ ps) here

  row_is : client < length scene.streams → client_row (sync_lists_of scene) client ≡ sync_row_of scene client
  unfolding sync_lists_of
  row_is lt =
      let rows = map (sync_row_of scene) (range_with_len 0 (length scene.streams)) in
      let e : 0 + client ≡ client = omega arith in
      unwrap_or-slice_get rows client _ ∙ get_or-map-range_with_len (sync_row_of scene) 0 (length scene.streams) client client _ lt e

  pub all_asked : client < length scene.streams → requests_in (sent_by scene l client) ≡ requests_of scene client
  unfolding sent_by
  all_asked lt =
      let n = length (stream_of scene client) in
      let last : ℕ → List Parcel = λ tile. end_parcel n ∷ [] in
      let ends = tiles_from last 0 (tile_count l) in
      let here : requests_in (sent_last scene l client) ≡ request.End ∷ [] =
      requests_append ends (ToManager request.End ∷ []) ∙ ap (λ (rs : List Request). rs ++ request.End ∷ []) (none_asked last 0 (tile_count l)) in
      requests_append (sent_before scene l client n) (sent_last scene l client)
      ∙ ap (λ (rs : List Request). rs ++ requests_in (sent_last scene l client)) (before_asked n)
      ∙ ap (λ (rs : List Request). map request_of (waits_below scene client n) ++ rs) here
      ∙ sym (ap (λ (r : SyncRow). map request_of r.ops ++ request.End ∷ []) (row_is lt))

pub splits : (scene : Scene) (l : Layout) (client : ℕ) → IsSplit scene l client
splits scene l client = record { parcels = all_to scene l client; requests = all_asked scene l client }
