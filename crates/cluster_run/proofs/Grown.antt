-- What a turn of each worker appends to the lists of its ends.
use Rattle.std.proofs.Common.{◌≡◌, ◌==◌, ℕ, Bool, true, false, cond, List, [], ◌∷◌, ◌++◌, length, inl, inr, sym, ap, ◌∙◌, append-nil, eqb-true, eq-eqb, true≢false}
use Rattle.std.proofs.lemmas.Bool.{cases_Bool}
use Rattle.std.specs.Prelude.{slice_index_or, option_to_list, MatchOption, None, Option, Some}
use Rattle.rc_base.specs.Cluster.Lanes.{EachLane}
use Rattle.rc_base.specs.declared.cluster.TilePart.{TilePart}
use Rattle.rc_base.specs.declared.state.Parcel.{Parcel}
use Rattle.rc_base.specs.declared.sync.Request.{Request}
use Rattle.client_issue.specs.Deeds.{ClientDeed}
use Rattle.client_issue.specs.Deeds.ClientDeed.{Appends, Requests, FindsTileFull, FindsManagerFull, Finishes, Loses}
use Rattle.client_issue.specs.Steps.{HasGot, IsFoundFull, IsLaneAlone, AreSent, IsRequested}
use Rattle.sync_manager.specs.Progress.{taken_of as received_by}
use Rattle.sync_manager.specs.declared.deed.ManagerDeed.{ManagerDeed}
use Rattle.tile_queues.specs.Ends.{fulls_of, sent_of, taken_of, MayBeFull, Took, TookNone}
use Rattle.tile_queues.specs.declared.ends.LaneIn.{LaneIn}
use Rattle.tile_queues.specs.declared.ends.LaneOut.{LaneOut}
use Rattle.cluster_run.specs.Steps.{TileTurn, parcels_by, requests_by, parcels_in, grants_in, parts_by, IsClientTurn, IsManagerTurn, IsPut, IsTileTurn}
use Rattle.cluster_run.specs.Steps.TileTurn.{StepsCore, HandsOver, DrawsBlock}
use Rattle.cluster_run.specs.declared.workers.ClientWorker.{ClientWorker}
use Rattle.cluster_run.specs.declared.workers.ManagerWorker.{ManagerWorker}
use Rattle.cluster_run.specs.declared.workers.TileWorker.{TileWorker}

-- ---- clients

module _ {R : Type 0} where
  abbrev Grow : (ℕ → List Parcel) → List (LaneIn Parcel R) → List (LaneIn Parcel R) → Type 0
  Grow by xs ys = EachLane (λ i a b. sent_of b ≡ sent_of a ++ by i) xs ys

  none_grows : (xs ys : List (LaneIn Parcel R)) → ys ≡ xs → Grow (λ i. []) xs ys
  none_grows xs ys e = record {
    count = ap length e;
    at = λ i d lt. ap (λ (zs : List (LaneIn Parcel R)). sent_of (slice_index_or zs i d)) e ∙ sym (append-nil (sent_of (slice_index_or xs i d)));
  }

  one_grows : (tile : ℕ) (items : List Parcel) (became : LaneIn Parcel R → LaneIn Parcel R → Type 0) → ((a b : LaneIn Parcel R) → became a b → sent_of b ≡ sent_of a ++ items)
      → (xs ys : List (LaneIn Parcel R)) → IsLaneAlone tile became xs ys → Grow (λ i. cond (i == tile) items []) xs ys
  one_grows tile items became says xs ys h = record {
    count = h.here.count;
    at = λ i d lt. elim (cases_Bool (i == tile)) [
      | inl t ↦ rw t (says (slice_index_or xs i d) (slice_index_or ys i d) (h.here.at i d lt (eqb-true i tile t)))
      | inr f ↦ rw f (ap sent_of (h.others.at i d lt (λ e. true≢false (sym (eq-eqb i tile e) ∙ f))) ∙ sym (append-nil (sent_of (slice_index_or xs i d))))
    ];
  }

  one_stays : (tile : ℕ) (became : LaneIn Parcel R → LaneIn Parcel R → Type 0) → ((a b : LaneIn Parcel R) → became a b → sent_of b ≡ sent_of a)
      → (xs ys : List (LaneIn Parcel R)) → IsLaneAlone tile became xs ys → Grow (λ i. []) xs ys
  one_stays tile became says xs ys h = record {
    count = h.here.count;
    at = λ i d lt. elim (cases_Bool (i == tile)) [
      | inl t ↦ says (slice_index_or xs i d) (slice_index_or ys i d) (h.here.at i d lt (eqb-true i tile t)) ∙ sym (append-nil (sent_of (slice_index_or xs i d)))
      | inr f ↦ ap sent_of (h.others.at i d lt (λ e. true≢false (sym (eq-eqb i tile e) ∙ f))) ∙ sym (append-nil (sent_of (slice_index_or xs i d)))
    ];
  }

  parcels_grow : (deed : ClientDeed) (xs ys : List (LaneIn Parcel R)) → AreSent sent_of fulls_of MayBeFull deed xs ys → Grow (parcels_by deed) xs ys
  parcels_grow (Appends tile parcel) xs ys h = one_grows tile (parcel ∷ []) (HasGot sent_of fulls_of MayBeFull parcel) (λ a b got. got.appended) xs ys h
  parcels_grow (Requests r) xs ys h = none_grows xs ys h
  parcels_grow (FindsTileFull tile parcel) xs ys h = one_stays tile (IsFoundFull sent_of fulls_of MayBeFull) (λ a b found. found.same) xs ys h
  parcels_grow (FindsManagerFull r) xs ys h = none_grows xs ys h
  parcels_grow Finishes xs ys h = none_grows xs ys h
  parcels_grow Loses xs ys h = none_grows xs ys h

  stays : (a b : LaneIn Request R) → b ≡ a → sent_of b ≡ sent_of a ++ []
  stays a b e = ap sent_of e ∙ sym (append-nil (sent_of a))

  requests_grow : (deed : ClientDeed) (a b : LaneIn Request R) → IsRequested sent_of fulls_of MayBeFull deed a b → sent_of b ≡ sent_of a ++ requests_by deed
  requests_grow (Appends tile parcel) a b h = stays a b h
  requests_grow (Requests r) a b h = h.appended
  requests_grow (FindsTileFull tile parcel) a b h = stays a b h
  requests_grow (FindsManagerFull r) a b h = h.same ∙ sym (append-nil (sent_of a))
  requests_grow Finishes a b h = stays a b h
  requests_grow Loses a b h = stays a b h

  pub client_sends : (before after : ClientWorker R) (deed : ClientDeed) → IsClientTurn before deed after
      → EachLane (λ i a b. sent_of b ≡ sent_of a ++ parcels_by deed i) before.tiles.items after.tiles.items
  client_sends before after deed is = parcels_grow deed before.tiles.items after.tiles.items is.parcels

  pub client_asks : (before after : ClientWorker R) (deed : ClientDeed) → IsClientTurn before deed after
      → sent_of after.requests ≡ sent_of before.requests ++ requests_by deed
  client_asks before after deed is = requests_grow deed before.requests after.requests is.requests

-- ---- what is taken of a lane

took_grows : {T R : Type 0} (o : Option T) (a b : LaneOut T R) → MatchOption o (TookNone a b) (λ x. Took a x b) → taken_of b ≡ taken_of a ++ option_to_list o
took_grows None a b h = h.0 ∙ sym (append-nil (taken_of a))
took_grows (Some x) a b h = h.0

each_took : {T R : Type 0} (taken : ℕ → Option T) (xs ys : List (LaneOut T R)) → EachLane (λ i a b. MatchOption (taken i) (TookNone a b) (λ x. Took a x b)) xs ys
    → EachLane (λ i a b. taken_of b ≡ taken_of a ++ option_to_list (taken i)) xs ys
each_took taken xs ys h = record {
  count = h.count;
  at = λ i d low. took_grows (taken i) (slice_index_or xs i d) (slice_index_or ys i d) (h.at i d low);
}

-- ---- the manager

module _ {R : Type 0} where
  pub manager_receives : (before after : ManagerWorker R) (deed : ManagerDeed) → IsManagerTurn before deed after
      → EachLane (λ i a b. taken_of b ≡ taken_of a ++ option_to_list (received_by deed i)) before.requests.items after.requests.items
  manager_receives before after deed is = each_took (received_by deed) before.requests.items after.requests.items is.requests

-- ---- tiles

module _ {R : Type 0} where
  pub tile_takes : (before after : TileWorker R) (turn : TileTurn) → IsTileTurn before turn after
      → EachLane (λ i a b. taken_of b ≡ taken_of a ++ parcels_in turn i) before.clients.items after.clients.items
  tile_takes before after (StepsCore deed offered sent) is = each_took _ before.clients.items after.clients.items is.done.clients
  tile_takes before after (HandsOver part sent) is = record {
    count = ap (λ v. length v.items) is.done.clients;
    at = λ i d low. ap (λ v. taken_of (slice_index_or v.items i d)) is.done.clients ∙ sym (append-nil (taken_of (slice_index_or before.clients.items i d)));
  }
  tile_takes before after DrawsBlock is = record {
    count = ap (λ v. length v.items) is.done.clients;
    at = λ i d low. ap (λ v. taken_of (slice_index_or v.items i d)) is.done.clients ∙ sym (append-nil (taken_of (slice_index_or before.clients.items i d)));
  }

  pub tile_hears : (before after : TileWorker R) (turn : TileTurn) → IsTileTurn before turn after → taken_of after.grants ≡ taken_of before.grants ++ grants_in turn
  tile_hears before after (StepsCore deed offered sent) is = took_grows _ before.grants after.grants is.done.grants
  tile_hears before after (HandsOver part sent) is = ap (λ b. taken_of b) is.done.grants ∙ sym (append-nil (taken_of before.grants))
  tile_hears before after DrawsBlock is = ap (λ b. taken_of b) is.done.grants ∙ sym (append-nil (taken_of before.grants))

  -- a part that is put, or none
  put_grows : (offered : Option TilePart) (sent : Bool) (a b : LaneIn TilePart R) (held : Option TilePart) → IsPut offered sent a b held
      → sent_of b ≡ sent_of a ++ cond sent (option_to_list offered) []
  put_grows None sent a b held h = ap (λ (x : LaneIn TilePart R). sent_of x) h.1 ∙ sym (append-nil (sent_of a)) ∙ ap (λ s. sent_of a ++ cond s [] []) (sym h.0)
  put_grows (Some part) true a b held h = h.0.appended
  put_grows (Some part) false a b held h = h.0.same ∙ sym (append-nil (sent_of a))

  pub tile_shows : (before after : TileWorker R) (turn : TileTurn) → IsTileTurn before turn after → sent_of after.parts ≡ sent_of before.parts ++ parts_by turn
  tile_shows before after (StepsCore deed offered sent) is = put_grows offered sent before.parts after.parts after.held is.done.parts
  tile_shows before after (HandsOver part sent) is = put_grows (Some part) sent before.parts after.parts after.held is.done.parts
  tile_shows before after DrawsBlock is = ap (λ b. sent_of b) is.done.parts ∙ sym (append-nil (sent_of before.parts))
