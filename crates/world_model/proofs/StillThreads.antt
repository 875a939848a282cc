-- Turns of the cluster that runs on threads that move nothing, one after the other: all is as it was, so what each of them says is true of the first world.
use Rattle.std.proofs.Common.{◌≡◌, ◌⊎◌, ℕ, ◌+◌, ◌<◌, true, false, List, [], ◌∷◌, length, Option, Some, None, inl, inr, refl, sym, ap, ◌∙◌, subst, arith, true≢false}
use Rattle.std.specs.List.{AllByRecursion}
use Rattle.std.specs.Prelude.{slice_index_or, Ok, Err}
use Rattle.rc_base.specs.Cluster.Tiles.{tile_count}
use Rattle.rc_base.specs.declared.cluster.TilePart.{TilePart}
use Rattle.rc_base.specs.declared.image.Image.{Image}
use Rattle.rc_base.specs.declared.scene.Scene.{Scene}
use Rattle.rc_base.specs.declared.window.Layout.{Layout}
use Rattle.assembler.specs.Assembled.{layout_of, places_of, short_of, ComesOf, IsUnfinished}
use Rattle.assembler.specs.Places.{in_place}
use Rattle.assembler.specs.declared.frame_parts.FrameParts.{FrameParts}
use Rattle.plain_lemmas.proofs.Numbers.{at_one_or_other}
use Rattle.world_model.specs.Laws.{IsSameWorld}
use Rattle.world_model.specs.Threaded.{PartLane, no_lane, ThreadedWorld, ThreadedTurn, Steps, HandsOver, Collects, SeenLanes, lanes_now, lane_of, IsPut, IsTileCoreTurn, IsHandOver, IsIdleCall, IsCall, IsThreadedTurnSeeing, IsThreadedTurn, AreThreadedTurns, IsStill, threaded_number, HaveThreadedTurns}
use Rattle.world_model.specs.Turns.{IsResting}
use Rattle.world_model.specs.Turns.Turn.{ClientTurn, ManagerTurn, TileTurn}
use Rattle.world_model.specs.World.{World, all_lanes, client_total}
use Rattle.world_model.specs.declared.moves.TileAnswer.{TileAnswer}
use Rattle.world_model.specs.declared.moves.TileAnswer.TheVariants.{Swapped, Blocked, Ended}
use Rattle.world_model.proofs.EndedWorldsRest.{same_self, same_on}
use Rattle.world_model.proofs.PartsAreShown.{Finds}
use Rattle.world_model.proofs.RestingRounds.{pick_of, rest_keeps, Exists, exists}
use Rattle.world_model.proofs.RoundsMoveSomebody.{RestsAt, rests_at, before}
use Rattle.world_model.proofs.ShownParts.{none_offered}
use Rattle.world_model.proofs.SomebodyCanMove.{ClientRests, ManagerRests}
use Rattle.world_model.proofs.TilesAtRest.{TileRests}

-- ---- a lane of which nothing is taken

grows_not : {A : Type 0} (x : A) (xs ys : List A) → xs ≡ x ∷ ys → ys ≡ xs → ⊥
grows_not x xs ys e f = let a = ap length e in let b = ap length f in omega (arith, a, b)

-- the place is as it was
idle_finds : (l : Layout) (tile : ℕ) (place found : Option TilePart) (lane later : PartLane) → Finds l tile place lane found later → later.parts ≡ lane.parts → found ≡ place
idle_finds l tile (Some p) found lane later h e = h.0
idle_finds l tile None (Some q) lane later h e = absurd (grows_not q lane.parts later.parts h e)
idle_finds l tile None None lane later h e = refl

module _ (scene : Scene) (l : Layout) (depth : ℕ) where
  -- the lanes of parts and the caller are of the layout
  pub record Fits (w : ThreadedWorld) : Type 0 where
    pub lanes : length w.lanes ≡ tile_count l
    pub layout : layout_of w.caller ≡ l

  -- all is as it was; what is in the places of a short caller is left open
  pub record IsSameThreads (w v : ThreadedWorld) : Type 0 where
    pub cluster : IsSameWorld scene l w.cluster v.cluster
    pub lanes : (tile : ℕ) → tile < tile_count l → lane_of v tile ≡ lane_of w tile
    pub handing : (tile : ℕ) → tile < tile_count l → v.handing tile ≡ w.handing tile
    pub short : short_of v.caller ≡ short_of w.caller
    pub places : short_of w.caller ≡ false → (tile : ℕ) → tile < tile_count l → in_place (places_of v.caller) tile ≡ in_place (places_of w.caller) tile

  pub same_threads : (w : ThreadedWorld) → IsSameThreads w w
  same_threads w = record { cluster = same_self scene l w.cluster; lanes = λ tile lt. refl; handing = λ tile lt. refl; short = refl; places = λ ample tile lt. refl }

  pub same_threads_on : (w u v : ThreadedWorld) → IsSameThreads w u → IsSameThreads u v → IsSameThreads w v
  same_threads_on w u v a b = record {
    cluster = same_on scene l w.cluster u.cluster v.cluster a.cluster b.cluster;
    lanes = λ tile lt. b.lanes tile lt ∙ a.lanes tile lt;
    handing = λ tile lt. b.handing tile lt ∙ a.handing tile lt;
    short = b.short ∙ a.short;
    places = λ ample tile lt. b.places (a.short ∙ ample) tile lt ∙ a.places ample tile lt;
  }

  -- where the caller is as it was
  by_caller : (w v : ThreadedWorld) → IsSameWorld scene l w.cluster v.cluster → ((tile : ℕ) → tile < tile_count l → lane_of v tile ≡ lane_of w tile)
      → ((tile : ℕ) → tile < tile_count l → v.handing tile ≡ w.handing tile) → v.caller ≡ w.caller → IsSameThreads w v
  by_caller w v cluster lanes handing caller = record {
    cluster = cluster;
    lanes = lanes;
    handing = handing;
    short = ap short_of caller;
    places = λ ample tile lt. ap (λ (a : FrameParts). in_place (places_of a) tile) caller;
  }

  fits_on : (w v : ThreadedWorld) → Fits w → length v.lanes ≡ length w.lanes → layout_of v.caller ≡ layout_of w.caller → Fits v
  fits_on w v h lanes layout = record { lanes = lanes ∙ h.lanes; layout = layout ∙ h.layout }

  -- ---- the caller

  -- it takes and drops nothing, so what it waits for, or drops, isn't there; and where it isn't short a place is empty
  pub record CallerRests (w : ThreadedWorld) : Type 0 where
    pub drops : short_of w.caller ≡ true → (tile : ℕ) → tile < tile_count l → lane_of w tile ≡ []
    pub gap : short_of w.caller ≡ false → (tile : ℕ) × (tile < tile_count l) × (in_place (places_of w.caller) tile ≡ None)
    pub bare : short_of w.caller ≡ false → (tile : ℕ) → tile < tile_count l → in_place (places_of w.caller) tile ≡ None → lane_of w tile ≡ []

  module _ (w v : ThreadedWorld) (seen : SeenLanes) (frame : Option Image) (fit : Fits w) (m : IsCall scene l depth w seen false frame v) where
    idle : IsIdleCall l w frame v
    idle = m.idle refl

    low_lane : (tile : ℕ) → tile < tile_count l → tile < length w.lanes
    low_lane tile lt = subst (λ n. tile < n) (sym fit.lanes) lt

    module _ (ample : short_of w.caller ≡ false) where
      abbrev found : List (Option TilePart)
      found = (m.step.whole ample).found

      finds : (tile : ℕ) → tile < tile_count l → in_place found tile ≡ in_place (places_of w.caller) tile
      finds tile lt = idle_finds l tile (in_place (places_of w.caller) tile) (in_place found tile) (slice_index_or w.lanes tile no_lane) (slice_index_or v.lanes tile no_lane)
          ((m.step.whole ample).each.at tile no_lane (low_lane tile lt)) (idle.lanes tile lt)

      unfinished : IsUnfinished (layout_of w.caller) found v.caller
      unfinished = elim (subst (λ (o : Option Image). ComesOf (layout_of w.caller) found o v.caller) idle.none (m.step.whole ample).comes) [
        | inl u ↦ u
        | inr s ↦ absurd (true≢false (sym s.short ∙ idle.short ∙ ample))
      ]

      places_same : (tile : ℕ) → tile < tile_count l → in_place (places_of v.caller) tile ≡ in_place (places_of w.caller) tile
      places_same tile lt = ap (λ (ps : List (Option TilePart)). in_place ps tile) unfinished.places ∙ finds tile lt

      gap_is : (tile : ℕ) × (tile < tile_count l) × (in_place (places_of w.caller) tile ≡ None)
      gap_is =
          let g = unfinished.gap in
          let lt : g.tile < tile_count l = subst (λ (k : Layout). g.tile < tile_count k) fit.layout g.low in
          (g.tile, lt, sym (finds g.tile lt) ∙ g.missing)

    call_still : IsSameThreads w v
    call_still = record {
      cluster = subst (λ (c : World). IsSameWorld scene l w.cluster c) (sym m.cluster) (same_self scene l w.cluster);
      lanes = idle.lanes;
      handing = m.handing;
      short = idle.short;
      places = λ ample tile lt. places_same ample tile lt;
    }

  caller_rests : (w v : ThreadedWorld) (frame : Option Image) → Fits w → IsCall scene l depth w (lanes_now w) false frame v → CallerRests w
  caller_rests w v frame fit m = record {
    drops = λ short tile lt. m.empty tile lt (inl short) ((m.idle refl).lanes tile lt);
    gap = gap_is w v (lanes_now w) frame fit m;
    bare = λ ample tile lt none. m.empty tile lt (inr none) ((m.idle refl).lanes tile lt);
  }

  -- ---- a turn that moves nothing

  tile_silent : (answer : TileAnswer) → (answer ≡ Blocked) ⊎ (answer ≡ Ended) → answer ≡ Swapped → ⊥
  tile_silent answer (inl b) e = let same = sym b ∙ e in cc
  tile_silent answer (inr b) e = let same = sym b ∙ e in cc

  core_still : (w v : ThreadedWorld) (seen : SeenLanes) (tile : ℕ) (answer : TileAnswer) → IsResting (TileTurn tile (Ok answer)) → IsTileCoreTurn scene l depth w seen tile (Ok answer) v
      → IsSameThreads w v
  core_still w v seen tile answer rest m =
      let none = none_offered answer m.offered (tile_silent answer rest) m.offers in
      let put = subst (λ (o : Option TilePart). IsPut depth o (lane_of w tile) (seen.parts tile) (lane_of v tile) (v.handing tile)) none m.put in
      by_caller w v (rest_keeps scene l depth w.cluster v.cluster seen.cluster (TileTurn tile (Ok answer)) rest m.step)
      (at_one_or_other (λ i. i < tile_count l → lane_of v i ≡ lane_of w i) tile (λ lt. put.0) (λ i ne lt. m.only.lanes i lt ne))
      (at_one_or_other (λ i. i < tile_count l → v.handing i ≡ w.handing i) tile (λ lt. put.1 ∙ sym m.free) (λ i ne lt. m.only.handing i lt ne)) m.only.caller

  kept_still : (w v : ThreadedWorld) (seen : SeenLanes) (tile : ℕ) → IsHandOver scene l depth w seen tile false v → IsSameThreads w v
  kept_still w v seen tile m =
      by_caller w v (subst (λ (c : World). IsSameWorld scene l w.cluster c) (sym m.cluster) (same_self scene l w.cluster))
      (at_one_or_other (λ i. i < tile_count l → lane_of v i ≡ lane_of w i) tile (λ lt. m.put.same) (λ i ne lt. m.only.lanes i lt ne))
      (at_one_or_other (λ i. i < tile_count l → v.handing i ≡ w.handing i) tile (λ lt. m.put.waits ∙ sym m.waits) (λ i ne lt. m.only.handing i lt ne)) m.only.caller

  pub still_keeps : (w v : ThreadedWorld) (seen : SeenLanes) (turn : ThreadedTurn) → Fits w → IsStill turn → IsThreadedTurnSeeing scene l depth w seen turn v
      → IsSameThreads w v × Fits v
  still_keeps w v seen (Steps (ClientTurn client answer)) fit still m = (
    by_caller w v (rest_keeps scene l depth w.cluster v.cluster seen.cluster (ClientTurn client answer) still m.step) m.parts.lanes m.parts.handing m.parts.caller,
    fits_on w v fit m.parts.count (ap layout_of m.parts.caller),
  )
  still_keeps w v seen (Steps (ManagerTurn answer)) fit still m = (
    by_caller w v (rest_keeps scene l depth w.cluster v.cluster seen.cluster (ManagerTurn answer) still m.step) m.parts.lanes m.parts.handing m.parts.caller,
    fits_on w v fit m.parts.count (ap layout_of m.parts.caller),
  )
  still_keeps w v seen (Steps (TileTurn tile (Ok answer))) fit still m = (core_still w v seen tile answer still m, fits_on w v fit m.only.count (ap layout_of m.only.caller))
  still_keeps w v seen (Steps (TileTurn tile (Err lack))) fit still m = absurd still
  still_keeps w v seen (HandsOver tile true) fit still m = absurd (true≢false still)
  still_keeps w v seen (HandsOver tile false) fit still m = (kept_still w v seen tile m, fits_on w v fit m.only.count (ap layout_of m.only.caller))
  still_keeps w v seen (Collects true frame) fit still m = absurd (true≢false still)
  still_keeps w v seen (Collects false frame) fit still m = (call_still w v seen frame fit m, fits_on w v fit m.count m.step.layout)

  pub all_still : (w v : ThreadedWorld) (turns : List ThreadedTurn) → Fits w → AllByRecursion IsStill turns → AreThreadedTurns scene l depth w turns v → IsSameThreads w v
  all_still w v [] fit still h = subst (λ u. IsSameThreads w u) (sym h) (same_threads w)
  all_still w v (m ∷ turns) fit still h =
      let first = still_keeps w h.0 (lanes_now w) m fit still.0 h.1 in
      same_threads_on w h.0 v first.0 (all_still h.0 v turns first.1 still.1 h.2)

  -- ---- what each turn says

  -- a part waits for room in the tile's lane
  abbrev pub HandsKept : ThreadedWorld → ℕ → Type 0
  HandsKept w tile = (part : TilePart) × (w.handing tile ≡ Some part) × (length (lane_of w tile) ≡ depth)

  abbrev pub Says : ThreadedWorld → ThreadedTurn → Type 0
  Says w (Steps (ClientTurn client answer)) = RestsAt scene l depth w.cluster (ClientTurn client answer)
  Says w (Steps (ManagerTurn answer)) = RestsAt scene l depth w.cluster (ManagerTurn answer)
  Says w (Steps (TileTurn tile answer)) = (w.handing tile ≡ None) × RestsAt scene l depth w.cluster (TileTurn tile answer)
  Says w (HandsOver tile sent) = HandsKept w tile
  Says w (Collects moved frame) = CallerRests w

  -- the actor of a turn exists
  abbrev pub IsActor : ThreadedTurn → Type 0
  IsActor (Steps turn) = Exists scene l depth turn
  IsActor (HandsOver tile sent) = tile < tile_count l
  IsActor (Collects moved frame) = Unit {0}

  abbrev pub Known : ThreadedWorld → ThreadedTurn → Type 0
  Known w m = IsActor m × Says w m

  pub knows : (w v : ThreadedWorld) (m : ThreadedTurn) → Fits w → IsStill m → IsThreadedTurn scene l depth w m v → Known w m
  knows w v (Steps (ClientTurn client answer)) fit still m =
      (exists scene l depth w.cluster v.cluster (all_lanes w.cluster) (ClientTurn client answer) m.step, rests_at scene l depth w.cluster v.cluster (ClientTurn client answer) still m.step)
  knows w v (Steps (ManagerTurn answer)) fit still m = (tt, rests_at scene l depth w.cluster v.cluster (ManagerTurn answer) still m.step)
  knows w v (Steps (TileTurn tile answer)) fit still m = (
    exists scene l depth w.cluster v.cluster (all_lanes w.cluster) (TileTurn tile answer) m.step,
    (m.free, rests_at scene l depth w.cluster v.cluster (TileTurn tile answer) still m.step),
  )
  knows w v (HandsOver tile true) fit still m = absurd (true≢false still)
  knows w v (HandsOver tile false) fit still m = (m.low, (m.part, m.waits, m.put.full))
  knows w v (Collects true frame) fit still m = absurd (true≢false still)
  knows w v (Collects false frame) fit still m = (tt, caller_rests w v frame fit m)

  pub said_before : (w v : ThreadedWorld) (m : ThreadedTurn) → IsSameThreads w v → Known v m → Known w m
  said_before w v (Steps (ClientTurn client answer)) s k = (k.0, before scene l depth w.cluster v.cluster (ClientTurn client answer) k.0 s.cluster k.1)
  said_before w v (Steps (ManagerTurn answer)) s k = (k.0, before scene l depth w.cluster v.cluster (ManagerTurn answer) k.0 s.cluster k.1)
  said_before w v (Steps (TileTurn tile answer)) s k =
      (k.0, (sym (s.handing tile k.0) ∙ k.1.0, before scene l depth w.cluster v.cluster (TileTurn tile answer) k.0 s.cluster k.1.1))
  said_before w v (HandsOver tile sent) s k = (k.0, (k.1.0, sym (s.handing tile k.0) ∙ k.1.1, sym (ap length (s.lanes tile k.0)) ∙ k.1.2))
  said_before w v (Collects moved frame) s k = (
    tt,
    record {
      drops = λ short tile lt. sym (s.lanes tile lt) ∙ k.1.drops (s.short ∙ short) tile lt;
      gap = λ ample. let g = k.1.gap (s.short ∙ ample) in (g.0, g.1, sym (s.places ample g.0 g.1) ∙ g.2);
      bare = λ ample tile lt none. sym (s.lanes tile lt) ∙ k.1.bare (s.short ∙ ample) tile lt (s.places ample tile lt ∙ none);
    },
  )

  all_before : (w v : ThreadedWorld) (turns : List ThreadedTurn) → IsSameThreads w v → AllByRecursion (Known v) turns → AllByRecursion (Known w) turns
  all_before w v [] s h = tt
  all_before w v (m ∷ turns) s h = (said_before w v m s h.0, all_before w v turns s h.1)

  all_known : (w v : ThreadedWorld) (turns : List ThreadedTurn) → Fits w → AllByRecursion IsStill turns → AreThreadedTurns scene l depth w turns v → AllByRecursion (Known w) turns
  all_known w v [] fit still h = tt
  all_known w v (m ∷ turns) fit still h =
      let first = still_keeps w h.0 (lanes_now w) m fit still.0 h.1 in
      (knows w h.0 m fit still.0 h.1, all_before w h.0 turns first.0 (all_known h.0 v turns first.1 still.1 h.2))

  -- ---- each actor has a turn

  -- no actor of the world can move
  pub record AllThreadsRest (w : ThreadedWorld) : Type 0 where
    pub clients : (client : ℕ) → client < client_total scene → ClientRests l depth w.cluster client
    pub manager : ManagerRests scene l depth w.cluster
    pub tiles : (tile : ℕ) → tile < tile_count l → ((w.handing tile ≡ None) × TileRests scene w.cluster tile) ⊎ HandsKept w tile
    pub caller : CallerRests w

  client_of : (w : ThreadedWorld) (c : ℕ) → c < client_total scene → (m : ThreadedTurn) → Known w m → threaded_number scene l m ≡ c → ClientRests l depth w.cluster c
  client_of w c lc (Steps (ClientTurn client answer)) k e = subst (λ i. ClientRests l depth w.cluster i) e k.1
  client_of w c lc (Steps (ManagerTurn answer)) k e = absurd (omega (arith, lc, e))
  client_of w c lc (Steps (TileTurn tile answer)) k e = absurd (omega (arith, lc, e))
  client_of w c lc (HandsOver tile sent) k e = absurd (omega (arith, lc, e))
  client_of w c lc (Collects moved frame) k e = absurd (omega (arith, lc, e))

  manager_of : (w : ThreadedWorld) (m : ThreadedTurn) → Known w m → threaded_number scene l m ≡ client_total scene → ManagerRests scene l depth w.cluster
  manager_of w (Steps (ClientTurn client answer)) k e = absurd (let lc = k.0 in omega (arith, lc, e))
  manager_of w (Steps (ManagerTurn answer)) k e = k.1
  manager_of w (Steps (TileTurn tile answer)) k e = absurd (omega (arith, e))
  manager_of w (HandsOver tile sent) k e = absurd (omega (arith, e))
  manager_of w (Collects moved frame) k e = absurd (omega (arith, e))

  tile_of : (w : ThreadedWorld) (t : ℕ) → t < tile_count l → (m : ThreadedTurn) → Known w m → threaded_number scene l m ≡ client_total scene + 1 + t
      → ((w.handing t ≡ None) × TileRests scene w.cluster t) ⊎ HandsKept w t
  tile_of w t lt (Steps (ClientTurn client answer)) k e = absurd (let lc = k.0 in omega (arith, lc, e))
  tile_of w t lt (Steps (ManagerTurn answer)) k e = absurd (omega (arith, e))
  tile_of w t lt (Steps (TileTurn tile answer)) k e =
      let same : tile ≡ t = omega (arith, e) in
      subst (λ i. ((w.handing i ≡ None) × TileRests scene w.cluster i) ⊎ HandsKept w i) same (inl k.1)
  tile_of w t lt (HandsOver tile sent) k e =
      let same : tile ≡ t = omega (arith, e) in
      subst (λ i. ((w.handing i ≡ None) × TileRests scene w.cluster i) ⊎ HandsKept w i) same (inr k.1)
  tile_of w t lt (Collects moved frame) k e = absurd (omega (arith, lt, e))

  caller_of : (w : ThreadedWorld) (m : ThreadedTurn) → Known w m → threaded_number scene l m ≡ client_total scene + 1 + tile_count l → CallerRests w
  caller_of w (Steps (ClientTurn client answer)) k e = absurd (let lc = k.0 in omega (arith, lc, e))
  caller_of w (Steps (ManagerTurn answer)) k e = absurd (let n = e in omega (arith, n))
  caller_of w (Steps (TileTurn tile answer)) k e = absurd (let lt = k.0 in omega (arith, lt, e))
  caller_of w (HandsOver tile sent) k e = absurd (let lt = k.0 in omega (arith, lt, e))
  caller_of w (Collects moved frame) k e = k.1

  -- a turn of each actor says so
  pub all_rest_of : (w : ThreadedWorld) → ((k : ℕ) → k < client_total scene + 1 + tile_count l + 1 → (m : ThreadedTurn) × Known w m × (threaded_number scene l m ≡ k))
      → AllThreadsRest w
  all_rest_of w pick = record {
    clients = λ c lc. let m = pick c (omega (arith, lc)) in client_of w c lc m.0 m.1 m.2;
    manager = let m = pick (client_total scene) (omega arith) in manager_of w m.0 m.1 m.2;
    tiles = λ t lt. let m = pick (client_total scene + 1 + t) (omega (arith, lt)) in tile_of w t lt m.0 m.1 m.2;
    caller = let m = pick (client_total scene + 1 + tile_count l) (omega arith) in caller_of w m.0 m.1 m.2;
  }

  pub all_rest : (w v : ThreadedWorld) (turns : List ThreadedTurn) → Fits w → HaveThreadedTurns scene l turns → AllByRecursion IsStill turns
      → AreThreadedTurns scene l depth w turns v → AllThreadsRest w
  all_rest w v turns fit has still h =
      let known = all_known w v turns fit still h in
      all_rest_of w (λ k lt. pick_of (Known w) (threaded_number scene l) k turns (has k lt) known)
