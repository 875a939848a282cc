-- Each turn of the cluster that runs on threads that moves something leaves less to do, and no turn leaves more, whatever its actor saw of its lanes.
use Rattle.std.proofs.Common.{◌≡◌, ◌⊎◌, ℕ, zero, suc, ◌+◌, ◌<◌, ◌≤◌, Bool, true, false, cond, List, [], ◌∷◌, length, Option, Some, None, inl, inr, refl, sym, ap, ◌∙◌, subst, arith, length-append, true≢false}
use Rattle.std.proofs.lemmas.Bool.{cases_Bool, cases_lt}
use Rattle.std.specs.Prelude.{option_to_list, slice_index_or, Result}
use Rattle.rc_base.specs.Cluster.Tiles.{tile_count}
use Rattle.rc_base.specs.Orders.Sync.{IsWellFormed, sync_lists_of}
use Rattle.rc_base.specs.declared.cluster.TilePart.{TilePart}
use Rattle.rc_base.specs.declared.image.Image.{Image}
use Rattle.rc_base.specs.declared.out_of_memory.OutOfMemory.{OutOfMemory}
use Rattle.rc_base.specs.declared.scene.Scene.{Scene}
use Rattle.rc_base.specs.declared.window.Layout.{Layout}
use Rattle.assembler.specs.Assembled.{layout_of, places_of, short_of, ComesOf, IsAssembledOf}
use Rattle.assembler.specs.Parts.{ArePartsOf}
use Rattle.assembler.specs.Places.{in_place, IsTaken}
use Rattle.assembler.specs.declared.frame_parts.FrameParts.{FrameParts}
use Rattle.assembler.proofs.Waiting.{stands_in, none_in}
use Rattle.plain_lemmas.proofs.Lists.{item_within}
use Rattle.world_model.specs.Threaded.{PartLane, no_lane, GaveFirst, GaveNone, empties_of, HoldsAny, ThreadedWorld, ThreadedTurn, Steps, HandsOver, Collects, SeenLanes, lane_of, IsPut, NoParts, OnlyPartsOf, IsTileCoreTurn, IsHandOver, IsCall, IsThreadedTurnSeeing, IsStill}
use Rattle.world_model.specs.ThreadedFair.{placed, part_work, threaded_work, ThreadedTurnsLeaveLess, ThreadedTurnsLeaveNoMore, NewThreadedWorldsHaveLittleToDo}
use Rattle.world_model.specs.ThreadedLaws.{IsThreadedFlowing}
use Rattle.world_model.specs.Turns.Turn.{ClientTurn, ManagerTurn, TileTurn}
use Rattle.world_model.specs.Work.{total, one_unless, work_in, TurnsLeaveLess, TurnsLeaveNoMore, NewWorldsHaveLittleToDo}
use Rattle.world_model.specs.declared.moves.TileAnswer.{TileAnswer}
use Rattle.world_model.proofs.PartsAreShown.{Finds}
use Rattle.world_model.proofs.RestingRounds.{exists}
use Rattle.world_model.proofs.StillThreads.{Fits, IsSameThreads, still_keeps}
use Rattle.world_model.proofs.TurnsLeaveLess.{total_same, total_least, total_change}
use Rattle.world_model.proofs.WorkIsBounded.{rests}

-- ---- sums

-- no number is greater, so the sum is less, or all are the same
less_or_same : (f g : ℕ → ℕ) (n : ℕ) → ((i : ℕ) → i < n → g i ≤ f i) → (total g n < total f n) ⊎ ((i : ℕ) → i < n → g i ≡ f i)
less_or_same f g zero h = inr (λ i lt. absurd (omega (arith, lt)))
less_or_same f g (suc n) h = elim (less_or_same f g n (λ i lt. h i (omega (arith, lt)))) [
  | inl less ↦ inl (let last = h n (omega arith) in omega (arith, less, last))
  | inr same ↦ elim (cases_lt (g n) (f n)) [
    | inl less ↦ inl (let before = total_same f g n same in omega (arith, less, before))
    | inr ge ↦ inr (λ i lt. elim (cases_lt i n) [
      | inl below ↦ same i below
      | inr at ↦ let e : i ≡ n = omega (arith, lt, at) in let last = h n (omega arith) in let here : g n ≡ f n = omega (arith, ge, last) in ap g e ∙ here ∙ ap f (sym e)
    ])
  ]
]

-- each number is less, so the sum is
all_less : (f g : ℕ → ℕ) (n : ℕ) → 0 < n → ((i : ℕ) → i < n → g i < f i) → total g n < total f n
all_less f g zero pos h = absurd (omega (arith, pos))
all_less f g (suc n) pos h =
    let a = total_least f g n (λ i lt. let k = h i (omega (arith, lt)) in omega (arith, k)) in
    let b = h n (omega arith) in
    omega (arith, a, b)

-- ---- one tile

held_one : (o : Option TilePart) → o ≡ None → length (option_to_list o) ≡ 0
held_one o e = ap (λ (o : Option TilePart). length (option_to_list o)) e

-- what is put is three things to do at most
put_work : (depth : ℕ) (offered : Option TilePart) (lane seen later : List TilePart) (handing : Option TilePart) → IsPut depth offered lane seen later handing
    → length (option_to_list handing) + length (option_to_list handing) + length (option_to_list handing) + (length later + length later) ≤ length lane + length lane + 3
put_work depth None lane seen later handing h =
    let a = ap length h.0 in
    let b = held_one handing h.1 in
    omega (arith, a, b)
put_work depth (Some part) lane seen later handing (inl s) =
    let a = ap length s.appended ∙ length-append lane (part ∷ []) in
    let b = held_one handing s.free in
    omega (arith, a, b)
put_work depth (Some part) lane seen later handing (inr k) =
    let a = ap length k.same in
    let b = ap (λ (o : Option TilePart). length (option_to_list o)) k.waits in
    omega (arith, a, b)

-- what is found was there, or was taken of the lane
found_work : (l : Layout) (tile : ℕ) (place found : Option TilePart) (lane later : PartLane) → Finds l tile place lane found later
    → length (option_to_list place) + length lane.parts ≡ length (option_to_list found) + length later.parts
found_work l tile (Some p) found lane later h =
    let a = ap (λ (o : Option TilePart). length (option_to_list o)) h.0 in
    let b = ap (λ (x : PartLane). length x.parts) h.1 in
    omega (arith, a, b)
found_work l tile None (Some p) lane later h = let a = ap length h in omega (arith, a)
found_work l tile None None lane later h = let a = ap length h.0 in omega (arith, a)

-- of a lane whose place is full nothing is taken; and what it holds is the same where so many are left
pub found_lane : (l : Layout) (tile : ℕ) (place found : Option TilePart) (lane later : PartLane) → Finds l tile place lane found later
    → (length later.parts ≤ length lane.parts) × (length later.parts ≡ length lane.parts → later.parts ≡ lane.parts)
found_lane l tile (Some p) found lane later h = (let b = ap (λ (x : PartLane). length x.parts) h.1 in omega (arith, b), λ same. ap (λ (x : PartLane). x.parts) h.1)
found_lane l tile None (Some p) lane later h = (let a = ap length h in omega (arith, a), λ same. absurd (let a = ap length h in omega (arith, a, same)))
found_lane l tile None None lane later h = (let a = ap length h.0 in omega (arith, a), λ same. h.0)

pub dropped_lane : (part : Option TilePart) (lane later : PartLane)
    → IsTaken GaveFirst GaveNone empties_of HoldsAny lane part later
    → (length later.parts ≤ length lane.parts) × (length later.parts ≡ length lane.parts → later.parts ≡ lane.parts)
dropped_lane (Some p) lane later h = (let a = ap length h in omega (arith, a), λ same. absurd (let a = ap length h in omega (arith, a, same)))
dropped_lane None lane later h = (let a = ap length h.0 in omega (arith, a), λ same. h.0)

module _ (scene : Scene) (l : Layout) (depth frames : ℕ) (some : 0 < tile_count l) (w v : ThreadedWorld) (seen : SeenLanes) (f : IsThreadedFlowing scene l frames w) where
  -- ---- what tiles show is as it was

  same_placed : (tile : ℕ) → v.caller ≡ w.caller → placed v tile ≡ placed w tile
  same_placed tile caller = ap (λ (a : FrameParts). cond {A = ℕ} (short_of a) 0 (length (option_to_list (in_place (places_of a) tile)))) caller

  same_parts : (tile : ℕ) → lane_of v tile ≡ lane_of w tile → v.handing tile ≡ w.handing tile → v.caller ≡ w.caller → part_work v tile ≡ part_work w tile
  same_parts tile lane handing caller =
      let a = ap length lane in
      let b = ap (λ (o : Option TilePart). length (option_to_list o)) handing in
      let c = same_placed tile caller in
      omega (arith, a, b, c)

  same_short : v.caller ≡ w.caller → one_unless (short_of v.caller) ≡ one_unless (short_of w.caller)
  same_short caller = ap (λ (a : FrameParts). one_unless (short_of a)) caller

  no_parts_change : NoParts l w v → total (part_work v) (tile_count l) ≡ total (part_work w) (tile_count l)
  no_parts_change m = total_same (part_work w) (part_work v) (tile_count l) (λ tile lt. same_parts tile (m.lanes tile lt) (m.handing tile lt) m.caller)

  -- only what this tile shows is another
  one_change : (tile : ℕ) → tile < tile_count l → OnlyPartsOf l w tile v
      → total (part_work v) (tile_count l) + part_work w tile ≡ total (part_work w) (tile_count l) + part_work v tile
  one_change tile lt only = total_change (part_work w) (part_work v) (tile_count l) tile lt (λ i li ne. same_parts i (only.lanes i li ne) (only.handing i li ne) only.caller)

  -- ---- a core's turn

  by_cluster : work_in scene l v.cluster < work_in scene l w.cluster → one_unless (short_of v.caller) ≡ one_unless (short_of w.caller)
      → total (part_work v) (tile_count l) ≤ total (part_work w) (tile_count l) + 3 → threaded_work scene l v < threaded_work scene l w
  by_cluster less short parts = omega (arith, less, short, parts)

  core_less : (tile : ℕ) (answer : Result TileAnswer OutOfMemory) → tile < tile_count l → IsTileCoreTurn scene l depth w seen tile answer v
      → total (part_work v) (tile_count l) ≤ total (part_work w) (tile_count l) + 3
  core_less tile answer lt m =
      let c = one_change tile lt m.only in
      let p = put_work depth m.offered (lane_of w tile) (seen.parts tile) (lane_of v tile) (v.handing tile) m.put in
      let free = held_one (w.handing tile) m.free in
      let same = same_placed tile m.only.caller in
      omega (arith, c, p, free, same)

  -- ---- a part is sent

  sent_less : (tile : ℕ) → IsHandOver scene l depth w seen tile true v → threaded_work scene l v < threaded_work scene l w
  sent_less tile m =
      let c = one_change tile m.low m.only in
      let a = ap length m.put.appended ∙ length-append (lane_of w tile) (m.part ∷ []) in
      let b = held_one (v.handing tile) m.put.free in
      let d = ap (λ (o : Option TilePart). length (option_to_list o)) m.waits in
      let same = same_placed tile m.only.caller in
      let cluster = ap (work_in scene l) m.cluster in
      let short = same_short m.only.caller in
      omega (arith, c, a, b, d, same, cluster, short)

  -- ---- the caller's turn

  module _ (frame : Option Image) (m : IsCall scene l depth w seen true frame v) where
    low_lane : (tile : ℕ) → tile < tile_count l → tile < length w.lanes
    low_lane tile lt = subst (λ n. tile < n) (sym f.lanes) lt

    handed : (tile : ℕ) → tile < tile_count l → length (option_to_list (v.handing tile)) ≡ length (option_to_list (w.handing tile))
    handed tile lt = ap (λ (o : Option TilePart). length (option_to_list o)) (m.handing tile lt)

    cluster_same : work_in scene l v.cluster ≡ work_in scene l w.cluster
    cluster_same = ap (work_in scene l) m.cluster

    by_parts : one_unless (short_of v.caller) ≡ one_unless (short_of w.caller) → total (part_work v) (tile_count l) < total (part_work w) (tile_count l)
        → threaded_work scene l v < threaded_work scene l w
    by_parts short less = let c = cluster_same in omega (arith, short, less, c)

    -- where the frame doesn't come, and lanes of as many parts are the same
    by_lanes : frame ≡ None → short_of v.caller ≡ short_of w.caller
        → ((tile : ℕ) → tile < tile_count l → part_work v tile ≤ part_work w tile)
        → ((tile : ℕ) → tile < tile_count l → part_work v tile ≡ part_work w tile → lane_of v tile ≡ lane_of w tile)
        → threaded_work scene l v < threaded_work scene l w
    by_lanes none short least lanes = elim (less_or_same (part_work w) (part_work v) (tile_count l) least) [
      | inl less ↦ by_parts (ap one_unless short) less
      | inr same ↦ absurd (m.moves refl record { none = none; lanes = λ tile lt. lanes tile lt (same tile lt); short = short })
    ]

    placed_is : (a : ThreadedWorld) (b : Bool) (tile : ℕ) → short_of a.caller ≡ b → placed a tile ≡ cond {A = ℕ} b 0 (length (option_to_list (in_place (places_of a.caller) tile)))
    placed_is a b tile e = ap (λ b. cond {A = ℕ} b 0 (length (option_to_list (in_place (places_of a.caller) tile)))) e

    -- it drops what comes
    dropping : short_of w.caller ≡ true → threaded_work scene l v < threaded_work scene l w
    dropping short =
        let r = m.step.refused short in
        let lane : (tile : ℕ) → tile < tile_count l → (length (lane_of v tile) ≤ length (lane_of w tile)) × (length (lane_of v tile) ≡ length (lane_of w tile) → lane_of v tile ≡ lane_of w tile) =
        λ tile lt. let d = r.each.at tile no_lane (low_lane tile lt) in dropped_lane d.part (slice_index_or w.lanes tile no_lane) (slice_index_or v.lanes tile no_lane) d.taken in
        by_lanes r.none (r.short ∙ sym short)
        (λ tile lt.
        let a = (lane tile lt).0 in
        let b = handed tile lt in
        let c = placed_is v true tile r.short in
        let d = placed_is w true tile short in
        omega (arith, a, b, c, d))
        (λ tile lt same. (lane tile lt).1 (
        let b = handed tile lt in
        let c = placed_is v true tile r.short in
        let d = placed_is w true tile short in
        omega (arith, same, b, c, d)))

    module _ (ample : short_of w.caller ≡ false) where
      a : IsAssembledOf GaveFirst GaveNone empties_of HoldsAny w.caller w.lanes frame v.caller v.lanes
      a = m.step.whole ample

      each : (tile : ℕ) → tile < tile_count l
          → Finds l tile (in_place (places_of w.caller) tile) (slice_index_or w.lanes tile no_lane) (in_place a.found tile) (slice_index_or v.lanes tile no_lane)
      each tile lt = a.each.at tile no_lane (low_lane tile lt)

      works : (tile : ℕ) → tile < tile_count l
          → length (option_to_list (in_place (places_of w.caller) tile)) + length (lane_of w tile) ≡ length (option_to_list (in_place a.found tile)) + length (lane_of v tile)
      works tile lt = found_work l tile (in_place (places_of w.caller) tile) (in_place a.found tile) (slice_index_or w.lanes tile no_lane) (slice_index_or v.lanes tile no_lane) (each tile lt)

      lane : (tile : ℕ) → tile < tile_count l → (length (lane_of v tile) ≤ length (lane_of w tile)) × (length (lane_of v tile) ≡ length (lane_of w tile) → lane_of v tile ≡ lane_of w tile)
      lane tile lt = found_lane l tile (in_place (places_of w.caller) tile) (in_place a.found tile) (slice_index_or w.lanes tile no_lane) (slice_index_or v.lanes tile no_lane) (each tile lt)

      -- it becomes short
      spoilt : short_of v.caller ≡ true → threaded_work scene l v < threaded_work scene l w
      spoilt short =
          let parts = total_least (part_work w) (part_work v) (tile_count l) (λ tile lt.
          let x = (lane tile lt).0 in
          let b = handed tile lt in
          let c = placed_is v true tile short in
          omega (arith, x, b, c)) in
          let c = cluster_same in
          let before : one_unless (short_of w.caller) ≡ 1 = ap one_unless ample in
          let after : one_unless (short_of v.caller) ≡ 0 = ap one_unless short in
          omega (arith, parts, c, before, after)

      comes : (o : Option Image) → frame ≡ o → ComesOf (layout_of w.caller) a.found o v.caller → threaded_work scene l v < threaded_work scene l w
      comes (Some image) e h =
          let sizes = subst (λ (k : Layout). ArePartsOf k h.parts) f.layout h.sizes in
          by_parts (ap one_unless (h.short ∙ sym ample))
          (all_less (part_work w) (part_work v) (tile_count l) some (λ tile lt.
          let there = item_within h.parts tile (subst (λ n. tile < n) (sym sizes.count) lt) in
          let one = ap (λ (ps : List (Option TilePart)). length (option_to_list (in_place ps tile))) h.all
          ∙ ap (λ (o : Option TilePart). length (option_to_list o)) (stands_in h.parts tile there.0 there.1) in
          let none = ap (λ (ps : List (Option TilePart)). length (option_to_list (in_place ps tile))) h.places
          ∙ ap (λ (o : Option TilePart). length (option_to_list o)) (none_in (tile_count (layout_of w.caller)) tile) in
          let x = works tile lt in
          let y = (lane tile lt).0 in
          let b = handed tile lt in
          let c = placed_is v false tile h.short in
          let d = placed_is w false tile ample in
          omega (arith, one, none, x, y, b, c, d)))
      comes None e (inl h) =
          let found : (tile : ℕ) → length (option_to_list (in_place (places_of v.caller) tile)) ≡ length (option_to_list (in_place a.found tile)) =
          λ tile. ap (λ (ps : List (Option TilePart)). length (option_to_list (in_place ps tile))) h.places in
          by_lanes e (h.short ∙ sym ample)
          (λ tile lt.
          let x = works tile lt in
          let y = (lane tile lt).0 in
          let b = handed tile lt in
          let c = placed_is v false tile h.short in
          let d = placed_is w false tile ample in
          let k = found tile in
          omega (arith, x, y, b, c, d, k))
          (λ tile lt same. (lane tile lt).1 (
          let x = works tile lt in
          let b = handed tile lt in
          let c = placed_is v false tile h.short in
          let d = placed_is w false tile ample in
          let k = found tile in
          omega (arith, same, x, b, c, d, k)))
      comes None e (inr h) = spoilt h.short

      collecting : threaded_work scene l v < threaded_work scene l w
      collecting = comes frame refl a.comes

    call_less : threaded_work scene l v < threaded_work scene l w
    call_less = elim (cases_Bool (short_of w.caller)) [ inl short ↦ dropping short | inr ample ↦ collecting ample ]

  -- ---- a turn that moves nothing

  still_same : IsSameThreads scene l depth w v → work_in scene l v.cluster ≤ work_in scene l w.cluster → threaded_work scene l v ≤ threaded_work scene l w
  still_same s cluster =
      let short = ap one_unless s.short in
      let parts = total_least (part_work w) (part_work v) (tile_count l) (λ tile lt.
      let x = ap length (s.lanes tile lt) in
      let b = ap (λ (o : Option TilePart). length (option_to_list o)) (s.handing tile lt) in
      let c = same tile lt (cases_Bool (short_of w.caller)) in
      omega (arith, x, b, c)) in
      omega (arith, short, parts, cluster)
    where
      value : (b : Bool) (n : ℕ) → ℕ
      value b n = cond {A = ℕ} b 0 n

      same : (tile : ℕ) → tile < tile_count l → ((short_of w.caller ≡ true) ⊎ (short_of w.caller ≡ false)) → placed v tile ≡ placed w tile
      same tile lt (inl short) =
          ap (λ b. cond {A = ℕ} b 0 (length (option_to_list (in_place (places_of v.caller) tile)))) (s.short ∙ short)
          ∙ sym (ap (λ b. cond {A = ℕ} b 0 (length (option_to_list (in_place (places_of w.caller) tile)))) short)
      same tile lt (inr ample) =
          ap (λ b. cond {A = ℕ} b 0 (length (option_to_list (in_place (places_of v.caller) tile)))) (s.short ∙ ample)
          ∙ ap (λ (o : Option TilePart). length (option_to_list o)) (s.places ample tile lt)
          ∙ sym (ap (λ b. cond {A = ℕ} b 0 (length (option_to_list (in_place (places_of w.caller) tile)))) ample)

  fit : Fits scene l depth w
  fit = record { lanes = f.lanes; layout = f.layout }

  -- ---- whoever has it

  pub turn_less : TurnsLeaveLess → IsWellFormed (sync_lists_of scene) → (turn : ThreadedTurn) → IsThreadedTurnSeeing scene l depth w seen turn v → (IsStill turn → ⊥)
      → threaded_work scene l v < threaded_work scene l w
  turn_less less well (Steps (ClientTurn client answer)) m moves =
      let parts = no_parts_change m.parts in
      by_cluster (less scene l depth w.cluster v.cluster seen.cluster (ClientTurn client answer) well f.cluster m.step moves) (same_short m.parts.caller) (omega (arith, parts))
  turn_less less well (Steps (ManagerTurn answer)) m moves =
      let parts = no_parts_change m.parts in
      by_cluster (less scene l depth w.cluster v.cluster seen.cluster (ManagerTurn answer) well f.cluster m.step moves) (same_short m.parts.caller) (omega (arith, parts))
  turn_less less well (Steps (TileTurn tile answer)) m moves =
      by_cluster (less scene l depth w.cluster v.cluster seen.cluster (TileTurn tile answer) well f.cluster m.step moves) (same_short m.only.caller)
      (core_less tile answer (exists scene l depth w.cluster v.cluster seen.cluster (TileTurn tile answer) m.step) m)
  turn_less less well (HandsOver tile true) m moves = sent_less tile m
  turn_less less well (HandsOver tile false) m moves = absurd (moves refl)
  turn_less less well (Collects true frame) m moves = call_less frame m
  turn_less less well (Collects false frame) m moves = absurd (moves refl)

  still_no_more : TurnsLeaveNoMore → IsWellFormed (sync_lists_of scene) → (turn : ThreadedTurn) → IsThreadedTurnSeeing scene l depth w seen turn v → IsStill turn
      → threaded_work scene l v ≤ threaded_work scene l w
  still_no_more more well (Steps (ClientTurn client answer)) m still =
      still_same (still_keeps scene l depth w v seen (Steps (ClientTurn client answer)) fit still m).0 (more scene l depth w.cluster v.cluster seen.cluster (ClientTurn client answer) well f.cluster m.step)
  still_no_more more well (Steps (ManagerTurn answer)) m still =
      still_same (still_keeps scene l depth w v seen (Steps (ManagerTurn answer)) fit still m).0 (more scene l depth w.cluster v.cluster seen.cluster (ManagerTurn answer) well f.cluster m.step)
  still_no_more more well (Steps (TileTurn tile answer)) m still =
      still_same (still_keeps scene l depth w v seen (Steps (TileTurn tile answer)) fit still m).0 (more scene l depth w.cluster v.cluster seen.cluster (TileTurn tile answer) well f.cluster m.step)
  still_no_more more well (HandsOver tile sent) m still =
      still_same (still_keeps scene l depth w v seen (HandsOver tile sent) fit still m).0 (let e = ap (work_in scene l) m.cluster in omega (arith, e))
  still_no_more more well (Collects moved frame) m still =
      still_same (still_keeps scene l depth w v seen (Collects moved frame) fit still m).0 (let e = ap (work_in scene l) m.cluster in omega (arith, e))

-- whether the turn moves nothing
pub stands : (turn : ThreadedTurn) → IsStill turn ⊎ (IsStill turn → ⊥)
stands (Steps turn) = rests turn
stands (HandsOver tile true) = inr (λ e. true≢false e)
stands (HandsOver tile false) = inl refl
stands (Collects true frame) = inr (λ e. true≢false e)
stands (Collects false frame) = inl refl

pub threads_leave_less : TurnsLeaveLess → ThreadedTurnsLeaveLess
threads_leave_less less scene l depth frames w later seen turn some well f m moves = turn_less scene l depth frames some w later seen f less well turn m moves

pub threads_leave_no_more : TurnsLeaveNoMore → ThreadedTurnsLeaveLess → ThreadedTurnsLeaveNoMore
threads_leave_no_more more less scene l depth frames w later seen turn some well f m = elim (stands turn) [
  | inl still ↦ still_no_more scene l depth frames some w later seen f more well turn m still
  | inr moves ↦ let k = less scene l depth frames w later seen turn some well f m moves in omega (arith, k)
]

pub new_threads_little : NewWorldsHaveLittleToDo → NewThreadedWorldsHaveLittleToDo
new_threads_little little scene l w h clients tiles short =
    let a = little scene l w.cluster h.cluster clients tiles short in
    let b : total (part_work w) (tile_count l) ≡ total (λ i. 0) (tile_count l) = total_same (λ i. 0) (part_work w) (tile_count l) (λ tile lt.
    let x = ap length (h.lanes tile lt) in
    let y = held_one (w.handing tile) (h.handing tile lt) in
    let z = none_placed tile in
    omega (arith, x, y, z)) in
    let c = nothing (tile_count l) in
    let d : one_unless (short_of w.caller) ≡ 1 = ap one_unless h.caller.short in
    omega (arith, a, b, c, d)
  where
    nothing : (n : ℕ) → total (λ i. 0) n ≡ 0
    nothing zero = refl
    nothing (suc n) = let k = nothing n in omega (arith, k)

    none_placed : (tile : ℕ) → placed w tile ≡ 0
    none_placed tile =
        ap (λ b. cond {A = ℕ} b 0 (length (option_to_list (in_place (places_of w.caller) tile)))) h.caller.short
        ∙ ap (λ (ps : List (Option TilePart)). length (option_to_list (in_place ps tile))) h.caller.places
        ∙ ap (λ (o : Option TilePart). length (option_to_list o)) (none_in (tile_count l) tile)
