-- In the cluster that runs on threads few parts are held: no lane of parts is fuller than deep, and one place is empty.
use Rattle.std.proofs.Common.{◌≡◌, ℕ, zero, suc, ◌+◌, ◌*◌, ◌<◌, ◌≤◌, Bool, true, false, List, [], ◌∷◌, ◌++◌, length, Option, Some, None, inl, inr, sym, ap, ◌∙◌, subst, arith, length-append, true≢false}
use Rattle.std.proofs.Math.Nat.{mul-suc}
use Rattle.std.proofs.lemmas.Bool.{cases_Bool, cases_lt}
use Rattle.std.specs.Prelude.{option_to_list, slice_index_or}
use Rattle.rc_base.specs.Cluster.Tiles.{tile_count}
use Rattle.rc_base.specs.declared.cluster.TilePart.{TilePart}
use Rattle.rc_base.specs.declared.image.Image.{Image}
use Rattle.rc_base.specs.declared.scene.Scene.{Scene}
use Rattle.rc_base.specs.declared.window.Layout.{Layout}
use Rattle.assembler.specs.Assembled.{layout_of, places_of, short_of, ComesOf}
use Rattle.assembler.specs.Places.{in_place}
use Rattle.assembler.specs.declared.frame_parts.FrameParts.{FrameParts}
use Rattle.assembler.proofs.Waiting.{none_in}
use Rattle.plain_lemmas.proofs.Numbers.{at_one_or_other}
use Rattle.world_model.specs.Held.{held_of, ThreadedRunsHoldLittle, NoTileRunsAhead, FewPartsOfEachTileAreHeld, FewPartsAreHeld}
use Rattle.world_model.specs.Threaded.{no_lane, ThreadedWorld, ThreadedTurn, Steps, HandsOver, Collects, SeenLanes, lane_of, frames_by, IsPut, NoParts, OnlyPartsOf, IsCall, IsThreadedTurnSeeing, AreLooseTurns, IsNewThreadedWorld}
use Rattle.world_model.specs.ThreadedLaws.{LayoutsHavePixels, HavePixels, IsThreadedFlowing, NewThreadedWorldsFlow, ThreadedTurnsKeepFlowing, AllThreadedTurnsKeepFlowing}
use Rattle.world_model.specs.Turns.Turn.{ClientTurn, ManagerTurn, TileTurn}
use Rattle.world_model.specs.Work.{total}
use Rattle.world_model.proofs.StillThreads.{Fits}
use Rattle.world_model.proofs.ThreadsLeaveLess.{found_lane, dropped_lane}
use Rattle.world_model.proofs.TilesHavePixels.{have_tiles}

-- ---- sums

-- numbers that are no greater than this one
total_below : (f : ℕ → ℕ) (c n : ℕ) → ((i : ℕ) → i < n → f i ≤ c) → total f n ≤ c * n
total_below f c zero h = omega arith
total_below f c (suc n) h =
    let a = total_below f c n (λ i lt. h i (omega (arith, lt))) in
    let b = h n (omega arith) in
    let e = mul-suc c n in
    omega (arith, a, b, e)

-- of which one is less
total_less : (f : ℕ → ℕ) (c n k : ℕ) → k < n → f k < c → ((i : ℕ) → i < n → f i ≤ c) → total f n < c * n
total_less f c zero k lt less h = absurd (omega (arith, lt))
total_less f c (suc n) k lt less h =
    let e = mul-suc c n in
    elim (cases_lt k n) [
      | inl before ↦ (
          let a = total_less f c n k before less (λ i li. h i (omega (arith, li))) in
          let b = h n (omega arith) in
          omega (arith, a, b, e))
      | inr ge ↦ (
          let a = total_below f c n (λ i li. h i (omega (arith, li))) in
          let here : k ≡ n = omega (arith, lt, ge) in
          let b : f n < c = subst (λ i. f i < c) here less in
          omega (arith, a, b, e))
    ]

-- ---- lanes of parts, and an empty place

put_fits : (depth : ℕ) (offered : Option TilePart) (lane seen later : List TilePart) (handing : Option TilePart) → IsPut depth offered lane seen later handing
    → length lane ≤ depth → length later ≤ depth
put_fits depth None lane seen later handing h le = let a = ap length h.0 in omega (arith, a, le)
put_fits depth (Some part) lane seen later handing (inl s) le =
    let a = ap length s.appended ∙ length-append lane (part ∷ []) in
    let room = s.room in
    omega (arith, a, room)
put_fits depth (Some part) lane seen later handing (inr k) le = let a = ap length k.same in omega (arith, a, le)

-- no lane holds more than its depth, and while the caller isn't short one place is empty
pub record HasRoom (l : Layout) (depth : ℕ) (w : ThreadedWorld) : Type 0 where
  pub lanes : (tile : ℕ) → tile < tile_count l → length (lane_of w tile) ≤ depth
  pub gap : short_of w.caller ≡ false → (tile : ℕ) × (tile < tile_count l) × (in_place (places_of w.caller) tile ≡ None)

module _ (scene : Scene) (l : Layout) (depth : ℕ) (some : 0 < tile_count l) (w v : ThreadedWorld) (seen : SeenLanes) (fit : Fits scene l depth w) (h : HasRoom l depth w) where
  same_gap : v.caller ≡ w.caller → short_of v.caller ≡ false → (tile : ℕ) × (tile < tile_count l) × (in_place (places_of v.caller) tile ≡ None)
  same_gap caller ample =
      let g = h.gap (ap short_of (sym caller) ∙ ample) in
      (g.0, g.1, ap (λ (a : FrameParts). in_place (places_of a) g.0) caller ∙ g.2)

  same_room : NoParts l w v → HasRoom l depth v
  same_room m = record {
    lanes = λ tile lt. let a = ap length (m.lanes tile lt) in let b = h.lanes tile lt in omega (arith, a, b);
    gap = same_gap m.caller;
  }

  room_of : (tile : ℕ) → OnlyPartsOf l w tile v → (tile < tile_count l → length (lane_of v tile) ≤ depth) → HasRoom l depth v
  room_of tile only here = record {
    lanes = at_one_or_other (λ i. i < tile_count l → length (lane_of v i) ≤ depth) tile here
        (λ i ne lt. let a = ap length (only.lanes i lt ne) in let b = h.lanes i lt in omega (arith, a, b));
    gap = same_gap only.caller;
  }

  -- ---- the caller's turn

  module _ (moved : Bool) (frame : Option Image) (m : IsCall scene l depth w seen moved frame v) where
    low_lane : (tile : ℕ) → tile < tile_count l → tile < length w.lanes
    low_lane tile lt = subst (λ n. tile < n) (sym fit.lanes) lt

    lane_less : (tile : ℕ) → tile < tile_count l → length (lane_of v tile) ≤ length (lane_of w tile)
    lane_less tile lt = elim (cases_Bool (short_of w.caller)) [
      | inl short ↦ (
          let d = (m.step.refused short).each.at tile no_lane (low_lane tile lt) in
          (dropped_lane d.part (slice_index_or w.lanes tile no_lane) (slice_index_or v.lanes tile no_lane) d.taken).0)
      | inr ample ↦ (
          let a = m.step.whole ample in
          (found_lane l tile (in_place (places_of w.caller) tile) (in_place a.found tile) (slice_index_or w.lanes tile no_lane) (slice_index_or v.lanes tile no_lane)
          (a.each.at tile no_lane (low_lane tile lt))).0)
    ]

    gap_of : (found : List (Option TilePart)) (o : Option Image) → ComesOf (layout_of w.caller) found o v.caller → short_of v.caller ≡ false
        → (tile : ℕ) × (tile < tile_count l) × (in_place (places_of v.caller) tile ≡ None)
    gap_of found (Some image) c ample = (
      0,
      some,
      ap (λ (ps : List (Option TilePart)). in_place ps 0) c.places ∙ none_in (tile_count (layout_of w.caller)) 0,
    )
    gap_of found None (inl c) ample =
        let g = c.gap in
        (g.tile, subst (λ (k : Layout). g.tile < tile_count k) fit.layout g.low, ap (λ (ps : List (Option TilePart)). in_place ps g.tile) c.places ∙ g.missing)
    gap_of found None (inr c) ample = absurd (true≢false (sym c.short ∙ ample))

    call_room : HasRoom l depth v
    call_room = record {
      lanes = λ tile lt. let a = lane_less tile lt in let b = h.lanes tile lt in omega (arith, a, b);
      gap = λ ample. elim (cases_Bool (short_of w.caller)) [
        | inl short ↦ absurd (true≢false (sym (m.step.refused short).short ∙ ample))
        | inr whole ↦ gap_of (m.step.whole whole).found frame (m.step.whole whole).comes ample
      ];
    }

  room_kept : (turn : ThreadedTurn) → IsThreadedTurnSeeing scene l depth w seen turn v → HasRoom l depth v
  room_kept (Steps (ClientTurn client answer)) m = same_room m.parts
  room_kept (Steps (ManagerTurn answer)) m = same_room m.parts
  room_kept (Steps (TileTurn tile answer)) m =
      room_of tile m.only (λ lt. put_fits depth m.offered (lane_of w tile) (seen.parts tile) (lane_of v tile) (v.handing tile) m.put (h.lanes tile lt))
  room_kept (HandsOver tile true) m =
      room_of tile m.only (λ lt. put_fits depth (Some m.part) (lane_of w tile) (seen.parts tile) (lane_of v tile) (v.handing tile) (inl m.put) (h.lanes tile lt))
  room_kept (HandsOver tile false) m =
      room_of tile m.only (λ lt. put_fits depth (Some m.part) (lane_of w tile) (seen.parts tile) (lane_of v tile) (v.handing tile) (inr m.put) (h.lanes tile lt))
  room_kept (Collects moved frame) m = call_room moved frame m

module _ (scene : Scene) (l : Layout) (depth : ℕ) (some : 0 < tile_count l) (pixels : HavePixels l) (keep : ThreadedTurnsKeepFlowing) where
  all_room : (turns : List ThreadedTurn) (frames : ℕ) (w v : ThreadedWorld) → IsThreadedFlowing scene l frames w → HasRoom l depth w → AreLooseTurns scene l depth w turns v
      → HasRoom l depth v
  all_room [] frames w v f h goes = subst (λ u. HasRoom l depth u) (sym goes) h
  all_room (turn ∷ turns) frames w v f h goes =
      all_room turns (frames + frames_by turn) goes.0 v (keep scene l depth frames w goes.0 goes.1.0 turn pixels f goes.1.1)
      (room_kept scene l depth some w goes.0 goes.1.0 record { lanes = f.lanes; layout = f.layout } h turn goes.1.1) goes.2

  new_room : (w : ThreadedWorld) → IsNewThreadedWorld scene l w → HasRoom l depth w
  new_room w new = record {
    lanes = λ tile lt. let a = ap length (new.lanes tile lt) in omega (arith, a);
    gap = λ ample. (0, some, ap (λ (ps : List (Option TilePart)). in_place ps 0) new.caller.places ∙ none_in (tile_count l) 0);
  }

-- ---- the laws

module _ (have : LayoutsHavePixels) (begin : NewThreadedWorldsFlow) (keep : ThreadedTurnsKeepFlowing) (all : AllThreadedTurnsKeepFlowing) where
  room_at : (scene : Scene) (l : Layout) (depth : ℕ) (turns : List ThreadedTurn) (first w : ThreadedWorld) → 0 < tile_count l → HavePixels l → IsNewThreadedWorld scene l first
      → AreLooseTurns scene l depth first turns w → HasRoom l depth w
  room_at scene l depth turns first w some pixels new goes =
      all_room scene l depth some pixels keep turns 0 first w (begin scene l first new) (new_room scene l depth some pixels keep first new) goes

  pub hold_little : ThreadedRunsHoldLittle
  hold_little scene l depth turns first w fits new goes =
      let pixels = have scene l depth fits in
      let f = all scene l depth 0 first w turns pixels (begin scene l first new) goes in
      record {
        lanes = (room_at scene l depth turns first w (have_tiles scene l depth fits) pixels new goes).lanes;
        count = λ ample tile lt. let c = ((f.shown ample).tiles tile lt).count in omega (arith, c);
      }

  one_handed : (o : Option TilePart) → length (option_to_list o) ≤ 1
  one_handed None = omega arith
  one_handed (Some p) = omega arith

  waiting_few : (w : ThreadedWorld) (depth tile : ℕ) → length (lane_of w tile) ≤ depth → length (lane_of w tile ++ option_to_list (w.handing tile)) ≤ depth + 1
  waiting_few w depth tile le =
      let a = length-append (lane_of w tile) (option_to_list (w.handing tile)) in
      let b = one_handed (w.handing tile) in
      omega (arith, a, b, le)

  pub few_of_each : FewPartsOfEachTileAreHeld
  few_of_each scene l depth turns first w fits new goes tile lt =
      let room = room_at scene l depth turns first w (have_tiles scene l depth fits) (have scene l depth fits) new goes in
      let a = waiting_few w depth tile (room.lanes tile lt) in
      let b = one_handed (in_place (places_of w.caller) tile) in
      omega (arith, a, b)

  pub none_runs_ahead : NoTileRunsAhead
  none_runs_ahead scene l depth turns first w fits new goes ample tile lt =
      let c = (hold_little scene l depth turns first w fits new goes).count ample tile lt in
      let few = few_of_each scene l depth turns first w fits new goes tile lt in
      omega (arith, c, few)

  pub few_are_held : FewPartsAreHeld
  few_are_held scene l depth turns first w fits new goes ample =
      let room = room_at scene l depth turns first w (have_tiles scene l depth fits) (have scene l depth fits) new goes in
      let g = room.gap ample in
      let none = ap (λ (o : Option TilePart). length (option_to_list o)) g.2 in
      let wait = waiting_few w depth g.0 (room.lanes g.0 g.1) in
      total_less (held_of w) (depth + 2) (tile_count l) g.0 g.1 (omega (arith, none, wait)) (λ tile lt. few_of_each scene l depth turns first w fits new goes tile lt)
