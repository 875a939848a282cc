-- Where nobody of the cluster that runs on threads can move, whoever is short, all have stopped and no part waits: the tile whose part the caller misses hands
-- nothing over, and it has performed all of the journal but one entry, so no other tile is two frames ahead of it.
use Rattle.std.proofs.Common.{◌≡◌, ℕ, ◌+◌, ◌<◌, ◌≤◌, Bool, true, false, cond, List, [], ◌∷◌, ◌++◌, length, take, Option, Some, None, inl, inr, refl, sym, ap, ◌∙◌, subst, arith, append-nil, length-append, true≢false}
use Rattle.std.proofs.Math.Seq.{take-length}
use Rattle.std.proofs.lemmas.Bool.{cases_Bool}
use Rattle.std.proofs.lemmas.List.{length-map, length-take-le}
use Rattle.std.specs.List.{list_any}
use Rattle.std.specs.Prelude.{option_to_list}
use Rattle.rc_base.specs.Cluster.Tiles.{tile_count}
use Rattle.rc_base.specs.declared.cluster.TilePart.{TilePart}
use Rattle.rc_base.specs.declared.scene.Scene.{Scene}
use Rattle.rc_base.specs.declared.sync.Entry.{Entry}
use Rattle.rc_base.specs.declared.sync.Grant.{Grant}
use Rattle.rc_base.specs.declared.window.Layout.{Layout}
use Rattle.rc_base.proofs.WithinLimits.{depth_within}
use Rattle.order_model.specs.Report.{frame_count}
use Rattle.order_model.specs.Standing.{Progress}
use Rattle.sync_manager.specs.Progress.{ManagerProgress}
use Rattle.tile_model.specs.Items.{shown_frames}
use Rattle.tile_model.specs.Laws.{MembersAreClients}
use Rattle.assembler.specs.Assembled.{places_of, short_of}
use Rattle.assembler.specs.Places.{in_place}
use Rattle.assembler.proofs.Waiting.{none_in}
use Rattle.world_model.specs.Laws.{NewWorldsFlow, TurnsKeepWorldsFlowing}
use Rattle.world_model.specs.Threaded.{ThreadedWorld, lane_of, frames_by, frames_in, AllThreadsHaveStopped}
use Rattle.world_model.specs.ThreadedLaws.{LayoutsHavePixels, waiting_parts, AreShown, IsThreadedFlowing, NewThreadedWorldsFlow, ThreadedTurnsKeepFlowing, AllThreadedTurnsKeepFlowing, ThreadedTurnsMoveSomebody, NoThreadedRunStandsStill}
use Rattle.world_model.specs.Turns.{AllHaveStopped}
use Rattle.world_model.proofs.PartsAreShown.{is_misfit_of, turn_keeps}
use Rattle.world_model.proofs.RoundsMoveSomebody.{stopped_on}
use Rattle.world_model.proofs.ShownParts.{frames_near}
use Rattle.world_model.proofs.SomebodyCanMove.{somebody_can_move}
use Rattle.world_model.proofs.StillThreads.{Fits, HandsKept, AllThreadsRest, IsSameThreads, all_rest, all_still}
use Rattle.world_model.proofs.TilesAtRest.{TileRests, counted, front, all_performed, grants_bare, hears_told}
use Rattle.world_model.proofs.UsedOperations.{entries, closing}

-- ---- lists

is_bare : {A : Type 0} (xs : List A) → length xs ≡ 0 → xs ≡ []
is_bare [] e = refl
is_bare (x ∷ xs) e = absurd (omega (arith, e))

is_free : (o : Option TilePart) → length (option_to_list o) ≡ 0 → o ≡ None
is_free None e = refl
is_free (Some p) e = absurd (omega (arith, e))

closing_length : (b : Bool) → length (closing b) ≡ cond {A = ℕ} b 1 0
closing_length true = refl
closing_length false = refl

module _ (members : MembersAreClients) (scene : Scene) (l : Layout) (depth frames : ℕ) (pos : 0 < depth) (w : ThreadedWorld) (f : IsThreadedFlowing scene l frames w)
    (r : AllThreadsRest scene l depth w) where
  abbrev journal : List Entry
  journal = w.cluster.manager.book.journal

  abbrev p_of : ℕ → Progress
  p_of tile = (w.cluster.tiles tile).progress

  -- ---- where no tile hands a part over

  module _ (free : (tile : ℕ) → tile < tile_count l → (w.handing tile ≡ None) × TileRests scene w.cluster tile) where
    cluster_stopped : AllHaveStopped scene l w.cluster
    cluster_stopped = somebody_can_move members scene l depth pos w.cluster f.cluster record { clients = r.clients; manager = r.manager; tiles = λ tile lt. (free tile lt).1 }

  -- ---- where the caller drops what comes

  module _ (short : short_of w.caller ≡ true) where
    free_of_short : (tile : ℕ) → tile < tile_count l → (w.handing tile ≡ None) × TileRests scene w.cluster tile
    free_of_short tile lt = elim (r.tiles tile lt) [
      | inl x ↦ x
      | inr k ↦ absurd (let full = k.2 in let none = ap length (r.caller.drops short tile lt) in omega (arith, pos, full, none))
    ]

    stopped_short : AllThreadsHaveStopped scene l w
    stopped_short = record {
      cluster = cluster_stopped free_of_short;
      handing = λ tile lt. (free_of_short tile lt).0;
      lanes = λ tile lt. r.caller.drops short tile lt;
      places = λ ample tile lt. absurd (true≢false (sym short ∙ ample));
    }

  -- ---- where it waits for a part

  module _ (whole : short_of w.caller ≡ false) where
    s : AreShown l frames w
    s = f.shown whole

    -- the tile whose part it misses
    abbrev g : ℕ
    g = (r.caller.gap whole).0

    low : g < tile_count l
    low = (r.caller.gap whole).1

    bare : lane_of w g ≡ []
    bare = r.caller.bare whole g low (r.caller.gap whole).2

    rests : (w.handing g ≡ None) × TileRests scene w.cluster g
    rests = elim (r.tiles g low) [
      | inl x ↦ x
      | inr k ↦ absurd (let full = k.2 in let none = ap length bare in omega (arith, pos, full, none))
    ]

    none_waits : waiting_parts w g ≡ []
    none_waits = ap (λ (o : Option TilePart). lane_of w g ++ option_to_list o) rests.0 ∙ append-nil (lane_of w g) ∙ bare

    ample : (w.cluster.tiles g).short ≡ false
    ample = elim (cases_Bool (w.cluster.tiles g).short) [
      | inr unshort ↦ unshort
      | inl short ↦ absurd (true≢false (sym ((s.tiles g low).told short) ∙ ap (list_any (is_misfit_of l g)) none_waits))
    ]

    -- it has shown the frames that are complete
    shown_here : shown_frames (p_of g) ≡ frames
    shown_here =
        let c = (s.tiles g low).count in
        let place = ap (λ (o : Option TilePart). length (option_to_list o)) (r.caller.gap whole).2 in
        let waits = ap length none_waits in
        let z : cond {A = ℕ} (w.cluster.tiles g).short 1 0 ≡ 0 = ap (λ b. cond {A = ℕ} b 1 0) ample in
        omega (arith, c, place, waits, z)

    learnt_front : (more : List Entry) × (journal ≡ (p_of g).learnt ++ more)
    learnt_front = front scene l w.cluster f.cluster g low ample

    all_shown : shown_frames (p_of g) ≡ frame_count (p_of g).learnt
    all_shown =
        ap (λ k. frame_count (take k (p_of g).learnt)) (all_performed scene l w.cluster f.cluster members g low rests.1 ample)
        ∙ ap frame_count (take-length (p_of g).learnt)

    told : (p_of g).no_more ≡ w.cluster.manager.told g
    told = hears_told scene l w.cluster f.cluster members g low rests.1

    -- and has learnt all that was sent to it
    learnt_length : length (p_of g).learnt ≡ w.cluster.manager.delivered g
    learnt_length =
        let sent : entries (take (w.cluster.manager.delivered g) journal) ++ closing (w.cluster.manager.told g) ≡ entries (p_of g).learnt ++ closing (p_of g).no_more =
        f.cluster.grants g low ∙ ap (λ (gs : List Grant). f.cluster.heard g ++ gs) (grants_bare scene l w.cluster f.cluster members g low rests.1) ∙ append-nil (f.cluster.heard g)
        ∙ (counted scene l w.cluster f.cluster g low ample).heard_is in
        let n = sym (length-append (entries (take (w.cluster.manager.delivered g) journal)) (closing (w.cluster.manager.told g))) ∙ ap length sent
        ∙ length-append (entries (p_of g).learnt) (closing (p_of g).no_more) in
        let a : length (entries (take (w.cluster.manager.delivered g) journal)) ≡ length (take (w.cluster.manager.delivered g) journal) = length-map _ _ in
        let b : length (entries (p_of g).learnt) ≡ length (p_of g).learnt = length-map _ _ in
        let c : length (closing (w.cluster.manager.told g)) ≡ length (closing (p_of g).no_more) = ap (λ b. length (closing b)) (sym told) in
        let d = length-take-le (w.cluster.manager.delivered g) journal (f.cluster.manager.tiles_are g low).within in
        omega (arith, n, a, b, c, d)

    -- so at most one frame more was granted
    granted : frame_count journal ≤ frames + 1
    granted =
        let pace = f.pace g low in
        let n = learnt_length in
        let a = frames_near 1 (p_of g).learnt learnt_front.0 journal learnt_front.1 (omega (arith, pace, n)) in
        let b = all_shown in
        let c = shown_here in
        omega (arith, a, b, c)

    -- the place of a tile that hands a part over is full
    place_full : (tile : ℕ) → tile < tile_count l → length (lane_of w tile) ≡ depth → length (option_to_list (in_place (places_of w.caller) tile)) ≡ 1
    place_full tile lt full = by (in_place (places_of w.caller) tile) refl
      where
        by : (o : Option TilePart) → in_place (places_of w.caller) tile ≡ o → length (option_to_list (in_place (places_of w.caller) tile)) ≡ 1
        by (Some p) e = ap (λ (o : Option TilePart). length (option_to_list o)) e
        by None e = absurd (let none = ap length (r.caller.bare whole tile lt e) in omega (arith, pos, full, none))

    one_at_most : (b : Bool) → cond {A = ℕ} b 1 0 ≤ 1
    one_at_most true = omega arith
    one_at_most false = omega arith

    -- it would be two frames ahead
    not_kept : (tile : ℕ) → tile < tile_count l → HandsKept scene l depth w tile → ⊥
    not_kept tile lt k =
        let c = (s.tiles tile lt).count in
        let place = place_full tile lt k.2 in
        let one = ap (λ (o : Option TilePart). length (lane_of w tile ++ option_to_list o)) k.1 ∙ length-append (lane_of w tile) (k.0 ∷ []) in
        let full = k.2 in
        let few = f.few tile lt in
        let b = one_at_most (w.cluster.tiles tile).short in
        let most = granted in
        omega (arith, pos, c, place, one, full, few, b, most)

    free : (tile : ℕ) → tile < tile_count l → (w.handing tile ≡ None) × TileRests scene w.cluster tile
    free tile lt = elim (r.tiles tile lt) [ inl x ↦ x | inr k ↦ absurd (not_kept tile lt k) ]

    -- where all have stopped, all frames are complete
    complete : frame_count journal ≡ frames
    complete =
        let stopped = (cluster_stopped free).tiles g low in
        let whole_told = (f.cluster.manager.tiles_are g low).whole (sym told ∙ stopped.no_more) in
        let n = learnt_length in
        let a = frames_near 0 (p_of g).learnt learnt_front.0 journal learnt_front.1 (omega (arith, whole_told, n)) in
        let few = f.few g low in
        let b = all_shown in
        let c = shown_here in
        omega (arith, a, few, b, c)

    waits_in_lane : (tile : ℕ) → tile < tile_count l → waiting_parts w tile ≡ lane_of w tile
    waits_in_lane tile lt = ap (λ (o : Option TilePart). lane_of w tile ++ option_to_list o) (free tile lt).0 ∙ append-nil (lane_of w tile)

    -- nothing waits
    nothing_left : (tile : ℕ) → tile < tile_count l → (length (lane_of w tile) ≡ 0) × (length (option_to_list (in_place (places_of w.caller) tile)) ≡ 0)
    nothing_left tile lt = elim (cases_Bool (w.cluster.tiles tile).short) [
      | inr unshort ↦ (
          let z : cond {A = ℕ} (w.cluster.tiles tile).short 1 0 ≡ 0 = ap (λ b. cond {A = ℕ} b 1 0) unshort in
          (omega (arith, c, waits, few, all, z), omega (arith, c, waits, few, all, z)))
      | inl short ↦ absurd (by_misfit short)
    ]
      where
        c : frames + length (option_to_list (in_place (places_of w.caller) tile)) + length (waiting_parts w tile)
            ≡ shown_frames (p_of tile) + cond {A = ℕ} (w.cluster.tiles tile).short 1 0
        c = (s.tiles tile lt).count

        waits : length (waiting_parts w tile) ≡ length (lane_of w tile)
        waits = ap length (waits_in_lane tile lt)

        few : shown_frames (p_of tile) ≤ frame_count journal
        few = f.few tile lt

        all : frame_count journal ≡ frames
        all = complete

        some : (ps : List TilePart) → list_any (is_misfit_of l tile) ps ≡ true → 0 < length ps
        some [] any = absurd (true≢false (sym any))
        some (p ∷ ps) any = omega arith

        by_misfit : (w.cluster.tiles tile).short ≡ true → ⊥
        by_misfit short =
            let one : cond {A = ℕ} (w.cluster.tiles tile).short 1 0 ≡ 1 = ap (λ b. cond {A = ℕ} b 1 0) short in
            let there = some (waiting_parts w tile) ((s.tiles tile lt).told short) in
            let free_place = is_free (in_place (places_of w.caller) tile) (omega (arith, c, few, all, one, there)) in
            let none = ap length (r.caller.bare whole tile lt free_place) in
            omega (arith, waits, there, none)

    stopped_whole : AllThreadsHaveStopped scene l w
    stopped_whole = record {
      cluster = cluster_stopped free;
      handing = λ tile lt. (free tile lt).0;
      lanes = λ tile lt. is_bare (lane_of w tile) (nothing_left tile lt).0;
      places = λ ample tile lt. is_free (in_place (places_of w.caller) tile) (nothing_left tile lt).1;
    }

  pub all_threads_stopped : AllThreadsHaveStopped scene l w
  all_threads_stopped = elim (cases_Bool (short_of w.caller)) [ inl short ↦ stopped_short short | inr whole ↦ stopped_whole whole ]

-- ---- the laws

pub threads_stopped_on : (scene : Scene) (l : Layout) (depth : ℕ) (w v : ThreadedWorld) → IsSameThreads scene l depth w v → AllThreadsHaveStopped scene l w → AllThreadsHaveStopped scene l v
threads_stopped_on scene l depth w v same h = record {
  cluster = stopped_on scene l w.cluster v.cluster same.cluster h.cluster;
  handing = λ tile lt. same.handing tile lt ∙ h.handing tile lt;
  lanes = λ tile lt. same.lanes tile lt ∙ h.lanes tile lt;
  places = λ ample tile lt.
      let before = sym same.short ∙ ample in
      same.places before tile lt ∙ h.places before tile lt;
}

pub threads_move : MembersAreClients → ThreadedTurnsMoveSomebody
threads_move members scene l depth turns w later frames pos flows has goes still =
    let fit : Fits scene l depth w = record { lanes = flows.lanes; layout = flows.layout } in
    threads_stopped_on scene l depth w later (all_still scene l depth w later turns fit still goes)
    (all_threads_stopped members scene l depth frames pos w flows (all_rest scene l depth w later turns fit has still goes))

pub threads_keep : TurnsKeepWorldsFlowing → ThreadedTurnsKeepFlowing
threads_keep keep scene l depth frames w later seen turn pixels flows goes = turn_keeps scene l depth frames pixels w later seen flows keep turn goes

pub all_threads_keep : TurnsKeepWorldsFlowing → AllThreadedTurnsKeepFlowing
all_threads_keep keep scene l depth frames w later [] pixels flows goes =
    let same : frames ≡ frames + 0 = omega arith in
    subst (λ n. IsThreadedFlowing scene l n later) same (subst (λ (v : ThreadedWorld). IsThreadedFlowing scene l frames v) (sym goes) flows)
all_threads_keep keep scene l depth frames w later (turn ∷ turns) pixels flows goes =
    let first = threads_keep keep scene l depth frames w goes.0 goes.1.0 turn pixels flows goes.1.1 in
    let same : (frames + frames_by turn) + frames_in turns ≡ frames + (frames_by turn + frames_in turns) = omega arith in
    subst (λ n. IsThreadedFlowing scene l n later) same (all_threads_keep keep scene l depth (frames + frames_by turn) goes.0 later turns pixels first goes.2)

pub new_threads_flow : NewWorldsFlow → NewThreadedWorldsFlow
new_threads_flow new scene l w h = record {
  cluster = new scene l w.cluster h.cluster;
  pace = λ tile lt. subst (λ (d : ManagerProgress). length d.book.journal ≤ d.delivered tile + 1) (sym h.cluster.manager) (omega arith);
  few = λ tile lt.
      let p = ap (λ (q : Progress). shown_frames q) (h.cluster.tiles tile lt).progress in
      omega (arith, p);
  layout = h.caller.layout;
  lanes = h.count;
  shown = λ whole. record {
    fit = λ tile p is. absurd (let same = sym (no_part tile) ∙ is in cc);
    tiles = λ tile lt.
        let p = ap (λ (q : Progress). shown_frames q) (h.cluster.tiles tile lt).progress in
        let a = (h.cluster.tiles tile lt).ample in
        let z : cond {A = ℕ} (w.cluster.tiles tile).short 1 0 ≡ 0 = ap (λ b. cond {A = ℕ} b 1 0) a in
        let n = ap (λ (o : Option TilePart). length (option_to_list o)) (no_part tile) in
        let e = ap length (ap (λ (o : Option TilePart). lane_of w tile ++ option_to_list o) (h.handing tile lt) ∙ append-nil (lane_of w tile) ∙ h.lanes tile lt) in
        record {
          count = omega (arith, p, z, n, e);
          told = λ short. absurd (true≢false (sym short ∙ a));
        };
  };
}
  where
    no_part : (tile : ℕ) → in_place (places_of w.caller) tile ≡ None
    no_part tile = ap (λ (ps : List (Option TilePart)). in_place ps tile) h.caller.places ∙ none_in (tile_count l) tile

pub no_thread_stands_still : LayoutsHavePixels → NewThreadedWorldsFlow → AllThreadedTurnsKeepFlowing → ThreadedTurnsMoveSomebody → NoThreadedRunStandsStill
no_thread_stands_still pixels new keep moves scene l depth turns round first w later fits begins leads has goes still =
    let deep = (depth_within scene l depth fits).0 in
    moves scene l depth round w later (0 + frames_in turns) (omega (arith, deep)) (keep scene l depth 0 first w turns (pixels scene l depth fits) (new scene l first begins) leads)
    has goes still
