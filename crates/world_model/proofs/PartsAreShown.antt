-- A turn of the cluster that runs on threads, of whichever actor, and whatever it saw of its lanes, leaves its flowing world flowing: what tiles have shown was taken, or
-- waits.
use Rattle.std.proofs.Common.{◌≡◌, ◌≢◌, ◌⊎◌, ℕ, zero, suc, ◌+◌, ◌*◌, ◌||◌, ◌<◌, not, Bool, true, false, cond, List, [], ◌∷◌, ◌++◌, length, map, Option, Some, None, inl, inr, refl, sym, ap, ◌∙◌, subst, arith, append-nil, length-append, eqb-true, eq-eqb, true≢false}
use Rattle.std.proofs.Math.Bool.{or-true}
use Rattle.std.proofs.lemmas.Bool.{cases_Bool}
use Rattle.std.specs.List.{list_any}
use Rattle.std.specs.Prelude.{option_to_list, slice_get, slice_index_or, Result, Ok, Err}
use Rattle.rc_base.specs.Cluster.Tiles.{tile_count}
use Rattle.rc_base.specs.declared.cluster.TilePart.{TilePart}
use Rattle.rc_base.specs.declared.image.Image.{Image}
use Rattle.rc_base.specs.declared.out_of_memory.OutOfMemory.{OutOfMemory}
use Rattle.rc_base.specs.declared.scene.Scene.{Scene}
use Rattle.rc_base.specs.declared.window.Layout.{Layout}
use Rattle.order_model.specs.Standing.{Progress}
use Rattle.tile_model.specs.Items.{shown_frames}
use Rattle.assembler.specs.Assembled.{layout_of, places_of, short_of, ComesOf, IsAssembledOf}
use Rattle.assembler.specs.Parts.{ArePartsOf, tile_height, tile_width}
use Rattle.assembler.specs.Places.{fits, in_place, AllFit, IsFound}
use Rattle.assembler.specs.declared.frame_parts.FrameParts.{FrameParts}
use Rattle.assembler.proofs.Waiting.{stands_in, none_in}
use Rattle.plain_lemmas.proofs.Numbers.{at_one_or_other}
use Rattle.plain_lemmas.proofs.Lists.{item_within}
use Rattle.world_model.specs.Flowing.{IsFlowing}
use Rattle.world_model.specs.Laws.{TurnsKeepWorldsFlowing}
use Rattle.world_model.specs.Moves.{IsTileMoveSeeing}
use Rattle.world_model.specs.Threaded.{PartLane, no_lane, GaveFirst, GaveNone, empties_of, HoldsAny, ThreadedWorld, ThreadedTurn, Steps, HandsOver, Collects, SeenLanes, frames_by, lane_of, OnlyPartsOf, IsOtherTurn, IsTileCoreTurn, IsHandOver, IsCall, IsThreadedTurnSeeing}
use Rattle.world_model.specs.ThreadedLaws.{waiting_parts, IsTileShown, AreShown, IsThreadedFlowing, HavePixels}
use Rattle.world_model.specs.Tiles.{Tile}
use Rattle.world_model.specs.Turns.{Turn, IsShortTileMoveSeeing}
use Rattle.world_model.specs.Turns.Turn.{ClientTurn, ManagerTurn, TileTurn}
use Rattle.world_model.specs.World.{World}
use Rattle.world_model.specs.declared.moves.TileAnswer.{TileAnswer}
use Rattle.world_model.proofs.EntriesKeepPace.{KeepsPace, pace_kept}
use Rattle.world_model.proofs.OrderlySequences.{any_append}
use Rattle.world_model.proofs.ShownParts.{parts_by_item, lost_shows, short_offers_none, put_waits}

-- ---- one tile

abbrev pub is_misfit_of : Layout → ℕ → TilePart → Bool
is_misfit_of l tile part = not (fits l tile part)

module _ (l : Layout) (tile : ℕ) where
  -- the tile's parts that wait grow by this one, or by none
  pub shown_more : (frames : ℕ) (place offered : Option TilePart) (waiting later : List TilePart) (a b : Tile) → IsTileShown l tile frames place waiting a
      → later ≡ waiting ++ option_to_list offered
      → shown_frames b.progress + cond b.short 1 0 ≡ shown_frames a.progress + cond a.short 1 0 + length (option_to_list offered)
      → (b.short ≡ true → (a.short ≡ true) ⊎ (list_any (is_misfit_of l tile) (option_to_list offered) ≡ true))
      → IsTileShown l tile frames place later b
  shown_more frames place offered waiting later a b h e grows told = record {
    count =
        let n = ap length e ∙ length-append waiting (option_to_list offered) in
        let c = h.count in
        omega (arith, n, c, grows);
    told = λ short.
        ap (list_any (is_misfit_of l tile)) e ∙ any_append (is_misfit_of l tile) waiting (option_to_list offered)
        ∙ elim (told short) [
          | inl before ↦ ap (λ b. b || list_any (is_misfit_of l tile) (option_to_list offered)) (h.told before)
          | inr now ↦ ap (λ b. list_any (is_misfit_of l tile) waiting || b) now ∙ or-true (list_any (is_misfit_of l tile) waiting)
        ];
  }

  -- a part without pixels doesn't fit
  pub bare_misfit : 0 < tile_width l tile * tile_height l tile → (part : TilePart) → part.pixels ≡ [] → is_misfit_of l tile part ≡ true
  bare_misfit some part none = elim (cases_Bool (fits l tile part)) [
    | inl t ↦ absurd (
        let e = eqb-true (length part.pixels) (tile_width l tile * tile_height l tile) t in
        let z = ap length none in
        omega (arith, e, z, some))
    | inr f ↦ rw f refl
  ]

  -- what a call of the caller finds for the tile
  abbrev pub Finds : Option TilePart → PartLane → Option TilePart → PartLane → Type 0
  Finds place lane found later = IsFound GaveFirst GaveNone empties_of HoldsAny place lane found later

  -- what it takes no longer waits
  pub found_count : (place found : Option TilePart) (lane later : PartLane) (handing : List TilePart) → Finds place lane found later
      → length (option_to_list place) + length (lane.parts ++ handing) ≡ length (option_to_list found) + length (later.parts ++ handing)
  found_count (Some p) found lane later handing h =
      let a = ap (λ (o : Option TilePart). length (option_to_list o)) h.0 in
      let b = ap (λ (x : PartLane). length (x.parts ++ handing)) h.1 in
      omega (arith, a, b)
  found_count None (Some p) lane later handing h = let b = ap (λ (ps : List TilePart). length (ps ++ handing)) h in omega (arith, b)
  found_count None None lane later handing h = let b = ap (λ (ps : List TilePart). length (ps ++ handing)) h.0 in omega (arith, b)

  -- a part that doesn't fit still waits, where what is found fits
  pub found_told : (place found : Option TilePart) (lane later : PartLane) (handing : List TilePart) → Finds place lane found later
      → ((p : TilePart) → found ≡ Some p → fits l tile p ≡ true) → list_any (is_misfit_of l tile) (lane.parts ++ handing) ≡ true
      → list_any (is_misfit_of l tile) (later.parts ++ handing) ≡ true
  found_told (Some p) found lane later handing h fit any = ap (λ (x : PartLane). list_any (is_misfit_of l tile) (x.parts ++ handing)) h.1 ∙ any
  found_told None (Some p) lane later handing h fit any =
      let good : is_misfit_of l tile p ≡ false = ap not (fit p refl) in
      let e = ap (λ (ps : List TilePart). list_any (is_misfit_of l tile) (ps ++ handing)) h in
      sym (ap (λ b. b || list_any (is_misfit_of l tile) (later.parts ++ handing)) good) ∙ sym e ∙ any
  found_told None None lane later handing h fit any = ap (λ (ps : List TilePart). list_any (is_misfit_of l tile) (ps ++ handing)) h.0 ∙ any

-- ---- places

place_back : (parts : List TilePart) (tile : ℕ) (p : TilePart) → in_place (map (λ q. Some q) parts) tile ≡ Some p → slice_get parts tile ≡ Some p
place_back [] tile p is = absurd cc
place_back (q ∷ parts) zero p is = is
place_back (q ∷ parts) (suc tile) p is = place_back parts tile p is

-- ---- a turn

module _ (scene : Scene) (l : Layout) (depth frames : ℕ) (pixels : HavePixels l) (w v : ThreadedWorld) (seen : SeenLanes) (f : IsThreadedFlowing scene l frames w) where
  keeps_pace : KeepsPace l w.cluster
  keeps_pace = record { pace = f.pace; few = f.few }

  -- the cluster flows and keeps pace, and the lanes and places are the tiles'
  with_shown : (now : ℕ) → IsFlowing scene l v.cluster → KeepsPace l v.cluster → layout_of v.caller ≡ layout_of w.caller → length v.lanes ≡ length w.lanes
      → (short_of v.caller ≡ false → AreShown l now v) → IsThreadedFlowing scene l now v
  with_shown now flows pace layout lanes shown = record {
    cluster = flows;
    pace = pace.pace;
    few = pace.few;
    layout = layout ∙ f.layout;
    lanes = lanes ∙ f.lanes;
    shown = shown;
  }

  -- ---- a client's turn, or the manager's

  tiles_stay : (turn : Turn) → IsOtherTurn scene l depth w seen turn v → ((tile : ℕ) → tile < tile_count l → v.cluster.tiles tile ≡ w.cluster.tiles tile) → TurnsKeepWorldsFlowing
      → IsThreadedFlowing scene l frames v
  tiles_stay turn m same keep =
      let flows = keep scene l depth w.cluster v.cluster seen.cluster turn f.cluster m.step in
      with_shown frames flows (pace_kept scene l depth w.cluster v.cluster seen.cluster turn flows m.step keeps_pace) (ap layout_of m.parts.caller) m.parts.count
      (λ whole.
      let s = f.shown (sym (ap short_of m.parts.caller) ∙ whole) in
      record {
        fit = subst (λ (a : FrameParts). AllFit l (places_of a)) (sym m.parts.caller) s.fit;
        tiles = λ tile lt.
            let waits : waiting_parts v tile ≡ waiting_parts w tile =
            ap (λ (ps : List TilePart). ps ++ option_to_list (v.handing tile)) (m.parts.lanes tile lt)
            ∙ ap (λ (o : Option TilePart). lane_of w tile ++ option_to_list o) (m.parts.handing tile lt) in
            subst (λ (a : FrameParts). IsTileShown l tile frames (in_place (places_of a) tile) (waiting_parts v tile) (v.cluster.tiles tile)) (sym m.parts.caller)
            (subst (λ (ps : List TilePart). IsTileShown l tile frames (in_place (places_of w.caller) tile) ps (v.cluster.tiles tile)) (sym waits)
            (subst (λ (a : Tile). IsTileShown l tile frames (in_place (places_of w.caller) tile) (waiting_parts w tile) a) (sym (same tile lt)) (s.tiles tile lt)));
      })

  -- ---- a tile's turn

  -- of the tile, as this says, and of all others as before
  at_tile : (tile : ℕ) → OnlyPartsOf l w tile v → IsFlowing scene l v.cluster → KeepsPace l v.cluster
      → ((i : ℕ) → i < tile_count l → i ≢ tile → v.cluster.tiles i ≡ w.cluster.tiles i)
      → (tile < tile_count l → IsTileShown l tile frames (in_place (places_of w.caller) tile) (waiting_parts w tile) (w.cluster.tiles tile)
      → IsTileShown l tile frames (in_place (places_of w.caller) tile) (waiting_parts v tile) (v.cluster.tiles tile))
      → IsThreadedFlowing scene l frames v
  at_tile tile only flows pace others here =
      with_shown frames flows pace (ap layout_of only.caller) only.count
      (λ whole.
      let s = f.shown (sym (ap short_of only.caller) ∙ whole) in
      record {
        fit = subst (λ (a : FrameParts). AllFit l (places_of a)) (sym only.caller) s.fit;
        tiles = λ i lt.
            subst (λ (a : FrameParts). IsTileShown l i frames (in_place (places_of a) i) (waiting_parts v i) (v.cluster.tiles i)) (sym only.caller)
            (at_one_or_other (λ i. i < tile_count l → IsTileShown l i frames (in_place (places_of w.caller) i) (waiting_parts v i) (v.cluster.tiles i)) tile
            (λ lt. here lt (s.tiles tile lt))
            (λ i ne lt.
            let waits : waiting_parts v i ≡ waiting_parts w i =
            ap (λ (ps : List TilePart). ps ++ option_to_list (v.handing i)) (only.lanes i lt ne)
            ∙ ap (λ (o : Option TilePart). lane_of w i ++ option_to_list o) (only.handing i lt ne) in
            subst (λ (ps : List TilePart). IsTileShown l i frames (in_place (places_of w.caller) i) ps (v.cluster.tiles i)) (sym waits)
            (subst (λ (a : Tile). IsTileShown l i frames (in_place (places_of w.caller) i) (waiting_parts w i) a) (sym (others i lt ne)) (s.tiles i lt))) i lt);
      })

  core_turn : (tile : ℕ) (answer : Result TileAnswer OutOfMemory) → IsTileCoreTurn scene l depth w seen tile answer v → TurnsKeepWorldsFlowing → IsThreadedFlowing scene l frames v
  core_turn tile answer m keep = by answer m
    where
      waits : (answer : Result TileAnswer OutOfMemory) → (m : IsTileCoreTurn scene l depth w seen tile answer v) → waiting_parts v tile ≡ waiting_parts w tile ++ option_to_list m.offered
      waits answer m =
          let nothing : waiting_parts w tile ≡ lane_of w tile = ap (λ (o : Option TilePart). lane_of w tile ++ option_to_list o) m.free ∙ append-nil (lane_of w tile) in
          put_waits depth m.offered (lane_of w tile) (seen.parts tile) (lane_of v tile) (v.handing tile) m.put ∙ ap (λ (ps : List TilePart). ps ++ option_to_list m.offered) (sym nothing)

      here : (answer : Result TileAnswer OutOfMemory) → (m : IsTileCoreTurn scene l depth w seen tile answer v)
          → shown_frames (v.cluster.tiles tile).progress + cond {A = ℕ} (v.cluster.tiles tile).short 1 0
          ≡ shown_frames (w.cluster.tiles tile).progress + cond {A = ℕ} (w.cluster.tiles tile).short 1 0 + length (option_to_list m.offered)
          → ((v.cluster.tiles tile).short ≡ true → ((w.cluster.tiles tile).short ≡ true) ⊎ (list_any (is_misfit_of l tile) (option_to_list m.offered) ≡ true))
          → ((i : ℕ) → i < tile_count l → i ≢ tile → v.cluster.tiles i ≡ w.cluster.tiles i) → IsThreadedFlowing scene l frames v
      here answer m grows told others =
          let flows = keep scene l depth w.cluster v.cluster seen.cluster (TileTurn tile answer) f.cluster m.step in
          at_tile tile m.only flows (pace_kept scene l depth w.cluster v.cluster seen.cluster (TileTurn tile answer) flows m.step keeps_pace) others
          (λ lt s. shown_more l tile frames (in_place (places_of w.caller) tile) m.offered (waiting_parts w tile) (waiting_parts v tile) (w.cluster.tiles tile)
          (v.cluster.tiles tile) s (waits answer m) grows told)

      by : (answer : Result TileAnswer OutOfMemory) → (m : IsTileCoreTurn scene l depth w seen tile answer v) → IsThreadedFlowing scene l frames v
      by (Ok answer) m = of m.step.step
        where
          of : IsTileMoveSeeing scene l depth w.cluster seen.cluster tile answer v.cluster ⊎ IsShortTileMoveSeeing scene l depth w.cluster seen.cluster tile answer v.cluster
              → IsThreadedFlowing scene l frames v
          of (inl t) =
              let p = ap (λ (q : Progress). shown_frames q) t.step.progress in
              let more = parts_by_item (w.cluster.tiles tile).progress t.item answer m.offered t.step.awaited t.answered m.offers in
              let a : cond {A = ℕ} (w.cluster.tiles tile).short 1 0 ≡ 0 = ap (λ b. cond {A = ℕ} b 1 0) t.step.ample in
              let b : cond {A = ℕ} (v.cluster.tiles tile).short 1 0 ≡ 0 = ap (λ b. cond {A = ℕ} b 1 0) (t.step.still_ample ∙ t.step.ample) in
              here (Ok answer) m (omega (arith, p, more, a, b)) (λ short. absurd (true≢false (sym short ∙ t.step.still_ample ∙ t.step.ample))) t.only.tiles
          of (inr t) =
              let p = ap (λ (q : Progress). shown_frames q) t.progress ∙ lost_shows (w.cluster.tiles tile).progress t.item in
              let none = ap (λ (o : Option TilePart). length (option_to_list o)) (short_offers_none (w.cluster.tiles tile).progress t.item answer m.offered t.answered m.offers) in
              let a = ap (λ b. cond {A = ℕ} b 1 0) (t.still_short ∙ sym t.short) in
              here (Ok answer) m (omega (arith, p, none, a)) (λ short. inl t.short) t.only.tiles
      by (Err lack) m =
          let t = m.step.step in
          let p = ap (λ (q : Progress). shown_frames q) t.progress ∙ lost_shows (w.cluster.tiles tile).progress t.item in
          let one = ap (λ (o : Option TilePart). length (option_to_list o)) m.offers.1 in
          let a : cond {A = ℕ} (w.cluster.tiles tile).short 1 0 ≡ 0 = ap (λ b. cond {A = ℕ} b 1 0) t.ample in
          let b : cond {A = ℕ} (v.cluster.tiles tile).short 1 0 ≡ 1 = ap (λ b. cond {A = ℕ} b 1 0) t.short in
          here (Err lack) m (omega (arith, p, one, a, b))
          (λ short. inr (ap (λ (o : Option TilePart). list_any (is_misfit_of l tile) (option_to_list o)) m.offers.1
          ∙ ap (λ b. b || false) (bare_misfit l tile (pixels tile t.low) m.offers.0 m.offers.2))) t.only.tiles

  hands_over : (tile : ℕ) (sent : Bool) → IsHandOver scene l depth w seen tile sent v → IsThreadedFlowing scene l frames v
  hands_over tile sent m =
      at_tile tile m.only (subst (IsFlowing scene l) (sym m.cluster) f.cluster) (subst (KeepsPace l) (sym m.cluster) keeps_pace)
      (λ i lt ne. ap (λ (c : World). c.tiles i) m.cluster)
      (λ lt s.
      subst (λ (ps : List TilePart). IsTileShown l tile frames (in_place (places_of w.caller) tile) ps (v.cluster.tiles tile)) (sym (waits sent m))
      (subst (λ (c : World). IsTileShown l tile frames (in_place (places_of w.caller) tile) (waiting_parts w tile) (c.tiles tile)) (sym m.cluster) s))
    where
      waits : (sent : Bool) → (m : IsHandOver scene l depth w seen tile sent v) → waiting_parts v tile ≡ waiting_parts w tile
      waits true m =
          put_waits depth (Some m.part) (lane_of w tile) (seen.parts tile) (lane_of v tile) (v.handing tile) (inl m.put)
          ∙ ap (λ (o : Option TilePart). lane_of w tile ++ option_to_list o) (sym m.waits)
      waits false m =
          put_waits depth (Some m.part) (lane_of w tile) (seen.parts tile) (lane_of v tile) (v.handing tile) (inr m.put)
          ∙ ap (λ (o : Option TilePart). lane_of w tile ++ option_to_list o) (sym m.waits)

  -- ---- the caller's turn

  module _ (moved : Bool) (frame : Option Image) (m : IsCall scene l depth w seen moved frame v) where
    layout_is : layout_of w.caller ≡ l
    layout_is = f.layout

    flows_on : IsFlowing scene l v.cluster
    flows_on = subst (IsFlowing scene l) (sym m.cluster) f.cluster

    pace_on : KeepsPace l v.cluster
    pace_on = subst (KeepsPace l) (sym m.cluster) keeps_pace

    -- what is shown by then, where these were found
    shown_on : (s : AreShown l frames w) (found : List (Option TilePart)) (now : ℕ)
        → ((tile : ℕ) → tile < tile_count l → Finds l tile (in_place (places_of w.caller) tile) (slice_index_or w.lanes tile no_lane) (in_place found tile) (slice_index_or v.lanes tile no_lane))
        → AllFit l found → AllFit l (places_of v.caller)
        → ((tile : ℕ) → tile < tile_count l → now + length (option_to_list (in_place (places_of v.caller) tile)) ≡ frames + length (option_to_list (in_place found tile)))
        → AreShown l now v
    shown_on s found now each fit fit_now same = record {
      fit = fit_now;
      tiles = λ tile lt.
          subst (λ (c : World). IsTileShown l tile now (in_place (places_of v.caller) tile) (waiting_parts v tile) (c.tiles tile)) (sym m.cluster)
          (subst (λ (o : Option TilePart). IsTileShown l tile now (in_place (places_of v.caller) tile) (lane_of v tile ++ option_to_list o) (w.cluster.tiles tile)) (sym (m.handing tile lt))
          record {
            count =
                let a = found_count l tile (in_place (places_of w.caller) tile) (in_place found tile) (slice_index_or w.lanes tile no_lane) (slice_index_or v.lanes tile no_lane)
                (option_to_list (w.handing tile)) (each tile lt) in
                let b = (s.tiles tile lt).count in
                let c = same tile lt in
                omega (arith, a, b, c);
            told = λ short.
                found_told l tile (in_place (places_of w.caller) tile) (in_place found tile) (slice_index_or w.lanes tile no_lane) (slice_index_or v.lanes tile no_lane)
                (option_to_list (w.handing tile)) (each tile lt) (λ p is. fit tile p is) ((s.tiles tile lt).told short);
          });
    }

    module _ (ample : short_of w.caller ≡ false) (whole : short_of v.caller ≡ false) where
      s : AreShown l frames w
      s = f.shown ample

      a : IsAssembledOf GaveFirst GaveNone empties_of HoldsAny w.caller w.lanes frame v.caller v.lanes
      a = m.step.whole ample

      each : (tile : ℕ) → tile < tile_count l
          → Finds l tile (in_place (places_of w.caller) tile) (slice_index_or w.lanes tile no_lane) (in_place a.found tile) (slice_index_or v.lanes tile no_lane)
      each tile lt = a.each.at tile no_lane (subst (λ n. tile < n) (sym f.lanes) lt)

      fits_back : (k : Layout) → layout_of w.caller ≡ k → AllFit (layout_of w.caller) a.found → AllFit k a.found
      fits_back k e fit = subst (λ k. AllFit k a.found) e fit

      -- a whole frame
      completed : (k : Layout) → layout_of w.caller ≡ k → (parts : List TilePart) → a.found ≡ map (λ p. Some p) parts → ArePartsOf k parts → AllFit k a.found
      completed k e parts all sizes tile p is =
          let back = place_back parts tile p (sym (ap (λ (ps : List (Option TilePart)). in_place ps tile) all) ∙ is) in
          eq-eqb (length p.pixels) (tile_width k tile * tile_height k tile) (sizes.size tile p back)

      comes : (o : Option Image) → ComesOf (layout_of w.caller) a.found o v.caller → AreShown l (frames + length (option_to_list o)) v
      comes (Some image) h =
          let sizes = subst (λ (k : Layout). ArePartsOf k h.parts) layout_is h.sizes in
          let none : (tile : ℕ) → in_place (places_of v.caller) tile ≡ None =
          λ tile. ap (λ (ps : List (Option TilePart)). in_place ps tile) h.places ∙ none_in (tile_count (layout_of w.caller)) tile in
          shown_on s a.found (frames + 1) each (completed l layout_is h.parts h.all sizes) (λ tile p is. absurd (let same = sym (none tile) ∙ is in cc))
          (λ tile lt.
          let there = item_within h.parts tile (subst (λ n. tile < n) (sym sizes.count) lt) in
          let one = ap (λ (ps : List (Option TilePart)). length (option_to_list (in_place ps tile))) h.all
          ∙ ap (λ (o : Option TilePart). length (option_to_list o)) (stands_in h.parts tile there.0 there.1) in
          let zero_now = ap (λ (o : Option TilePart). length (option_to_list o)) (none tile) in
          omega (arith, one, zero_now))
      comes None (inl h) =
          let fit = fits_back l layout_is h.sizes in
          shown_on s a.found (frames + 0) each fit (subst (AllFit l) (sym h.places) fit)
          (λ tile lt.
          let e = ap (λ (ps : List (Option TilePart)). length (option_to_list (in_place ps tile))) h.places in
          omega (arith, e))
      comes None (inr h) = absurd (true≢false (sym h.short ∙ whole))

      shown_whole : AreShown l (frames + length (option_to_list frame)) v
      shown_whole = comes frame a.comes

    pub call_keeps : IsThreadedFlowing scene l (frames + length (option_to_list frame)) v
    call_keeps = with_shown (frames + length (option_to_list frame)) flows_on pace_on m.step.layout m.count
        (λ whole. elim (cases_Bool (short_of w.caller)) [
          | inl short ↦ absurd (true≢false (sym (m.step.refused short).short ∙ whole))
          | inr ample ↦ shown_whole ample whole
        ])

  -- ---- whoever has it

  no_frame : IsThreadedFlowing scene l frames v → IsThreadedFlowing scene l (frames + 0) v
  no_frame h = let e : frames ≡ frames + 0 = omega arith in subst (λ n. IsThreadedFlowing scene l n v) e h

  pub turn_keeps : TurnsKeepWorldsFlowing → (turn : ThreadedTurn) → IsThreadedTurnSeeing scene l depth w seen turn v → IsThreadedFlowing scene l (frames + frames_by turn) v
  turn_keeps keep (Steps (ClientTurn client (Ok answer))) m = no_frame (tiles_stay (ClientTurn client (Ok answer)) m m.step.step.only.tiles keep)
  turn_keeps keep (Steps (ClientTurn client (Err lack))) m = no_frame (tiles_stay (ClientTurn client (Err lack)) m m.step.step.only.tiles keep)
  turn_keeps keep (Steps (ManagerTurn answer)) m = no_frame (tiles_stay (ManagerTurn answer) m m.step.step.only.tiles keep)
  turn_keeps keep (Steps (TileTurn tile answer)) m = no_frame (core_turn tile answer m keep)
  turn_keeps keep (HandsOver tile sent) m = no_frame (hands_over tile sent m)
  turn_keeps keep (Collects moved frame) m = call_keeps moved frame m
