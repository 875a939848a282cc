-- What tiles have shown, whoever lacks memory, is what a whole run shows first.
use Rattle.std.proofs.Common.{◌≡◌, ℕ, ◌+◌, ◌-◌, ◌<◌, ◌≤◌, List, [], ◌++◌, length, cond, take, drop, inl, inr, refl, sym, ap, ◌∙◌, subst, arith}
use Rattle.std.proofs.lemmas.Bool.{cases_lt}
use Rattle.std.proofs.lemmas.List.{take-append-drop}
use Rattle.std.proofs.lemmas.List.Sums.{sum_by-append}
use Rattle.std.proofs.lemmas.Option.{slice_get-get_or, slice_get_within}
use Rattle.std.specs.Prelude.{◌^◌, slice_index_or}
use Rattle.rc_base.specs.Cluster.Tiles.{tile_count}
use Rattle.rc_base.specs.Orders.Journal.{IsLegal}
use Rattle.rc_base.specs.Orders.Sync.{IsWellFormed, sync_lists_of}
use Rattle.rc_base.specs.declared.cluster.TilePart.{TilePart}
use Rattle.rc_base.specs.declared.scene.Scene.{Scene}
use Rattle.rc_base.specs.declared.sync.Entry.{Entry}
use Rattle.rc_base.specs.declared.sync.Name.{Name}
use Rattle.rc_base.specs.declared.sync.SyncLists.{SyncLists}
use Rattle.rc_base.specs.declared.window.Layout.{Layout}
use Rattle.client_issue.specs.Laws.{SequencesAreSplit}
use Rattle.order_model.specs.Gathering.{LegalBooksHaveLegalJournals}
use Rattle.order_model.specs.Laws.{SwapsAreFew}
use Rattle.order_model.specs.Log.{Job, Replays, recorded_order}
use Rattle.order_model.specs.Report.{frame_count, is_swap_entry, tile_order}
use Rattle.order_model.specs.Sent.{jobs_of}
use Rattle.order_model.specs.Standing.{Progress, performed_in, IsUnderWay}
use Rattle.order_model.specs.declared.record.LogEntry.{LogEntry}
use Rattle.order_model.specs.declared.record.Record.{Record}
use Rattle.run_record.specs.Collected.{IsSmall}
use Rattle.tile_model.specs.Scenes.{IsInRange, HasSides}
use Rattle.tile_server.specs.Clauses.{AreTileFrames, IsTileRight, TileFramesStay}
use Rattle.tile_server.specs.Laws.{IsFramePart}
use Rattle.shown_frames.specs.Clusters.{AreShowing, AreFirstParts, ShownPartsBeginAWholeRun}
use Rattle.shown_frames.specs.Shown.{HasShown}
use Rattle.shown_frames.specs.Unfinished.{IsUnfinished, BeginsWith, UnfinishedRunsGoOn}
use Rattle.shown_frames.proofs.Fronts.{front_of_front}
use Rattle.shown_frames.proofs.LongerJournals.{under_way_longer, frames_longer}
use Rattle.shown_frames.proofs.SentSoFar.{journal_so_far, legal_so_far, heard_so_far, open_parcels}

-- the laws that are cited
pub record ShowingLaws : Type 0 where
  pub split : SequencesAreSplit
  pub books : LegalBooksHaveLegalJournals
  pub swaps : SwapsAreFew
  pub stay : TileFramesStay
  pub go_on : UnfinishedRunsGoOn

-- a journal that goes on has as many frames or more
frames_in_front : (js more : List Entry) → frame_count js ≤ frame_count (js ++ more)
frames_in_front js more = let e = sum_by-append (λ x. cond (is_swap_entry x) 1 0) js more in omega (arith, e)

module _ (laws : ShowingLaws) (scene : Scene) (l : Layout) (shown : ℕ → List TilePart) (well : IsWellFormed (sync_lists_of scene)) (small : IsSmall scene)
    (range : IsInRange scene) (sides : HasSides scene.decl) (h : AreShowing scene l shown) where
  abbrev syncs : SyncLists
  syncs = sync_lists_of scene

  abbrev journal : List Entry
  journal = journal_so_far laws.split laws.books scene l shown h

  legal : IsLegal syncs journal
  legal = legal_so_far laws.split laws.books scene l shown h

  -- ---- each tile

  tile_right : (t : ℕ) (lt : t < tile_count l) → (let k = h.tile t lt in IsTileRight scene l t journal k.core k.progress k.whole)
  tile_right t lt =
      let k = h.tile t lt in
      k.stood.right range sides journal legal
      (λ c lc. open_parcels laws.split scene l c (h.sent c) (h.asked c) (h.client c lc) t lt (k.took_then c)
      (front_of_front (k.took_then c) (h.took t c) (h.sent c t) (k.fronts c lc) (h.parcel_lanes c t lc lt)) (k.none_ended c lc))
      (front_of_front k.heard_then (h.heard t) _ k.front (heard_so_far laws.split laws.books scene l shown h t lt))

  under_way : (t : ℕ) (lt : t < tile_count l) → IsUnderWay syncs journal (λ client. jobs_of scene l client t) (h.tile t lt).progress
  under_way t lt = (tile_right t lt).stands.stands.progress

  -- ---- the run that goes on from there

  record HasCarriedOut (t : ℕ) (log : List LogEntry) : Type 0 where
    pub low : t < tile_count l
    pub is : log ≡ (h.tile t low).progress.log

  abbrev each_log : (t : ℕ) → (log : List LogEntry) × (t < tile_count l → HasCarriedOut t log)
  each_log t = elim (cases_lt t (tile_count l)) [
    | inl lt ↦ ((h.tile t lt).progress.log, λ _. record { low = lt; is = refl })
    | inr ge ↦ ([], λ lt. absurd (omega (arith, lt, ge)))
  ]

  abbrev logs : ℕ → List LogEntry
  logs t = (each_log t).0

  unfinished : IsUnfinished scene l journal logs
  unfinished = record {
    legal = legal;
    replays = λ t lt.
        let k = (each_log t).1 lt in
        subst (λ log. Replays syncs journal (λ client. jobs_of scene l client t) log) (sym k.is) (under_way t k.low).replays;
  }

  abbrev kept : Record
  kept = (laws.go_on scene l journal logs well unfinished).0

  begins : BeginsWith scene l journal logs kept
  begins = (laws.go_on scene l journal logs well unfinished).1

  few_frames : frame_count kept.journal < 2 ^ 32 - 1
  few_frames =
      let a = laws.swaps scene kept.journal small.some begins.lawful.maximal.0 in
      let b = small.short 0 in
      omega (arith, a, b)

  module _ (t : ℕ) (lt : t < tile_count l) where
    carried : HasCarriedOut t (logs t)
    carried = (each_log t).1 lt

    abbrev tile : HasShown scene l t (h.took t) (h.heard t) (shown t)
    tile = h.tile t carried.low

    abbrev p : Progress
    p = tile.progress

    abbrev more : List Entry
    more = begins.journal_is.0

    abbrev rest : List LogEntry
    rest = (begins.logs_are t lt).0

    abbrev jobs : ℕ → List Job
    jobs client = jobs_of scene l client t

    under : IsUnderWay syncs kept.journal jobs p
    under = subst (λ js. IsUnderWay syncs js jobs p) (sym begins.journal_is.1) (under_way_longer syncs journal more jobs p (under_way t carried.low))

    frames : AreTileFrames scene l t kept.journal p tile.whole
    frames = subst (λ js. AreTileFrames scene l t js p tile.whole) (sym begins.journal_is.1)
        (frames_longer scene l t journal more p tile.whole (under_way t carried.low).replays (tile_right t carried.low).frames)

    log_is : slice_index_or kept.logs t [] ≡ p.log ++ rest
    log_is = (begins.logs_are t lt).1 ∙ ap (λ log. log ++ rest) carried.is

    replays : Replays syncs kept.journal jobs (p.log ++ rest)
    replays = subst (λ log. Replays syncs kept.journal jobs log) log_is
        (begins.lawful.replays t (slice_index_or kept.logs t []) (slice_get-get_or kept.logs t [] (let n = begins.lawful.count in omega (arith, n, lt))))

    order_is : recorded_order syncs kept.journal (p.log ++ rest) ≡ tile_order kept t
    order_is =
        sym (ap (λ (x : SyncLists). recorded_order x kept.journal (slice_index_or kept.logs t [])) begins.lawful.lists
        ∙ ap (λ log. recorded_order syncs kept.journal log) log_is)

    few : length tile.whole ≤ frame_count kept.journal
    few =
        let a = frames.count in
        let b = frames_in_front (take (performed_in p.log) p.learnt) (drop (performed_in p.log) p.learnt) in
        let c = ap frame_count (take-append-drop (performed_in p.log) p.learnt) in
        let d = frames_in_front p.learnt under.learnt.0 in
        let e = ap frame_count under.learnt.1 in
        omega (arith, a, b, c, d, e)

    first_parts : AreFirstParts scene l kept t (shown t)
    first_parts = record {
      whole = tile.whole;
      blank = tile.blank;
      parts_are = tile.parts_are;
      blank_are = tile.blank_are;
      few = few;
      each = λ k part is.
          let within = slice_get_within tile.whole k part is in
          let low : k + 1 < 2 ^ 32 = (let a = few in let b = few_frames in omega (arith, a, b, within)) in
          subst (λ (names : List Name). IsFramePart scene l names t (k + 1) part) order_is
          (laws.stay scene l t kept.journal p tile.whole rest begins.lawful.maximal.0 under frames replays k part is low).1;
    }

pub shown_parts : ShowingLaws → ShownPartsBeginAWholeRun
shown_parts laws scene l shown well small range sides h = (
  kept laws scene l shown well small range sides h,
  record {
    lawful = (begins laws scene l shown well small range sides h).lawful;
    parts = λ t lt. first_parts laws scene l shown well small range sides h t lt;
  },
)
