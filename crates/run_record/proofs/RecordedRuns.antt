-- What is collected of cores that have ended is the run of their scene.
use Rattle.std.proofs.Common.{◌≡◌, ℕ, ◌+◌, ◌*◌, ◌-◌, ◌^◌, ◌<◌, ◌≤◌, List, [], ◌++◌, length, Option, Some, None, inl, inr, sym, ap, ◌∙◌, subst, arith, append-nil}
use Rattle.std.proofs.Math.Seq.{take-length}
use Rattle.std.proofs.lemmas.Bool.{cases_lt}
use Rattle.std.proofs.lemmas.List.{ext_get_or, get_or_past}
use Rattle.std.proofs.lemmas.List.FromFn.{length-map-range_with_len, get_or-map-range_with_len}
use Rattle.std.proofs.lemmas.Option.{slice_get-get_or, slice_get_within, get_or_from_slice_get}
use Rattle.std.specs.List.{range_with_len}
use Rattle.std.specs.Prelude.{map, sum, take, is_some, IfSome, slice_get, slice_index_or}
use Rattle.rc_base.specs.Cluster.Looks.{look_count}
use Rattle.rc_base.specs.Cluster.Parcels.{parcels_of, set_count}
use Rattle.rc_base.specs.Cluster.Tiles.{tile_count}
use Rattle.rc_base.specs.Orders.Book.{Book, waiting_in}
use Rattle.rc_base.specs.Orders.Journal.{waiting_of, IsLegal}
use Rattle.rc_base.specs.Orders.Sync.{sync_row_of, sync_lists_of}
use Rattle.rc_base.specs.Outside.Causes.{last_count}
use Rattle.rc_base.specs.declared.cluster.Tally.{Tally}
use Rattle.rc_base.specs.declared.cluster.TilePart.{TilePart}
use Rattle.rc_base.specs.declared.scene.Scene.{Scene}
use Rattle.rc_base.specs.declared.state.Fault.{Fault}
use Rattle.rc_base.specs.declared.sync.Entry.{Entry}
use Rattle.rc_base.specs.declared.sync.SyncLists.{SyncLists}
use Rattle.rc_base.specs.declared.sync.SyncRow.{SyncRow}
use Rattle.rc_base.specs.declared.sync.Waiting.{Waiting}
use Rattle.rc_base.specs.declared.window.Layout.{Layout}
use Rattle.client_issue.specs.Cores.{tally_of_tile}
use Rattle.client_issue.specs.declared.client.ClientCore.{ClientCore}
use Rattle.order_model.specs.Gathering.{GatheringIsLawful, OverBooksWaitAlike}
use Rattle.order_model.specs.Laws.{SwapsAreFew}
use Rattle.order_model.specs.Log.{Replays, recorded_order}
use Rattle.order_model.specs.Report.{frame_count, tile_order}
use Rattle.order_model.specs.Sent.{jobs_of, IsRecordOf}
use Rattle.order_model.specs.Standing.{Progress, new_progress, IsUnderWay, IsDone}
use Rattle.order_model.specs.declared.record.LogEntry.{LogEntry}
use Rattle.order_model.specs.declared.record.Record.{Record}
use Rattle.sync_manager.specs.Books.{IsBookOf}
use Rattle.sync_manager.specs.Cores.{book_of}
use Rattle.sync_manager.specs.Stored.{wait_at}
use Rattle.sync_manager.specs.declared.manager.ManagerCore.{ManagerCore}
use Rattle.tile_server.specs.Clauses.{TileFramesStay}
use Rattle.tile_server.specs.Laws.{IsFramePart}
use Rattle.tile_server.specs.declared.tile_core.TileCore.{TileCore}
use Rattle.rc_base.proofs.Paired.{some_item}
use Rattle.run_record.specs.Closed.{AreDone, ClosedRunsAreDone}
use Rattle.run_record.specs.Collected.{AreCollected, IsSmall, IsWholeRun, DoneRunsAreRecorded, ClosedRunsAreLawful}
use Rattle.run_record.specs.Told.{AreTallies, AreFaults, HaveFrames, IsWaiting}
use Rattle.run_record.proofs.ClientsBeyond.{stuck_by, someone_waits, none_refused}
use Rattle.run_record.proofs.FewParcels.{few_looks, few_parcels}
use Rattle.run_record.proofs.TalliesSum.{whole_sum}

-- the laws that are cited
pub record RecordingLaws : Type 0 where
  pub gathering : GatheringIsLawful
  pub waiting : OverBooksWaitAlike
  pub swaps : SwapsAreFew
  pub frames : TileFramesStay

module _ (laws : RecordingLaws) (scene : Scene) (l : Layout) (clients : List ClientCore) (core : ManagerCore) (tiles : List TileCore) (shown : ℕ → List TilePart)
    (kept : Record) (tallies : List Tally) (waiting : Option Waiting) (faults : List (List (ℕ × Fault)))
    (small : IsSmall scene) (h : AreDone scene l clients core tiles shown)
    (k : AreCollected scene.decl clients core tiles kept tallies waiting faults) where
  abbrev journal : List Entry
  journal = h.progress.book.journal

  -- ---- the record

  rows_are : kept.syncs.clients ≡ map (sync_row_of scene) (range_with_len 0 (length scene.streams))
  rows_are =
      let all = h.client_total in
      let n = length-map-range_with_len (sync_row_of scene) 0 (length scene.streams) in
      let m = k.rows.count in
      let none : SyncRow = record { ops = []; length = 0 } in
      ext_get_or none kept.syncs.clients (map (sync_row_of scene) (range_with_len 0 (length scene.streams))) (omega (arith, all, n, m)) (λ i lt.
      let here : i < length clients = omega (arith, m, lt) in
      let low : i < length scene.streams = omega (arith, all, here) in
      let d = some_item clients i here in
      k.rows.at i d none here scene l (h.sent.at i d here)
      ∙ sym (get_or-map-range_with_len (sync_row_of scene) 0 (length scene.streams) i i none low (omega arith)))

  syncs_are : kept.syncs ≡ sync_lists_of scene
  unfolding sync_lists_of
  syncs_are =
      ap (λ (x : List SyncRow). record { clients = x; counts = kept.syncs.counts; units = kept.syncs.units }) rows_are
      ∙ ap (λ (x : List ℕ). record { clients = map (sync_row_of scene) (range_with_len 0 (length scene.streams)); counts = x; units = kept.syncs.units }) k.counts
      ∙ ap (λ (x : List ℕ). record { clients = map (sync_row_of scene) (range_with_len 0 (length scene.streams)); counts = scene.decl.barriers; units = x }) k.units

  journal_is : kept.journal ≡ journal
  journal_is = k.journal (sync_lists_of scene) h.progress h.stands

  core_at : (t : ℕ) → t < tile_count l → TileCore
  core_at t lt = some_item tiles t (let n = h.tile_total in omega (arith, n, lt))

  -- what is true of a tile by its progress
  record IsTold (t : ℕ) (p : Progress) : Type 0 where
    pub log : slice_get kept.logs t ≡ Some p.log
    pub under_way : IsUnderWay (sync_lists_of scene) journal (λ client. jobs_of scene l client t) p
    pub done : IsDone (sync_lists_of scene) journal p

  told : (t : ℕ) (lt : t < tile_count l) → (p : Progress) × IsTold t p
  told t lt =
      let f = h.tile t (core_at t lt) lt in
      let here : t < length tiles = (let n = h.tile_total in omega (arith, n, lt)) in
      let m = k.logs.count in (
        f.progress,
        record {
          log = slice_get-get_or kept.logs t [] (omega (arith, m, here))
              ∙ ap (λ log. Some log) (k.logs.at t (core_at t lt) [] here f.progress f.stands);
          under_way = f.under_way;
          done = f.done;
        },
      )

  each_told : (t : ℕ) → (p : Progress) × (t < tile_count l → IsTold t p)
  each_told t = elim (cases_lt t (tile_count l)) [
    | inl lt ↦ let x = told t lt in (x.0, λ _. x.1)
    | inr ge ↦ (new_progress 0, λ lt. absurd (omega (arith, lt, ge)))
  ]

  lawful : IsRecordOf scene l kept
  lawful =
      laws.gathering scene l h.progress.book (λ t. (each_told t).0) kept h.arrived h.stands.book.legal h.over
      (λ t lt. let x = (each_told t).1 lt in (x.under_way, x.done)) syncs_are journal_is (k.logs.count ∙ h.tile_total)
      (λ t lt. ((each_told t).1 lt).log)

  -- ---- the parts

  few_frames : frame_count kept.journal < 2 ^ 32 - 1
  few_frames =
      let a = laws.swaps scene kept.journal small.some lawful.maximal.0 in
      let b = small.short 0 in
      omega (arith, a, b)

  order_is : (t : ℕ) (log : List LogEntry) → slice_get kept.logs t ≡ Some log → recorded_order (sync_lists_of scene) journal (log ++ []) ≡ tile_order kept t
  order_is t log is =
      sym (ap (λ (x : SyncLists). recorded_order x kept.journal (slice_index_or kept.logs t [])) syncs_are
      ∙ ap (λ js. recorded_order (sync_lists_of scene) js (slice_index_or kept.logs t [])) journal_is
      ∙ ap (λ x. recorded_order (sync_lists_of scene) journal x) (get_or_from_slice_get kept.logs t log [] is ∙ sym (append-nil log)))

  -- a tile's parts are its frames
  frame_at : (t k : ℕ) (part : TilePart) (lt : t < tile_count l) → slice_get (shown t) k ≡ Some part → k + 1 < 2 ^ 32
      → IsFramePart scene l (tile_order kept t) t (k + 1) part
  frame_at t n part lt is low =
      let f = h.tile t (core_at t lt) lt in
      let p = f.progress in
      let here : t < length tiles = (let c = h.tile_total in omega (arith, c, lt)) in
      let m = k.logs.count in
      let log : slice_get kept.logs t ≡ Some p.log = slice_get-get_or kept.logs t [] (omega (arith, m, here))
      ∙ ap (λ log. Some log) (k.logs.at t (core_at t lt) [] here p f.stands) in
      subst (λ names. IsFramePart scene l names t (n + 1) part) (order_is t p.log log)
      (laws.frames scene l t journal p (shown t) [] (subst (IsLegal (sync_lists_of scene)) journal_is lawful.maximal.0) f.under_way f.frames
      (subst (λ log. Replays (sync_lists_of scene) journal (λ client. jobs_of scene l client t) log) (sym (append-nil p.log)) f.under_way.replays) n part is low).1

  shown_all : (t : ℕ) → t < tile_count l → length (shown t) ≡ frame_count kept.journal
  shown_all t lt =
      let f = h.tile t (core_at t lt) lt in
      f.frames.count ∙ ap (λ n. frame_count (take n f.progress.learnt)) f.done.performed ∙ ap frame_count (take-length f.progress.learnt ∙ f.done.learnt)
      ∙ ap frame_count (sym journal_is)

  have_frames : HaveFrames scene l kept shown
  have_frames = record {
    count = shown_all;
    each = λ frame tile part low is.
        let within = slice_get_within (shown tile) frame part is in
        frame_at tile frame part low is (let g = few_frames in let c = shown_all tile low in omega (arith, g, c, within));
  }

  -- ---- the tallies

  same_range : (g : ℕ → ℕ) → map g (range_with_len 0 (length clients)) ≡ map g (range_with_len 0 (length scene.streams))
  same_range g = ap (λ n. map g (range_with_len 0 n)) h.client_total

  few_clients : length clients ≤ 8
  few_clients = let a = h.client_total in let b = small.few in omega (arith, a, b)

  tallies_are : AreTallies scene l tallies
  tallies_are =
      let t : length tiles ≡ tile_count l = h.tile_total in
      record {
        count = k.sums.count ∙ t;
        parcels = λ tile low.
            (k.sums.each scene l h.sent tile (omega (arith, t, low))).parcels
            ∙ whole_sum (λ (c : ClientCore). (tally_of_tile c tile).parcels) (λ client. length (parcels_of scene l client tile)) clients (2 ^ 20 + 1) last_count
            few_clients (omega arith)
            (λ i d lt. ap (λ (x : Tally). x.parcels) (h.tallies i tile d lt low))
            (λ i lt. let a = (few_parcels scene l i tile).0 in let b = small.short i in omega (arith, a, b))
            ∙ ap (λ xs. sum xs) (same_range (λ client. length (parcels_of scene l client tile)));
        sets = λ tile low.
            (k.sums.each scene l h.sent tile (omega (arith, t, low))).sets
            ∙ whole_sum (λ (c : ClientCore). (tally_of_tile c tile).sets) (λ client. set_count (parcels_of scene l client tile)) clients (23 * 2 ^ 20) last_count
            few_clients (omega arith)
            (λ i d lt. ap (λ (x : Tally). x.sets) (h.tallies i tile d lt low))
            (λ i lt. let a = (few_parcels scene l i tile).1 in let b = small.short i in omega (arith, a, b))
            ∙ ap (λ xs. sum xs) (same_range (λ client. set_count (parcels_of scene l client tile)));
        looks = λ tile low.
            (k.sums.each scene l h.sent tile (omega (arith, t, low))).looks
            ∙ whole_sum (λ (c : ClientCore). (tally_of_tile c tile).looks) (λ client. look_count scene l client tile (parcels_of scene l client tile)) clients (96 * (2 ^ 20 + 1)) last_count
            few_clients (omega arith)
            (λ i d lt. ap (λ (x : Tally). x.looks) (h.tallies i tile d lt low))
            (λ i lt. let a = (few_parcels scene l i tile).0 in let b = small.short i in let c = few_looks scene l i tile (parcels_of scene l i tile) in omega (arith, a, b, c))
            ∙ ap (λ xs. sum xs) (same_range (λ client. look_count scene l client tile (parcels_of scene l client tile)));
      }

  -- ---- the faults

  faults_are : AreFaults scene faults
  faults_are =
      let all = h.client_total in
      let m = k.faults_are.count in
      record {
        clients = m ∙ all;
        each = λ client. elim (cases_lt client (length clients)) [
          | inl lt ↦
              let d = some_item clients client lt in
              k.faults_are.at client d [] lt scene l (h.sent.at client d lt)
          | inr ge ↦
              get_or_past faults client [] (omega (arith, m, ge)) ∙ sym (none_refused scene client (omega (arith, all, ge)))
        ];
      }

  -- ---- who waits

  alike : (client : ℕ) → waiting_in (sync_lists_of scene) h.progress.book client ≡ waiting_of (sync_lists_of scene) kept.journal client
  alike client = laws.waiting (sync_lists_of scene) h.progress.book h.arrived h.stands.book.legal h.over client
      ∙ ap (λ js. waiting_of (sync_lists_of scene) js client) (sym journal_is)

  is_waiting : IsWaiting scene kept.journal waiting
  is_waiting =
      let said = k.stuck (sync_lists_of scene) h.progress.book h.stands.book in
      record {
        stuck = (
          λ some. let s = said.0 some in stuck_by (sync_lists_of scene) kept.journal s.client (sym (ap is_some (alike s.client)) ∙ s.waits),
          λ is. let w = someone_waits (sync_lists_of scene) kept.journal is in
              said.1 record { over = h.over; client = w.0; waits = ap is_some (alike w.0) ∙ w.1 },
        );
        waits = at_each waiting k.waits;
      }
    where
      at_each : (o : Option Waiting) → IfSome o (λ w. (syncs : SyncLists) (b : Book) → IsBookOf syncs (book_of core) b → (client : ℕ) → wait_at w.at client ≡ waiting_in syncs b client)
          → IfSome o (λ w. (client : ℕ) → slice_index_or w.at client None ≡ waiting_of (sync_lists_of scene) kept.journal client)
      at_each None x = tt
      at_each (Some w) x = λ client. x (sync_lists_of scene) h.progress.book h.stands.book client ∙ alike client

  whole_run : IsWholeRun scene l kept tallies waiting faults shown
  whole_run = record {
    run = record { lawful = lawful; tallies_are = tallies_are; waiting_is = is_waiting; faults_are = faults_are };
    frames = have_frames;
  }

pub done_recorded : RecordingLaws → DoneRunsAreRecorded
done_recorded laws scene l clients core tiles shown kept tallies waiting faults small h k =
    whole_run laws scene l clients core tiles shown kept tallies waiting faults small h k

pub closed_lawful : ClosedRunsAreDone → DoneRunsAreRecorded → ClosedRunsAreLawful
closed_lawful closed recorded scene l clients core tiles shown kept tallies waiting faults small range sides h k =
    recorded scene l clients core tiles shown kept tallies waiting faults small (closed scene l clients core tiles shown range sides h) k
