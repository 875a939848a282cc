-- Where all have ended the record is lawful, the parts are the frames, each client waits where the journal leaves it, and the tallies are whole.
use Rattle.std.proofs.Common.{◌≡◌, ℕ, ◌+◌, ◌==◌, ◌<◌, List, [], ◌∷◌, ◌++◌, length, map, take, cond, inl, inr, sym, ap, ◌∙◌, subst, append_assoc, append-nil, eqb-true, true≢false}
use Rattle.std.proofs.Math.Seq.{take-length}
use Rattle.std.proofs.lemmas.Bool.{and_parts}
use Rattle.std.proofs.lemmas.Option.{get_or_from_slice_get}
use Rattle.std.specs.Prelude.{pos, slice_index_or}
use Rattle.rc_base.specs.Cluster.Parcels.{parcels_of}
use Rattle.rc_base.specs.Cluster.Sending.{parcels_to}
use Rattle.rc_base.specs.Cluster.Tiles.{tile_count}
use Rattle.rc_base.specs.Drawing.Serial.{frame_pixel}
use Rattle.rc_base.specs.Orders.Book.{waiting_in, IsBookOver}
use Rattle.rc_base.specs.Orders.Journal.{waiting_of}
use Rattle.rc_base.specs.Orders.Sync.{sync_lists_of}
use Rattle.rc_base.specs.declared.scene.Scene.{Scene}
use Rattle.rc_base.specs.declared.state.Parcel.{Parcel}
use Rattle.rc_base.specs.declared.sync.Entry.{Entry}
use Rattle.rc_base.specs.declared.sync.Grant.TheVariants as grant_item
use Rattle.rc_base.specs.declared.sync.SyncLists.{SyncLists}
use Rattle.rc_base.specs.declared.window.Layout.{Layout}
use Rattle.order_model.specs.Gathering.{GatheringIsLawful, OverBooksWaitAlike}
use Rattle.order_model.specs.Log.{Replays, recorded_order}
use Rattle.order_model.specs.Report.{tile_order, frame_count}
use Rattle.order_model.specs.Sent.{jobs_of, IsRecordOf}
use Rattle.order_model.specs.Standing.{IsDone, performed_in}
use Rattle.order_model.specs.declared.record.Record.{Record}
use Rattle.sync_manager.specs.Progress.{NoMoreComes}
use Rattle.tile_model.specs.Scenes.{IsInRange}
use Rattle.client_issue.specs.Clauses.{counted}
use Rattle.world_model.specs.Laws.{HasLegalLogs, IsOver, IsRecordIn, ShowsFrames}
use Rattle.world_model.specs.Runs.{AllHaveEnded}
use Rattle.world_model.specs.Sound.{IsSound}
use Rattle.world_model.specs.World.{World, client_total}
use Rattle.tile_model.proofs.ItemsComeFromLanes.{all_heard}
use Rattle.world_model.proofs.WhatHasArrived.{has_arrived, journal_legal, goes_on}

pub legal_logs : (scene : Scene) (l : Layout) (w : World) → IsSound scene l w → HasLegalLogs scene l w
legal_logs scene l w h = record {
  legal = journal_legal scene l w h;
  replays = λ tile lt. ((h.tiles tile lt).stands w.manager.book.journal (goes_on scene l w h)).progress.replays;
}

module _ (scene : Scene) (l : Layout) (w : World) (h : IsSound scene l w) (done : AllHaveEnded scene l w) where
  abbrev journal : List Entry
  journal = w.manager.book.journal

  book_over : IsBookOver (sync_lists_of scene) w.manager.book
  book_over = over (done.manager.0.no_more)
    where
      over : NoMoreComes (sync_lists_of scene) w.manager → IsBookOver (sync_lists_of scene) w.manager.book
      over (inl short) = absurd (true≢false (sym short ∙ h.manager.ample))
      over (inr is) = is

  -- ---- the tiles are done

  tile_done : (tile : ℕ) → tile < tile_count l → IsDone (sync_lists_of scene) journal (w.tiles tile).progress
  tile_done tile lt =
      let p = (w.tiles tile).progress in
      let d = w.manager in
      let end = done.tiles tile lt in
      let both = and_parts p.no_more (performed_in p.log == length p.learnt) end.over in
      let s = h.manager.right.tiles_are tile lt in
      let heard = all_heard (take (d.delivered tile) journal) p.learnt (d.told tile) (w.grants tile)
      (h.grants tile lt ∙ ap (λ b. (map (λ e. grant_item.Entry e) p.learnt ++ cond b (grant_item.NoMore ∷ []) []) ++ w.grants tile) both.0
      ∙ append_assoc (map (λ e. grant_item.Entry e) p.learnt) (grant_item.NoMore ∷ []) (w.grants tile)) in
      let count = ((h.tiles tile lt).stands journal (goes_on scene l w h)).progress.count in
      record {
        learnt = heard.0 ∙ ap (λ n. take n journal) (s.whole heard.1) ∙ take-length journal;
        performed = eqb-true (performed_in p.log) (length p.learnt) both.1;
        closed = λ client low. end.closed client (subst (λ n. client < n) (sym count) low);
      }

  pub all_over : IsInRange scene → IsOver scene l w
  all_over range = record {
    arrived = has_arrived scene l w h range;
    over = book_over;
    legal = journal_legal scene l w h;
    under_way = λ tile lt. ((h.tiles tile lt).stands journal (goes_on scene l w h)).progress;
    done = tile_done;
  }

  -- ---- the record

  pub record_lawful : GatheringIsLawful → IsInRange scene → (kept : Record) → IsRecordIn scene l w kept → IsRecordOf scene l kept
  record_lawful gathering range kept r =
      gathering scene l w.manager.book (λ tile. (w.tiles tile).progress) kept (has_arrived scene l w h range) h.manager.legal book_over
      (λ tile lt. (((h.tiles tile lt).stands journal (goes_on scene l w h)).progress, tile_done tile lt)) r.syncs r.journal r.count r.logs

  -- ---- the parts

  pub frames_shown : (kept : Record) → IsRecordIn scene l w kept → (tile : ℕ) → tile < tile_count l → ShowsFrames scene l kept tile (w.tiles tile).parts
  frames_shown kept r tile lt =
      let p = (w.tiles tile).progress in
      let a = h.tiles tile lt in
      let all = tile_done tile lt in
      let syncs = sync_lists_of scene in
      let replays = (a.stands journal (goes_on scene l w h)).progress.replays in
      let order : tile_order kept tile ≡ recorded_order syncs journal (p.log ++ []) =
      ap (λ (lists : SyncLists). recorded_order lists kept.journal (slice_index_or kept.logs tile [])) r.syncs
      ∙ ap (λ js. recorded_order syncs js (slice_index_or kept.logs tile [])) r.journal
      ∙ ap (λ log. recorded_order syncs journal log) (get_or_from_slice_get kept.logs tile p.log [] (r.logs tile lt) ∙ sym (append-nil p.log)) in
      record {
        count = a.parts.count ∙ ap (λ n. frame_count (take n p.learnt)) all.performed ∙ ap frame_count (take-length p.learnt ∙ all.learnt ∙ sym r.journal);
        pixels = λ k part is x y has.
            a.parts.pixels journal (goes_on scene l w h) [] (subst (λ log. Replays syncs journal (λ client. jobs_of scene l client tile) log) (sym (append-nil p.log)) replays) k part is x y has
            ∙ ap (λ names. frame_pixel scene names (k + 1) (pos x) (pos y)) (sym order);
      }

  -- ---- who waits

  pub waits_alike : OverBooksWaitAlike → IsInRange scene → (client : ℕ) → waiting_in (sync_lists_of scene) w.manager.book client ≡ waiting_of (sync_lists_of scene) journal client
  waits_alike alike range = alike (sync_lists_of scene) w.manager.book (has_arrived scene l w h range) h.manager.legal book_over

  -- ---- the tallies

  pub tallies_whole : (client tile : ℕ) → client < client_total scene → tile < tile_count l → (w.clients client).tallies tile ≡ counted scene l client tile (parcels_of scene l client tile)
  tallies_whole client tile lc lt =
      let k = h.parcels client tile lc lt in
      let held = w.parcels client tile in
      k.tally ∙ sym (ap (counted scene l client tile) (k.lane.whole ∙ ap (λ items. k.lane.took ++ (held ++ parcels_to tile items)) (done.clients client lc)
      ∙ ap (λ (xs : List Parcel). k.lane.took ++ xs) (append-nil held)))
