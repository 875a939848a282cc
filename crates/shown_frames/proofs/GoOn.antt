-- Whatever was carried out of a legal journal goes on to a whole run.
use Rattle.std.proofs.Common.{◌≡◌, ℕ, zero, suc, ◌<◌, ◌≤◌, List, [], ◌∷◌, ◌++◌, length, map, Option, Some, None, inl, inr, refl, sym, ◌∙◌, subst, arith}
use Rattle.std.specs.Prelude.{slice_get, slice_index_or}
use Rattle.std.specs.List.{range_with_len}
use Rattle.std.proofs.lemmas.Bool.{cases_lt}
use Rattle.std.proofs.lemmas.List.FromFn.{length-map-range_with_len, get_or-map-range_with_len}
use Rattle.std.proofs.lemmas.Option.{slice_get_within, get_or_from_slice_get}
use Rattle.rc_base.specs.Cluster.Tiles.{tile_count}
use Rattle.rc_base.specs.Orders.Grant.{grant, operations_left}
use Rattle.rc_base.specs.Orders.Journal.{SyncState, start, after, end_of, IsLegal, IsLegalFrom, IsMaximal, IsMaximalFrom, NothingIsLawful, IsLawful}
use Rattle.rc_base.specs.Orders.Order.{entries_from}
use Rattle.rc_base.specs.Orders.Sync.{IsWellFormed, client_count, sync_lists_of}
use Rattle.rc_base.specs.declared.scene.Scene.{Scene}
use Rattle.rc_base.specs.declared.sync.Entry.{Entry}
use Rattle.rc_base.specs.declared.sync.SyncLists.{SyncLists}
use Rattle.rc_base.specs.declared.window.Layout.{Layout}
use Rattle.order_model.specs.Laws.{AreOfClients}
use Rattle.order_model.specs.Log.{Job, ReplaysFrom}
use Rattle.order_model.specs.Sent.{jobs_of, IsRecordOf}
use Rattle.order_model.specs.declared.record.LogEntry.{LogEntry}
use Rattle.order_model.specs.declared.record.Record.{Record}
use Rattle.order_model.proofs.ClientsBeyond.{ops_past, past_after, past_end}
use Rattle.order_model.proofs.DefaultJournalIsMaximal.{uses_one}
use Rattle.order_model.proofs.GrantsAreExact.{grant_lawful, grant_none}
use Rattle.order_model.proofs.RecordedOrdersArePermitted.{Reached}
use Rattle.order_model.proofs.SceneJobsAreSent.{scene_jobs_are_sent}
use Rattle.shown_frames.specs.Unfinished.{IsUnfinished, BeginsWith, UnfinishedRunsGoOn}
use Rattle.shown_frames.proofs.LongerJournals.{goes_on_replaying}
use Rattle.shown_frames.proofs.Completed.{IsWholeFrom, completed_from}

-- ---- the journal

module _ (syncs : SyncLists) where
  legal_append : (s : SyncState) (xs ys : List Entry) → IsLegalFrom syncs s xs → IsLegalFrom syncs (end_of syncs s xs) ys → IsLegalFrom syncs s (xs ++ ys)
  legal_append s [] ys h k = k
  legal_append s (x ∷ xs) ys h k = (h.0, legal_append (after syncs s x) xs ys h.1 k)

  end_append : (s : SyncState) (xs ys : List Entry) → end_of syncs s (xs ++ ys) ≡ end_of syncs (end_of syncs s xs) ys
  end_append s [] ys = refl
  end_append s (x ∷ xs) ys = end_append (after syncs s x) xs ys

  -- from a state on entries are granted until none is lawful
  maximal_from : IsWellFormed syncs → (n : ℕ) (s : SyncState) → AreOfClients syncs s → operations_left s.rest (client_count syncs) ≤ n → (js : List Entry) × IsMaximalFrom syncs s js
  maximal_from well zero s none le = ([], (tt, λ e p. omega (arith, uses_one syncs s well none e p)))
  maximal_from well (suc n) s none le = go (grant syncs s) refl
      (λ e p. maximal_from well n (after syncs s e) (past_after syncs s e none) (omega (arith, uses_one syncs s well none e p)))
    where
      go : (o : Option Entry) → grant syncs s ≡ o → ((e : Entry) → IsLawful syncs s e → (js : List Entry) × IsMaximalFrom syncs (after syncs s e) js)
          → (js : List Entry) × IsMaximalFrom syncs s js
      go None h f = ([], (tt, (grant_none syncs s none).0 h))
      go (Some e) h f = let p = grant_lawful syncs s e h in let r = f e p in (e ∷ r.0, ((p, r.1.0), r.1.1))

  -- so a legal journal goes on to a maximal one
  journal_goes_on : IsWellFormed syncs → (js : List Entry) → IsLegal syncs js → (more : List Entry) × IsMaximal syncs (js ++ more)
  journal_goes_on well js legal =
      let s = end_of syncs (start syncs) js in
      let k = maximal_from well (operations_left s.rest (client_count syncs)) s (past_end syncs (start syncs) js (ops_past syncs)) (omega arith) in
      (k.0, (legal_append (start syncs) js k.0 legal k.1.0, subst (NothingIsLawful syncs) (sym (end_append (start syncs) js k.0)) k.1.1))

-- ---- the logs

module _ (scene : Scene) (l : Layout) (journal : List Entry) (logs : ℕ → List LogEntry) (well : IsWellFormed (sync_lists_of scene)) (h : IsUnfinished scene l journal logs) where
  abbrev syncs : SyncLists
  syncs = sync_lists_of scene

  abbrev more : List Entry
  more = (journal_goes_on syncs well journal h.legal).0

  abbrev whole : List Entry
  whole = journal ++ more

  maximal : IsMaximal syncs whole
  maximal = (journal_goes_on syncs well journal h.legal).1

  abbrev jobs : ℕ → ℕ → List Job
  jobs tile client = jobs_of scene l client tile

  -- a tile's log that is whole, and begins with what the tile has carried out
  record IsLongLog (tile : ℕ) (log : List LogEntry) : Type 0 where
    pub rest : List LogEntry
    pub is : log ≡ logs tile ++ rest
    pub whole_log : IsWholeFrom syncs (start syncs) whole (jobs tile) log

  long_log : (tile : ℕ) → tile < tile_count l → (log : List LogEntry) × IsLongLog tile log
  long_log tile lt =
      let sent = scene_jobs_are_sent scene l tile in
      let reached : Reached syncs (start syncs) (λ c. 0) (jobs tile) = record { rising = sent.rising; all = sent.all } in
      let replays : ReplaysFrom (jobs tile) (entries_from syncs (start syncs) whole) (logs tile) =
      goes_on_replaying syncs journal more (jobs tile) (logs tile) (h.replays tile lt) in
      let k = completed_from syncs (start syncs) (λ c. 0) whole (jobs tile) (logs tile) reached (ops_past syncs) maximal.0 replays in
      (logs tile ++ k.0, record { rest = k.0; is = refl; whole_log = k.1 })

  abbrev each_log : (tile : ℕ) → (log : List LogEntry) × (tile < tile_count l → IsLongLog tile log)
  each_log tile = elim (cases_lt tile (tile_count l)) [
    | inl lt ↦ let k = long_log tile lt in (k.0, λ _. k.1)
    | inr ge ↦ ([], λ lt. absurd (omega (arith, lt, ge)))
  ]

  abbrev all_logs : List (List LogEntry)
  all_logs = map (λ tile. (each_log tile).0) (range_with_len 0 (tile_count l))

  abbrev kept : Record
  kept = record { syncs = syncs; journal = whole; logs = all_logs }

  count : length all_logs ≡ tile_count l
  count = length-map-range_with_len (λ tile. (each_log tile).0) 0 (tile_count l)

  log_at : (tile : ℕ) → tile < tile_count l → slice_index_or all_logs tile [] ≡ (each_log tile).0
  log_at tile lt = get_or-map-range_with_len (λ t. (each_log t).0) 0 (tile_count l) tile tile [] lt (omega arith)

  is_long : (tile : ℕ) (log : List LogEntry) → slice_get all_logs tile ≡ Some log → IsLongLog tile log
  is_long tile log is =
      let within = slice_get_within all_logs tile log is in
      let lt : tile < tile_count l = (let n = count in omega (arith, n, within)) in
      subst (IsLongLog tile) (sym (log_at tile lt) ∙ get_or_from_slice_get all_logs tile log [] is) ((each_log tile).1 lt)

  lawful : IsRecordOf scene l kept
  lawful = record {
    lists = refl;
    maximal = maximal;
    count = count;
    replays = λ tile log is. (is_long tile log is).whole_log.replays;
    complete = λ tile log is. record { entries = (is_long tile log is).whole_log.entries; clients = (is_long tile log is).whole_log.clients };
  }

  begins : BeginsWith scene l journal logs kept
  begins = record {
    lawful = lawful;
    journal_is = (more, refl);
    logs_are = λ tile lt. let k = (each_log tile).1 lt in (k.rest, log_at tile lt ∙ k.is);
  }

pub unfinished_go_on : UnfinishedRunsGoOn
unfinished_go_on scene l journal logs well h = (kept scene l journal logs well h, begins scene l journal logs well h)
