-- A tile under way for a journal is so for one that goes on, and what it has shown stays right.
use Rattle.std.proofs.Common.{◌≡◌, ℕ, ◌+◌, ◌==◌, cond, List, [], ◌∷◌, ◌++◌, refl, sym, ap, ◌∙◌, subst, append_assoc}
use Rattle.std.specs.Prelude.{is_some}
use Rattle.rc_base.specs.Orders.Journal.{SyncState, start, after, end_of}
use Rattle.rc_base.specs.Orders.Order.{PlacedEntry, added, performed, entry_at, entries_from, entries_of}
use Rattle.rc_base.specs.Orders.Sync.{sync_lists_of}
use Rattle.rc_base.specs.declared.cluster.TilePart.{TilePart}
use Rattle.rc_base.specs.declared.scene.Scene.{Scene}
use Rattle.rc_base.specs.declared.sync.Entry.{Entry}
use Rattle.rc_base.specs.declared.sync.Name.{Name}
use Rattle.rc_base.specs.declared.sync.SyncLists.{SyncLists}
use Rattle.rc_base.specs.declared.window.Layout.{Layout}
use Rattle.order_model.specs.Log.{Job, without, ReplaysFrom, Replays, logged}
use Rattle.order_model.specs.Sent.{jobs_of}
use Rattle.order_model.specs.Standing.{Progress, cursor_of, is_over, IsClientAt, IsUnderWay}
use Rattle.order_model.specs.declared.record.LogEntry.{LogEntry}
use Rattle.order_model.specs.declared.record.LogEntry.TheVariants.{Took, Performed}
use Rattle.order_model.proofs.JournalsInTurn.{entries_append}
use Rattle.tile_model.specs.Laws.{added_names}
use Rattle.tile_server.specs.Clauses.{AreTileFrames}
use Rattle.tile_server.specs.Laws.{IsFramePart}

-- ---- of logs that replay

pub replays_longer : (log : List LogEntry) (jobs : ℕ → List Job) (ms more : List PlacedEntry) → ReplaysFrom jobs ms log → ReplaysFrom jobs (ms ++ more) log
replays_longer [] jobs ms more r = tt
replays_longer (Took c p ∷ log) jobs ms more r = (r.0, replays_longer log (without (λ d. d == c) jobs) ms more r.1)
replays_longer (Performed ∷ log) jobs [] more r = absurd r
replays_longer (Performed ∷ log) jobs (m ∷ ms) more r = (r.0, replays_longer log (without (λ c. is_some (m.at c)) jobs) ms more r.1)

cursor_longer : (log : List LogEntry) (jobs : ℕ → List Job) (ms more : List PlacedEntry) (c : ℕ) → ReplaysFrom jobs ms log → cursor_of (ms ++ more) log c ≡ cursor_of ms log c
cursor_longer [] jobs ms more c r = refl
cursor_longer (Took d p ∷ log) jobs ms more c r = ap (λ n. cond (c == d) 1 0 + n) (cursor_longer log (without (λ k. k == d) jobs) ms more c r.1)
cursor_longer (Performed ∷ log) jobs [] more c r = absurd r
cursor_longer (Performed ∷ log) jobs (m ∷ ms) more c r = ap (λ n. cond (is_some (m.at c)) 1 0 + n) (cursor_longer log (without (λ k. is_some (m.at k)) jobs) ms more c r.1)

logged_longer : (syncs : SyncLists) (log : List LogEntry) (s : SyncState) (js more : List Entry) (jobs : ℕ → List Job) (order : List Name) → ReplaysFrom jobs (entries_from syncs s js) log
    → logged syncs s (js ++ more) log order ≡ logged syncs s js log order
logged_longer syncs [] s js more jobs order r = refl
logged_longer syncs (Took c p ∷ log) s js more jobs order r = logged_longer syncs log s js more (without (λ d. d == c) jobs) (added c (p + 1) order) r.1
logged_longer syncs (Performed ∷ log) s [] more jobs order r = absurd r
logged_longer syncs (Performed ∷ log) s (e ∷ js) more jobs order r =
    logged_longer syncs log (after syncs s e) js more (without (λ c. is_some ((entry_at syncs s e).at c)) jobs) (performed syncs s e order) r.1

-- ---- of journals

module _ (syncs : SyncLists) (journal more : List Entry) (jobs : ℕ → List Job) where
  abbrev later : List PlacedEntry
  later = entries_from syncs (end_of syncs (start syncs) journal) more

  entries_are : entries_of syncs (journal ++ more) ≡ entries_of syncs journal ++ later
  entries_are = entries_append syncs (start syncs) journal more

  pub goes_on_replaying : (log : List LogEntry) → Replays syncs journal jobs log → Replays syncs (journal ++ more) jobs log
  goes_on_replaying log r = subst (λ ms. ReplaysFrom jobs ms log) (sym entries_are) (replays_longer log jobs (entries_of syncs journal) later r)

  pub same_names : (log : List LogEntry) → Replays syncs journal jobs log → added_names syncs (journal ++ more) log ≡ added_names syncs journal log
  same_names log r = logged_longer syncs log (start syncs) journal more jobs [] r

  same_cursor : (log : List LogEntry) (c : ℕ) → Replays syncs journal jobs log → cursor_of (entries_of syncs (journal ++ more)) log c ≡ cursor_of (entries_of syncs journal) log c
  same_cursor log c r = ap (λ ms. cursor_of ms log c) entries_are ∙ cursor_longer log jobs (entries_of syncs journal) later c r

  pub under_way_longer : (p : Progress) → IsUnderWay syncs journal jobs p → IsUnderWay syncs (journal ++ more) jobs p
  under_way_longer p h = record {
    count = h.count;
    learnt = (h.learnt.0 ++ more, ap (λ js. js ++ more) h.learnt.1 ∙ append_assoc p.learnt h.learnt.0 more);
    performed = h.performed;
    known = h.known;
    replays = goes_on_replaying p.log h.replays;
    clients = λ c. subst (λ n. IsClientAt (jobs c) n (p.taken c) (p.held c) (p.closed c) (is_over p)) (sym (same_cursor p.log c h.replays)) (h.clients c);
  }

pub frames_longer : (scene : Scene) (l : Layout) (tile : ℕ) (journal more : List Entry) (p : Progress) (parts : List TilePart)
    → Replays (sync_lists_of scene) journal (λ client. jobs_of scene l client tile) p.log → AreTileFrames scene l tile journal p parts
    → AreTileFrames scene l tile (journal ++ more) p parts
frames_longer scene l tile journal more p parts r h = record {
  count = h.count;
  each = λ k part is low.
      subst (λ (names : List Name). IsFramePart scene l names tile (k + 1) part) (sym (same_names (sync_lists_of scene) journal more (λ client. jobs_of scene l client tile) p.log r)) (h.each k part is low);
}
