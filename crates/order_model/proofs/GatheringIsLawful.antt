-- The law of gathering.
use Rattle.std.proofs.Common.{◌≡◌, ℕ, ◌<◌, List, [], ◌∷◌, ◌++◌, drop, length, map, Some, None, slice_get, inl, inr, refl, sym, ap, ◌∙◌, subst, arith, append-nil}
use Rattle.std.proofs.Math.ListN.{drop_of_length-le}
use Rattle.std.proofs.lemmas.Bool.{cases_lt, cases_Bool}
use Rattle.std.proofs.lemmas.Option.{slice_get_past}
use Rattle.rc_base.specs.Lists.{AreRising}
use Rattle.rc_base.specs.Orders.Book.{Book, opened, standing, IsLegalBook, IsBookOver}
use Rattle.rc_base.specs.Orders.Journal.{SyncState, start, end_of, IsLegal, IsMaximal, head_wait, sync_state_after}
use Rattle.rc_base.specs.Orders.Order.{entries_of, entries_from}
use Rattle.rc_base.specs.Orders.Sync.{client_count, ops_of, length_of, places_of, sync_lists_of}
use Rattle.rc_base.specs.Cluster.Tiles.{tile_count}
use Rattle.rc_base.specs.declared.scene.Scene.{Scene}
use Rattle.rc_base.specs.declared.sync.Entry.{Entry}
use Rattle.rc_base.specs.declared.sync.SyncLists.{SyncLists}
use Rattle.rc_base.specs.declared.sync.WaitAt.{WaitAt}
use Rattle.rc_base.specs.declared.window.Layout.{Layout}
use Rattle.order_model.specs.Gathering.{HasArrived, LegalBooksHaveLegalJournals, OverBooksAreMaximal, OverBooksWaitAlike}
use Rattle.order_model.specs.Log.{Job, job_place, IsNext, AreJobsOf, waits_in, Replays, StandsAt, IsComplete, jobs_after}
use Rattle.order_model.specs.Log.Job.{Wait}
use Rattle.order_model.specs.Sent.{jobs_of, IsRecordOf}
use Rattle.order_model.specs.Standing.{Progress, IsUnderWay, IsDone, cursor_of}
use Rattle.order_model.specs.declared.record.LogEntry.{LogEntry}
use Rattle.order_model.specs.declared.record.Record.{Record}
use Rattle.order_model.proofs.ClientsBeyond.{length_past, ops_past}
use Rattle.order_model.proofs.LogsLeaveJobs.{jobs_left, has_come}
use Rattle.order_model.proofs.MoreOperations.{IsFront, IsSettled, head_append, legal_more, maximal_more}
use Rattle.order_model.proofs.SceneJobsAreSent.{scene_jobs_are_sent}

-- ---- the journal

ends_whole : (xs more : List WaitAt) → xs ≡ xs ++ more → more ≡ []
ends_whole [] more e = sym e
ends_whole (x ∷ xs) more e = let f : xs ≡ xs ++ more = cc in ends_whole xs more f

none_more : (ws ops more : List WaitAt) → ops ≡ [] → ops ≡ ws ++ more → more ≡ []
none_more [] ops more e f = sym f ∙ e
none_more (w ∷ ws) ops more e f = absurd cc

-- what has still to arrive of each client
abbrev still_to_come : (syncs : SyncLists) (b : Book) → HasArrived syncs b → ℕ → List WaitAt
still_to_come syncs b h c = (h.front c).0

-- in a book that is over each client waits, or nothing more of it comes
over_settled : (syncs : SyncLists) (b : Book) (h : HasArrived syncs b) → IsBookOver syncs b → IsSettled (standing syncs b) (still_to_come syncs b h)
over_settled syncs b h over c = elim (cases_Bool (b.ended c)) [
  | inl t ↦ inr (ends_whole (b.arrived c) (still_to_come syncs b h c) (h.all c t ∙ (h.front c).1))
  | inr f ↦ elim (cases_lt c (client_count syncs)) [
    | inl lt ↦ inl (over.all c lt f)
    | inr ge ↦ inr (none_more (b.arrived c) (ops_of syncs c) (still_to_come syncs b h c) (ops_past syncs c ge) (h.front c).1)
  ]
]

-- the journal of a book that is over is maximal by the whole lists
pub book_maximal : OverBooksAreMaximal
book_maximal syncs b h legal over =
    maximal_more syncs (opened syncs b) (start syncs) (still_to_come syncs b h) b.journal (record { rest = λ c. (h.front c).1; units = refl })
    (over_settled syncs b h over) legal over.over

-- by the whole lists the journal is legal too, and what it leaves has what still comes behind it
by_all : (syncs : SyncLists) (b : Book) (h : HasArrived syncs b) → IsLegalBook syncs b
    → IsLegal syncs b.journal × IsFront (standing syncs b) (sync_state_after syncs b.journal) (still_to_come syncs b h)
by_all syncs b h legal = legal_more syncs (opened syncs b) (start syncs) (still_to_come syncs b h) b.journal (record { rest = λ c. (h.front c).1; units = refl }) legal

pub book_legal : LegalBooksHaveLegalJournals
book_legal syncs b h legal = (by_all syncs b h legal).0

pub book_waits_alike : OverBooksWaitAlike
book_waits_alike syncs b h legal over client =
    let here = (standing syncs b).rest client in
    let more = still_to_come syncs b h client in
    let behind = (by_all syncs b h legal).1.rest client in
    sym (elim (over_settled syncs b h over client) [
      | inl some ↦ ap head_wait behind ∙ head_append here more some
      | inr none ↦ ap head_wait (behind ∙ ap (λ (ws : List WaitAt). here ++ ws) none ∙ append-nil here)
    ])

-- ---- a tile's log

no_places : (ws : List WaitAt) → [] ≡ places_of ws → ws ≡ []
no_places [] e = refl
no_places (w ∷ ws) e = absurd cc

-- at the operation that holds it
stands_waiting : (ws : List WaitAt) (js : List Job) (q : ℕ) → IsNext js (Wait q) → waits_in js ≡ places_of ws → StandsAt js (head_wait ws)
stands_waiting [] js q n h = let e : q ∷ waits_in n.0 ≡ [] = sym (ap waits_in n.1) ∙ h in absurd cc
stands_waiting (w ∷ ws) js q n h =
    let e : q ∷ waits_in n.0 ≡ w.place ∷ places_of ws = sym (ap waits_in n.1) ∙ h in
    let same : q ≡ w.place = cc in
    (n.0, n.1 ∙ ap (λ k. Wait k ∷ n.0) same)

-- at its end
stands_ended : (ws : List WaitAt) (js : List Job) → js ≡ [] → waits_in js ≡ places_of ws → StandsAt js (head_wait ws)
stands_ended ws js e h = let none : ws ≡ [] = no_places ws (sym (ap waits_in e) ∙ h) in subst (λ vs. StandsAt js (head_wait vs)) (sym none) e

no_jobs : (js : List Job) (n : ℕ) → AreRising 0 (map job_place js) n → n ≡ 0 → js ≡ []
no_jobs [] n h e = refl
no_jobs (j ∷ js) n h e = absurd (omega (arith, h.1, e))

-- the log of a tile that is under way and done is complete
log_complete : (syncs : SyncLists) (js : List Entry) (jobs : ℕ → List Job) (p : Progress) → AreJobsOf syncs jobs → IsLegal syncs js → IsUnderWay syncs js jobs p → IsDone syncs js p
    → IsComplete syncs js jobs p.log
log_complete syncs js jobs p sent legal h done =
    let ms = entries_of syncs js in
    let k = has_come syncs js jobs p.log sent legal h.replays in
    let none : k.rest ≡ [] = k.rest_is ∙ drop_of_length-le js (omega (arith, done.performed, ap length done.learnt)) in
    let state : k.state ≡ sync_state_after syncs js = ap (end_of syncs k.state) (sym none) ∙ k.end_is in
    record {
      entries = k.entries ∙ ap (entries_from syncs k.state) none;
      clients = λ c.
          let waits : waits_in (jobs_after jobs ms p.log c) ≡ places_of ((sync_state_after syncs js).rest c) = k.reached.all c ∙ ap (λ (s : SyncState). places_of (s.rest c)) state in
          let left : jobs_after jobs ms p.log c ≡ drop (cursor_of ms p.log c) (jobs c) = jobs_left jobs ms p.log c in
          let here = h.clients c in
          elim (cases_lt c (client_count syncs)) [
            | inl lt ↦ elim (cases_Bool (p.held c)) [
              | inl t ↦
                  let n = here.holds t in
                  stands_waiting ((sync_state_after syncs js).rest c) (jobs_after jobs ms p.log c) n.0 (n.1.0, left ∙ n.1.1) waits
              | inr f ↦
                  let all : cursor_of ms p.log c ≡ length (jobs c) = here.ended f (done.closed c lt) in
                  stands_ended ((sync_state_after syncs js).rest c) (jobs_after jobs ms p.log c) (left ∙ drop_of_length-le (jobs c) (omega (arith, all))) waits
            ]
            | inr ge ↦
                let none : jobs c ≡ [] = no_jobs (jobs c) (length_of syncs c) (sent.rising c) (length_past syncs c ge) in
                stands_ended ((sync_state_after syncs js).rest c) (jobs_after jobs ms p.log c) (left ∙ drop_of_length-le (jobs c) (omega (arith, ap length none))) waits
          ];
    }

-- ---- the record

pub gathering_is_lawful : (scene : Scene) (l : Layout) (b : Book) (tiles : ℕ → Progress) (kept : Record) → HasArrived (sync_lists_of scene) b
    → IsLegalBook (sync_lists_of scene) b → IsBookOver (sync_lists_of scene) b
    → ((tile : ℕ) → tile < tile_count l
    → IsUnderWay (sync_lists_of scene) b.journal (λ client. jobs_of scene l client tile) (tiles tile) × IsDone (sync_lists_of scene) b.journal (tiles tile))
    → kept.syncs ≡ sync_lists_of scene → kept.journal ≡ b.journal → length kept.logs ≡ tile_count l
    → ((tile : ℕ) → tile < tile_count l → slice_get kept.logs tile ≡ Some (tiles tile).log) → IsRecordOf scene l kept
gathering_is_lawful scene l b tiles kept arrived legal over stand lists journal count logs =
    let syncs = sync_lists_of scene in
    let jobs : ℕ → ℕ → List Job = λ tile client. jobs_of scene l client tile in
    let maximal : IsMaximal syncs b.journal = book_maximal syncs b arrived legal over in
    let below : (tile : ℕ) (log : List LogEntry) → slice_get kept.logs tile ≡ Some log → tile < tile_count l = λ tile log is. elim (cases_lt tile (tile_count l)) [
      | inl lt ↦ lt
      | inr ge ↦ let no : Some log ≡ None = sym is ∙ slice_get_past kept.logs tile (omega (arith, count, ge)) in absurd cc
    ] in
    let same : (tile : ℕ) (log : List LogEntry) → slice_get kept.logs tile ≡ Some log → (tiles tile).log ≡ log = λ tile log is.
    let e : Some (tiles tile).log ≡ Some log = sym (logs tile (below tile log is)) ∙ is in cc in
    record {
      lists = lists;
      maximal = subst (IsMaximal syncs) (sym journal) maximal;
      count = count;
      replays = λ tile log is.
          subst (λ js. Replays syncs js (jobs tile) log) (sym journal) (subst (Replays syncs b.journal (jobs tile)) (same tile log is) (stand tile (below tile log is)).0.replays);
      complete = λ tile log is.
          let s = stand tile (below tile log is) in
          subst (λ js. IsComplete syncs js (jobs tile) log) (sym journal) (subst (IsComplete syncs b.journal (jobs tile)) (same tile log is)
          (log_complete syncs b.journal (jobs tile) (tiles tile) (scene_jobs_are_sent scene l tile) maximal.0 s.0 s.1));
    }
