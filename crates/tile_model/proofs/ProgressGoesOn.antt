-- What an item makes of a tile's progress, for the jobs of each client and a journal.
use Rattle.std.proofs.Common.{◌≡◌, ℕ, ◌+◌, ◌<◌, ◌==◌, ◌&&◌, Bool, true, false, List, [], ◌∷◌, ◌++◌, drop, length, Some, slice_get, refl, sym, ap, ◌∙◌, subst, arith, length-append, add-zero}
use Rattle.rc_base.specs.Orders.Order.{PlacedEntry, entries_of}
use Rattle.rc_base.specs.Orders.Sync.{client_count}
use Rattle.rc_base.specs.declared.sync.Entry.{Entry}
use Rattle.rc_base.specs.declared.sync.SyncLists.{SyncLists}
use Rattle.order_model.specs.Log.{Job, IsNext, jobs_after}
use Rattle.order_model.specs.Log.Job.{Work, Wait}
use Rattle.order_model.specs.Standing.{Progress, IsClientAt, IsUnderWay, cursor_of, performed_in, is_over, new_progress}
use Rattle.order_model.specs.declared.record.LogEntry.{LogEntry}
use Rattle.order_model.specs.declared.record.LogEntry.TheVariants.{Took}
use Rattle.order_model.proofs.LogsLeaveJobs.{jobs_left}
use Rattle.plain_lemmas.proofs.Booleans.{one_if_true, zero_if_false}
use Rattle.plain_lemmas.proofs.Numbers.{equal_to_itself, at_one}
use Rattle.order_model.proofs.JournalsInTurn.{performed_more}
use Rattle.scene_lemmas.proofs.Numbered.{with_here}
use Rattle.tile_model.specs.Items.{with_at, after_work, after_wait, after_end, after_parcel, after_entry, after_no_more}
use Rattle.tile_model.proofs.ClientsGoOn.{client_first, client_took, client_held, client_closed, client_dropped, client_closed_late, client_later}
use Rattle.tile_model.proofs.LogsGoOn.{cursor_more, replays_more}

-- a new tile
pub new_under_way : (syncs : SyncLists) (js : List Entry) (jobs : ℕ → List Job) → IsUnderWay syncs js jobs (new_progress (client_count syncs))
new_under_way syncs js jobs = record {
  count = refl;
  learnt = (js, refl);
  performed = omega arith;
  known = omega arith;
  replays = tt;
  clients = λ c. client_first (jobs c) (is_over (new_progress (client_count syncs)));
}

-- ---- equal numbers and tests

pub with_other : {A : Type 0} (f : ℕ → A) (c : ℕ) (x : A) (d : ℕ) → (d == c) ≡ false → with_at f c x d ≡ f d
with_other f c x d e = rw e refl

pub client_is : (jobs : List Job) (k k' t t' : ℕ) (h h' c c' o o' : Bool) → k ≡ k' → t ≡ t' → h ≡ h' → c ≡ c' → o ≡ o' → IsClientAt jobs k t h c o → IsClientAt jobs k' t' h' c' o'
client_is jobs k k' t t' h h' c c' o o' e1 e2 e3 e4 e5 x =
    subst (λ b. IsClientAt jobs k' t' h' c' b) e5 (subst (λ b. IsClientAt jobs k' t' h' b o) e4 (subst (λ b. IsClientAt jobs k' t' b c o) e3
    (subst (λ n. IsClientAt jobs k' n h c o) e2 (subst (λ n. IsClientAt jobs n t h c o) e1 x))))

-- ---- a line of a log and a client's cursor

pub moved_here : (ms : List PlacedEntry) (log : List LogEntry) (c place : ℕ) → cursor_of ms (log ++ Took c place ∷ []) c ≡ 1 + cursor_of ms log c
moved_here ms log c place =
    let e = cursor_more ms log (Took c place) c in
    let one = one_if_true (c == c) (equal_to_itself c) in omega arith

pub moved_other : (ms : List PlacedEntry) (log : List LogEntry) (c place d : ℕ) → (d == c) ≡ false → cursor_of ms (log ++ Took c place ∷ []) d ≡ cursor_of ms log d
moved_other ms log c place d f =
    let e = cursor_more ms log (Took c place) d in
    let none = zero_if_false (d == c) f in omega arith

-- ---- steps

-- the parcel of a client is carried out
pub works : (syncs : SyncLists) (js : List Entry) (jobs : ℕ → List Job) (p : Progress) (c place : ℕ) → IsUnderWay syncs js jobs p
    → p.held c ≡ false → p.closed c ≡ false → IsNext (drop (p.taken c) (jobs c)) (Work place) → IsUnderWay syncs js jobs (after_work p c place)
works syncs js jobs p c place h held closed next =
    let ms = entries_of syncs js in
    let count : performed_in (p.log ++ Took c place ∷ []) ≡ performed_in p.log = performed_more p.log (Took c place) ∙ add-zero (performed_in p.log) in
    let same : is_over p ≡ is_over (after_work p c place) = ap (λ n. p.no_more && (n == length p.learnt)) (sym count) in
    let here : IsClientAt (jobs c) (cursor_of ms p.log c) (p.taken c) false false (is_over p) = client_is _ _ _ _ _ _ _ _ _ _ _ refl refl held closed refl (h.clients c) in
    let left : jobs_after jobs ms p.log c ≡ drop (p.taken c) (jobs c) = jobs_left jobs ms p.log c ∙ ap (λ k. drop k (jobs c)) (here.unheld refl refl) in
    record {
      count = h.count;
      learnt = h.learnt;
      performed = omega (arith, h.performed, count);
      known = omega (arith, h.known, count);
      replays = replays_more jobs ms p.log (Took c place) h.replays (subst (λ l. IsNext l (Work place)) (sym left) next, tt);
      clients = at_one (λ d. IsClientAt (jobs d) (cursor_of ms (p.log ++ Took c place ∷ []) d) (with_at p.taken c (p.taken c + 1) d) (p.held d) (p.closed d) (is_over (after_work p c place))) c
          (client_is _ _ _ _ _ _ _ _ _ _ _ (sym (moved_here ms p.log c place)) (sym (with_here p.taken c (p.taken c + 1))) (sym held) (sym closed) same
          (client_took (jobs c) (cursor_of ms p.log c) (p.taken c) (is_over p) place here next))
          (λ d f. client_is _ _ _ _ _ _ _ _ _ _ _ (sym (moved_other ms p.log c place d f)) (sym (with_other p.taken c (p.taken c + 1) d f)) refl refl same (h.clients d));
    }

-- it holds its client
pub waits : (syncs : SyncLists) (js : List Entry) (jobs : ℕ → List Job) (p : Progress) (c place : ℕ) → IsUnderWay syncs js jobs p
    → p.held c ≡ false → p.closed c ≡ false → IsNext (drop (p.taken c) (jobs c)) (Wait place) → IsUnderWay syncs js jobs (after_wait p c)
waits syncs js jobs p c place h held closed next =
    let ms = entries_of syncs js in
    let here : IsClientAt (jobs c) (cursor_of ms p.log c) (p.taken c) false false (is_over p) = client_is _ _ _ _ _ _ _ _ _ _ _ refl refl held closed refl (h.clients c) in
    record {
      count = h.count;
      learnt = h.learnt;
      performed = h.performed;
      known = h.known;
      replays = h.replays;
      clients = at_one (λ d. IsClientAt (jobs d) (cursor_of ms p.log d) (with_at p.taken c (p.taken c + 1) d) (with_at p.held c true d) (p.closed d) (is_over p)) c
          (client_is _ _ _ _ _ _ _ _ _ _ _ refl (sym (with_here p.taken c (p.taken c + 1))) (sym (with_here p.held c true)) (sym closed) refl
          (client_held (jobs c) (cursor_of ms p.log c) (p.taken c) (is_over p) place here next))
          (λ d f. client_is _ _ _ _ _ _ _ _ _ _ _ refl (sym (with_other p.taken c (p.taken c + 1) d f)) (sym (with_other p.held c true d f)) refl refl (h.clients d));
    }

-- it is the client's End
pub ends : (syncs : SyncLists) (js : List Entry) (jobs : ℕ → List Job) (p : Progress) (c : ℕ) → IsUnderWay syncs js jobs p
    → p.held c ≡ false → p.closed c ≡ false → p.taken c ≡ length (jobs c) → IsUnderWay syncs js jobs (after_end p c)
ends syncs js jobs p c h held closed all =
    let ms = entries_of syncs js in
    let here : IsClientAt (jobs c) (cursor_of ms p.log c) (p.taken c) false false (is_over p) = client_is _ _ _ _ _ _ _ _ _ _ _ refl refl held closed refl (h.clients c) in
    record {
      count = h.count;
      learnt = h.learnt;
      performed = h.performed;
      known = h.known;
      replays = h.replays;
      clients = at_one (λ d. IsClientAt (jobs d) (cursor_of ms p.log d) (with_at p.taken c (p.taken c + 1) d) (p.held d) (with_at p.closed c true d) (is_over p)) c
          (client_is _ _ _ _ _ _ _ _ _ _ _ refl (sym (with_here p.taken c (p.taken c + 1))) (sym held) (sym (with_here p.closed c true)) refl
          (client_closed (jobs c) (cursor_of ms p.log c) (p.taken c) (is_over p) here all))
          (λ d f. client_is _ _ _ _ _ _ _ _ _ _ _ refl (sym (with_other p.taken c (p.taken c + 1) d f)) refl (sym (with_other p.closed c true d f)) refl (h.clients d));
    }

-- it is dropped
pub drops : (syncs : SyncLists) (js : List Entry) (jobs : ℕ → List Job) (p : Progress) (c : ℕ) → IsUnderWay syncs js jobs p
    → is_over p ≡ true → p.held c ≡ true → p.closed c ≡ false → p.taken c < length (jobs c) → IsUnderWay syncs js jobs (after_parcel p c)
drops syncs js jobs p c h over held closed low =
    let ms = entries_of syncs js in
    let here : IsClientAt (jobs c) (cursor_of ms p.log c) (p.taken c) true false true = client_is _ _ _ _ _ _ _ _ _ _ _ refl refl held closed over (h.clients c) in
    record {
      count = h.count;
      learnt = h.learnt;
      performed = h.performed;
      known = h.known;
      replays = h.replays;
      clients = at_one (λ d. IsClientAt (jobs d) (cursor_of ms p.log d) (with_at p.taken c (p.taken c + 1) d) (p.held d) (p.closed d) (is_over p)) c
          (client_is _ _ _ _ _ _ _ _ _ _ _ refl (sym (with_here p.taken c (p.taken c + 1))) (sym held) (sym closed) (sym over)
          (client_dropped (jobs c) (cursor_of ms p.log c) (p.taken c) here low))
          (λ d f. client_is _ _ _ _ _ _ _ _ _ _ _ refl (sym (with_other p.taken c (p.taken c + 1) d f)) refl refl refl (h.clients d));
    }

-- a held client's End
pub ends_late : (syncs : SyncLists) (js : List Entry) (jobs : ℕ → List Job) (p : Progress) (c : ℕ) → IsUnderWay syncs js jobs p
    → is_over p ≡ true → p.held c ≡ true → p.closed c ≡ false → p.taken c ≡ length (jobs c) → IsUnderWay syncs js jobs (after_end p c)
ends_late syncs js jobs p c h over held closed all =
    let ms = entries_of syncs js in
    let here : IsClientAt (jobs c) (cursor_of ms p.log c) (p.taken c) true false true = client_is _ _ _ _ _ _ _ _ _ _ _ refl refl held closed over (h.clients c) in
    record {
      count = h.count;
      learnt = h.learnt;
      performed = h.performed;
      known = h.known;
      replays = h.replays;
      clients = at_one (λ d. IsClientAt (jobs d) (cursor_of ms p.log d) (with_at p.taken c (p.taken c + 1) d) (p.held d) (with_at p.closed c true d) (is_over p)) c
          (client_is _ _ _ _ _ _ _ _ _ _ _ refl (sym (with_here p.taken c (p.taken c + 1))) (sym held) (sym (with_here p.closed c true)) (sym over)
          (client_closed_late (jobs c) (cursor_of ms p.log c) (p.taken c) here all))
          (λ d f. client_is _ _ _ _ _ _ _ _ _ _ _ refl (sym (with_other p.taken c (p.taken c + 1) d f)) refl (sym (with_other p.closed c true d f)) refl (h.clients d));
    }

-- the next entry of the journal is learnt
next_of : (js learnt : List Entry) (more : List Entry) (e : Entry) → js ≡ learnt ++ more → slice_get js (length learnt) ≡ Some e → (rest : List Entry) × (js ≡ (learnt ++ e ∷ []) ++ rest)
next_of [] [] more e h n = absurd cc
next_of (y ∷ js) [] more e h n = (js, let same : y ≡ e = cc in ap (λ k. k ∷ js) same)
next_of [] (x ∷ learnt) more e h n = absurd cc
next_of (y ∷ js) (x ∷ learnt) more e h n =
    let first : y ≡ x = cc in
    let same : js ≡ learnt ++ more = cc in
    let r = next_of js learnt more e same n in
    (r.0, ap (λ k. k ∷ js) first ∙ ap (λ l. x ∷ l) r.1)

pub learns : (syncs : SyncLists) (js : List Entry) (jobs : ℕ → List Job) (p : Progress) (e : Entry) → IsUnderWay syncs js jobs p
    → p.no_more ≡ false → performed_in p.log ≡ length p.learnt → slice_get js (length p.learnt) ≡ Some e → IsUnderWay syncs js jobs (after_entry p e)
learns syncs js jobs p e h more idle next =
    let ms = entries_of syncs js in
    let count = length-append p.learnt (e ∷ []) in
    record {
      count = h.count;
      learnt = next_of js p.learnt h.learnt.0 e h.learnt.1 next;
      performed = omega arith;
      known = omega arith;
      replays = h.replays;
      clients = λ d. client_later _ _ _ _ _ _ _ (λ o. ap (λ b. b && (performed_in p.log == length p.learnt)) more) (h.clients d);
    }

-- nothing more comes
pub learns_end : (syncs : SyncLists) (js : List Entry) (jobs : ℕ → List Job) (p : Progress) → IsUnderWay syncs js jobs p → IsUnderWay syncs js jobs (after_no_more p)
learns_end syncs js jobs p h = record {
  count = h.count;
  learnt = h.learnt;
  performed = h.performed;
  known = h.known;
  replays = h.replays;
  clients = λ d. client_later _ _ _ _ _ _ _ (less p.no_more (performed_in p.log == length p.learnt)) (h.clients d);
}
  where
    less : (a b : Bool) → b ≡ false → (a && b) ≡ false
    less true b e = e
    less false b e = refl
