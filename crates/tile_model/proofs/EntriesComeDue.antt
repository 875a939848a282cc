-- An entry that is performed: where it finds the machine and the jobs, and what it makes of the progress.
use Rattle.std.proofs.Common.{◌≡◌, ℕ, ◌+◌, ◌==◌, ◌&&◌, Bool, true, false, cond, List, [], ◌∷◌, ◌++◌, drop, take, length, Some, None, inl, inr, refl, sym, ap, ◌∙◌, subst, arith, ne_eqb}
use Rattle.std.specs.Prelude.{is_some, option_map}
use Rattle.std.specs.declared.option.Option.{Option}
use Rattle.std.proofs.lemmas.Bool.{cases_Bool}
use Rattle.rc_base.specs.Orders.Journal.{SyncState, start, head_wait, is_member, IsLawful, after, IsLegal, IsLegalFrom}
use Rattle.rc_base.specs.Orders.Order.{PlacedEntry, entry_at, entries_from, entries_of, performed}
use Rattle.rc_base.specs.Orders.Sync.{client_count, places_of}
use Rattle.rc_base.specs.declared.sync.Entry.{Entry}
use Rattle.rc_base.specs.declared.sync.Name.{Name}
use Rattle.rc_base.specs.declared.sync.SyncLists.{SyncLists}
use Rattle.rc_base.specs.declared.sync.WaitAt.{WaitAt}
use Rattle.order_model.specs.Laws.{AreOfClients}
use Rattle.order_model.specs.Log.{Job, IsNext, AreJobsOf, waits_in, ReplaysFrom, jobs_after, entries_after, logged}
use Rattle.order_model.specs.Log.Job.{Wait}
use Rattle.order_model.specs.Standing.{Progress, IsUnderWay, cursor_of, performed_in, is_over}
use Rattle.order_model.specs.declared.record.LogEntry.TheVariants.{Performed}
use Rattle.order_model.proofs.LogsLeaveJobs.{jobs_left}
use Rattle.order_model.proofs.OrdersBySteps.{moved, passed_by}
use Rattle.order_model.proofs.RecordedOrdersArePermitted.{Reached, took_reaches, performed_reaches, some_at, none_at}
use Rattle.order_model.proofs.JournalsInTurn.{performed_more}
use Rattle.tile_model.specs.Items.{IsAwaited, after_performed}
use Rattle.tile_model.specs.Items.Item.{Due}
use Rattle.tile_model.proofs.ClientsGoOn.{below_end, client_performed, client_later}
use Rattle.tile_model.proofs.LogsGoOn.{GoesOn, cursor_more, replays_more, comes_to}
use Rattle.tile_model.proofs.NextInLists.{next_is, drop_front}
use Rattle.tile_model.proofs.ProgressGoesOn.{client_is}

-- ---- where the entry finds the machine

-- the jobs that are left have the operations that are left, at rising places
abbrev pub HasReached : SyncLists → SyncState → List Entry → (ℕ → List Job) → List Name → Type 0
HasReached syncs s es jobs order = (cursor : ℕ → ℕ) × Reached syncs s cursor jobs

pub reached_on : (syncs : SyncLists) → GoesOn syncs (HasReached syncs)
reached_on syncs = record {
  took = λ s es jobs order c place none h next. (moved h.0 c (place + 1), (took_reaches syncs s h.0 jobs c place h.1 next).2);
  done = λ s es jobs order e none h lawful members. (passed_by syncs s e h.0, performed_reaches syncs s h.0 jobs e h.1 lawful members);
}

place_is : (ws : List WaitAt) (q place : ℕ) (qs : List ℕ) → q ∷ qs ≡ places_of ws → option_map (λ (w : WaitAt). w.place) (head_wait ws) ≡ Some place → q ≡ place
place_is [] q place qs e f = absurd cc
place_is (w ∷ ws) q place qs e f = cc

-- a placed operation is that of a member
member_of : (syncs : SyncLists) (s : SyncState) (e : Entry) (c place : ℕ) → (entry_at syncs s e).at c ≡ Some place
    → (is_member (client_count syncs) e c ≡ true) × (option_map (λ (w : WaitAt). w.place) (head_wait (s.rest c)) ≡ Some place)
member_of syncs s e c place h =
    let here : Option ℕ = option_map (λ (w : WaitAt). w.place) (head_wait (s.rest c)) in
    elim (cases_Bool (is_member (client_count syncs) e c)) [
      | inl t ↦ (t, ap (λ b. cond b here None) (sym t) ∙ h)
      | inr f ↦ let no : None ≡ Some place = ap (λ b. cond b here None) (sym f) ∙ h in absurd cc
    ]

-- the state at which the next entry is performed, where it is lawful, and what holds there
pub record IsDue (syncs : SyncLists) (P : SyncState → List Entry → (ℕ → List Job) → List Name → Type 0) (js : List Entry) (jobs : ℕ → List Job) (p : Progress) (e : Entry) : Type 0 where
  pub state : SyncState
  pub more : List PlacedEntry
  pub none : AreOfClients syncs state
  pub lawful : IsLawful syncs state e
  pub entries : entries_after (entries_of syncs js) p.log ≡ entry_at syncs state e ∷ more
  pub members : (c place : ℕ) → (entry_at syncs state e).at c ≡ Some place → IsNext (jobs_after jobs (entries_of syncs js) p.log c) (Wait place)
  pub adds : logged syncs (start syncs) js (p.log ++ Performed ∷ []) [] ≡ performed syncs state e (logged syncs (start syncs) js p.log [])
  pub moves : (d : ℕ) → cursor_of (entries_of syncs js) (p.log ++ Performed ∷ []) d ≡ cond (is_some ((entry_at syncs state e).at d)) 1 0 + 0 + cursor_of (entries_of syncs js) p.log d
  pub holds : P state (take (performed_in p.log) js) (jobs_after jobs (entries_of syncs js) p.log) (logged syncs (start syncs) js p.log [])

-- for anything that goes on along a log and has the operations that are left
pub is_due : (syncs : SyncLists) (P : SyncState → List Entry → (ℕ → List Job) → List Name → Type 0) → GoesOn syncs P
    → ((s : SyncState) (es : List Entry) (jobs : ℕ → List Job) (order : List Name) → P s es jobs order → HasReached syncs s es jobs order)
    → (js : List Entry) (jobs : ℕ → List Job) (p : Progress) (e : Entry) → P (start syncs) [] jobs [] → IsLegal syncs js → IsUnderWay syncs js jobs p
    → IsAwaited p (Due e) → IsDue syncs P js jobs p e
is_due syncs P on reached js jobs p e first legal h a =
    let ms = entries_of syncs js in
    let held : (c : ℕ) → is_member (client_count syncs) e c ≡ true → p.held c ≡ true = subst (λ k. (c : ℕ) → is_member k e c ≡ true → p.held c ≡ true) h.count a.1 in
    let next = next_is p.learnt (performed_in p.log) e a.0 in
    let k = comes_to syncs P on js jobs p.log legal h.replays first in
    let s = k.state in
    let all = (reached s _ _ _ k.holds).1.all in
    let left : drop (performed_in p.log) js ≡ e ∷ (next.0 ++ h.learnt.0) = ap (drop (performed_in p.log)) h.learnt.1 ∙ drop_front (performed_in p.log) p.learnt h.learnt.0 e next.0 next.1 in
    let rest : k.rest ≡ e ∷ (next.0 ++ h.learnt.0) = k.rest_is ∙ left in
    let entries : entries_after ms p.log ≡ entry_at syncs s e ∷ entries_from syncs (after syncs s e) (next.0 ++ h.learnt.0) = k.entries ∙ ap (entries_from syncs s) rest in
    record {
      state = s;
      more = entries_from syncs (after syncs s e) (next.0 ++ h.learnt.0);
      none = k.none;
      lawful = (subst (IsLegalFrom syncs s) rest k.legal).0;
      entries = entries;
      members = λ c place is.
          let m = member_of syncs s e c place is in
          let stands = (h.clients c).holds (held c m.0) in
          let here : jobs_after jobs ms p.log c ≡ Wait stands.0 ∷ stands.1.0 = jobs_left jobs ms p.log c ∙ stands.1.1 in
          let same : stands.0 ≡ place = place_is (s.rest c) stands.0 place (waits_in stands.1.0) (sym (ap waits_in here) ∙ all c) m.1 in
          (stands.1.0, here ∙ ap (λ q. Wait q ∷ stands.1.0) same);
      adds = k.adds e (next.0 ++ h.learnt.0) rest;
      moves = λ d. cursor_more ms p.log Performed d ∙ ap (λ l. cursor_of l (Performed ∷ []) d + cursor_of ms p.log d) entries;
      holds = k.holds;
    }

-- ---- what it makes of the progress

member_held : (p : Progress) (e : Entry) (d : ℕ) → is_member p.count e d ≡ true → (after_performed p e).held d ≡ false
member_held p e d t = rw t refl

other_held : (p : Progress) (e : Entry) (d : ℕ) → is_member p.count e d ≡ false → (after_performed p e).held d ≡ p.held d
other_held p e d f = rw f refl

pub plus_one : (b : Bool) (k : ℕ) → b ≡ true → cond {A = ℕ} b 1 0 + 0 + k ≡ 1 + k
plus_one b k e = rw e (omega arith)

pub plus_none : (b : Bool) (k : ℕ) → b ≡ false → cond {A = ℕ} b 1 0 + 0 + k ≡ k
plus_none b k e = rw e (omega arith)

pub performs : (syncs : SyncLists) (js : List Entry) (jobs : ℕ → List Job) (p : Progress) (e : Entry) → AreJobsOf syncs jobs → IsLegal syncs js → IsUnderWay syncs js jobs p
    → IsAwaited p (Due e) → IsUnderWay syncs js jobs (after_performed p e)
performs syncs js jobs p e sent legal h a =
    let n = client_count syncs in
    let held : (c : ℕ) → is_member n e c ≡ true → p.held c ≡ true = subst (λ k. (c : ℕ) → is_member k e c ≡ true → p.held c ≡ true) h.count a.1 in
    let next = next_is p.learnt (performed_in p.log) e a.0 in
    let ms = entries_of syncs js in
    let low = below_end p.learnt (performed_in p.log) e next.0 next.1 in
    let count : performed_in (p.log ++ Performed ∷ []) ≡ performed_in p.log + (1 + 0) = performed_more p.log Performed in
    let open_now : (performed_in p.log == length p.learnt) ≡ false = ne_eqb (performed_in p.log) (length p.learnt) (λ same. absurd (omega arith)) in
    let before : is_over p ≡ false = and_false p.no_more (performed_in p.log == length p.learnt) open_now in
    let first : HasReached syncs (start syncs) [] jobs [] = (λ c. 0, record { rising = sent.rising; all = sent.all }) in
    let due = is_due syncs (HasReached syncs) (reached_on syncs) (λ s es js o k. k) js jobs p e first legal h a in
    let m = entry_at syncs due.state e in
    let replays : ReplaysFrom (jobs_after jobs ms p.log) (entries_after ms p.log) (Performed ∷ []) = subst (λ l. ReplaysFrom (jobs_after jobs ms p.log) l (Performed ∷ [])) (sym due.entries) (due.members, tt) in
    record {
      count = h.count;
      learnt = h.learnt;
      performed = omega (arith, h.performed, count, low);
      known = omega (arith, h.known, count);
      replays = replays_more jobs ms p.log Performed h.replays replays;
      clients = λ d. elim (cases_Bool (is_member n e d)) [
        | inl t ↦
            let step : cursor_of ms (p.log ++ Performed ∷ []) d ≡ 1 + cursor_of ms p.log d = due.moves d ∙ plus_one (is_some (m.at d)) (cursor_of ms p.log d) (some_at syncs due.state e due.lawful d t) in
            client_is _ _ _ _ _ _ _ _ _ _ _ (sym step) refl (sym (member_held p e d (ap (λ k. is_member k e d) h.count ∙ t))) refl refl
            (client_performed (jobs d) (cursor_of ms p.log d) (p.taken d) (p.closed d) (is_over (after_performed p e))
            (client_is _ _ _ _ _ _ _ _ _ _ _ refl refl (held d t) refl before (h.clients d)))
        | inr f ↦
            let step : cursor_of ms (p.log ++ Performed ∷ []) d ≡ cursor_of ms p.log d = due.moves d ∙ plus_none (is_some (m.at d)) (cursor_of ms p.log d) (none_at syncs due.state e d f) in
            client_is _ _ _ _ _ _ _ _ _ _ _ (sym step) refl (sym (other_held p e d (ap (λ k. is_member k e d) h.count ∙ f))) refl refl
            (client_later _ _ _ _ _ _ _ (λ o. before) (h.clients d))
      ];
    }
  where
    and_false : (a b : Bool) → b ≡ false → (a && b) ≡ false
    and_false true b e = e
    and_false false b e = refl
