-- What a tile's log has performed: the names that it added have, of each client, as many accepted Swaps as entries of the journal were Swaps.
use Rattle.std.proofs.Common.{◌≡◌, ℕ, zero, suc, ◌+◌, ◌-◌, ◌<◌, ◌≤◌, ◌==◌, Bool, true, false, cond, List, [], ◌∷◌, ◌++◌, drop, length, max, Some, inl, inr, refl, sym, ap, ◌∙◌, subst, arith, eqb-true, eq-eqb, lt-ltb, true≢false}
use Rattle.std.specs.Prelude.{◌⊎◌, if◌then◌else◌, option_map}
use Rattle.std.specs.List.{AllByRecursion}
use Rattle.std.specs.Option.{option_map_or}
use Rattle.std.proofs.lemmas.Bool.{cases_Bool, cases_lt}
use Rattle.std.proofs.lemmas.List.{get_or_past}
use Rattle.std.proofs.lemmas.List.Sums.{fold_push}
use Rattle.rc_base.specs.Lists.{IsIn}
use Rattle.rc_base.specs.Contexts.Context.{ClientContext}
use Rattle.rc_base.specs.Contexts.Issue.{stream_of, context_after, effect_at}
use Rattle.rc_base.specs.Drawing.Serial.{is_swap_effect, accepted_swaps}
use Rattle.rc_base.specs.Orders.Journal.{SyncState, start, head_wait, next, is_member, op_of, IsLawful, after, stop}
use Rattle.rc_base.specs.Orders.Order.{names_from, names_in, added, all_added, entry_at, performed}
use Rattle.rc_base.specs.Orders.Sync.{client_count, length_of, wait_of, waits_below, sync_lists_of}
use Rattle.rc_base.specs.declared.scene.Scene.{Scene}
use Rattle.rc_base.specs.declared.state.Effect.{Effect}
use Rattle.rc_base.specs.declared.state.Effect.TheVariants as eff
use Rattle.rc_base.specs.declared.sync.Entry.{Entry}
use Rattle.rc_base.specs.declared.sync.Entry.TheVariants as entry
use Rattle.rc_base.specs.declared.sync.Name.{Name}
use Rattle.rc_base.specs.declared.sync.SyncOp.{SyncOp}
use Rattle.rc_base.specs.declared.sync.SyncOp.TheVariants as op
use Rattle.rc_base.specs.declared.sync.WaitAt.{WaitAt}
use Rattle.rc_base.specs.declared.window.Layout.{Layout}
use Rattle.order_model.specs.Laws.{AreOfClients}
use Rattle.order_model.specs.Log.{Job, IsNext}
use Rattle.order_model.specs.Log.Job.{Work, Wait}
use Rattle.order_model.specs.Report.{frame_count, is_swap_entry}
use Rattle.order_model.specs.Sent.{jobs_of}
use Rattle.order_model.proofs.AddedNames.{names_append, stretch_tracks, spread_is, spread_tracks}
use Rattle.order_model.proofs.OrdersBySteps.{behind, passed_by}
use Rattle.order_model.proofs.SceneJobsAreSent.{scene_jobs_are_sent, ops_are}
use Rattle.order_model.proofs.StandsInLists.{in_append}
use Rattle.order_model.proofs.StepsArePermitted.{member_place, performed_past}
use Rattle.scene_lemmas.proofs.Scenes.{scene_client_count}
use Rattle.stream_replay.proofs.AcceptedSwaps.{swaps_next, swaps_after_other}
use Rattle.tile_model.proofs.EntriesComeDue.{HasReached, reached_on}
use Rattle.tile_model.proofs.IdleNamesChangeNothing.{works_on}
use Rattle.tile_model.proofs.JobsAreLeftBehindNames.{IsLeft, jobs_by, jobs_from, next_work, left_first, left_on}
use Rattle.tile_model.proofs.LogsGoOn.{GoesOn}

-- ---- names of an order

-- each name is of one of m clients, and its place is below the number of that client's names
abbrev pub AreCounted : ℕ → List Name → Type 0
AreCounted m order = (n : Name) → IsIn n order → (n.client < m) × (n.place < names_in n.client order)

in_stretch : (n : Name) (c a m : ℕ) → IsIn n (names_from c a m) → (n.client ≡ c) × (n.place < a + m)
in_stretch n c a zero h = absurd h
in_stretch n c a (suc m) (inl e) = (sym (ap (λ (k : Name). k.client) e), let p : a ≡ n.place = ap (λ (k : Name). k.place) e in omega arith)
in_stretch n c a (suc m) (inr h) = let r = in_stretch n c (a + 1) m h in (r.0, let lt = r.1 in omega arith)

stretch_count : (c a m : ℕ) → names_in c (names_from c a m) ≡ m
stretch_count c a zero = refl
stretch_count c a (suc m) = let h = stretch_count c (a + 1) m in let one = self c in omega arith
  where
    self : (c : ℕ) → cond {A = ℕ} (c == c) 1 0 ≡ 1
    self c = rw (eq-eqb c c refl) refl

added_counted : (m c p : ℕ) (o : List Name) → c < m → AreCounted m o → AreCounted m (added c p o)
added_counted m c p o low h n i =
    let a = names_in c o in
    let whole = names_append n.client o (names_from c a (p - a)) in
    elim (in_append n o (names_from c a (p - a)) i) [
      | inl old ↦ (let k = h n old in (k.0, let lt = k.1 in omega arith))
      | inr new ↦
          let r = in_stretch n c a (p - a) new in
          let lt = r.1 in
          let own : names_in n.client o ≡ a = ap (λ k. names_in k o) r.0 in
          let more : names_in n.client (names_from c a (p - a)) ≡ p - a = ap (λ k. names_in k (names_from c a (p - a))) r.0 ∙ stretch_count c a (p - a) in
          (let same = r.0 in omega arith, omega arith)
    ]

pub all_counted : (m : ℕ) (meant : ℕ → Bool) (places : ℕ → ℕ) (n : ℕ) (o : List Name) → n ≤ m → AreCounted m o → AreCounted m (all_added meant places n o)
all_counted m meant places zero o le h = h
all_counted m meant places (suc n) o le h = elim (cases_Bool (meant n)) [
  | inl t ↦ rw t (added_counted m n (places n) (all_added meant places n o) (omega arith) (all_counted m meant places n o (omega arith) h))
  | inr f ↦ rw f (all_counted m meant places n o (omega arith) h)
]

-- ---- accepted Swaps

-- they never get fewer
pub swaps_rise : (scene : Scene) (c a n : ℕ) → accepted_swaps scene c a ≤ accepted_swaps scene c (a + n)
unfolding accepted_swaps
swaps_rise scene c a zero = let e : a ≡ a + 0 = omega arith in omega (arith, ap (accepted_swaps scene c) e)
swaps_rise scene c a (suc n) =
    let e : suc (a + n) ≡ a + suc n = omega arith in
    let h = swaps_rise scene c a n in
    omega (arith, h, ap (accepted_swaps scene c) e)

-- one where the entry is Swap
abbrev pub swap_of : Entry → ℕ
swap_of e = cond (is_swap_entry e) 1 0

a_swap : (scene : Scene) (c n : ℕ) → effect_at scene c n ≡ eff.Sync op.Swap → accepted_swaps scene c (n + 1) ≡ accepted_swaps scene c n + 1
a_swap scene c n e = swaps_next scene c n ∙ ap (λ (x : Effect). accepted_swaps scene c n + (if is_swap_effect x then 1 else 0)) e

other_swap : (scene : Scene) (c n : ℕ) (o : SyncOp) → effect_at scene c n ≡ eff.Sync o → (o ≡ op.Swap → ⊥) → accepted_swaps scene c (n + 1) ≡ accepted_swaps scene c n
other_swap scene c n (op.Barrier b) e ne = swaps_after_other scene c n (ap is_swap_effect e)
other_swap scene c n (op.SemP k) e ne = swaps_after_other scene c n (ap is_swap_effect e)
other_swap scene c n (op.SemV k) e ne = swaps_after_other scene c n (ap is_swap_effect e)
other_swap scene c n op.Swap e ne = absurd (ne refl)

-- what a command gives tells whether it swaps
kind_of : (l : Layout) (tile : ℕ) (x : ClientContext) (n : ℕ) (effect : Effect) → ((jobs_by l tile x n effect ≡ []) × (is_swap_effect effect ≡ false)) ⊎ (((jobs_by l tile x n effect ≡ Work n ∷ []) × (is_swap_effect effect ≡ false)) ⊎ ((jobs_by l tile x n effect ≡ Wait n ∷ []) × (o : SyncOp) × (effect ≡ eff.Sync o)))
kind_of l tile x n (eff.Block b) = elim (cases_Bool (works_on l tile x (eff.Block b))) [ inl t ↦ inr (inl (rw t refl, refl)) | inr f ↦ inl (rw f refl, refl) ]
kind_of l tile x n (eff.Clear m) = elim (cases_Bool (works_on l tile x (eff.Clear m))) [ inl t ↦ inr (inl (rw t refl, refl)) | inr f ↦ inl (rw f refl, refl) ]
kind_of l tile x n (eff.Shared p) = inr (inl (refl, refl))
kind_of l tile x n (eff.Sync o) = inr (inr (refl, o, refl))
kind_of l tile x n (eff.Quiet) = inl (refl, refl)
kind_of l tile x n (eff.Refused f) = inl (refl, refl)

until_work : (scene : Scene) (l : Layout) (c tile a n place : ℕ) (rest : List Job) → jobs_from scene l c tile a n ≡ Work place ∷ rest → accepted_swaps scene c (place + 1) ≡ accepted_swaps scene c a
until_work scene l c tile a zero place rest e = absurd cc
until_work scene l c tile a (suc n) place rest e = elim (kind_of l tile (context_after scene c a) a (effect_at scene c a)) [
  | inl w ↦ until_work scene l c tile (a + 1) n place rest (sym (ap (λ js. js ++ jobs_from scene l c tile (a + 1) n) w.0) ∙ e) ∙ swaps_after_other scene c a w.1
  | inr (inl w) ↦
      let f : Work a ∷ jobs_from scene l c tile (a + 1) n ≡ Work place ∷ rest = sym (ap (λ js. js ++ jobs_from scene l c tile (a + 1) n) w.0) ∙ e in
      let same : place ≡ a = cc in
      ap (λ k. accepted_swaps scene c (k + 1)) same ∙ swaps_after_other scene c a w.1
  | inr (inr w) ↦ let f : Wait a ∷ jobs_from scene l c tile (a + 1) n ≡ Work place ∷ rest = sym (ap (λ js. js ++ jobs_from scene l c tile (a + 1) n) w.0) ∙ e in absurd cc
]

until_wait : (scene : Scene) (l : Layout) (c tile a n place : ℕ) (rest : List Job) → jobs_from scene l c tile a n ≡ Wait place ∷ rest → (accepted_swaps scene c place ≡ accepted_swaps scene c a) × (a ≤ place)
until_wait scene l c tile a zero place rest e = absurd cc
until_wait scene l c tile a (suc n) place rest e = elim (kind_of l tile (context_after scene c a) a (effect_at scene c a)) [
  | inl w ↦
      let h = until_wait scene l c tile (a + 1) n place rest (sym (ap (λ js. js ++ jobs_from scene l c tile (a + 1) n) w.0) ∙ e) in
      (h.0 ∙ swaps_after_other scene c a w.1, let le = h.1 in omega arith)
  | inr (inl w) ↦ let f : Work a ∷ jobs_from scene l c tile (a + 1) n ≡ Wait place ∷ rest = sym (ap (λ js. js ++ jobs_from scene l c tile (a + 1) n) w.0) ∙ e in absurd cc
  | inr (inr w) ↦
      let f : Wait a ∷ jobs_from scene l c tile (a + 1) n ≡ Wait place ∷ rest = sym (ap (λ js. js ++ jobs_from scene l c tile (a + 1) n) w.0) ∙ e in
      let same : place ≡ a = cc in (ap (accepted_swaps scene c) same, omega arith)
]

-- a client's operations are its commands'
abbrev pub AreTrue : Scene → ℕ → List WaitAt → Type 0
AreTrue scene c ws = AllByRecursion (λ (w : WaitAt). effect_at scene c w.place ≡ eff.Sync w.op) ws

true_push : (scene : Scene) (c n : ℕ) (ws : List WaitAt) (effect : Effect) → effect_at scene c n ≡ effect → AreTrue scene c ws → AreTrue scene c (ws ++ wait_of n effect)
true_push scene c n [] (eff.Sync o) e h = (e, tt)
true_push scene c n [] (eff.Quiet) e h = tt
true_push scene c n [] (eff.Refused f) e h = tt
true_push scene c n [] (eff.Block b) e h = tt
true_push scene c n [] (eff.Clear m) e h = tt
true_push scene c n [] (eff.Shared p) e h = tt
true_push scene c n (w ∷ ws) effect e h = (h.0, true_push scene c n ws effect e h.1)

true_waits : (scene : Scene) (c n : ℕ) → AreTrue scene c (waits_below scene c n)
unfolding waits_below
true_waits scene c zero = tt
true_waits scene c (suc n) = true_push scene c n (waits_below scene c n) (effect_at scene c n) refl (true_waits scene c n)

true_drop : (scene : Scene) (c : ℕ) (ws : List WaitAt) → AreTrue scene c ws → AreTrue scene c (drop 1 ws)
true_drop scene c [] h = tt
true_drop scene c (w ∷ ws) h = h.1

-- the operation at which a member stands
stop_true : (scene : Scene) (c end : ℕ) (ws : List WaitAt) (o : SyncOp) → option_map (λ (w : WaitAt). w.op) (head_wait ws) ≡ Some o → AreTrue scene c ws
    → effect_at scene c (option_map_or (λ (w : WaitAt). w.place) (head_wait ws) end) ≡ eff.Sync o
stop_true scene c end [] o e h = absurd cc
stop_true scene c end (w ∷ ws) o e h = let same : w.op ≡ o = cc in h.0 ∙ ap (λ x. eff.Sync x) same

-- so many Swaps are performed
pub record HasSwapped (scene : Scene) (s : SyncState) (order : List Name) (k : ℕ) : Type 0 where
  pub count : (c : ℕ) → c < client_count (sync_lists_of scene) → accepted_swaps scene c (names_in c order) ≡ k
  pub right : (c : ℕ) → AreTrue scene c (s.rest c)

swapped_took : (scene : Scene) (l : Layout) (tile : ℕ) (s : SyncState) (order : List Name) (jobs : ℕ → List Job) (c place k : ℕ) → IsLeft scene l tile order jobs → IsNext (jobs c) (Work place) → HasSwapped scene s order k
    → HasSwapped scene s (added c (place + 1) order) k
swapped_took scene l tile s order jobs c place k left n h = record {
  count = λ d low.
      let tracks = stretch_tracks c (place + 1) order (λ j. names_in j order) (λ j. refl) d in
      elim (cases_Bool (d == c)) [
        | inl t ↦
            let e = eqb-true d c t in
            let tracks' : names_in d (added c (place + 1) order) ≡ max (names_in c order) (place + 1) = rw t at tracks in
            let first = next_work scene l tile order jobs c place left n in
            let le = first.low in
            let at : names_in d (added c (place + 1) order) ≡ place + 1 = omega arith in
            let u = until_work scene l c tile (names_in c order) (length (stream_of scene c) - names_in c order) place n.0 (sym (left c) ∙ n.1) in
            ap (accepted_swaps scene d) at ∙ ap (λ j. accepted_swaps scene j (place + 1)) e ∙ u ∙ ap (λ j. accepted_swaps scene j (names_in j order)) (sym e) ∙ h.count d low
        | inr f ↦ let tracks' : names_in d (added c (place + 1) order) ≡ names_in d order = rw f at tracks in ap (accepted_swaps scene d) tracks' ∙ h.count d low
      ];
  right = h.right;
}

-- at its operation a member has one Swap more where the entry is Swap
pub member_swaps : (scene : Scene) (c place k : ℕ) (e : Entry) → effect_at scene c place ≡ eff.Sync (op_of e) → accepted_swaps scene c place ≡ k → accepted_swaps scene c (place + 1) ≡ k + swap_of e
member_swaps scene c place k entry.Swap e h = a_swap scene c place e ∙ ap (λ n. n + 1) h
member_swaps scene c place k (entry.Meet b m) e h = other_swap scene c place (op.Barrier b) e (λ no. absurd cc) ∙ h ∙ (let z : k ≡ k + 0 = omega arith in z)
member_swaps scene c place k (entry.Give n d) e h = other_swap scene c place (op.SemV n) e (λ no. absurd cc) ∙ h ∙ (let z : k ≡ k + 0 = omega arith in z)
member_swaps scene c place k (entry.Take n d) e h = other_swap scene c place (op.SemP n) e (λ no. absurd cc) ∙ h ∙ (let z : k ≡ k + 0 = omega arith in z)

-- who is no member of Swap doesn't exist
other_swaps : (n c k : ℕ) (e : Entry) → is_member n e c ≡ false → c < n → k ≡ k + swap_of e
other_swaps n c k entry.Swap f low = absurd (true≢false (sym (lt-ltb c n low) ∙ f))
other_swaps n c k (entry.Meet b m) f low = omega arith
other_swaps n c k (entry.Give s d) f low = omega arith
other_swaps n c k (entry.Take s d) f low = omega arith

-- where a performed entry finds a member, and leaves it
pub record IsMemberDone (scene : Scene) (s : SyncState) (e : Entry) (order : List Name) (d k : ℕ) : Type 0 where
  pub number : names_in d (performed (sync_lists_of scene) s e order) ≡ stop (sync_lists_of scene) s d + 1
  pub before : accepted_swaps scene d (stop (sync_lists_of scene) s d) ≡ k
  pub effect : effect_at scene d (stop (sync_lists_of scene) s d) ≡ eff.Sync (op_of e)

pub member_done : (scene : Scene) (l : Layout) (tile : ℕ) (s : SyncState) (order : List Name) (jobs : ℕ → List Job) (e : Entry) (k : ℕ) → IsLeft scene l tile order jobs → AreOfClients (sync_lists_of scene) s → IsLawful (sync_lists_of scene) s e
    → ((c place : ℕ) → (entry_at (sync_lists_of scene) s e).at c ≡ Some place → IsNext (jobs c) (Wait place)) → HasSwapped scene s order k
    → (d : ℕ) → d < client_count (sync_lists_of scene) → is_member (client_count (sync_lists_of scene)) e d ≡ true → IsMemberDone scene s e order d k
member_done scene l tile s order jobs e k left none lawful next h d low t =
    let syncs = sync_lists_of scene in
    let n = client_count syncs in
    let cursor = λ (j : ℕ). names_in j order in
    let place = stop syncs s d in
    let w = next d place (member_place syncs s e lawful d t) in
    let u = until_wait scene l d tile (names_in d order) (length (stream_of scene d) - names_in d order) place w.0 (sym (left d) ∙ w.1) in
    let le = u.1 in
    let made = spread_is (is_member n e) (behind syncs s) cursor n order (λ j. refl) in
    let tracks : names_in d (performed syncs s e order) ≡ passed_by syncs s e cursor d = ap (names_in d) made ∙ spread_tracks (is_member n e) (behind syncs s) cursor n order (λ j. refl) (performed_past syncs s e cursor none lawful) d in
    let passed : passed_by syncs s e cursor d ≡ max (names_in d order) (place + 1) = ap (λ b. cond b (max (cursor d) (behind syncs s d)) (cursor d)) t in
    record {
      number = omega arith;
      before = u.0 ∙ h.count d low;
      effect = stop_true scene d (length_of syncs d) (s.rest d) (op_of e) (lawful.next d t) (h.right d);
    }

swapped_performed : (scene : Scene) (l : Layout) (tile : ℕ) (s : SyncState) (order : List Name) (jobs : ℕ → List Job) (e : Entry) (k : ℕ) → IsLeft scene l tile order jobs → AreOfClients (sync_lists_of scene) s → IsLawful (sync_lists_of scene) s e
    → ((c place : ℕ) → (entry_at (sync_lists_of scene) s e).at c ≡ Some place → IsNext (jobs c) (Wait place)) → HasSwapped scene s order k
    → HasSwapped scene (after (sync_lists_of scene) s e) (performed (sync_lists_of scene) s e order) (k + swap_of e)
swapped_performed scene l tile s order jobs e k left none lawful next h =
    let syncs = sync_lists_of scene in
    let n = client_count syncs in
    let cursor = λ (j : ℕ). names_in j order in
    record {
      count = λ d low. elim (cases_Bool (is_member n e d)) [
        | inl t ↦
            let m = member_done scene l tile s order jobs e k left none lawful next h d low t in
            ap (accepted_swaps scene d) m.number ∙ member_swaps scene d (stop syncs s d) k e m.effect m.before
        | inr f ↦
            let made = spread_is (is_member n e) (behind syncs s) cursor n order (λ j. refl) in
            let tracks : names_in d (performed syncs s e order) ≡ passed_by syncs s e cursor d = ap (names_in d) made ∙ spread_tracks (is_member n e) (behind syncs s) cursor n order (λ j. refl) (performed_past syncs s e cursor none lawful) d in
            let same : passed_by syncs s e cursor d ≡ names_in d order = ap (λ b. cond b (max (cursor d) (behind syncs s d)) (cursor d)) f in
            ap (accepted_swaps scene d) (tracks ∙ same) ∙ h.count d low ∙ other_swaps n d k e f low
      ];
      right = λ c. elim (cases_Bool (is_member n e c)) [
        | inl t ↦ rw t (true_drop scene c (s.rest c) (h.right c))
        | inr f ↦ rw f (h.right c)
      ];
    }

-- who has a job is a client
who_works : (scene : Scene) (l : Layout) (tile : ℕ) (order : List Name) (jobs : ℕ → List Job) (c place : ℕ) → IsLeft scene l tile order jobs → IsNext (jobs c) (Work place) → c < client_count (sync_lists_of scene)
who_works scene l tile order jobs c place left n =
    let first = next_work scene l tile order jobs c place left n in
    let low = first.low in
    let high = first.high in
    elim (cases_lt c (length scene.streams)) [
      | inl lt ↦ omega (arith, scene_client_count scene, lt)
      | inr ge ↦ let none : length (stream_of scene c) ≡ 0 = ap length (get_or_past scene.streams c [] ge) in absurd (omega arith)
    ]

-- ---- along a log

frames_more : (es : List Entry) (e : Entry) → frame_count (es ++ e ∷ []) ≡ frame_count es + swap_of e
frames_more es e = fold_push (λ (n : ℕ) (x : Entry). n + cond {A = ℕ} (is_swap_entry x) 1 0) 0 es e

-- all that is known of a tile along its log
pub record IsAlong (scene : Scene) (l : Layout) (tile : ℕ) (s : SyncState) (es : List Entry) (jobs : ℕ → List Job) (order : List Name) : Type 0 where
  pub reached : HasReached (sync_lists_of scene) s es jobs order
  pub left : IsLeft scene l tile order jobs
  pub swapped : HasSwapped scene s order (frame_count es)
  pub counted : AreCounted (client_count (sync_lists_of scene)) order

pub along_on : (scene : Scene) (l : Layout) (tile : ℕ) → GoesOn (sync_lists_of scene) (IsAlong scene l tile)
along_on scene l tile =
    let syncs = sync_lists_of scene in
    let n = client_count syncs in
    let r = reached_on syncs in
    let k = left_on scene l tile in
    record {
      took = λ s es jobs order c place none h job. record {
        reached = r.took s es jobs order c place none h.reached job;
        left = k.took s es jobs order c place none h.left job;
        swapped = swapped_took scene l tile s order jobs c place (frame_count es) h.left job h.swapped;
        counted = added_counted n c (place + 1) order (who_works scene l tile order jobs c place h.left job) h.counted;
      };
      done = λ s es jobs order e none h lawful members. record {
        reached = r.done s es jobs order e none h.reached lawful members;
        left = k.done s es jobs order e none h.left lawful members;
        swapped = subst (HasSwapped scene (after syncs s e) (performed syncs s e order)) (sym (frames_more es e))
            (swapped_performed scene l tile s order jobs e (frame_count es) h.left none lawful members h.swapped);
        counted = all_counted n (is_member n e) (λ c. stop syncs s c + 1) n order (omega arith) h.counted;
      };
    }

pub along_first : (scene : Scene) (l : Layout) (tile : ℕ) → IsAlong scene l tile (start (sync_lists_of scene)) [] (λ client. jobs_of scene l client tile) []
unfolding accepted_swaps
along_first scene l tile =
    let sent = scene_jobs_are_sent scene l tile in
    record {
      reached = (λ c. 0, record { rising = sent.rising; all = sent.all });
      left = left_first scene l tile;
      swapped = record { count = λ c low. refl; right = λ c. subst (AreTrue scene c) (sym (ops_are scene c)) (true_waits scene c (length (stream_of scene c))) };
      counted = λ n i. absurd i;
    }
