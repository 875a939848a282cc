use Rattle.worked_examples.proofs.orders.a_log_records_an_order.Goals as goal
use Rattle.std.proofs.Common.{ℕ, zero, suc, ◌==◌, List, [], ◌∷◌, refl, sym, subst, arith}
use Rattle.std.specs.Prelude.{is_some, option_map}
use Rattle.rc_base.specs.Orders.Journal.{SyncState, start, after, waiting_of, head_wait}
use Rattle.rc_base.specs.Orders.Order.{entry_at, entries_from, entries_of, default_journal}
use Rattle.rc_base.specs.declared.sync.Entry.{Entry}
use Rattle.rc_base.specs.declared.sync.Entry.TheVariants.{Swap, Give, Take}
use Rattle.rc_base.specs.declared.sync.WaitAt.{WaitAt}
use Rattle.order_model.specs.Log.{Job, without, jobs_after, ReplaysFrom, StandsAt}
use Rattle.order_model.specs.Log.Job.{Work, Wait}
use Rattle.order_model.specs.declared.record.LogEntry.TheVariants.{Took, Performed}
use Rattle.worked_examples.specs.Orders.{shared_unit, exclusive_jobs, shared_unit_log}
use Rattle.worked_examples.proofs.WrittenLogs.{waits_past, one_next, both_next, none_done}

-- the states of the machine, and what is left of the jobs
abbrev s0 : SyncState
s0 = start shared_unit

abbrev s1 : SyncState
s1 = after shared_unit s0 (Take 1 0)

abbrev s2 : SyncState
s2 = after shared_unit s1 (Give 1 0)

abbrev s3 : SyncState
s3 = after shared_unit s2 (Take 1 1)

abbrev s4 : SyncState
s4 = after shared_unit s3 (Give 1 1)

abbrev did : SyncState → Entry → (ℕ → List Job) → ℕ → List Job
did s e jobs = without (λ c. is_some ((entry_at shared_unit s e).at c)) jobs

abbrev j1 : ℕ → List Job
j1 = did s0 (Take 1 0) exclusive_jobs

abbrev j2 : ℕ → List Job
j2 = without (λ c. c == 0) j1

abbrev j3 : ℕ → List Job
j3 = did s1 (Give 1 0) j2

abbrev j4 : ℕ → List Job
j4 = did s2 (Take 1 1) j3

abbrev j5 : ℕ → List Job
j5 = without (λ c. c == 1) j4

abbrev j6 : ℕ → List Job
j6 = did s3 (Give 1 1) j5

swapping : ReplaysFrom j6 (entry_at shared_unit s4 Swap ∷ []) (Performed ∷ [])
swapping = (both_next j6 (λ c. option_map (λ (w : WaitAt). w.place) (head_wait (s4.rest c))) 10 10 refl refl ([], refl) ([], refl), tt)

second : ReplaysFrom j3 (entries_from shared_unit s2 (Take 1 1 ∷ Give 1 1 ∷ Swap ∷ [])) (Performed ∷ Took 1 8 ∷ Performed ∷ Performed ∷ [])
second = (
  one_next j3 (λ c. option_map (λ (w : WaitAt). w.place) (head_wait (s2.rest c))) 1 3 refl (Work 8 ∷ Wait 9 ∷ Wait 10 ∷ [], refl),
  ((Wait 9 ∷ Wait 10 ∷ [], refl), (one_next j5 (λ c. option_map (λ (w : WaitAt). w.place) (head_wait (s3.rest c))) 1 9 refl (Wait 10 ∷ [], refl), swapping)),
)

pub returns-clause-replays : goal.returns-clause-replays
returns-clause-replays c = (
  one_next exclusive_jobs (λ c. option_map (λ (w : WaitAt). w.place) (head_wait (s0.rest c))) 0 3 refl (Work 8 ∷ Wait 9 ∷ Wait 10 ∷ [], refl),
  ((Wait 9 ∷ Wait 10 ∷ [], refl), (one_next j2 (λ c. option_map (λ (w : WaitAt). w.place) (head_wait (s1.rest c))) 0 9 refl (Wait 10 ∷ [], refl), second)),
)

stands : (c : ℕ) → StandsAt (jobs_after exclusive_jobs (entries_of shared_unit (default_journal shared_unit)) shared_unit_log c) (waiting_of shared_unit (default_journal shared_unit) c)
stands zero = refl
stands (suc zero) = refl
stands (suc (suc c)) =
    subst (StandsAt (jobs_after exclusive_jobs (entries_of shared_unit (default_journal shared_unit)) shared_unit_log (suc (suc c))))
    (sym (waits_past shared_unit (default_journal shared_unit) (suc (suc c)) (omega arith)))
    (none_done exclusive_jobs (entries_of shared_unit (default_journal shared_unit)) shared_unit_log (suc (suc c)) refl)

pub returns-clause-complete : goal.returns-clause-complete
returns-clause-complete c = record { entries = refl; clients = stands }
