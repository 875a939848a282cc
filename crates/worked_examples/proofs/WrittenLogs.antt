-- Logs that are written out: what each line asks of the jobs, and what is left of them.
use Rattle.std.proofs.Common.{◌≡◌, ℕ, zero, suc, ◌≤◌, ◌==◌, Bool, cond, List, [], ◌∷◌, drop, Option, Some, None, inl, inr, sym, ap, ◌∙◌, subst, arith, eqb-true, ltb-true, nat_lt}
use Rattle.std.specs.Prelude.{is_some}
use Rattle.std.proofs.lemmas.Bool.{cases_Bool}
use Rattle.rc_base.specs.Orders.Journal.{start, head_wait, waiting_of}
use Rattle.rc_base.specs.Orders.Order.{PlacedEntry}
use Rattle.rc_base.specs.Orders.Sync.{client_count}
use Rattle.rc_base.specs.declared.sync.Entry.{Entry}
use Rattle.rc_base.specs.declared.sync.SyncLists.{SyncLists}
use Rattle.order_model.specs.Log.{Job, IsNext, without, jobs_after}
use Rattle.order_model.specs.Log.Job.{Wait}
use Rattle.order_model.specs.declared.record.LogEntry.{LogEntry}
use Rattle.order_model.specs.declared.record.LogEntry.TheVariants.{Took, Performed}
use Rattle.order_model.proofs.ClientsBeyond.{ops_past, past_end}

-- who doesn't exist waits nowhere
pub waits_past : (syncs : SyncLists) (js : List Entry) (c : ℕ) → client_count syncs ≤ c → waiting_of syncs js c ≡ None
waits_past syncs js c le = ap head_wait (past_end syncs (start syncs) js (ops_past syncs) c le)

-- what one client's entry asks of its job
pub one_next : (jobs : ℕ → List Job) (x : ℕ → Option ℕ) (d p : ℕ) → x d ≡ Some p → IsNext (jobs d) (Wait p) → (c place : ℕ) → cond (c == d) (x c) None ≡ Some place → IsNext (jobs c) (Wait place)
one_next jobs x d p is next c place h = elim (cases_Bool (c == d)) [
  | inl t ↦
      let own : c ≡ d = eqb-true c d t in
      let h' : x c ≡ Some place = rw t at h in
      let e : Some p ≡ Some place = sym is ∙ ap x (sym own) ∙ h' in
      let same : p ≡ place = cc in
      subst (λ k. IsNext (jobs k) (Wait place)) (sym own) (subst (λ q. IsNext (jobs d) (Wait q)) same next)
  | inr f ↦ let h' : None ≡ Some place = rw f at h in absurd cc
]

-- what an entry of both clients asks of their jobs
pub both_next : (jobs : ℕ → List Job) (x : ℕ → Option ℕ) (p q : ℕ) → x 0 ≡ Some p → x 1 ≡ Some q → IsNext (jobs 0) (Wait p) → IsNext (jobs 1) (Wait q)
    → (c place : ℕ) → cond (nat_lt c 2) (x c) None ≡ Some place → IsNext (jobs c) (Wait place)
both_next jobs x p q is is' next next' zero place h = let e : Some p ≡ Some place = sym is ∙ h in let same : p ≡ place = cc in subst (λ k. IsNext (jobs 0) (Wait k)) same next
both_next jobs x p q is is' next next' (suc zero) place h = let e : Some q ≡ Some place = sym is' ∙ h in let same : q ≡ place = cc in subst (λ k. IsNext (jobs 1) (Wait k)) same next'
both_next jobs x p q is is' next next' (suc (suc c)) place h = elim (cases_Bool (nat_lt (suc (suc c)) 2)) [
  | inl t ↦ absurd (omega (arith, ltb-true (suc (suc c)) 2 t))
  | inr f ↦ let h' : None ≡ Some place = rw f at h in absurd cc
]

-- no jobs stay no jobs
still : (jobs : ℕ → List Job) (done : ℕ → Bool) (c : ℕ) → jobs c ≡ [] → without done jobs c ≡ []
still jobs done c h = elim (cases_Bool (done c)) [ inl t ↦ rw t (ap (drop 1) h) | inr f ↦ rw f h ]

pub none_done : (jobs : ℕ → List Job) (ms : List PlacedEntry) (log : List LogEntry) (c : ℕ) → jobs c ≡ [] → jobs_after jobs ms log c ≡ []
none_done jobs ms [] c h = h
none_done jobs ms (Took d p ∷ log) c h = none_done (without (λ k. k == d) jobs) ms log c (still jobs (λ k. k == d) c h)
none_done jobs [] (Performed ∷ log) c h = none_done jobs [] log c h
none_done jobs (m ∷ ms) (Performed ∷ log) c h = none_done (without (λ k. is_some (m.at k)) jobs) ms log c (still jobs (λ k. is_some (m.at k)) c h)
