-- What a step makes of a tile's progress with one client.
use Rattle.std.proofs.Common.{◌≡◌, ℕ, zero, suc, ◌+◌, ◌<◌, Bool, true, false, List, [], ◌∷◌, drop, length, refl, sym, subst, arith, true≢false}
use Rattle.order_model.specs.Log.{Job, IsNext}
use Rattle.order_model.specs.Log.Job.{Work, Wait}
use Rattle.order_model.specs.Standing.{IsClientAt}

-- where something is left, not all is dropped
pub below_end : {A : Type 0} (xs : List A) (k : ℕ) (x : A) (rest : List A) → drop k xs ≡ x ∷ rest → k < length xs
below_end [] zero x rest n = absurd cc
below_end [] (suc k) x rest n = absurd cc
below_end (y ∷ xs) zero x rest n = omega arith
below_end (y ∷ xs) (suc k) x rest n = omega (arith, below_end xs k x rest n)

pub client_first : (jobs : List Job) (over : Bool) → IsClientAt jobs 0 0 false false over
client_first jobs over = record {
  within = omega arith;
  holds = λ h. absurd (true≢false (sym h));
  taken_so = λ h. absurd (true≢false (sym h));
  no_more_so = λ h. absurd (true≢false (sym h));
  unheld = λ h k. refl;
  ended = λ h k. absurd (true≢false (sym k));
  all_taken = (λ h. absurd (true≢false (sym h)), λ e. absurd (omega arith));
}

pub client_took : (jobs : List Job) (cursor taken : ℕ) (over : Bool) (place : ℕ) → IsClientAt jobs cursor taken false false over → IsNext (drop taken jobs) (Work place)
    → IsClientAt jobs (1 + cursor) (taken + 1) false false over
client_took jobs cursor taken over place h next =
    let low = below_end jobs taken (Work place) next.0 next.1 in
    let same = h.unheld refl refl in record {
      within = omega arith;
      holds = λ h. absurd (true≢false (sym h));
      taken_so = λ h. absurd (true≢false (sym h));
      no_more_so = λ h. absurd (true≢false (sym h));
      unheld = λ h k. omega arith;
      ended = λ h k. absurd (true≢false (sym k));
      all_taken = (λ h. absurd (true≢false (sym h)), λ e. absurd (omega arith));
    }

pub client_held : (jobs : List Job) (cursor taken : ℕ) (over : Bool) (place : ℕ) → IsClientAt jobs cursor taken false false over → IsNext (drop taken jobs) (Wait place)
    → IsClientAt jobs cursor (taken + 1) true false over
client_held jobs cursor taken over place h next =
    let low = below_end jobs taken (Wait place) next.0 next.1 in
    let same = h.unheld refl refl in record {
      within = omega arith;
      holds = λ h. (place, subst (λ k. IsNext (drop k jobs) (Wait place)) (sym same) next);
      taken_so = λ h. omega arith;
      no_more_so = λ h k. omega arith;
      unheld = λ h. absurd (true≢false h);
      ended = λ h. absurd (true≢false h);
      all_taken = (λ h. absurd (true≢false (sym h)), λ e. absurd (omega arith));
    }

pub client_closed : (jobs : List Job) (cursor taken : ℕ) (over : Bool) → IsClientAt jobs cursor taken false false over → taken ≡ length jobs
    → IsClientAt jobs cursor (taken + 1) false true over
client_closed jobs cursor taken over h all =
    let same = h.unheld refl refl in record {
      within = omega arith;
      holds = λ h. absurd (true≢false (sym h));
      taken_so = λ h. absurd (true≢false (sym h));
      no_more_so = λ h. absurd (true≢false (sym h));
      unheld = λ h k. absurd (true≢false k);
      ended = λ h k. omega arith;
      all_taken = (λ h. omega arith, λ e. refl);
    }

-- once nothing will be performed any more
pub client_dropped : (jobs : List Job) (cursor taken : ℕ) → IsClientAt jobs cursor taken true false true → taken < length jobs
    → IsClientAt jobs cursor (taken + 1) true false true
client_dropped jobs cursor taken h low = record {
  within = omega arith;
  holds = h.holds;
  taken_so = λ k. let t = h.taken_so k in omega arith;
  no_more_so = λ k o. absurd (true≢false o);
  unheld = λ k. absurd (true≢false k);
  ended = λ k. absurd (true≢false k);
  all_taken = (λ h. absurd (true≢false (sym h)), λ e. absurd (omega arith));
}

pub client_closed_late : (jobs : List Job) (cursor taken : ℕ) → IsClientAt jobs cursor taken true false true → taken ≡ length jobs
    → IsClientAt jobs cursor (taken + 1) true true true
client_closed_late jobs cursor taken h all = record {
  within = omega arith;
  holds = h.holds;
  taken_so = λ k. let t = h.taken_so k in omega arith;
  no_more_so = λ k o. absurd (true≢false o);
  unheld = λ k. absurd (true≢false k);
  ended = λ k. absurd (true≢false k);
  all_taken = (λ h. omega arith, λ e. refl);
}

-- a held client whose operation is performed is open
pub client_performed : (jobs : List Job) (cursor taken : ℕ) (closed over : Bool) → IsClientAt jobs cursor taken true closed false
    → IsClientAt jobs (1 + cursor) taken false closed over
client_performed jobs cursor taken closed over h =
    let n = h.holds refl in
    let low = below_end jobs cursor (Wait n.0) n.1.0 n.1.1 in
    let t = h.no_more_so refl refl in record {
      within = h.within;
      holds = λ h. absurd (true≢false (sym h));
      taken_so = λ h. absurd (true≢false (sym h));
      no_more_so = λ h. absurd (true≢false (sym h));
      unheld = λ k o. omega arith;
      ended = λ k o. let all = h.all_taken.0 o in absurd (omega arith);
      all_taken = h.all_taken;
    }

pub client_later : (jobs : List Job) (cursor taken : ℕ) (held closed over over' : Bool) → (over' ≡ false → over ≡ false) → IsClientAt jobs cursor taken held closed over
    → IsClientAt jobs cursor taken held closed over'
client_later jobs cursor taken held closed over over' less h = record {
  within = h.within;
  holds = h.holds;
  taken_so = h.taken_so;
  no_more_so = λ k o. h.no_more_so k (less o);
  unheld = h.unheld;
  ended = h.ended;
  all_taken = h.all_taken;
}
