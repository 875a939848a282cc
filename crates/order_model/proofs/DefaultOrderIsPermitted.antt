-- The default order is permitted.
use Rattle.std.proofs.Common.{◌≡◌, ℕ, true, false, List, [], ◌∷◌, ◌++◌, inl, inr, refl, sym, ap, ◌∙◌, subst, arith, append_assoc, append-nil}
use Rattle.std.proofs.lemmas.Bool.{cases_Bool}
use mathlib.Core.Path.{fun_ext}
use Rattle.rc_base.specs.Orders.Journal.{SyncState, start, is_member, after, IsLegal, IsLegalFrom, stop}
use Rattle.rc_base.specs.Orders.Order.{IsPermitted, all_added, performed, default_from, default_order}
use Rattle.rc_base.specs.Orders.Sync.{IsWellFormed, client_count}
use Rattle.rc_base.specs.declared.sync.Entry.{Entry}
use Rattle.rc_base.specs.declared.sync.Name.{Name}
use Rattle.rc_base.specs.declared.sync.SyncLists.{SyncLists}
use Rattle.order_model.specs.Laws.{AreOfClients}
use Rattle.order_model.proofs.AddedNames.{Tracks, spread_is, spread_tracks}
use Rattle.order_model.proofs.ClientsBeyond.{ops_past, past_after}
use Rattle.order_model.proofs.OrdersBySteps.{Step, behind, passed_by, performed_by, issued_by, spread, order_of, IsRight}
use Rattle.order_model.proofs.OrdersBySteps.Step.{Perform, Issue}
use Rattle.order_model.proofs.SpreadIsRun.{passed_is, passed_not}
use Rattle.order_model.proofs.StepsArePermitted.{Fits, before_stop, fits_stop, fits_after, performed_past, issued_past, steps_permitted}

-- each entry, and after it the members' names below their next operations
abbrev default_steps : SyncLists → SyncState → List Entry → List Step
default_steps syncs s [] = []
default_steps syncs s (e ∷ js) = Perform ∷ Issue (is_member (client_count syncs) e) ∷ default_steps syncs (after syncs s e) js

-- ---- the steps are right

-- after an entry and what its members issue, each client stands at its next operation
all_stop : (syncs : SyncLists) (s : SyncState) (e : Entry) → Fits syncs (after syncs s e) (passed_by syncs s e (stop syncs s)) → (c : ℕ)
    → issued_by syncs (after syncs s e) (is_member (client_count syncs) e) (passed_by syncs s e (stop syncs s)) c ≡ stop syncs (after syncs s e) c
all_stop syncs s e h c =
    let cursor = passed_by syncs s e (stop syncs s) in
    let meant = is_member (client_count syncs) e in
    elim (cases_Bool (meant c)) [
      | inl t ↦ passed_is meant (stop syncs (after syncs s e)) cursor c (before_stop syncs (after syncs s e) cursor h c) t
      | inr f ↦ passed_not meant (stop syncs (after syncs s e)) cursor c f ∙ passed_not meant (behind syncs s) (stop syncs s) c f ∙ same_stop syncs s e c f
    ]
  where
    same_stop : (syncs : SyncLists) (s : SyncState) (e : Entry) (c : ℕ) → is_member (client_count syncs) e c ≡ false → stop syncs s c ≡ stop syncs (after syncs s e) c
    same_stop syncs s e c f = rw f refl

right_default : (syncs : SyncLists) (s : SyncState) (js : List Entry) → Fits syncs s (stop syncs s) → AreOfClients syncs s → IsLegalFrom syncs s js
    → IsRight syncs s (stop syncs s) js (default_steps syncs s js)
right_default syncs s [] fits none legal = (refl, λ c. refl)
right_default syncs s (e ∷ js) fits none legal =
    let s' = after syncs s e in
    let cursor = passed_by syncs s e (stop syncs s) in
    let fits' : Fits syncs s' cursor = fits_after syncs s e (stop syncs s) fits legal.0 in
    subst (λ f. IsRight syncs s' f js (default_steps syncs s' js)) (sym (fun_ext (all_stop syncs s e fits')))
    (right_default syncs s' js (fits_stop syncs s' cursor fits') (past_after syncs s e none) legal.1)

-- ---- they make the default order

made_default : (syncs : SyncLists) (s : SyncState) (js : List Entry) (cursor : ℕ → ℕ) (o : List Name) → AreOfClients syncs s → IsLegalFrom syncs s js → Tracks o cursor
    → default_from syncs s js o ≡ o ++ order_of syncs s cursor js (default_steps syncs s js)
made_default syncs s [] cursor o none legal h = sym (append-nil o)
made_default syncs s (e ∷ js) cursor o none legal h =
    let s' = after syncs s e in
    let n = client_count syncs in
    let meant = is_member n e in
    let mid = passed_by syncs s e cursor in
    let last = issued_by syncs s' meant mid in
    let ones = performed_by syncs s e cursor n in
    let more = spread meant (stop syncs s') mid n in
    let none' = past_after syncs s e none in
    let rest = order_of syncs s' last js (default_steps syncs s' js) in
    let first : performed syncs s e o ≡ o ++ ones = spread_is meant (behind syncs s) cursor n o h in
    let h' : Tracks (o ++ ones) mid = spread_tracks meant (behind syncs s) cursor n o h (performed_past syncs s e cursor none legal.0) in
    let second : all_added meant (stop syncs s') n (o ++ ones) ≡ (o ++ ones) ++ more = spread_is meant (stop syncs s') mid n (o ++ ones) h' in
    let h'' : Tracks ((o ++ ones) ++ more) last = spread_tracks meant (stop syncs s') mid n (o ++ ones) h' (issued_past syncs s' meant mid none') in
    ap (λ x. default_from syncs s' js (all_added meant (stop syncs s') n x)) first
    ∙ ap (default_from syncs s' js) second
    ∙ made_default syncs s' js last ((o ++ ones) ++ more) none' legal.1 h''
    ∙ append_assoc (o ++ ones) more rest
    ∙ append_assoc o ones (more ++ rest)

-- each client's names below its first operation come first
first_stop : (syncs : SyncLists) → IsWellFormed syncs → (c : ℕ) → issued_by syncs (start syncs) (λ c. true) (λ c. 0) c ≡ stop syncs (start syncs) c
first_stop syncs well c = passed_is (λ c. true) (stop syncs (start syncs)) (λ c. 0) c (omega arith) refl

-- all steps of the default order
abbrev first_steps : SyncLists → List Entry → List Step
first_steps syncs js = Issue (λ c. true) ∷ default_steps syncs (start syncs) js

default_right : (syncs : SyncLists) (js : List Entry) → IsWellFormed syncs → IsLegal syncs js → IsRight syncs (start syncs) (λ c. 0) js (first_steps syncs js)
default_right syncs js well legal =
    let s = start syncs in
    subst (λ f. IsRight syncs s f js (default_steps syncs s js)) (sym (fun_ext (first_stop syncs well))) (right_default syncs s js (fits_stop syncs s (λ c. 0) well.rising) (ops_past syncs) legal)

pub default_permitted : (syncs : SyncLists) (js : List Entry) → IsWellFormed syncs → IsLegal syncs js → IsPermitted syncs js (default_order syncs js)
default_permitted syncs js well legal =
    let s = start syncs in
    let n = client_count syncs in
    let first = spread (λ c. true) (stop syncs s) (λ c. 0) n in
    let cursor = issued_by syncs s (λ c. true) (λ c. 0) in
    let zeros : Tracks [] (λ c. 0) = λ c. refl in
    let started : all_added (λ c. true) (stop syncs s) n [] ≡ first = spread_is (λ c. true) (stop syncs s) (λ c. 0) n [] zeros in
    let h : Tracks first cursor = spread_tracks (λ c. true) (stop syncs s) (λ c. 0) n [] zeros (issued_past syncs s (λ c. true) (λ c. 0) (ops_past syncs)) in
    let same : default_order syncs js ≡ order_of syncs s (λ c. 0) js (first_steps syncs js) = ap (default_from syncs s js) started ∙ made_default syncs s js cursor first (ops_past syncs) legal h in
    subst (IsPermitted syncs js) (sym same) (steps_permitted syncs js (first_steps syncs js) well legal (default_right syncs js well legal))
