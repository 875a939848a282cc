-- An order of one client's names.
use Rattle.std.proofs.Common.{◌≡◌, ℕ, suc, ◌+◌, ◌-◌, ◌<◌, ◌≤◌, ◌↔◌, List, [], ◌∷◌, inl, inr, refl, sym, ap, ◌∙◌, subst, arith}
use Rattle.std.proofs.lemmas.Bool.{cases_lt}
use Rattle.rc_base.specs.Orders.Journal.{reach_of, IsLegal}
use Rattle.rc_base.specs.Orders.Order.{IsPermitted, names_from, default_order}
use Rattle.rc_base.specs.Orders.Sync.{IsWellFormed, client_count}
use Rattle.rc_base.specs.declared.sync.Entry.{Entry}
use Rattle.rc_base.specs.declared.sync.Name.{Name}
use Rattle.rc_base.specs.declared.sync.SyncLists.{SyncLists}
use Rattle.order_model.proofs.ClientsBeyond.{reach_past}
use Rattle.order_model.proofs.DefaultOrderIsPermitted.{default_permitted}
use Rattle.order_model.proofs.PermittedAsRuns.{run_of}
use Rattle.order_model.proofs.RunsOfNames.{bump, IsRun}

-- a run of client 0 alone
run_one : (end cursor : ℕ → ℕ) (o : List Name) → ((c : ℕ) → 1 ≤ c → end c ≡ 0) → IsRun end cursor o → o ≡ names_from 0 (cursor 0) (end 0 - cursor 0)
run_one end cursor [] none r = let e : end 0 - cursor 0 ≡ 0 = omega (arith, r 0) in ap (names_from 0 (cursor 0)) (sym e)
run_one end cursor (n ∷ o) none r =
    let own : n.client ≡ 0 = elim (cases_lt n.client 1) [ inl lt ↦ omega arith | inr ge ↦ absurd (omega (arith, none n.client ge, r.1)) ] in
    let place : n.place ≡ cursor 0 = r.0 ∙ ap cursor own in
    let less : cursor 0 < end 0 = omega (arith, r.1, ap end own, place) in
    let more : end 0 - cursor 0 ≡ suc (end 0 - (cursor 0 + 1)) = omega arith in
    let up : bump cursor n.client 0 ≡ cursor 0 + 1 = subst (λ k. bump cursor k 0 ≡ cursor 0 + 1) (sym own) refl in
    let rest = run_one end (bump cursor n.client) o none r.2 in
    let head : n ≡ record { client = 0; place = cursor 0 } = λ i. record { client = own i; place = place i } in
    ap (λ m. m ∷ o) head ∙ ap (λ ns. record { client = 0; place = cursor 0 } ∷ ns) (rest ∙ ap (λ k. names_from 0 k (end 0 - k)) up)
    ∙ sym (ap (names_from 0 (cursor 0)) more)

one_client_order : (syncs : SyncLists) (js : List Entry) (o : List Name) → client_count syncs ≡ 1 → IsPermitted syncs js o → o ≡ names_from 0 0 (reach_of syncs js 0)
one_client_order syncs js o one p =
    run_one (reach_of syncs js) (λ c. 0) o (λ c ge. reach_past syncs js c (omega (arith, one, ge))) (run_of syncs js o p)
    ∙ ap (names_from 0 0) (let e : reach_of syncs js 0 - 0 ≡ reach_of syncs js 0 = omega arith in e)

pub one_client_has_one_order : (syncs : SyncLists) (js : List Entry) (o : List Name) → IsWellFormed syncs → client_count syncs ≡ 1 → IsLegal syncs js
    → IsPermitted syncs js o ↔ (o ≡ names_from 0 0 (reach_of syncs js 0))
one_client_has_one_order syncs js o well one legal =
    let p = default_permitted syncs js well legal in (
      one_client_order syncs js o one,
      λ e. subst (IsPermitted syncs js) (one_client_order syncs js (default_order syncs js) one p ∙ sym e) p,
    )
