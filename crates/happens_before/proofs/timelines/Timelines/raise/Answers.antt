use Rattle.std.proofs.Common.{◌≡◌, ◌<◌, ℕ, max, length, slice_index, slice_index_or, [], List, ◌∷◌, ◌++◌, slice_set, ap, ◌∙◌, sym, arith, refl, subst, Result, Ok, Err, get_or-set_same, get_or-set_other}
use Rattle.std.specs.Prelude.{OnErr}
use Rattle.std.proofs.lemmas.List.{get_or_default, set-get_or}
use Rattle.happens_before.specs.Timelines.{AreChanges}
use Rattle.happens_before.specs.declared.timelines.Change.{Change}
use Rattle.happens_before.proofs.ChangesInTurn.{push_raises, push_changes}
use Rattle.happens_before.proofs.timelines.Timelines.raise.Goals as goal

mine : (lists : List (List Change)) (c : ℕ) (was now : List Change) (x : Change) → c < length lists → was ≡ slice_index_or lists c was → now ≡ was ++ x ∷ []
    → slice_index_or (slice_set lists c now) c [] ≡ slice_index_or lists c [] ++ x ∷ []
mine lists c was now x lt e h = get_or-set_same lists c now [] lt ∙ h ∙ ap (λ (xs : List Change). xs ++ x ∷ []) (e ∙ get_or_default lists c was [] lt)

pub returns-clause-clock : goal.returns-clause-clock
returns-clause-clock c =
    let old = c.args.self.now.clients.items in
    let new = slice_set old c.args.client c.push.new.self in
    let x : Change = record { from = c.args.from; before = c.join.new.into } in
    let lt : c.args.client < length old = omega (arith, c.requires.client, c.requires.timelines.clients) in
    push_raises old new c.args.client c.args.from x c.args.gate.now c.requires.late refl
    (λ d. c.join.ensures d ∙ ap (λ v. max (slice_index v d) (slice_index c.args.gate.now d)) c.before-before.ensures)
    (mine old c.args.client c.index_mut.result.now c.push.new.self x lt c.index_mut.ensures.value c.in_ok-push.ensures.items)
    (λ e ne. get_or-set_other old c.args.client e c.push.new.self [] ne)

pub returns-clause-changes : goal.returns-clause-changes
returns-clause-changes c =
    let old = c.args.self.now.clients.items in
    let x : Change = record { from = c.args.from; before = c.join.new.into } in
    let lt : c.args.client < length old = omega (arith, c.requires.client, c.requires.timelines.clients) in
    subst (λ xs. AreChanges 0 xs c.args.from) (sym (mine old c.args.client c.index_mut.result.now c.push.new.self x lt c.index_mut.ensures.value c.in_ok-push.ensures.items))
    (push_changes 0 (slice_index_or old c.args.client []) x c.requires.late)

on_err : {X E : Type 0} (r : Result X E) (P : Type 0) → P → OnErr r P
on_err (Ok x) P p = tt
on_err (Err e) P p = p

pub returns-in_err-push-clause-err : goal.returns-in_err-push-clause-err
returns-in_err-push-clause-err c =
    let old = c.args.self.now.clients.items in
    let was = c.index_mut.result.now in
    on_err c.from_residual.result (slice_set old c.args.client c.push.new.self ≡ old)
    (ap (λ (xs : List Change). slice_set old c.args.client xs) (c.in_err-push.ensures.items ∙ c.index_mut.ensures.value) ∙ set-get_or old c.args.client was)
