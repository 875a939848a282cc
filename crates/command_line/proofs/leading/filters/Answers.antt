use Rattle.std.proofs.Common.{◌≡◌, ◌++◌, ◌∷◌, [], refl, sym, subst, map, arith, ◌∙◌, inr, true}
use Rattle.std.specs.Prelude.{string_bytes}
use Rattle.command_line.specs.Filters.{BeginsFilter, due_words}
use Rattle.command_line.proofs.FilterLines.{HasRead, begins_before, too_many, read_more, chain_read, chain_is_none, fewer}
use Rattle.command_line.proofs.leading.filters.Goals as goal

pub returns-then-len-eq-MOST_FILTERS-clause-none : goal.returns-then-len-eq-MOST_FILTERS-clause-none
returns-then-len-eq-MOST_FILTERS-clause-none c =
    let f = c.in-Some.ensures in
    (λ _. inr (too_many _ _ _ c.loop-rest.invariant.0 f.0 f.1 _ f.2 (sym c.len.ensures ∙ c.if-len-eq-MOST_FILTERS.true)), λ _. refl)

pub loop-rest-preserved : goal.loop-rest-preserved
loop-rest-preserved c =
    let f = c.in-Some.ensures in
    let read : HasRead (map string_bytes c.args.words.now) (map string_bytes c.in-Some.behind.now) (c.loop-rest.rules ++ c.in-Some.rule ∷ []) =
    read_more _ _ _ c.loop-rest.invariant.0 f.0 f.1 _ f.2 c.in-Some.rule f.3 (λ e. c.if-len-eq-MOST_FILTERS.false (c.len.ensures ∙ e)) in
    let less = fewer string_bytes c.loop-rest.rest.now c.in-Some.behind.now f.0 f.2 in
    let before = c.loop-rest.invariant.1 in
    (subst (HasRead (map string_bytes c.args.words.now) (map string_bytes c.in-Some.behind.now)) (sym c.in_ok-push-in-Some.ensures.items) read, omega arith)

pub returns-clause-none : goal.returns-clause-none
returns-clause-none c =
    let ends : BeginsFilter (map string_bytes c.loop-rest.rest.now) → ⊥ = λ b. let holds : c.begins_filter.result ≡ true = c.begins_filter.ensures.1 b in absurd cc in
    (λ e. absurd cc, λ none. absurd (chain_is_none _ _ _ (chain_read _ _ _ c.loop-rest.invariant.0 ends) none))

pub returns-in_err-push-in-Some-clause-alone : goal.returns-in_err-push-in-Some-clause-alone
returns-in_err-push-in-Some-clause-alone c = λ none.
    let f = c.in-Some.ensures in
    absurd (none (begins_before _ _ _ c.loop-rest.invariant.0 (f.0, due_words f.0 ++ map string_bytes c.in-Some.behind.now, f.2)))
