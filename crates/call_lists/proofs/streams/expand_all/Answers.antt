use Rattle.std.proofs.Common.{◌≤◌, List, length, refl, arith, ◌∙◌, sym, ap, subst}
use Rattle.std.specs.List.{AllByRecursion}
use Rattle.std.specs.Prelude.{Some}
use Rattle.std.proofs.lemmas.Result.{err_from_is_err_and}
use Rattle.std.proofs.lemmas.Option.{slice_get-get_or}
use Rattle.rc_base.specs.declared.list_command.ListCommand.{ListCommand}
use Rattle.call_lists.specs.Expansion.{TellsTooLong}
use Rattle.call_lists.specs.Scenes.{met_in, IsShort, AreExpanded}
use Rattle.call_lists.proofs.StreamsExpanded.{streams_forced, streams_too_long, come_none, come_next, come_all, come_to_fail, short_at}
use Rattle.call_lists.proofs.streams.expand_all.Goals as goal

pub loop-i-init : goal.loop-i-init
loop-i-init c = come_none _ _ c.new.ensures c.new-2.ensures refl refl

pub expand_next-requires-clause-places : goal.expand_next-requires-clause-places
expand_next-requires-clause-places c =
    let at = slice_get-get_or c.as_slice-streams.result.now c.loop-i.i c.index-streams-i.result c.loop-i-test.true ∙ ap (λ x. Some x) (sym c.index-streams-i.is) in
    short_at c.as_slice-streams.result.now c.loop-i.i c.index-streams-i.result at
    (subst (λ (ss : List (List ListCommand)). AllByRecursion IsShort ss) (sym c.as_slice-streams.ensures) c.requires)

pub loop-i-preserved : goal.loop-i-preserved
loop-i-preserved c =
    let at = slice_get-get_or c.as_slice-streams.result.now c.loop-i.i c.index-streams-i.result c.loop-i-test.true ∙ ap (λ x. Some x) (sym c.index-streams-i.is) in
    come_next c.as_slice-streams.result.now c.loop-i.i c.index-streams-i.result c.loop-i.so_far c.expand_next.new.so_far at c.loop-i.invariant c.in_ok-expand_next.ensures.added

pub returns-in_err-expand_next-clause-too_long : goal.returns-in_err-expand_next-clause-too_long
returns-in_err-expand_next-clause-too_long c =
    let p = err_from_is_err_and c.from_residual.result c.from_residual.ensures.1 in
    let at = slice_get-get_or c.as_slice-streams.result.now c.loop-i.i c.index-streams-i.result c.loop-i-test.true ∙ ap (λ x. Some x) (sym c.index-streams-i.is) in
    rw (p.1, p.2)
    (subst (λ (ss : List (List ListCommand)). TellsTooLong 0 (met_in ss) c.in_err-expand_next.field-0.0) c.as_slice-streams.ensures
    (come_to_fail c.as_slice-streams.result.now c.loop-i.i c.index-streams-i.result c.loop-i.so_far _ at c.loop-i.invariant c.in_err-expand_next.ensures.too_long))

pub returns-clause-expanded : goal.returns-clause-expanded
returns-clause-expanded c =
    let end : length c.as_slice-streams.result.now ≤ c.loop-i.i = omega (arith, c.loop-i-test.false) in
    subst (λ (ss : List (List ListCommand)). AreExpanded ss c.loop-i.so_far) c.as_slice-streams.ensures (come_all c.as_slice-streams.result.now c.loop-i.i c.loop-i.so_far end c.loop-i.invariant)

pub returns-in_err-expand_next-clause-expanded_only : goal.returns-in_err-expand_next-clause-expanded_only
returns-in_err-expand_next-clause-expanded_only c = streams_forced _ c.args.streams.now (returns-in_err-expand_next-clause-too_long c)

pub returns-in_err-expand_next-clause-too_long_only : goal.returns-in_err-expand_next-clause-too_long_only
returns-in_err-expand_next-clause-too_long_only c =
    let p = err_from_is_err_and c.from_residual.result c.from_residual.ensures.1 in
    streams_too_long _ c.args.streams.now (rw p.1 tt) (rw p.1 tt) (returns-in_err-expand_next-clause-too_long c)

pub returns-clause-too_long_only : goal.returns-clause-too_long_only
returns-clause-too_long_only c = streams_too_long _ c.args.streams.now (returns-clause-expanded c) c.loop-i.invariant.within tt
