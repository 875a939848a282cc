use Rattle.std.proofs.Common.{◌<◌, ◌≤◌, ◌-◌, [], ◌∷◌, length, subst, List, arith}
use Rattle.std.proofs.lemmas.Result.{err_from_is_err_and}
use Rattle.rc_base.specs.declared.list_command.ListCommand.{ListCommand}
use Rattle.call_lists.specs.Expansion.{called, met_with, TellsTooLong}
use Rattle.call_lists.specs.Giving.{Adds, Meets}
use Rattle.call_lists.proofs.CommandsMet.{adds_none, meets_then}
use Rattle.call_lists.proofs.ListsCalled.{called_none, called_body, called_empty, met_call, tells_met, adds_next, tells_at, adds_all}
use Rattle.call_lists.proofs.calls.+calls.Goals as goal

pub meet_all-returns-in_err-meet : goal.meet_all-returns-in_err-meet
meet_all-returns-in_err-meet t c =
    let p = err_from_is_err_and c.from_residual.result c.from_residual.ensures.1 in
    rw (p.1, p.2) (tells_met (called c.args.lists.now c.args.levels) c.args.given.now.spent c.args.command.now _ c.in_err-meet.ensures)

pub meet_all-returns-in-CallList : goal.meet_all-returns-in-CallList
meet_all-returns-in-CallList t c =
    subst (λ (zs : List ListCommand). Meets c.args.given.now c.meet_list.new.given zs c.meet_list.result) (met_call (called c.args.lists.now c.args.levels) c.args.command.now c.in-CallList.name c.in-CallList.is)
    (meets_then c.args.given.now c.meet.new.self c.meet_list.new.given (c.args.command.now ∷ []) (called c.args.lists.now c.args.levels c.in-CallList.name) c.meet_list.result c.in_ok-meet.ensures c.meet_list.ensures)

pub meet_list-returns-then-levels-eq0 : goal.meet_list-returns-then-levels-eq0
meet_list-returns-then-levels-eq0 t c =
    subst (λ (zs : List ListCommand). Adds c.args.given.now c.args.given.now zs) (called_none c.args.lists.now c.args.levels c.args.name c.if-levels-eq0.true) (adds_none c.args.given.now)

pub meet_list-loop-i-init : goal.meet_list-loop-i-init
meet_list-loop-i-init t c = adds_none c.args.given.now

pub meet_list-returns-in_err-meet_all : goal.meet_list-returns-in_err-meet_all
meet_list-returns-in_err-meet_all t c =
    let p = err_from_is_err_and c.from_residual.result c.from_residual.ensures.1 in
    let some : 0 < c.args.levels = omega (arith, c.if-levels-eq0.false) in
    rw (p.1, p.2)
    (subst (λ (zs : List ListCommand). TellsTooLong c.args.given.now.spent zs c.in_err-meet_all.field-0.0) (called_body c.args.lists.now c.args.levels c.args.name c.in-Some.body.now some c.in-Some.ensures)
    (tells_at (met_with (called c.args.lists.now (c.args.levels - 1))) c.in-Some.body.now c.loop-i.i _ c.args.given.now c.loop-i.given c.in_err-meet_all.field-0.0 c.at-in-loop-i.ensures c.loop-i.invariant c.in_err-meet_all.ensures))

pub meet_list-loop-i-preserved : goal.meet_list-loop-i-preserved
meet_list-loop-i-preserved t c =
    adds_next (met_with (called c.args.lists.now (c.args.levels - 1))) c.in-Some.body.now c.loop-i.i _ c.args.given.now c.loop-i.given c.meet_all.new.given c.at-in-loop-i.ensures c.loop-i.invariant c.in_ok-meet_all.ensures

pub meet_list-returns-after-loop-i : goal.meet_list-returns-after-loop-i
meet_list-returns-after-loop-i t c =
    let some : 0 < c.args.levels = omega (arith, c.if-levels-eq0.false) in
    let end : length c.in-Some.body.now ≤ c.loop-i.i = omega (arith, c.loop-i-test.false, c.len-i-end.ensures) in
    subst (λ (zs : List ListCommand). Adds c.args.given.now c.loop-i.given zs) (called_body c.args.lists.now c.args.levels c.args.name c.in-Some.body.now some c.in-Some.ensures)
    (adds_all (met_with (called c.args.lists.now (c.args.levels - 1))) c.in-Some.body.now c.loop-i.i c.args.given.now c.loop-i.given end c.loop-i.invariant)

pub meet_list-returns-in_default : goal.meet_list-returns-in_default
meet_list-returns-in_default t c =
    let some : 0 < c.args.levels = omega (arith, c.if-levels-eq0.false) in
    subst (λ (zs : List ListCommand). Adds c.args.given.now c.args.given.now zs) (called_empty c.args.lists.now c.args.levels c.args.name some c.in_default.ensures) (adds_none c.args.given.now)
