use Rattle.std.proofs.Common.{◌∙◌, ◌++◌, [], ◌∷◌, ◌<◌, ◌^◌, List, length, ap, sym, subst, arith}
use Rattle.rc_base.specs.declared.command.Command.{Command}
use Rattle.call_lists.proofs.StreamsExpanded.{expanded_next, few_more, few_stored}
use Rattle.call_lists.proofs.streams.expand_next.Goals as goal

pub of-requires : goal.of-requires
of-requires c =
    subst (λ (commands : List Command). length commands < 2 ^ 32) (sym c.as_slice.ensures)
    (few_stored c.args.so_far.now c.in_ok-commands.field-0 c.args.stream.now c.in_ok-commands.ensures.expanded)

pub overflow_add-so_far : goal.overflow_add-so_far
overflow_add-so_far c =
    let x = c.in_ok-commands.field-0 in
    let ok = c.in_ok-commands.ensures in
    let most = few_more c.args.so_far.now x c.args.stream.now ok.expanded ok.within c.requires.counted in
    omega (arith, most)

pub returns-clause-added : goal.returns-clause-added
returns-clause-added c =
    let x = c.in_ok-commands.field-0 in
    let ok = c.in_ok-commands.ensures in
    let pushed = c.in_ok-push.ensures.items ∙ ap (λ (commands : List Command). c.args.so_far.now.streams ++ commands ∷ []) (c.in_ok-stored.ensures ∙ c.as_slice.ensures) in
    expanded_next c.args.so_far.now x c.push.new.self c.push-2.new.self c.args.stream.now ok.expanded ok.within c.requires.counted pushed c.in_ok-push-2.ensures.items
