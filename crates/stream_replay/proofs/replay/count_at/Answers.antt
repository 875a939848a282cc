use Rattle.std.proofs.Common.{◌≡◌, ◌+◌, ◌<◌, ◌^◌, ◌∙◌, refl, Some, arith, sym, ap, subst}
use Rattle.std.proofs.lemmas.Result.{IfOk-weaker}
use Rattle.rc_base.specs.Contexts.Context.{ClientContext, edit_of}
use Rattle.rc_base.specs.Contexts.Issue.{issued, effect_of, effect_at, context_after}
use Rattle.rc_base.specs.declared.command.Command.{Command}
use Rattle.rc_base.proofs.WithinLimits.{few_commands}
use Rattle.gl_context.specs.Counted.{counted, kind_of}
use Rattle.gl_context.specs.declared.counting.CountingContext.{CountingContext}
use Rattle.gl_context.specs.declared.counting.EffectKind.{EffectKind}
use Rattle.gl_context.proofs.OneMoreCommand.{goes_on}
use Rattle.stream_replay.proofs.IssuedCommands.{texels_at, room_at}
use Rattle.stream_replay.proofs.replay.count_at.Goals as goal

pub issue-requires-clause-texels : goal.issue-requires-clause-texels
issue-requires-clause-texels g c = texels_at (g.S.SceneStore.scene c.args.scene.now) c.args.client c.args.place c.deref-command.result.now c.requires.within.commands (c.command_at-stored.ensures ∙ ap (λ (v : Command). Some v) (sym c.deref-command.ensures))

pub issue-requires-clause-room : goal.issue-requires-clause-room
issue-requires-clause-room g c name low high =
    let s = g.S.SceneStore.scene c.args.scene.now in
    let x = context_after s c.args.client c.args.place in
    subst (λ (v : CountingContext). edit_of v.outside name + 1 < 2 ^ 32) (sym c.requires.before)
    (room_at s c.args.client c.args.place name x refl c.requires.inside (few_commands s c.requires.within.limits c.args.client))

pub returns-clause-context : goal.returns-clause-context
returns-clause-context g c =
    let s = g.S.SceneStore.scene c.args.scene.now in
    let x = context_after s c.args.client c.args.place in
    let command = c.deref-command.result.now in
    let next = (goes_on s c.args.client c.args.place command (c.command_at-stored.ensures ∙ ap (λ (v : Command). Some v) (sym c.deref-command.ensures))).0 in
    IfOk-weaker c.issue.result (λ (k : EffectKind). (y : ClientContext) → c.args.counting.now ≡ counted y → c.issue.new.self ≡ counted (issued y c.args.place command))
    (λ (k : EffectKind). c.issue.new.self ≡ counted (context_after s c.args.client (c.args.place + 1)))
    (λ k step. step x c.requires.before ∙ ap counted (sym next)) c.issue.ensures.ok

pub returns-clause-kind : goal.returns-clause-kind
returns-clause-kind g c =
    let s = g.S.SceneStore.scene c.args.scene.now in
    let x = context_after s c.args.client c.args.place in
    let command = c.deref-command.result.now in
    let next = (goes_on s c.args.client c.args.place command (c.command_at-stored.ensures ∙ ap (λ (v : Command). Some v) (sym c.deref-command.ensures))).1 in
    IfOk-weaker c.issue.result (λ (k : EffectKind). (y : ClientContext) → c.args.counting.now ≡ counted y → k ≡ kind_of (effect_of y command))
    (λ (k : EffectKind). k ≡ kind_of (effect_at s c.args.client c.args.place))
    (λ k is. is x c.requires.before ∙ ap kind_of (sym next)) c.issue.ensures.kind

pub overflow_cast-place : goal.overflow_cast-place
overflow_cast-place g c = let few = few_commands (g.S.SceneStore.scene c.args.scene.now) c.requires.within.limits c.args.client in omega (arith, few)
