use Rattle.std.proofs.Common.{◌≡◌, ◌+◌, ◌∙◌, Some, arith, sym, ap}
use Rattle.std.proofs.lemmas.Result.{IfOk-equal, IfOk-weaker}
use Rattle.rc_base.specs.Contexts.Context.{ClientContext}
use Rattle.rc_base.specs.Contexts.Issue.{issued, effect_of, effect_at, context_after}
use Rattle.rc_base.specs.declared.command.Command.{Command}
use Rattle.rc_base.specs.declared.state.Effect.{Effect}
use Rattle.rc_base.proofs.WithinLimits.{few_commands}
use Rattle.gl_context.proofs.OneMoreCommand.{goes_on}
use Rattle.stream_replay.proofs.IssuedCommands.{texels_at, room_at}
use Rattle.stream_replay.proofs.replay.issue_at.Goals as goal

pub issue-requires-clause-texels : goal.issue-requires-clause-texels
issue-requires-clause-texels g c = texels_at (g.S.SceneStore.scene c.args.scene.now) c.args.client c.args.place c.deref-command.result.now c.requires.within.commands (c.command_at-stored.ensures ∙ ap (λ (v : Command). Some v) (sym c.deref-command.ensures))

pub issue-requires-clause-room : goal.issue-requires-clause-room
issue-requires-clause-room g c name low high =
    room_at (g.S.SceneStore.scene c.args.scene.now) c.args.client c.args.place name c.args.context.now c.requires.before c.requires.inside (few_commands (g.S.SceneStore.scene c.args.scene.now) c.requires.within.limits c.args.client)

pub returns-clause-context : goal.returns-clause-context
returns-clause-context g c =
    let x = c.args.context.now in
    let command = c.deref-command.result.now in
    let next = (goes_on (g.S.SceneStore.scene c.args.scene.now) c.args.client c.args.place command (c.command_at-stored.ensures ∙ ap (λ (v : Command). Some v) (sym c.deref-command.ensures))).0 in
    IfOk-equal c.issue.result c.issue.new.self (issued x c.args.place command) (context_after (g.S.SceneStore.scene c.args.scene.now) c.args.client (c.args.place + 1))
    c.issue.ensures.ok (ap (λ (y : ClientContext). issued y c.args.place command) c.requires.before ∙ sym next)

pub returns-clause-effect : goal.returns-clause-effect
returns-clause-effect g c =
    let x = c.args.context.now in
    let command = c.deref-command.result.now in
    let next = (goes_on (g.S.SceneStore.scene c.args.scene.now) c.args.client c.args.place command (c.command_at-stored.ensures ∙ ap (λ (v : Command). Some v) (sym c.deref-command.ensures))).1 in
    IfOk-weaker c.issue.result (λ (e : Effect). e ≡ effect_of x command) (λ (e : Effect). e ≡ effect_at (g.S.SceneStore.scene c.args.scene.now) c.args.client c.args.place)
    (λ e is. is ∙ ap (λ (y : ClientContext). effect_of y command) c.requires.before ∙ sym next) c.issue.ensures.effect

pub overflow_cast-place : goal.overflow_cast-place
overflow_cast-place g c = let few = few_commands (g.S.SceneStore.scene c.args.scene.now) c.requires.within.limits c.args.client in omega (arith, few)
