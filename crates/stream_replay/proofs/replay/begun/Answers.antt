use Rattle.std.proofs.Common.{refl, sym, subst}
use Rattle.rc_base.specs.Contexts.Issue.{context_after}
use Rattle.rc_base.specs.declared.command.Command.TheVariants as cmd
use Rattle.rc_base.specs.declared.state.Effect.{Effect}
use Rattle.stream_replay.specs.Clients.{IsStill}
use Rattle.stream_replay.proofs.BlockCommands.{behind, does, still_begin}
use Rattle.stream_replay.proofs.replay.begun.Goals as goal

pub returns-then-begin-clause-issued : goal.returns-then-begin-clause-issued
returns-then-begin-clause-issued g c =
    let s = g.S.SceneStore.scene c.args.scene.now in
    let client = c.args.client in
    let place = c.args.place in
    let command = cmd.Begin c.args.mode in (
      behind s client place command c.args.context.now c.begin.new.self c.requires.at c.requires.before (c.begin.ensures.issued c.if-begin.true place) refl,
      subst (λ (e : Effect). IsStill e) (sym (does s client place command c.requires.at)) (still_begin (context_after s client place) c.args.mode),
    )
