use Rattle.std.proofs.Common.{◌∙◌, ap, refl, sym}
use Rattle.rc_base.specs.Contexts.Context.{ClientContext}
use Rattle.rc_base.specs.Contexts.Issue.{effect_of}
use Rattle.rc_base.specs.declared.command.Command.TheVariants as cmd
use Rattle.stream_replay.proofs.BlockCommands.{behind, does}
use Rattle.stream_replay.proofs.replay.ended.Goals as goal

pub returns-in-Some-clause-issued : goal.returns-in-Some-clause-issued
returns-in-Some-clause-issued g c =
    let s = g.S.SceneStore.scene c.args.scene.now in
    let client = c.args.client in
    let place = c.args.place in (
      behind s client place cmd.End c.args.context.now c.end.new.self c.requires.at c.requires.before (c.in-Some.ensures.issued place) refl,
      does s client place cmd.End c.requires.at ∙ ap (λ (x : ClientContext). effect_of x cmd.End) (sym c.requires.before) ∙ c.in-Some.ensures.effect,
    )
