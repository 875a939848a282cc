use Rattle.std.proofs.Common.{◌∙◌, ap, sym}
use Rattle.rc_base.specs.Contexts.Context.{default_context}
use Rattle.gl_context.proofs.OneMoreCommand.{begins}
use Rattle.stream_replay.proofs.AcceptedSwaps.{no_swaps}
use Rattle.stream_replay.proofs.client.Client.new.Goals as goal

pub returns : goal.returns
returns g c client =
    let s = g.S.SceneStore.scene c.args.scene.now in
    let context = c.in_ok-new.ensures ∙ ap default_context c.decl.ensures ∙ sym (begins s client) in
    λ i. record { context = context i; swaps = no_swaps s client i }
