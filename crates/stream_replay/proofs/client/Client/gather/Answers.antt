use Rattle.std.proofs.Common.{◌≡◌, ℕ, ◌∙◌, ap, sym}
use Rattle.std.proofs.lemmas.Result.{IfOk-weaker}
use Rattle.stream_replay.specs.Clients.{client_after}
use Rattle.stream_replay.specs.Runs.{IsBehindRun, IsGatheredRun}
use Rattle.stream_replay.specs.declared.client.Client.{Client}
use Rattle.stream_replay.proofs.GatheredCommands.{swaps_over_run}
use Rattle.stream_replay.proofs.client.Client.gather.Goals as goal

pub returns-clause-client : goal.returns-clause-client
returns-clause-client g c =
    let s = g.S.SceneStore.scene c.args.scene.now in
    let client = c.args.client in
    let from = c.args.from in
    let to = c.args.to in
    let after = c.gather_at.new.context in
    let x = c.args.self.now in
    IfOk-weaker c.gather_at.result (IsBehindRun s client from to after)
    (λ (place : ℕ). (let v : Client = record x { context = after } in v) ≡ client_after s client place)
    (λ place behind i. record {
      context = behind.context i;
      swaps = (ap (λ (v : Client). v.swaps) c.requires.before ∙ sym (swaps_over_run s client from to place behind.run)) i;
    })
    c.gather_at.ensures

pub returns-clause-run : goal.returns-clause-run
returns-clause-run g c =
    let s = g.S.SceneStore.scene c.args.scene.now in
    IfOk-weaker c.gather_at.result (IsBehindRun s c.args.client c.args.from c.args.to c.gather_at.new.context)
    (IsGatheredRun s c.args.client c.args.from c.args.to)
    (λ place behind. behind.run)
    c.gather_at.ensures
