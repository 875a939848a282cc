use Rattle.std.proofs.Common.{ap}
use Rattle.std.proofs.lemmas.Result.{IfOk-weaker}
use Rattle.stream_replay.specs.Blocks.{ClientIsBehind, IsIssuedInBlock}
use Rattle.stream_replay.specs.declared.client.Client.{Client}
use Rattle.stream_replay.proofs.BlockCommands.{client_behind}
use Rattle.stream_replay.proofs.client.Client.issue_in_block.Goals as goal

pub returns-clause-issued : goal.returns-clause-issued
returns-clause-issued g c =
    let s = g.S.SceneStore.scene c.args.scene.now in
    let client = c.args.client in
    let place = c.args.place in
    IfOk-weaker c.issue_in_block_at.result (IsIssuedInBlock s client place c.issue_in_block_at.new.context)
    (ClientIsBehind s client place c.args.self.now (record c.args.self.now { context = c.issue_in_block_at.new.context }))
    (λ r h. client_behind s client place c.args.self.now c.issue_in_block_at.new.context c.requires.before r h)
    c.issue_in_block_at.ensures.issued

pub issue_in_block_at-requires : goal.issue_in_block_at-requires
issue_in_block_at-requires g c = record {
  within = c.requires.within;
  inside = c.requires.inside;
  before = ap (λ (x : Client). x.context) c.requires.before;
}
