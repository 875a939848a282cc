use Rattle.std.proofs.Common.{◌≡◌, ℕ, ◌∙◌, ap}
use Rattle.std.specs.Prelude.{slice_index_or, slice_set}
use Rattle.std.proofs.lemmas.Result.{IfOk-weaker}
use Rattle.stream_replay.specs.Blocks.{ClientIsBehind, ClientsAreBehind}
use Rattle.stream_replay.proofs.BlockCommands.{clients_behind}
use Rattle.stream_replay.proofs.client.issue_in_block.Goals as goal

pub returns-clause-issued : goal.returns-clause-issued
returns-clause-issued g c =
    let s = g.S.SceneStore.scene c.args.scene.now in
    let n = c.args.name in
    let xs = c.args.clients.now.items in
    let x = c.index_mut.result.now in
    let y = c.issue_in_block.new.self in
    let found : x ≡ slice_index_or xs n.client x = c.index_mut.ensures.value ∙ ap (λ (k : ℕ). slice_index_or xs k x) c.from.ensures in
    IfOk-weaker c.issue_in_block.result (ClientIsBehind s c.from-2.result n.place x y) (ClientsAreBehind s n xs (slice_set xs c.from.result y))
    (λ r h. clients_behind s n xs c.from.result c.from-2.result x y r c.from.ensures c.from-2.ensures c.requires.before found h) c.issue_in_block.ensures.issued
