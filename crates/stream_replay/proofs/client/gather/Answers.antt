use Rattle.std.proofs.Common.{◌≡◌, ℕ, ◌∙◌, ap, subst, sym}
use Rattle.std.specs.Prelude.{slice_index_or, slice_set}
use Rattle.std.proofs.lemmas.Result.{IfOk-weaker}
use Rattle.plain_lemmas.proofs.Lists.{read_is_item}
use Rattle.stream_replay.specs.Clients.{AreCommandsOf, client_after}
use Rattle.stream_replay.specs.Runs.{IsGatheredRun}
use Rattle.stream_replay.specs.declared.client.Client.{Client}
use Rattle.stream_replay.proofs.client.gather.Goals as goal

pub gather-requires-clause-commands : goal.gather-requires-clause-commands
gather-requires-clause-commands g c =
    let s = g.S.SceneStore.scene c.args.scene.now in
    subst (λ (k : ℕ). AreCommandsOf s k c.args.from c.args.to) (sym c.from-2.ensures) c.requires.commands

pub gather-requires-clause-before : goal.gather-requires-clause-before
gather-requires-clause-before g c =
    let s = g.S.SceneStore.scene c.args.scene.now in
    let xs = c.args.clients.now.items in
    let x = c.index_mut.result.now in
    let v = client_after s c.args.client c.args.from in
    read_is_item xs c.args.client x v c.requires.before (c.index_mut.ensures.value ∙ ap (λ (k : ℕ). slice_index_or xs k x) c.from.ensures)
    ∙ ap (λ (k : ℕ). client_after s k c.args.from) (sym c.from-2.ensures)

pub returns-clause-clients : goal.returns-clause-clients
returns-clause-clients g c =
    let s = g.S.SceneStore.scene c.args.scene.now in
    let xs = c.args.clients.now.items in
    let y = c.gather.new.self in
    IfOk-weaker c.gather.result (λ (place : ℕ). y ≡ client_after s c.from-2.result place)
    (λ (place : ℕ). slice_set xs c.from.result y ≡ slice_set xs c.args.client (client_after s c.args.client place))
    (λ place is.
    ap (λ (k : ℕ). slice_set xs k y) c.from.ensures
    ∙ ap (λ (v : Client). slice_set xs c.args.client v) (is ∙ ap (λ (k : ℕ). client_after s k place) c.from-2.ensures))
    c.gather.ensures.client

pub returns-clause-run : goal.returns-clause-run
returns-clause-run g c =
    let s = g.S.SceneStore.scene c.args.scene.now in
    IfOk-weaker c.gather.result (IsGatheredRun s c.from-2.result c.args.from c.args.to) (IsGatheredRun s c.args.client c.args.from c.args.to)
    (λ place h. subst (λ (k : ℕ). IsGatheredRun s k c.args.from c.args.to place) c.from-2.ensures h)
    c.gather.ensures.run
