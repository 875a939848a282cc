use Rattle.std.proofs.Common.{ℕ, ◌++◌, [], ◌∷◌, List, ◌∙◌, ap, sym, arith}
use Rattle.std.specs.Prelude.{map}
use Rattle.std.specs.List.{range_with_len}
use Rattle.stream_replay.specs.Clients.{client_after}
use Rattle.stream_replay.specs.declared.client.Client.{Client}
use Rattle.stream_replay.proofs.ListsGoOn.{map_more}
use Rattle.stream_replay.proofs.client.clients_of.Goals as goal

pub loop-preserved : goal.loop-preserved
loop-preserved g c =
    let f = λ (client : ℕ). client_after (g.S.SceneStore.scene c.args.scene.now) client 0 in
    let n = c.loop.counter in
    c.in_ok-push.ensures.items
    ∙ ap (λ (l : List Client). l ++ c.in_ok-new.field-0 ∷ []) c.loop.invariant
    ∙ ap (λ (x : Client). map f (range_with_len 0 n) ++ x ∷ []) (c.in_ok-new.ensures n)
    ∙ sym (map_more f 0 n n (omega arith))
