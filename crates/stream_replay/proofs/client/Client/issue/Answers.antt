use Rattle.std.proofs.Common.{◌≡◌, ℕ, ◌+◌, ◌∙◌, Bool, arith, ap, sym, if◌then◌else◌}
use Rattle.rc_base.specs.Drawing.Serial.{is_swap_effect, accepted_swaps}
use Rattle.rc_base.proofs.WithinLimits.{few_commands}
use Rattle.stream_replay.specs.declared.client.Client.{Client}
use Rattle.stream_replay.proofs.AcceptedSwaps.{swaps_next, swaps_most, byte_most, byte_is}
use Rattle.stream_replay.proofs.client.Client.issue.Goals as goal

pub overflow_add-self : goal.overflow_add-self
overflow_add-self g c =
    let s = g.S.SceneStore.scene c.args.scene.now in
    let swaps : c.args.self.now.swaps ≡ accepted_swaps s c.args.client c.args.place = ap (λ (x : Client). x.swaps) c.requires.before in
    omega (arith, swaps, swaps_most s c.args.client c.args.place, c.requires.inside, few_commands s c.requires.within.limits c.args.client, c.from.ensures, byte_most c.is_swap.result)

pub returns-clause-client : goal.returns-clause-client
returns-clause-client g c =
    let s = g.S.SceneStore.scene c.args.scene.now in
    let before = accepted_swaps s c.args.client c.args.place in
    let swaps : c.args.self.now.swaps ≡ before = ap (λ (x : Client). x.swaps) c.requires.before in
    let step : c.from.result ≡ (if is_swap_effect c.in_ok-effect.effect then 1 else 0) =
    c.from.ensures ∙ byte_is c.is_swap.result ∙ ap (λ (b : Bool). if b then 1 else 0) c.is_swap.ensures in
    let more : c.args.self.now.swaps + c.from.result ≡ accepted_swaps s c.args.client (c.args.place + 1) =
    ap (λ (n : ℕ). n + c.from.result) swaps ∙ ap (λ (n : ℕ). before + n) (step ∙ ap (λ e. if is_swap_effect e then 1 else 0) c.in_ok-effect.ensures.effect)
    ∙ sym (swaps_next s c.args.client c.args.place) in
    λ i. record { context = c.in_ok-effect.ensures.context i; swaps = more i }
