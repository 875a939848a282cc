use Rattle.std.proofs.Common.{◌≡◌, ◌+◌, ◌-◌, ℕ, length, subst, arith}
use Rattle.step_core.specs.Steps.{Turns}
use Rattle.step_core.proofs.cluster.Cluster.step.Goals as goal

pub returns-clause-turn : goal.returns-clause-turn
returns-clause-turn c =
    let before = c.args.self.now in
    let here : length before.clients.items + 1 + (c.args.number - c.len-clients.result - 1) ≡ c.args.number = omega
    (arith, c.len-clients.ensures, c.if-number-clients.false, c.if-number-clients-2.false) in
    subst (λ (n : ℕ). Turns n before c.step_tile.result c.step_tile.new.self) here c.step_tile.ensures.turn
