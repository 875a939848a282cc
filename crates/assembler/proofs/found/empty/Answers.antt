use Rattle.std.proofs.Common.{ℕ, None, replicate, ap, ◌∙◌, arith}
use Rattle.assembler.proofs.Waiting.{all_empty}
use Rattle.assembler.proofs.found.empty.Goals as goal

pub returns : goal.returns
returns c =
    all_empty c.loop-tile.places (λ k low. c.loop-tile.invariant.emptied k (omega (arith, low, c.loop-tile.invariant.size, c.loop-tile-test.false)))
    ∙ ap (λ (n : ℕ). replicate n None) c.loop-tile.invariant.size
