use Rattle.std.proofs.Common.{arith}
use Rattle.sort_last.proofs.apart.Batch.part.Goals as goal

pub invariant_of-result : goal.invariant_of-result
invariant_of-result c =
    let b = c.args.self.now in
    record { ready = b.ready; lists = b.lists; order = c.requires.order; frames = λ client lt. omega (arith, b.frames client lt, c.requires.most) }
