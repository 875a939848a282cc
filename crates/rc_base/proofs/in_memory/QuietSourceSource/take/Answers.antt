use Rattle.std.proofs.Common.{ap, length}
use Rattle.std.proofs.lemmas.List.{take_rest}
use Rattle.rc_base.proofs.Known.{took}
use Rattle.rc_base.proofs.in_memory.QuietSourceSource.take.Goals as goal

pub returns-clause-bytes : goal.returns-clause-bytes
returns-clause-bytes c =
    let given = c.copy_front-count in
    let shown = c.as_slice.result.now in
    let inside = c.self.inside in
    took c.args.self.now.left inside.bytes shown _ given.new.into inside.at given.result (length c.args.into.now) inside.step (ap (λ s. s.left) c.self.view_is) c.as_slice.ensures
    (take_rest shown inside.at) given.ensures.front given.ensures.count c.requires c.self.invariant.1
