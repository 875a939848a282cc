use Rattle.std.proofs.Common.{arith, ◌≤◌, length, length-append, length-take, take, ◌++◌}
use Rattle.std.proofs.lemmas.Result.{err_from_is_err_and}
use Rattle.rc_base.proofs.Known.{Consumes-then}
use Rattle.rc_base.proofs.transfer.read_all.Goals as goal

pub returns-in_err-extend_from_slice-in-Ok-clause-taken :
    goal.returns-in_err-extend_from_slice-in-Ok-clause-taken
returns-in_err-extend_from_slice-in-Ok-clause-taken g c =
    let p = err_from_is_err_and c.from_residual.result c.from_residual.ensures.1 in
    let both = Consumes-then (g.S.Source.left c.args.source.now) (g.S.Source.left c.loop-buffer.source) (g.S.Source.left c.take.new.self) c.loop-buffer.bytes (take c.in-Ok.count c.take.new.into) c.loop-buffer.invariant.given c.in-Ok.ensures.bytes.0 in
    let given = take c.in-Ok.count c.take.new.into in
    let size : length (c.loop-buffer.bytes ++ given) ≤ 33554433 = omega (arith, c.take.auto.into, length-append c.loop-buffer.bytes given, length-take c.in-Ok.count c.take.new.into, length-take c.min-room.result c.loop-buffer.buffer) in
    rw (p.1, p.2) (c.loop-buffer.bytes ++ given, both, size)
