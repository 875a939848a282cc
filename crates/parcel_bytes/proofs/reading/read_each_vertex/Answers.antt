use Rattle.std.proofs.lemmas.Result.{err_from_is_err_and}
use Rattle.byte_codec.specs.declared.fault.ReadError.TheVariants as errors
use Rattle.parcel_bytes.specs.Reading.{read_times, read_vertex}
use Rattle.parcel_bytes.proofs.TimesInTurn.{times_go_on, times_end, times_done}
use Rattle.parcel_bytes.proofs.reading.read_each_vertex.Goals as goal

pub returns-in_err-vertex : goal.returns-in_err-vertex
returns-in_err-vertex c =
    let p = err_from_is_err_and c.from_residual-in_err-vertex.result c.from_residual-in_err-vertex.ensures.1 in
    rw (p.1, p.2) (times_end read_vertex (errors.Form c.in_err-vertex.field-0.0) c.loop.vertices c.args.count c.loop.counter c.loop.rest.now (read_times read_vertex c.args.count c.args.bytes.now) c.loop-test.true c.in_err-vertex.ensures c.loop.invariant)

pub loop-preserved : goal.loop-preserved
loop-preserved c =
    rw c.in_ok-push.ensures.items (times_go_on read_vertex c.loop.vertices c.args.count c.loop.counter c.loop.rest.now c.in_ok-vertex.vertex c.in_ok-vertex.after.now (read_times read_vertex c.args.count c.args.bytes.now) c.loop-test.true c.in_ok-vertex.ensures c.loop.invariant)

pub returns : goal.returns
returns c = times_done read_vertex c.loop.vertices c.args.count c.loop.counter c.loop.rest.now (read_times read_vertex c.args.count c.args.bytes.now) c.loop-test.false c.loop.invariant
