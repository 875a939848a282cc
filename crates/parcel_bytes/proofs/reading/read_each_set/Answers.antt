use Rattle.std.proofs.lemmas.Result.{err_from_is_err_and}
use Rattle.parcel_bytes.specs.Reading.{read_times, read_set}
use Rattle.parcel_bytes.proofs.TimesInTurn.{times_go_on, times_end, times_done}
use Rattle.parcel_bytes.proofs.reading.read_each_set.Goals as goal

pub returns-in_err-set : goal.returns-in_err-set
returns-in_err-set c =
    let p = err_from_is_err_and c.from_residual-in_err-set.result c.from_residual-in_err-set.ensures.1 in
    rw (p.1, p.2) (times_end read_set c.in_err-set.field-0.0 c.loop.sets c.args.count c.loop.counter c.loop.rest.now (read_times read_set c.args.count c.args.bytes.now) c.loop-test.true c.in_err-set.ensures c.loop.invariant)

pub loop-preserved : goal.loop-preserved
loop-preserved c =
    rw c.in_ok-push.ensures.items (times_go_on read_set c.loop.sets c.args.count c.loop.counter c.loop.rest.now c.in_ok-set.set c.in_ok-set.after.now (read_times read_set c.args.count c.args.bytes.now) c.loop-test.true c.in_ok-set.ensures c.loop.invariant)

pub returns : goal.returns
returns c = times_done read_set c.loop.sets c.args.count c.loop.counter c.loop.rest.now (read_times read_set c.args.count c.args.bytes.now) c.loop-test.false c.loop.invariant
