use Rattle.byte_codec.specs.declared.fault.ReadError.TheVariants as errors
use Rattle.std.proofs.lemmas.Result.{err_from_is_err_and}
use Rattle.scene_file.specs.Reading.{read_times, read_size}
use Rattle.scene_file.proofs.TimesInTurn.{times_go_on, times_end, times_done}
use Rattle.scene_file.proofs.header.read_sizes.Goals as goal

pub returns-in_err-size : goal.returns-in_err-size
returns-in_err-size c =
    let p = err_from_is_err_and c.from_residual.result c.from_residual.ensures.1 in
    rw (p.1, p.2) (times_end read_size (errors.Form c.in_err-size.field-0.0) c.loop.sizes c.args.count c.loop.counter c.loop.rest.now (read_times read_size c.args.count c.args.bytes.now) c.loop-test.true c.in_err-size.ensures c.loop.invariant)

pub loop-preserved : goal.loop-preserved
loop-preserved c =
    rw c.in_ok-push.ensures.items (times_go_on read_size c.loop.sizes c.args.count c.loop.counter c.loop.rest.now c.in_ok-size.size c.in_ok-size.after.now (read_times read_size c.args.count c.args.bytes.now) c.loop-test.true c.in_ok-size.ensures c.loop.invariant)

pub returns : goal.returns
returns c = times_done read_size c.loop.sizes c.args.count c.loop.counter c.loop.rest.now (read_times read_size c.args.count c.args.bytes.now) c.loop-test.false c.loop.invariant
