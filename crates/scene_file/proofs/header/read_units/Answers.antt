use Rattle.byte_codec.specs.declared.fault.ReadError.TheVariants as errors
use Rattle.std.proofs.lemmas.Result.{err_from_is_err_and}
use Rattle.scene_file.specs.Reading.{read_times, read_half}
use Rattle.scene_file.proofs.TimesInTurn.{times_go_on, times_end, times_done}
use Rattle.scene_file.proofs.header.read_units.Goals as goal

pub returns-in_err-unit : goal.returns-in_err-unit
returns-in_err-unit c =
    let p = err_from_is_err_and c.from_residual.result c.from_residual.ensures.1 in
    rw (p.1, p.2) (times_end read_half (errors.Form c.in_err-unit.field-0.0) c.loop.units c.args.count c.loop.counter c.loop.rest.now (read_times read_half c.args.count c.args.bytes.now) c.loop-test.true c.in_err-unit.ensures c.loop.invariant)

pub loop-preserved : goal.loop-preserved
loop-preserved c =
    rw c.in_ok-push.ensures.items (times_go_on read_half c.loop.units c.args.count c.loop.counter c.loop.rest.now c.in_ok-unit.unit c.in_ok-unit.after.now (read_times read_half c.args.count c.args.bytes.now) c.loop-test.true c.in_ok-unit.ensures c.loop.invariant)

pub returns : goal.returns
returns c = times_done read_half c.loop.units c.args.count c.loop.counter c.loop.rest.now (read_times read_half c.args.count c.args.bytes.now) c.loop-test.false c.loop.invariant
