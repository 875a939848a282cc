use Rattle.byte_codec.specs.declared.fault.ReadError.TheVariants as errors
use Rattle.std.proofs.Common.{ℕ, ◌≡◌, Ok, refl, subst, ◌∙◌, ◌<◌, length, take, arith, length-set}
use Rattle.std.specs.Int.{w32}
use Rattle.std.specs.Prelude.{FitsSigned}
use Rattle.std.proofs.lemmas.List.{take_more_set}
use Rattle.std.proofs.lemmas.Int.{to_z-of_z}
use Rattle.std.proofs.lemmas.Result.{err_from_is_err_and}
use Rattle.rc_base.specs.declared.command.NumberRange.TheVariants as range
use Rattle.packet_bytes.specs.Parts.{read_numbers}
use Rattle.packet_bytes.proofs.ReadsInTurn.{front_none, numbers_go_on, numbers_end, numbers_done}
use Rattle.packet_bytes.proofs.payload.read_numbers.Goals as goal

pub loop-i-init : goal.loop-i-init
loop-i-init c = (refl, front_none (read_numbers c.args.ranges.now c.args.bytes.now))

pub returns-in_err-number : goal.returns-in_err-number
returns-in_err-number c =
    let p = err_from_is_err_and c.from_residual.result c.from_residual.ensures.1 in
    rw (p.1, p.2) (numbers_end (errors.Form c.in_err-number.field-0.0) (take c.loop-i.i c.loop-i.room) c.args.ranges.now c.loop-i.i range.Byte c.loop-i.rest.now (read_numbers c.args.ranges.now c.args.bytes.now) c.loop-i-test.true c.in_err-number.ensures c.loop-i.invariant.1)

pub loop-i-preserved : goal.loop-i-preserved
loop-i-preserved c =
    let fits : FitsSigned w32 c.in_ok-number.number = search in
    let inside : c.loop-i.i < length c.loop-i.room = omega (arith, c.loop-i.invariant.0, c.told-room, c.requires, c.loop-i-test.true) in
    rw (to_z-of_z w32 c.in_ok-number.number fits, take_more_set c.loop-i.room c.loop-i.i c.in_ok-number.number inside) (
      length-set c.loop-i.room c.loop-i.i c.in_ok-number.number ∙ c.loop-i.invariant.0,
      numbers_go_on (take c.loop-i.i c.loop-i.room) c.args.ranges.now c.loop-i.i range.Byte c.loop-i.rest.now c.in_ok-number.number c.in_ok-number.after.now (read_numbers c.args.ranges.now c.args.bytes.now) c.loop-i-test.true c.in_ok-number.ensures c.loop-i.invariant.1,
    )

pub returns : goal.returns
returns c =
    let end : c.loop-i.i ≡ length c.args.ranges.now = omega (arith, c.loop-i.auto.i-end, c.loop-i-test.false) in
    subst (λ (n : ℕ). read_numbers c.args.ranges.now c.args.bytes.now ≡ Ok (take n c.loop-i.room, c.loop-i.rest.now)) end
    (numbers_done (take c.loop-i.i c.loop-i.room) c.args.ranges.now c.loop-i.i c.loop-i.rest.now (read_numbers c.args.ranges.now c.args.bytes.now) c.loop-i-test.false c.loop-i.invariant.1)
