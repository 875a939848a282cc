use Rattle.std.proofs.Common.{ℤ, List, ◌≡◌, Ok, subst, ◌∙◌, ◌<◌, length, take, arith, length-set}
use Rattle.std.specs.Int.{w32}
use Rattle.std.specs.Prelude.{FitsSigned}
use Rattle.std.proofs.lemmas.List.{take_more_set, take_all}
use Rattle.std.proofs.lemmas.Int.{to_z-of_z}
use Rattle.std.proofs.lemmas.Result.{err_from_is_err_and}
use Rattle.byte_codec.specs.declared.fault.ReadError.TheVariants as errors
use Rattle.byte_codec.specs.Reading.{read_word}
use Rattle.parcel_bytes.specs.Reading.{read_times}
use Rattle.parcel_bytes.proofs.TimesInTurn.{times_go_on, times_end, times_done}
use Rattle.parcel_bytes.proofs.reading.read_words.Goals as goal

pub returns-in_err-number : goal.returns-in_err-number
returns-in_err-number c =
    let p = err_from_is_err_and c.from_residual.result c.from_residual.ensures.1 in
    let n = length c.args.room.now in
    let lt : c.loop-i.i < n = omega (arith, c.loop-i-test.true, c.loop-i.invariant.0) in
    rw (p.1, p.2) (times_end read_word (errors.Form c.in_err-number.field-0.0) (take c.loop-i.i c.loop-i.room) n c.loop-i.i c.loop-i.rest.now (read_times read_word n c.args.bytes.now) lt c.in_err-number.ensures c.loop-i.invariant.1)

pub loop-i-preserved : goal.loop-i-preserved
loop-i-preserved c =
    let n = length c.args.room.now in
    let fits : FitsSigned w32 c.in_ok-number.number = search in
    let inside : c.loop-i.i < length c.loop-i.room = omega (arith, c.loop-i-test.true, c.loop-i.invariant.0) in
    let lt : c.loop-i.i < n = omega (arith, inside, c.loop-i.invariant.0) in
    rw (to_z-of_z w32 c.in_ok-number.number fits, take_more_set c.loop-i.room c.loop-i.i c.in_ok-number.number inside) (
      length-set c.loop-i.room c.loop-i.i c.in_ok-number.number ∙ c.loop-i.invariant.0,
      times_go_on read_word (take c.loop-i.i c.loop-i.room) n c.loop-i.i c.loop-i.rest.now c.in_ok-number.number c.in_ok-number.after.now (read_times read_word n c.args.bytes.now) lt c.in_ok-number.ensures c.loop-i.invariant.1,
    )

pub returns : goal.returns
returns c =
    let n = length c.args.room.now in
    let end : take c.loop-i.i c.loop-i.room ≡ c.loop-i.room = take_all c.loop-i.i c.loop-i.room (omega (arith, c.loop-i-test.false, c.loop-i.invariant.0)) in
    subst (λ (l : List ℤ). read_times read_word n c.args.bytes.now ≡ Ok (l, c.loop-i.rest.now)) end
    (times_done read_word (take c.loop-i.i c.loop-i.room) n c.loop-i.i c.loop-i.rest.now (read_times read_word n c.args.bytes.now) (omega (arith, c.loop-i-test.false, c.loop-i.invariant.0)) c.loop-i.invariant.1)
