use Rattle.std.proofs.Common.{◌≡◌, List, length, take, Ok, subst, arith}
use Rattle.std.proofs.lemmas.Result.{err_from_is_err_and}
use Rattle.rc_base.specs.declared.command.NumberRange.{NumberRange}
use Rattle.rc_base.specs.Formats.Commands.{ranges_of}
use Rattle.byte_codec.specs.declared.fault.ReadError.TheVariants as errors
use Rattle.packet_bytes.specs.Parts.{read_numbers}
use Rattle.packet_bytes.proofs.PartsReadAsFields.{numbers_fit, command_done, numbers_failed, texels_failed}
use Rattle.packet_bytes.proofs.payload.add_any.Goals as goal

pub returns-in_err-rest : goal.returns-in_err-rest
returns-in_err-rest g c =
    let p = err_from_is_err_and c.from_residual-in_err-rest.result c.from_residual-in_err-rest.ensures.1 in
    record {
      added = rw (p.1, p.2) (numbers_failed c.args.opcode c.args.bytes.now (errors.Form c.in_err-rest.field-0.0) (rw (← c.ranges_of-ranges.ensures) c.in_err-rest.ensures));
      room = rw p.1 tt;
    }

pub read_texels-requires : goal.read_texels-requires
read_texels-requires g c =
    let o = c.args.opcode in
    let numbers = take (length c.ranges_of-ranges.result.now) c.read_numbers.new.room in
    let read : read_numbers (ranges_of o) c.args.bytes.now ≡ Ok (numbers, c.in_ok-rest.rest.now) =
    subst (λ (rs : List NumberRange). read_numbers rs c.args.bytes.now ≡ Ok (numbers, c.in_ok-rest.rest.now)) c.ranges_of-ranges.ensures c.in_ok-rest.ensures in
    numbers_fit (ranges_of o) c.args.bytes.now (λ i. omega (arith, c.type_inv.bytes i)) numbers c.in_ok-rest.rest.now read

pub returns-in_err-texels : goal.returns-in_err-texels
returns-in_err-texels g c =
    let o = c.args.opcode in
    let numbers = take (length c.ranges_of-ranges.result.now) c.read_numbers.new.room in
    let read : read_numbers (ranges_of o) c.args.bytes.now ≡ Ok (numbers, c.in_ok-rest.rest.now) =
    subst (λ (rs : List NumberRange). read_numbers rs c.args.bytes.now ≡ Ok (numbers, c.in_ok-rest.rest.now)) c.ranges_of-ranges.ensures c.in_ok-rest.ensures in
    let p = err_from_is_err_and c.from_residual-in_err-texels.result c.from_residual-in_err-texels.ensures.1 in
    record {
      added = rw (p.1, p.2) (texels_failed o c.args.bytes.now c.in_ok-rest.rest.now numbers c.in_err-texels.field-0.0 read c.in_err-texels.ensures);
      room = rw p.1 tt;
    }

pub command_of-command-requires-clause-numbers : goal.command_of-command-requires-clause-numbers
command_of-command-requires-clause-numbers g c =
    let o = c.args.opcode in
    let numbers = take (length c.ranges_of-ranges.result.now) c.read_numbers.new.room in
    let read : read_numbers (ranges_of o) c.args.bytes.now ≡ Ok (numbers, c.in_ok-rest.rest.now) =
    subst (λ (rs : List NumberRange). read_numbers rs c.args.bytes.now ≡ Ok (numbers, c.in_ok-rest.rest.now)) c.ranges_of-ranges.ensures c.in_ok-rest.ensures in
    numbers_fit (ranges_of o) c.args.bytes.now (λ i. omega (arith, c.type_inv.bytes i)) numbers c.in_ok-rest.rest.now read

pub returns : goal.returns
returns g c =
    let o = c.args.opcode in
    let numbers = take (length c.ranges_of-ranges.result.now) c.read_numbers.new.room in
    let read : read_numbers (ranges_of o) c.args.bytes.now ≡ Ok (numbers, c.in_ok-rest.rest.now) =
    subst (λ (rs : List NumberRange). read_numbers rs c.args.bytes.now ≡ Ok (numbers, c.in_ok-rest.rest.now)) c.ranges_of-ranges.ensures c.in_ok-rest.ensures in
    record {
      added = (
        c.command_of-command.result,
        command_done o c.args.bytes.now c.in_ok-rest.rest.now c.in_ok-texels.rest.now numbers c.in_ok-texels.texels c.command_of-command.result read c.in_ok-texels.ensures
            c.command_of-command.ensures,
        c.in_ok-add-2.ensures.added,
      );
      room = c.in_ok-add-2.ensures.room;
    }
