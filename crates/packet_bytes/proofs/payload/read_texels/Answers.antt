use Rattle.rc_base.specs.Formats.Commands.{has_picture}
use Rattle.std.proofs.Common.{arith, ◌≡◌, ℕ, true, false, ltb, List, [], Ok, length, refl, sym, ◌∙◌}
use Rattle.std.proofs.lemmas.Bool.Decides.{nat_tests}
use Rattle.std.proofs.lemmas.Result.{err_from_is_err_and}
use Rattle.byte_codec.specs.Reading.{take_bytes}
use Rattle.packet_bytes.proofs.PartsReadAsFields.{area_most}
use Rattle.packet_bytes.proofs.payload.read_texels.Goals as goal

none_below : (n : ℕ) → ltb n 0 ≡ false
none_below n = grind (arith, nat_tests)

take_none : (bytes : List ℕ) → take_bytes 0 bytes ≡ Ok ([], bytes)
take_none bytes = rw (none_below (length bytes)) refl

pub returns-then-not-has_picture : goal.returns-then-not-has_picture
returns-then-not-has_picture c =
    let plain : has_picture c.args.opcode ≡ false = sym c.has_picture.ensures ∙ c.if-not-has_picture.true in
    rw (plain, c.new.ensures) (take_none c.args.bytes.now)

pub overflow_mul-picture_area : goal.overflow_mul-picture_area
overflow_mul-picture_area c =
    let pictured : has_picture c.args.opcode ≡ true = sym c.has_picture.ensures ∙ c.if-not-has_picture.false in
    let most = area_most c.args.opcode pictured c.args.numbers.now c.requires in
    omega (arith, c.picture_area.ensures, most)

pub returns-in_err-texels : goal.returns-in_err-texels
returns-in_err-texels c =
    let pictured : has_picture c.args.opcode ≡ true = sym c.has_picture.ensures ∙ c.if-not-has_picture.false in
    let p = err_from_is_err_and c.from_residual.result c.from_residual.ensures.1 in
    rw (p.1, p.2, pictured, ← c.picture_area.ensures) c.in_err-texels.ensures

pub returns : goal.returns
returns c =
    let pictured : has_picture c.args.opcode ≡ true = sym c.has_picture.ensures ∙ c.if-not-has_picture.false in
    rw (pictured, ← c.picture_area.ensures, c.in_ok-from_slice.ensures) c.in_ok-texels.ensures
