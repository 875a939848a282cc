use Rattle.std.proofs.Common.{refl, arith}
use Rattle.std.proofs.lemmas.Result.{err_from_is_err_and}
use Rattle.scene_file.proofs.Versions.{magic_fails, letters_end, digit_fails}
use Rattle.scene_file.proofs.header.read_magic.Goals as goal

pub returns-in_err-rest-clause-fails : goal.returns-in_err-rest-clause-fails
returns-in_err-rest-clause-fails c =
    let p = err_from_is_err_and c.from_residual.result c.from_residual.ensures.1 in
    rw (p.1, p.2) (magic_fails c.args.bytes.now c.in_err-rest.field-0.0 c.in_err-rest.ensures.fails)

pub returns-in-empty-clause-fails : goal.returns-in-empty-clause-fails
returns-in-empty-clause-fails c = (1, (omega arith, omega arith), letters_end c.args.bytes.now c.in_ok-rest.rest.now c.in_ok-rest.ensures.found c.in-empty.len_below, refl)

pub returns-else-digit-eq50-clause-fails : goal.returns-else-digit-eq50-clause-fails
returns-else-digit-eq50-clause-fails c =
    let one = c.if-digit-eq49.false in
    let two = c.if-digit-eq50.false in
    digit_fails c.args.bytes.now c.in_ok-rest.rest.now c.in_ok-rest.ensures.found c.in-len1-up.len_at_least (λ e. absurd (omega (arith, one, e))) (λ e. absurd (omega (arith, two, e)))
