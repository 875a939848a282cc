use Rattle.std.proofs.lemmas.Result.{err_from_is_err_and}
use Rattle.scene_file.proofs.Versions.{list_magic_fails}
use Rattle.scene_file.proofs.header.read_list_magic.Goals as goal

pub returns-in_err-rest-clause-fails : goal.returns-in_err-rest-clause-fails
returns-in_err-rest-clause-fails c =
    let p = err_from_is_err_and c.from_residual.result c.from_residual.ensures.1 in
    rw (p.1, p.2) (list_magic_fails c.args.bytes.now c.in_err-rest.field-0.0 c.in_err-rest.ensures.fails)
