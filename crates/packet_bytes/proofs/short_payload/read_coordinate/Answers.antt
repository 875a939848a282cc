use Rattle.std.specs.Int.{w32}
use Rattle.std.specs.Prelude.{FitsSigned}
use Rattle.std.proofs.lemmas.Int.{to_z-of_z}
use Rattle.std.proofs.lemmas.Result.{err_from_is_err_and}
use Rattle.packet_bytes.proofs.ShortPayloads.{coordinate_read, coordinate_cut, coordinate_cut_t}
use Rattle.packet_bytes.proofs.short_payload.read_coordinate.Goals as goal

pub returns-in_err-s : goal.returns-in_err-s
returns-in_err-s c =
    let p = err_from_is_err_and c.from_residual.result c.from_residual.ensures.1 in
    rw (p.1, p.2) (coordinate_cut c.args.bytes.now c.in_err-s.field-0.0 c.in_err-s.ensures)

pub returns-in_err-t : goal.returns-in_err-t
returns-in_err-t c =
    let p = err_from_is_err_and c.from_residual-in_err-t.result c.from_residual-in_err-t.ensures.1 in
    rw (p.1, p.2) (coordinate_cut_t c.args.bytes.now c.in_ok-s.rest.now c.in_ok-s.s c.in_err-t.field-0.0 c.in_ok-s.ensures c.in_err-t.ensures)

pub returns : goal.returns
returns c =
    let fits_s : FitsSigned w32 c.in_ok-s.s = search in
    let fits_t : FitsSigned w32 c.in_ok-t.t = search in
    rw (to_z-of_z w32 c.in_ok-s.s fits_s, to_z-of_z w32 c.in_ok-t.t fits_t) (
    coordinate_read c.args.bytes.now c.in_ok-s.rest.now c.in_ok-t.rest.now
    c.in_ok-s.s c.in_ok-t.t c.in_ok-s.ensures c.in_ok-t.ensures
    )
