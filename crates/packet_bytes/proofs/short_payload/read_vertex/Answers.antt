use Rattle.std.specs.Int.{w32}
use Rattle.std.specs.Prelude.{FitsSigned}
use Rattle.std.proofs.lemmas.Int.{to_z-of_z}
use Rattle.std.proofs.lemmas.Result.{err_from_is_err_and}
use Rattle.packet_bytes.proofs.ShortPayloads.{vertex_read, vertex_cut, vertex_cut_y, vertex_cut_z, vertex_cut_w}
use Rattle.packet_bytes.proofs.short_payload.read_vertex.Goals as goal

pub returns-in_err-x : goal.returns-in_err-x
returns-in_err-x c =
    let p = err_from_is_err_and c.from_residual.result c.from_residual.ensures.1 in
    rw (p.1, p.2) (vertex_cut c.args.bytes.now c.in_err-x.field-0.0 c.in_err-x.ensures)

pub returns-in_err-y : goal.returns-in_err-y
returns-in_err-y c =
    let p = err_from_is_err_and c.from_residual-in_err-y.result c.from_residual-in_err-y.ensures.1 in
    rw (p.1, p.2) (vertex_cut_y c.args.bytes.now c.in_ok-x.rest.now c.in_ok-x.x c.in_err-y.field-0.0 c.in_ok-x.ensures c.in_err-y.ensures)

pub returns-in_err-z : goal.returns-in_err-z
returns-in_err-z c =
    let p = err_from_is_err_and c.from_residual-in_err-z.result c.from_residual-in_err-z.ensures.1 in
    rw (p.1, p.2) (vertex_cut_z c.args.bytes.now c.in_ok-x.rest.now c.in_ok-y.rest.now c.in_ok-x.x c.in_ok-y.y c.in_err-z.field-0.0 c.in_ok-x.ensures c.in_ok-y.ensures c.in_err-z.ensures)

pub returns-in_err-w : goal.returns-in_err-w
returns-in_err-w c =
    let p = err_from_is_err_and c.from_residual-in_err-w.result c.from_residual-in_err-w.ensures.1 in
    rw (p.1, p.2) (vertex_cut_w c.args.bytes.now c.in_ok-x.rest.now c.in_ok-y.rest.now c.in_ok-z.rest.now c.in_ok-x.x c.in_ok-y.y c.in_ok-z.z c.in_err-w.field-0.0 c.in_ok-x.ensures c.in_ok-y.ensures c.in_ok-z.ensures c.in_err-w.ensures)

pub returns : goal.returns
returns c =
    let fits_x : FitsSigned w32 c.in_ok-x.x = search in
    let fits_y : FitsSigned w32 c.in_ok-y.y = search in
    let fits_z : FitsSigned w32 c.in_ok-z.z = search in
    let fits_w : FitsSigned w32 c.in_ok-w.w = search in
    rw (to_z-of_z w32 c.in_ok-x.x fits_x, to_z-of_z w32 c.in_ok-y.y fits_y, to_z-of_z w32 c.in_ok-z.z fits_z, to_z-of_z w32 c.in_ok-w.w fits_w) (
    vertex_read c.args.bytes.now c.in_ok-x.rest.now c.in_ok-y.rest.now c.in_ok-z.rest.now c.in_ok-w.rest.now
    c.in_ok-x.x c.in_ok-y.y c.in_ok-z.z c.in_ok-w.w c.in_ok-x.ensures c.in_ok-y.ensures c.in_ok-z.ensures c.in_ok-w.ensures
    )
