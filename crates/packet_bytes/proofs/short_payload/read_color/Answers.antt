use Rattle.std.proofs.lemmas.Result.{err_from_is_err_and}
use Rattle.packet_bytes.proofs.ShortPayloads.{color_read, color_cut, color_cut_green, color_cut_blue, color_cut_alpha}
use Rattle.packet_bytes.proofs.short_payload.read_color.Goals as goal

pub returns-in_err-r : goal.returns-in_err-r
returns-in_err-r c =
    let p = err_from_is_err_and c.from_residual.result c.from_residual.ensures.1 in
    rw (p.1, p.2) (color_cut c.args.bytes.now c.in_err-r.field-0.0 c.in_err-r.ensures)

pub returns-in_err-g : goal.returns-in_err-g
returns-in_err-g c =
    let p = err_from_is_err_and c.from_residual-in_err-g.result c.from_residual-in_err-g.ensures.1 in
    rw (p.1, p.2) (color_cut_green c.args.bytes.now c.in_ok-r.rest.now c.in_ok-r.r c.in_err-g.field-0.0 c.in_ok-r.ensures c.in_err-g.ensures)

pub returns-in_err-b : goal.returns-in_err-b
returns-in_err-b c =
    let p = err_from_is_err_and c.from_residual-in_err-b.result c.from_residual-in_err-b.ensures.1 in
    rw (p.1, p.2) (color_cut_blue c.args.bytes.now c.in_ok-r.rest.now c.in_ok-g.rest.now c.in_ok-r.r c.in_ok-g.g c.in_err-b.field-0.0 c.in_ok-r.ensures c.in_ok-g.ensures c.in_err-b.ensures)

pub returns-in_err-a : goal.returns-in_err-a
returns-in_err-a c =
    let p = err_from_is_err_and c.from_residual-in_err-a.result c.from_residual-in_err-a.ensures.1 in
    rw (p.1, p.2) (color_cut_alpha c.args.bytes.now c.in_ok-r.rest.now c.in_ok-g.rest.now c.in_ok-b.rest.now c.in_ok-r.r c.in_ok-g.g c.in_ok-b.b c.in_err-a.field-0.0 c.in_ok-r.ensures c.in_ok-g.ensures c.in_ok-b.ensures c.in_err-a.ensures)

pub returns : goal.returns
returns c =
    color_read c.args.bytes.now c.in_ok-r.rest.now c.in_ok-g.rest.now c.in_ok-b.rest.now c.in_ok-a.rest.now
    c.in_ok-r.r c.in_ok-g.g c.in_ok-b.b c.in_ok-a.a c.in_ok-r.ensures c.in_ok-g.ensures c.in_ok-b.ensures c.in_ok-a.ensures
