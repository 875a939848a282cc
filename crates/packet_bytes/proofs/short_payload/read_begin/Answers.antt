use Rattle.std.proofs.lemmas.Result.{err_from_is_err_and}
use Rattle.packet_bytes.proofs.ShortPayloads.{begin_read, begin_cut}
use Rattle.packet_bytes.proofs.short_payload.read_begin.Goals as goal

pub returns-in_err-mode : goal.returns-in_err-mode
returns-in_err-mode c =
    let p = err_from_is_err_and c.from_residual.result c.from_residual.ensures.1 in
    rw (p.1, p.2) (begin_cut c.args.bytes.now c.in_err-mode.field-0.0 c.in_err-mode.ensures)

pub returns : goal.returns
returns c = begin_read c.args.bytes.now c.in_ok-mode.rest.now c.in_ok-mode.mode c.in_ok-mode.ensures
