use Rattle.std.proofs.Common.{◌-◌, List, arith}
use Rattle.rc_base.specs.declared.command.Command.{Command}
use Rattle.scene_file.proofs.StreamsBeside.{streams_held}
use Rattle.scene_file.proofs.beside.+fn-whole_beside-join+arg3+whole_beside.Goals as goal

pub returns : goal.returns
returns g t c =
    let e = c.put_first.ensures in
    streams_held (λ (s : List Command). s) c.args.bytes.now c.in-Ok.text.now c.in-Ok.after.now c.args.count (c.args.count - 1) c.join-first.result.0 c.in_ok-first.field-0 c.join-first.result.1 c.in_ok-others.field-0 c.put_first.result
    (λ i. omega (arith, c.type_inv.bytes i)) c.in-Ok.ensures (omega (arith, c.if-count-eq0.false)) c.join-first.ensures.first c.in_ok-first.was c.join-first.ensures.second c.in_ok-others.was e.streams e.commands e.frames
