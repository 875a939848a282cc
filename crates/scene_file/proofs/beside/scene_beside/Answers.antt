use Rattle.std.proofs.Common.{arith, rules}
use Rattle.scene_file.proofs.StreamsBeside.{scene_found}
use Rattle.scene_file.proofs.beside.scene_beside.Goals as goal

pub returns-in-Ok-within_limits : goal.returns-in-Ok-within_limits
returns-in-Ok-within_limits g c =
    let head = c.in-Ok-read_head in
    scene_found g.K.KeptStream.commands g.K.KeptStream.scene c.in-Ok.version c.in-Ok.ensures.found.0 c.args.bytes.now c.in-Ok.body.now head.body.now head.field-0-0 (λ i. omega (arith, c.type_inv.bytes i)) c.in-Ok.ensures.found.1 head.ensures _ _
    c.streams_beside.result c.in_ok-streams.field-0 c.streams_beside.ensures c.in_ok-streams.was (search rules) (search rules) _ c.within_limits.result c.in-Ok-within_limits.scene
    c.within_limits.ensures c.in-Ok-within_limits.is (search rules) (search rules) (search rules) (search rules)
