use Rattle.std.proofs.Common.{◌∙◌, [], ◌∷◌, arith, ap, length, map, sym}
use Rattle.std.proofs.Math.ListN.{length-map}
use Rattle.std.proofs.lemmas.List.{map-append}
use Rattle.packet_bytes.specs.Packets.{decoded_as}
use Rattle.std.proofs.lemmas.Result.{err_from_is_err_and}
use Rattle.scene_file.proofs.StreamsInTurn.{letters_fail, head_fails, stage_none, stage_fails, stage_trailing, some_left, none_left}
use Rattle.scene_file.proofs.CommandsCounted.{progress_none, progress_more, progress_done}
use Rattle.scene_file.proofs.reading.read_spelled.Goals as goal

pub returns-in_err-version-clause-fails : goal.returns-in_err-version-clause-fails
returns-in_err-version-clause-fails g c =
    let p = err_from_is_err_and c.from_residual.result c.from_residual.ensures.1 in
    rw (p.1, p.2) (letters_fail g.L.PacketList.set g.L.BeginsScene.letters c.args.bytes.now c.in_err-version.field-0.0 c.in_err-version.ensures.fails)

pub returns-in_err-decl-clause-fails : goal.returns-in_err-decl-clause-fails
returns-in_err-decl-clause-fails g c =
    let p = err_from_is_err_and c.from_residual-in_err-decl.result c.from_residual-in_err-decl.ensures.1 in
    rw (p.1, p.2) (head_fails g.L.PacketList.set g.L.BeginsScene.letters c.in_ok-version.version c.in_ok-version.ensures.found.0 c.args.bytes.now c.in_ok-version.body.now c.in_err-decl.field-0.0 (λ i. omega (arith, c.type_inv.bytes i)) c.in_ok-version.ensures.found.1 c.in_err-decl.ensures)

pub loop-init : goal.loop-init
loop-init g c =
    rw c.new-streams.ensures
    (progress_none g.L.PacketList.set g.L.BeginsScene.letters g.L.PacketList.reader.shows c.args.bytes.now c.in_ok-decl.field-0-0.decl c.in_ok-decl.field-0-0.clients c.in_ok-decl.body.now
    (stage_none g.L.PacketList.set g.L.BeginsScene.letters c.in_ok-version.version c.in_ok-version.ensures.found.0 c.args.bytes.now c.in_ok-version.body.now c.in_ok-decl.field-0-0 c.in_ok-decl.body.now (λ i. omega (arith, c.type_inv.bytes i)) c.in_ok-version.ensures.found.1 c.in_ok-decl.ensures))

pub returns-in_err-decoded-clause-fails : goal.returns-in_err-decoded-clause-fails
returns-in_err-decoded-clause-fails g c =
    let p = err_from_is_err_and c.from_residual-in_err-decoded.result c.from_residual-in_err-decoded.ensures.1 in
    rw (p.1, p.2)
    (stage_fails g.L.PacketList.set g.L.BeginsScene.letters c.args.bytes.now c.in_ok-decl.field-0-0.decl c.in_ok-decl.field-0-0.clients c.loop.counter c.loop.invariant.all c.loop.rest.now c.in_err-decoded.field-0.0 c.loop.invariant.stage c.loop-test.true c.in_err-decoded.ensures.fails)

pub loop-preserved : goal.loop-preserved
loop-preserved g c =
    let kept = g.L.PacketList.kept in
    let all = ap (map kept) c.in_ok-push.ensures.items ∙ map-append kept c.loop.streams (c.in_ok-decoded.decoded.commands ∷ []) in
    rw (all, c.frames_with-frames.ensures, c.len.ensures ∙ sym (length-map c.loop.streams kept))
    (progress_more g.L.PacketList.set g.L.BeginsScene.letters g.L.PacketList.reader.shows c.args.bytes.now c.in_ok-decl.field-0-0.decl c.in_ok-decl.field-0-0.clients c.loop.counter (map kept c.loop.streams) c.loop.commands c.loop.frames c.loop.rest.now (decoded_as kept c.in_ok-decoded.decoded) c.in_ok-decoded.after.now
    c.loop.invariant (rw c.room_behind-room.ensures at c.in_ok-decoded.ensures.found))

pub returns-then-not-is_end-clause-fails : goal.returns-then-not-is_end-clause-fails
returns-then-not-is_end-clause-fails g c =
    stage_trailing g.L.PacketList.set g.L.BeginsScene.letters c.args.bytes.now c.in_ok-decl.field-0-0.decl c.in_ok-decl.field-0-0.clients c.loop.counter c.loop.invariant.all c.loop.rest.now c.loop.invariant.stage (omega arith)
    (some_left c.is_end.result (length c.loop.rest.now) c.is_end.ensures c.if-not-is_end.true)

pub returns-clause-found : goal.returns-clause-found
returns-clause-found g c =
    progress_done g.L.PacketList.set g.L.BeginsScene.letters g.L.PacketList.reader.shows c.args.bytes.now c.in_ok-decl.field-0-0.decl c.in_ok-decl.field-0-0.clients c.loop.counter (map g.L.PacketList.kept c.loop.streams) c.loop.commands c.loop.frames c.loop.rest.now c.loop.invariant (omega arith)
    (none_left c.is_end.result (length c.loop.rest.now) c.is_end.ensures c.if-not-is_end.false)
