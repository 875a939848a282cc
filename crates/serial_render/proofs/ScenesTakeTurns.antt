-- A scene within the limits takes turns.
use Rattle.std.proofs.Common.{length, ap, arith}
use Rattle.rc_base.specs.Formats.Within.{IsWithin}
use Rattle.rc_base.specs.Orders.Sync.{sync_lists_of}
use Rattle.rc_base.specs.declared.scene.Scene.{Scene}
use Rattle.scene_lemmas.proofs.Scenes.{scene_counts}
use Rattle.order_model.proofs.ScenesWithinLimits.{within_is_drawable}
use Rattle.stream_replay.proofs.DeclaredOperations.{scene_declared}
use Rattle.serial_render.specs.Turns.{CanTakeTurns}

pub takes_turns : (scene : Scene) → IsWithin scene → CanTakeTurns (sync_lists_of scene)
takes_turns scene within =
    let can = within_is_drawable scene within in
    let counts = ap length (scene_counts scene) in
    record { well = can.formed; clients = can.clients; barriers = omega (arith, counts, can.barriers); declared = scene_declared scene within.commands }
