use Rattle.std.proofs.Common.{◌≡◌, take}
use Rattle.command_store.proofs.scene.StoredScene.of.Given as goal

abbrev pub invariant-loop-stream : goal.invariant-loop-stream
invariant-loop-stream l = l.stored ≡ take l.stream-index l.scene.streams
