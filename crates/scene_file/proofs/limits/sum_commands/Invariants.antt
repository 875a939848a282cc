use Rattle.std.proofs.Common.{◌≡◌, ◌+◌, ◌*◌, ◌≤◌, drop}
use Rattle.rc_base.specs.Formats.Limits.{commands_in}
use Rattle.scene_file.proofs.limits.sum_commands.Given as goal

abbrev pub invariant-loop-stream : goal.invariant-loop-stream
invariant-loop-stream l = record { whole : l.sum + commands_in (drop l.stream-index l.streams) ≡ commands_in l.streams; few : l.sum ≤ 2305843009213693951 * l.stream-index }
