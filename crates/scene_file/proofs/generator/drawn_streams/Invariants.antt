use Rattle.std.proofs.Common.{◌≡◌, ◌*◌, ◌/◌, ◌%◌}
use Rattle.scene_file.specs.Generator.{drawn_state, triangles_before}
use Rattle.scene_file.specs.Generated.{streams_at}
use Rattle.scene_file.proofs.generator.drawn_streams.Given as goal

abbrev pub invariant-loop-turn : goal.invariant-loop-turn
invariant-loop-turn l = record {
  streams : l.streams.items ≡ streams_at l.fn.seed l.turn;
  state : l.draws.state ≡ drawn_state l.fn.seed (10 * triangles_before (l.turn / 8) (l.turn % 8));
}
