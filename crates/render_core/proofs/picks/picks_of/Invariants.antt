use Rattle.std.proofs.Common.{◌≡◌, ◌%◌, map, ℕ}
use Rattle.std.specs.List.{range_with_len}
use Rattle.scene_file.specs.Generator.{drawn_state, draw_of}
use Rattle.render_core.proofs.picks.picks_of.Given as goal

abbrev pub invariant-loop : goal.invariant-loop
invariant-loop l = record {
  drawn : l.picks.items ≡ map (λ (n : ℕ). draw_of l.fn.seed n % l.fn.actors) (range_with_len 0 l.counter);
  state : l.state ≡ drawn_state l.fn.seed l.counter;
}
