use Rattle.std.proofs.Common.{◌≡◌, ◌*◌, sym, ap, ◌∙◌, arith}
use Rattle.scene_file.specs.Generated.{streams_at}
use Rattle.scene_file.proofs.DrawsFromState.{state_none}
use Rattle.scene_file.proofs.TurnsOfClients.{first_turn, draws_more, streams_more}
use Rattle.scene_file.proofs.generator.drawn_streams.Goals as goal

pub loop-turn-init : goal.loop-turn-init
loop-turn-init c = record { streams = c.in_ok-streams.ensures ∙ first_turn c.args.seed; state = sym (state_none c.args.seed) }

pub loop-turn-preserved : goal.loop-turn-preserved
loop-turn-preserved c = record {
  streams = streams_more c.args.seed c.loop-turn.turn c.loop-turn.draws.state c.loop-turn.streams.items c.index_mut-stream.result.now c.add_turn.new.stream
      c.loop-turn.invariant.state c.loop-turn.invariant.streams c.index_mut-stream.ensures.value c.in_ok-add_turn.ensures.stream;
  state = draws_more c.args.seed c.loop-turn.turn c.loop-turn.draws.state c.add_turn.new.draws.state c.loop-turn.invariant.state c.in_ok-add_turn.ensures.draws;
}

pub returns : goal.returns
returns c =
    let all : c.loop-turn.turn ≡ 8 * c.args.size = omega (arith, c.loop-turn-test.false, c.loop-turn.auto.turn-end) in
    c.loop-turn.invariant.streams ∙ ap (streams_at c.args.seed) all
