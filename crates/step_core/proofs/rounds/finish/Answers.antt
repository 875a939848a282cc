use Rattle.std.proofs.Common.{ap, ◌∙◌, subst}
use Rattle.step_core.specs.Rounds.{IsOnTheWay, Rounds}
use Rattle.step_core.specs.Schedules.{WorldView}
use Rattle.step_core.proofs.RoundsReach.{begins, leads_on, still_never, seen, at_end, if_ample, finishes}
use Rattle.step_core.proofs.rounds.finish.Goals as goal

pub loop-init : goal.loop-init
loop-init c =
    let w = c.world.inside in
    subst (λ world. IsOnTheWay world 0 w.cluster) c.world.view_is
    (begins record {
      goes_on = c.runs_go_on.ensures;
      one = c.one_schedule_has_one_run.ensures;
      flows = c.turns_keep_worlds_flowing.ensures.all;
      run_flows = c.turns_keep_worlds_flowing.ensures.runs;
      moves = c.ample_turns_are_moves.ensures.all;
      end = c.ample_turns_are_moves.ensures.ended;
      still = c.stopped_worlds_rest.ensures.still;
      stopped = c.stopped_worlds_rest.ensures.stopped;
      told = c.stopped_worlds_rest.ensures.told;
      moving = c.rounds_move_somebody.ensures.round;
      less = c.turns_leave_less.ensures.all;
      little = c.turns_leave_less.ensures.runs;
    } w.scene.value w.layout w.depth w.decl w.moves.items w.cluster c.world.invariant)

pub round-requires : goal.round-requires
round-requires c = seen record {
  goes_on = c.runs_go_on.ensures;
  one = c.one_schedule_has_one_run.ensures;
  flows = c.turns_keep_worlds_flowing.ensures.all;
  run_flows = c.turns_keep_worlds_flowing.ensures.runs;
  moves = c.ample_turns_are_moves.ensures.all;
  end = c.ample_turns_are_moves.ensures.ended;
  still = c.stopped_worlds_rest.ensures.still;
  stopped = c.stopped_worlds_rest.ensures.stopped;
  told = c.stopped_worlds_rest.ensures.told;
  moving = c.rounds_move_somebody.ensures.round;
  less = c.turns_leave_less.ensures.all;
  little = c.turns_leave_less.ensures.runs;
} c.args.world c.loop.counter c.loop.cluster c.loop.invariant

pub unreachable-requires : goal.unreachable-requires
unreachable-requires c = still_never record {
  goes_on = c.runs_go_on.ensures;
  one = c.one_schedule_has_one_run.ensures;
  flows = c.turns_keep_worlds_flowing.ensures.all;
  run_flows = c.turns_keep_worlds_flowing.ensures.runs;
  moves = c.ample_turns_are_moves.ensures.all;
  end = c.ample_turns_are_moves.ensures.ended;
  still = c.stopped_worlds_rest.ensures.still;
  stopped = c.stopped_worlds_rest.ensures.stopped;
  told = c.stopped_worlds_rest.ensures.told;
  moving = c.rounds_move_somebody.ensures.round;
  less = c.turns_leave_less.ensures.all;
  little = c.turns_leave_less.ensures.runs;
} c.args.world c.loop.counter c.loop.cluster c.loop.invariant c.round.new.self
    (subst (λ r. Rounds c.loop.cluster r c.round.new.self) c.in-Still.is c.round.ensures)

pub loop-preserved : goal.loop-preserved
loop-preserved c = leads_on record {
  goes_on = c.runs_go_on.ensures;
  one = c.one_schedule_has_one_run.ensures;
  flows = c.turns_keep_worlds_flowing.ensures.all;
  run_flows = c.turns_keep_worlds_flowing.ensures.runs;
  moves = c.ample_turns_are_moves.ensures.all;
  end = c.ample_turns_are_moves.ensures.ended;
  still = c.stopped_worlds_rest.ensures.still;
  stopped = c.stopped_worlds_rest.ensures.stopped;
  told = c.stopped_worlds_rest.ensures.told;
  moving = c.rounds_move_somebody.ensures.round;
  less = c.turns_leave_less.ensures.all;
  little = c.turns_leave_less.ensures.runs;
} c.args.world c.loop.counter c.loop.cluster c.loop.invariant c.round.new.self
    (subst (λ r. Rounds c.loop.cluster r c.round.new.self) c.in-Moved.is c.round.ensures)

pub left_by-requires : goal.left_by-requires
left_by-requires c lacking =
    let same = c.world.invariant.decl_is ∙ ap (λ (v : WorldView). v.scene.decl) c.world.view_is in
    at_end record {
      goes_on = c.runs_go_on.ensures;
      one = c.one_schedule_has_one_run.ensures;
      flows = c.turns_keep_worlds_flowing.ensures.all;
      run_flows = c.turns_keep_worlds_flowing.ensures.runs;
      moves = c.ample_turns_are_moves.ensures.all;
      end = c.ample_turns_are_moves.ensures.ended;
      still = c.stopped_worlds_rest.ensures.still;
      stopped = c.stopped_worlds_rest.ensures.stopped;
      told = c.stopped_worlds_rest.ensures.told;
      moving = c.rounds_move_somebody.ensures.round;
      less = c.turns_leave_less.ensures.all;
      little = c.turns_leave_less.ensures.runs;
    } c.args.world c.loop.counter c.loop.cluster c.loop.invariant c.round.new.self
    (subst (λ r. Rounds c.loop.cluster r c.round.new.self) c.in-Ended.is c.round.ensures) lacking c.world.inside.decl same

pub returns-in-Ended : goal.returns-in-Ended
returns-in-Ended c =
    let same = c.world.invariant.decl_is ∙ ap (λ (v : WorldView). v.scene.decl) c.world.view_is in
    record {
      done = if_ample c.left_by.result _ _ _ c.left_by.ensures.ample c.left_by.ensures.left (λ run lacking gathered.
          finishes record {
            goes_on = c.runs_go_on.ensures;
            one = c.one_schedule_has_one_run.ensures;
            flows = c.turns_keep_worlds_flowing.ensures.all;
            run_flows = c.turns_keep_worlds_flowing.ensures.runs;
            moves = c.ample_turns_are_moves.ensures.all;
            end = c.ample_turns_are_moves.ensures.ended;
            still = c.stopped_worlds_rest.ensures.still;
            stopped = c.stopped_worlds_rest.ensures.stopped;
            told = c.stopped_worlds_rest.ensures.told;
            moving = c.rounds_move_somebody.ensures.round;
            less = c.turns_leave_less.ensures.all;
            little = c.turns_leave_less.ensures.runs;
          } c.args.world c.loop.counter c.loop.cluster c.loop.invariant c.round.new.self
          (subst (λ r. Rounds c.loop.cluster r c.round.new.self) c.in-Ended.is c.round.ensures) lacking c.world.inside.decl run same gathered);
    }
