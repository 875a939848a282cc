use Rattle.std.proofs.Common.{◌≡◌, ◌+◌, ◌++◌, ◌∷◌, [], List, take, get_or, sym, subst, arith}
use Rattle.std.proofs.Math.Numerals.{add-one}
use Rattle.std.proofs.Math.Seq.{take-suc}
use Rattle.std.proofs.lemmas.List.{take_all}
use Rattle.std.proofs.lemmas.Result.{IfOk-weaker}
use Rattle.world_model.specs.declared.moves.Move.{Move}
use Rattle.step_core.specs.Runs.{IsRunOf}
use Rattle.step_core.specs.Schedules.{IsRightFor, IsLegalIn}
use Rattle.step_core.proofs.Runs.{first_run, has_actors, is_depth, is_laid_out, is_seen, one_more, right_for, legal_in}
use Rattle.step_core.proofs.schedule.run_schedule.Goals as goal

pub new-requires-clause-scene : goal.new-requires-clause-scene
new-requires-clause-scene c =
    has_actors (c.scenes_within_limits.ensures.runnable c.args.scene.now c.args.layout.now c.args.depth c.requires.within c.requires.layout)

pub new-requires-clause-layout : goal.new-requires-clause-layout
new-requires-clause-layout c =
    is_laid_out (c.scenes_within_limits.ensures.runnable c.args.scene.now c.args.layout.now c.args.depth c.requires.within c.requires.layout)

pub new-requires-clause-depth : goal.new-requires-clause-depth
new-requires-clause-depth c =
    is_depth (c.scenes_within_limits.ensures.runnable c.args.scene.now c.args.layout.now c.args.depth c.requires.within c.requires.layout)

pub step-requires-clause-seen : goal.step-requires-clause-seen
step-requires-clause-seen c =
    let can = c.scenes_within_limits.ensures.runnable c.args.scene.now c.args.layout.now c.args.depth c.requires.within c.requires.layout in
    is_seen c.args.scene.now c.args.layout.now c.args.depth _ c.loop-pick.moves.items c.loop-pick.cluster can c.loop-pick.invariant

pub of-requires-clause-runnable : goal.of-requires-clause-runnable
of-requires-clause-runnable c = c.scenes_within_limits.ensures.runnable c.args.scene.now c.args.layout.now c.args.depth c.requires.within c.requires.layout

pub loop-pick-init : goal.loop-pick-init
loop-pick-init c =
    subst (λ (moves : List Move). IsRunOf c.args.scene.now c.args.layout.now c.args.depth [] moves c.in_ok-cluster.cluster) (sym c.in_ok-moves.ensures.items)
    (first_run c.args.scene.now c.args.layout.now c.args.depth c.in_ok-cluster.cluster c.in_ok-cluster.ensures)

pub loop-pick-preserved : goal.loop-pick-preserved
loop-pick-preserved c =
    let picks = c.args.picks.now in
    let i = c.loop-pick.pick-index in
    let more : take (i + 1) picks ≡ take i picks ++ get_or picks i 0 ∷ [] = rw add-one (take-suc picks i 0 (omega (arith, c.loop-pick-test.true))) in
    subst (λ (moves : List Move). IsRunOf c.args.scene.now c.args.layout.now c.args.depth (take (i + 1) picks) moves c.step.new.self)
    (sym c.in_ok-push.ensures.items)
    (one_more c.args.scene.now c.args.layout.now c.args.depth c.ample_turns_are_moves.ensures.next (take i picks) (take (i + 1) picks) (get_or picks i 0)
    c.loop-pick.cluster c.step.new.self c.loop-pick.moves.items c.in_ok-step.field-0 more c.loop-pick.invariant c.in_ok-step.ensures.turn)

pub returns-clause-right : goal.returns-clause-right
returns-clause-right c =
    let scene = c.args.scene.now in
    let l = c.args.layout.now in
    let depth = c.args.depth in
    let picks = c.args.picks.now in
    let moves = c.loop-pick.moves.items in
    let cluster = c.loop-pick.cluster in
    let whole = take_all c.loop-pick.pick-index picks (omega (arith, c.loop-pick-test.false)) in
    IfOk-weaker c.of.result _ _ (λ world is. subst (IsRightFor picks) (sym is)
    (right_for scene l depth picks moves cluster (subst (λ ps. IsRunOf scene l depth ps moves cluster) whole c.loop-pick.invariant))) c.of.ensures

pub returns-clause-legal : goal.returns-clause-legal
returns-clause-legal c =
    let scene = c.args.scene.now in
    let l = c.args.layout.now in
    let depth = c.args.depth in
    let picks = take c.loop-pick.pick-index c.args.picks.now in
    let moves = c.loop-pick.moves.items in
    let cluster = c.loop-pick.cluster in
    IfOk-weaker c.of.result _ _ (λ world is. subst IsLegalIn (sym is)
    (legal_in c.schedules_keep_worlds_sound.ensures.runs c.sound_worlds_have_legal_logs.ensures picks _ (c.scenes_within_limits.ensures.runnable scene l depth c.requires.within c.requires.layout)
    (right_for scene l depth picks moves cluster c.loop-pick.invariant))) c.of.ensures
