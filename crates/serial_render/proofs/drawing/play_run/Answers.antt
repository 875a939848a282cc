use Rattle.std.proofs.Common.{◌≡◌, ◌+◌, ◌-◌, List, arith, subst, sym}
use Rattle.rc_base.specs.declared.sync.Name.{Name}
use Rattle.serial_render.specs.Played.{HasPlayed}
use Rattle.serial_render.specs.Runs.{names_of_runs, run_at}
use Rattle.serial_render.proofs.PlayedNames.{below_end, below_first}
use Rattle.serial_render.proofs.drawing.play_run.Goals as goal

pub loop-place-init : goal.loop-place-init
loop-place-init g c =
    let s = g.S.SceneStore.scene c.args.scene.now in
    let runs = c.args.runs.now in
    record {
      low = omega arith;
      most = omega arith;
      played = subst (λ (l : List Name). HasPlayed s (names_of_runs runs) l c.args.stage.now) (sym (below_first runs c.args.index)) c.requires.played;
    }

pub returns : goal.returns
returns g c =
    let s = g.S.SceneStore.scene c.args.scene.now in
    let runs = c.args.runs.now in
    let r = run_at runs c.args.index in
    let inv = c.loop-place.invariant in
    let all : c.loop-place.place - r.first ≡ r.last + 1 - r.first = omega (arith, inv.low, inv.most, c.loop-place-test.false) in
    subst (λ (l : List Name). HasPlayed s (names_of_runs runs) l c.loop-place.stage) (below_end runs c.args.index c.loop-place.place c.requires.index all) inv.played

pub play_part-requires : goal.play_part-requires
play_part-requires g c =
    let i = c.loop-place.invariant in
    let more = c.loop-place-test.true in
    record {
      within = c.requires.within;
      playable = c.requires.playable;
      index = c.requires.index;
      low = i.low;
      high = more;
      played = i.played;
    }
