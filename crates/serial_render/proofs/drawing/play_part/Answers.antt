use Rattle.std.proofs.Common.{◌+◌, ◌≤◌, arith}
use Rattle.serial_render.specs.Played.{names_below}
use Rattle.serial_render.specs.Runs.{names_of_runs, run_at}
use Rattle.serial_render.proofs.ClearDepths.{clearable}
use Rattle.serial_render.proofs.PlayedNames.{can_draw, can_write, name_at, performed_there, rest_of, run_inside, split_at, stands_before}
use Rattle.serial_render.proofs.drawing.play_part.Goals as goal

pub perform-requires-clause-name : goal.perform-requires-clause-name
perform-requires-clause-name g c =
    let s = g.S.SceneStore.scene c.args.scene.now in
    let runs = c.args.runs.now in
    let i = c.args.index in
    let next = c.in_ok-next.next in
    let order = names_of_runs runs in
    let n = name_at runs i next in
    let t = c.play_gathered.new.stage in
    let low : (run_at runs i).first ≤ next = omega (arith, c.requires.low, c.in_ok-next.ensures.more) in
    let high : next ≤ (run_at runs i).last = c.if-next-run.false in
    let split = split_at runs i next c.requires.index low high in
    record {
      within = c.requires.within;
      inside = omega (arith, run_inside s runs i next c.requires.within c.requires.playable c.requires.index low high, high);
      before = stands_before s order (names_below runs i next) (rest_of runs i next) n c.requires.within c.requires.playable split t.clients.items t.shared t.brush t.device t.frames c.in_ok-next.ensures.played;
    }

pub perform-requires-clause-drawable : goal.perform-requires-clause-drawable
perform-requires-clause-drawable g c =
    let s = g.S.SceneStore.scene c.args.scene.now in
    let runs = c.args.runs.now in
    let i = c.args.index in
    let next = c.in_ok-next.next in
    let order = names_of_runs runs in
    let n = name_at runs i next in
    let t = c.play_gathered.new.stage in
    let low : (run_at runs i).first ≤ next = omega (arith, c.requires.low, c.in_ok-next.ensures.more) in
    let high : next ≤ (run_at runs i).last = c.if-next-run.false in
    let split = split_at runs i next c.requires.index low high in
    can_draw s order (names_below runs i next) (rest_of runs i next) n c.requires.within c.requires.playable split t.clients.items t.shared t.brush t.device t.frames c.in_ok-next.ensures.played

pub perform-requires-clause-clearable : goal.perform-requires-clause-clearable
perform-requires-clause-clearable g c = clearable (g.S.SceneStore.scene c.args.scene.now) (run_at c.args.runs.now c.args.index).client (c.in_ok-next.next + 1)

pub perform-requires-clause-writable : goal.perform-requires-clause-writable
perform-requires-clause-writable g c =
    let s = g.S.SceneStore.scene c.args.scene.now in
    let runs = c.args.runs.now in
    let i = c.args.index in
    let next = c.in_ok-next.next in
    let order = names_of_runs runs in
    let n = name_at runs i next in
    let t = c.play_gathered.new.stage in
    let low : (run_at runs i).first ≤ next = omega (arith, c.requires.low, c.in_ok-next.ensures.more) in
    let high : next ≤ (run_at runs i).last = c.if-next-run.false in
    let split = split_at runs i next c.requires.index low high in
    can_write s order (names_below runs i next) (rest_of runs i next) n c.requires.within c.requires.playable split t.clients.items t.shared t.brush t.device t.frames c.in_ok-next.ensures.played

pub returns : goal.returns
returns g c =
    let s = g.S.SceneStore.scene c.args.scene.now in
    let runs = c.args.runs.now in
    let i = c.args.index in
    let next = c.in_ok-next.next in
    let order = names_of_runs runs in
    let n = name_at runs i next in
    let t = c.play_gathered.new.stage in
    let low : (run_at runs i).first ≤ next = omega (arith, c.requires.low, c.in_ok-next.ensures.more) in
    let high : next ≤ (run_at runs i).last = c.if-next-run.false in
    let split = split_at runs i next c.requires.index low high in
    let e = c.in_ok-perform.ensures in
    record {
      more = omega (arith, c.in_ok-next.ensures.more);
      most = omega (arith, high);
      played = performed_there s runs i next c.requires.within c.requires.playable c.requires.index low high t.clients.items t.shared t.brush t.device t.frames c.in_ok-next.ensures.played c.in_ok-next.ensures.due
          c.perform.new.clients.items c.perform.new.shared c.perform.new.brush c.perform.new.device e.clients e.rect e.drawn e.shared e.settled;
    }
