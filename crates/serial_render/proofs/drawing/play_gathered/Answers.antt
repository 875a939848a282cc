use Rattle.std.proofs.Common.{◌≡◌, ℕ, ◌∙◌, List, ◌+◌, ◌≤◌, length, ap, subst, sym, arith}
use Rattle.std.specs.Prelude.{max, slice_index_or}
use Rattle.std.proofs.lemmas.Option.{slice_get_within}
use Rattle.rc_base.specs.Cluster.Tiles.{window_rect}
use Rattle.rc_base.specs.Drawing.Serial.{accepted_swaps, frame_pixel}
use Rattle.rc_base.specs.declared.scene.Decl.{Decl}
use Rattle.plain_lemmas.proofs.Lists.{read_is_item}
use Rattle.stream_replay.specs.Clients.{client_after}
use Rattle.stream_replay.specs.declared.client.Client.{Client}
use Rattle.stream_replay.proofs.GatheredCommands.{swaps_over_run}
use Rattle.serial_render.specs.Played.{IsPlayed, names_below}
use Rattle.serial_render.specs.Runs.{names_of_runs, run_at}
use Rattle.serial_render.specs.Shown.{images_of}
use Rattle.serial_render.proofs.PlayedNames.{client_there, due_there, frames_there, gathered_there, run_inside}
use Rattle.serial_render.proofs.drawing.play_gathered.Goals as goal

pub index-requires : goal.index-requires
index-requires g c =
    let s = g.S.SceneStore.scene c.args.scene.now in
    let r = run_at c.args.runs.now c.args.index in
    let t = c.args.stage.now in
    let there = client_there s c.args.runs.now c.args.index c.args.place c.requires.within c.requires.playable c.requires.index c.requires.low c.requires.high t.clients.items t.shared t.brush t.device t.frames c.requires.played in
    omega (arith, slice_get_within t.clients.items r.client (client_after s r.client c.args.place) there, c.from.ensures)

pub show_up_to-requires : goal.show_up_to-requires
show_up_to-requires g c =
    c.requires.played.shown.rect ∙ ap (λ (d : Decl). window_rect d.width d.height) (sym c.decl.ensures)

pub gather-requires-clause-commands : goal.gather-requires-clause-commands
gather-requires-clause-commands g c =
    let s = g.S.SceneStore.scene c.args.scene.now in
    let high = c.requires.high in
    record {
      within = c.requires.within;
      order = omega arith;
      inside = run_inside s c.args.runs.now c.args.index c.args.place c.requires.within c.requires.playable c.requires.index c.requires.low c.requires.high;
    }

pub gather-requires-clause-before : goal.gather-requires-clause-before
gather-requires-clause-before g c =
    let s = g.S.SceneStore.scene c.args.scene.now in
    let t = c.args.stage.now in
    client_there s c.args.runs.now c.args.index c.args.place c.requires.within c.requires.playable c.requires.index c.requires.low c.requires.high t.clients.items t.shared t.brush t.device t.frames c.requires.played

pub returns : goal.returns
returns g c =
    let s = g.S.SceneStore.scene c.args.scene.now in
    let runs = c.args.runs.now in
    let i = c.args.index in
    let place = c.args.place in
    let order = names_of_runs runs in
    let r = run_at runs i in
    let t = c.args.stage.now in
    let xs = t.clients.items in
    let old = t.frames in
    let new = c.show_up_to.new.frames in
    let ys = c.gather.new.clients.items in
    let x = c.index.result.now in
    let there = client_there s c.args.runs.now c.args.index c.args.place c.requires.within c.requires.playable c.requires.index c.requires.low c.requires.high xs t.shared t.brush t.device old c.requires.played in
    let was : x ≡ client_after s r.client place = read_is_item xs r.client x _ there (c.index.ensures ∙ ap (λ (k : ℕ). slice_index_or xs k x) c.from.ensures) in
    let swaps : x.swaps ≡ accepted_swaps s r.client place = ap (λ (y : Client). y.swaps) was in
    let count : length new ≡ max (length old) (accepted_swaps s r.client place) = c.in_ok-show_up_to.ensures.count ∙ ap (max (length old)) swaps in
    let due = due_there s c.args.runs.now c.args.index c.args.place c.requires.within c.requires.playable c.requires.index c.requires.low c.requires.high xs t.shared t.brush t.device old c.requires.played new count in
    let images = subst (λ (d : Decl). new ≡ images_of d (frame_pixel s order) (length new)) c.decl.ensures
    (c.in_ok-show_up_to.ensures.images (frame_pixel s order) (subst (λ (d : Decl). old ≡ images_of d (frame_pixel s order) (length old)) (sym c.decl.ensures) c.requires.played.shown.frames_are)
    (λ k low high. due k low (omega (arith, high, swaps)))) in
    let shown = frames_there s c.args.runs.now c.args.index c.args.place c.requires.within c.requires.playable c.requires.index c.requires.low c.requires.high xs t.shared t.brush t.device old c.requires.played new count images in
    let is_there : accepted_swaps s r.client place ≤ length new = omega (arith, count) in
    let run = c.in_ok-next.ensures.run in
    record {
      more = run.low;
      most = run.high;
      played = subst (λ (l : List Client). IsPlayed s order (names_below runs i c.in_ok-next.next) l t.shared t.brush t.device new) (sym c.in_ok-next.ensures.clients)
          (gathered_there s c.args.runs.now c.args.index c.args.place c.requires.within c.requires.playable c.requires.index c.requires.low c.requires.high xs t.shared t.brush t.device new shown is_there c.in_ok-next.next run);
      due = omega (arith, count, swaps_over_run s r.client place (r.last + 1) c.in_ok-next.next run);
    }
