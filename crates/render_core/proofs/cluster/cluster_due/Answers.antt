use Rattle.std.proofs.Common.{◌≡◌, ℕ, ◌+◌, ◌≤◌, ◌<◌, List, length, sym, subst}
use Rattle.std.specs.Prelude.{slice_index_or}
use Rattle.rc_base.specs.Cluster.Tiles.{tile_count}
use Rattle.rc_base.specs.Drawing.Images.{Pixels}
use Rattle.rc_base.specs.declared.cluster.TilePart.{TilePart}
use Rattle.rc_base.specs.declared.window.Layout.{Layout}
use Rattle.rc_base.proofs.WithinLimits.{tiles_within}
use Rattle.frame_out.specs.Frames.{frame_total, window_images, AreFrames, ShowFrames}
use Rattle.step_core.specs.CoreRuns.{IsFinish}
use Rattle.run_words.specs.Asked.{layout_for}
use Rattle.render_core.proofs.Recorded.{layout_fits, layout_within, scene_within}
use Rattle.render_core.proofs.ClusterRuns.{are_writable, finish_of, is_stepped, run_of, text_is}
use Rattle.render_core.proofs.cluster.cluster_due.Goals as goal

pub run_schedule-requires-clause-within : goal.run_schedule-requires-clause-within
run_schedule-requires-clause-within c = scene_within c.args.work.now.scene c.requires.well c.requires.within

pub run_schedule-requires-clause-layout : goal.run_schedule-requires-clause-layout
run_schedule-requires-clause-layout c = layout_fits c.args.cluster c.args.work.now.scene c.args.layout.now c.requires.asked c.requires.tiles

pub run_schedule-requires-clause-picks : goal.run_schedule-requires-clause-picks
run_schedule-requires-clause-picks c =
    subst (λ (l : Layout). (i : ℕ) → i < length c.args.picks.now → slice_index_or c.args.picks.now i 0 < length c.args.work.now.scene.streams + 1 + tile_count l) (sym c.requires.tiles)
    c.requires.picks

pub frames_of-requires-clause-some_tiles : goal.frames_of-requires-clause-some_tiles
frames_of-requires-clause-some_tiles c =
    let scene = c.args.work.now.scene in
    let cluster = c.args.cluster in
    subst (λ (t : Layout). 0 < tile_count t) (sym c.requires.tiles) (tiles_within scene (layout_for cluster scene) cluster.depth (layout_within cluster scene c.requires.asked)).0

pub frames_of-requires-clause-parts : goal.frames_of-requires-clause-parts
frames_of-requires-clause-parts c =
    let scene = c.args.work.now.scene in
    let l = c.args.layout.now in
    let cluster = c.args.cluster in
    let is = finish_of scene l cluster.depth c.args.picks.now c.in_ok-world.world c.in_ok-kept.field-0 c.in_ok-world.ensures.given c.in_ok-world.ensures.right c.in_ok-kept.ensures.done in
    let run = c.in_ok-kept.field-0 in
    let some = subst (λ (t : Layout). 0 < tile_count t) (sym c.requires.tiles) (tiles_within scene (layout_for cluster scene) cluster.depth (layout_within cluster scene c.requires.asked)).0 in
    subst (AreFrames l) (sym c.as_mut_slice.ensures.value) (c.whole_runs_show_frames.ensures.shown scene l run.kept run.parts is.run_of.parts some).frames

pub account_of-requires : goal.account_of-requires
account_of-requires c =
    let scene = c.args.work.now.scene in
    let l = c.args.layout.now in
    let cluster = c.args.cluster in
    let is = finish_of scene l cluster.depth c.args.picks.now c.in_ok-world.world c.in_ok-kept.field-0 c.in_ok-world.ensures.given c.in_ok-world.ensures.right c.in_ok-kept.ensures.done in
    let tiles = (tiles_within scene (layout_for cluster scene) cluster.depth (layout_within cluster scene c.requires.asked)).1 in
    record {
      scene = scene;
      layout = l;
      within = c.requires.within;
      tiles = subst (λ (t : Layout). tile_count t ≤ 32) (sym c.requires.tiles) tiles;
      run = run_of scene l c.in_ok-kept.field-0 is.run_of;
    }

pub returns-clause-outcome : goal.returns-clause-outcome
returns-clause-outcome c =
    let scene = c.args.work.now.scene in
    let l = c.args.layout.now in
    let cluster = c.args.cluster in
    let run = c.in_ok-kept.field-0 in
    let is = finish_of scene l cluster.depth c.args.picks.now c.in_ok-world.world run c.in_ok-world.ensures.given c.in_ok-world.ensures.right c.in_ok-kept.ensures.done in
    let whole = subst (λ (t : Layout). IsFinish scene t cluster.depth c.args.picks.now run) c.requires.tiles is in
    let some = (tiles_within scene (layout_for cluster scene) cluster.depth (layout_within cluster scene c.requires.asked)).0 in
    let own = subst (λ (parts : List TilePart). (pixels : ℕ → Pixels) → ShowFrames l parts pixels → c.in_ok-frames.frames ≡ window_images l pixels (frame_total l parts))
    c.as_mut_slice.ensures.value c.in_ok-frames.ensures in
    let shown = subst (λ (t : Layout). (pixels : ℕ → Pixels) → ShowFrames t run.parts pixels → c.in_ok-frames.frames ≡ window_images t pixels (frame_total t run.parts)) c.requires.tiles own in
    is_stepped cluster c.args.picks.now c.args.work.now run c.scene_lists_are_well_formed.ensures c.records_of_scenes.ensures.orders c.requires.within whole _
    (text_is cluster scene run whole.run_of c.whole_runs_show_frames.ensures.shown some c.in_ok-frames.frames shown c.whole_runs_show_frames.ensures.text)
    c.in_ok-notes.field-0 (c.in_ok-notes.ensures (layout_for cluster scene) (run_of scene (layout_for cluster scene) run whole.run_of))

pub returns-clause-writable : goal.returns-clause-writable
returns-clause-writable c =
    let scene = c.args.work.now.scene in
    let l = c.args.layout.now in
    let cluster = c.args.cluster in
    let run = c.in_ok-kept.field-0 in
    let is = finish_of scene l cluster.depth c.args.picks.now c.in_ok-world.world run c.in_ok-world.ensures.given c.in_ok-world.ensures.right c.in_ok-kept.ensures.done in
    let whole = subst (λ (t : Layout). IsFinish scene t cluster.depth c.args.picks.now run) c.requires.tiles is in
    let some = (tiles_within scene (layout_for cluster scene) cluster.depth (layout_within cluster scene c.requires.asked)).0 in
    let own = subst (λ (parts : List TilePart). (pixels : ℕ → Pixels) → ShowFrames l parts pixels → c.in_ok-frames.frames ≡ window_images l pixels (frame_total l parts))
    c.as_mut_slice.ensures.value c.in_ok-frames.ensures in
    let shown = subst (λ (t : Layout). (pixels : ℕ → Pixels) → ShowFrames t run.parts pixels → c.in_ok-frames.frames ≡ window_images t pixels (frame_total t run.parts)) c.requires.tiles own in
    are_writable cluster scene run whole.run_of c.whole_runs_show_frames.ensures.shown some c.in_ok-frames.frames shown c.frames_of_scenes_are_writable.ensures c.requires.within
