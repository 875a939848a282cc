use Rattle.std.proofs.Common.{◌≡◌, ℕ, ◌+◌, ◌≤◌, ◌<◌, List, length, sym, ap, ◌∙◌, subst, arith, rules}
use Rattle.std.specs.Prelude.{IfOk, slice_index_or}
use Rattle.rc_base.specs.Cluster.Tiles.{tile_count}
use Rattle.scene_file.specs.Generator.{picks_of}
use Rattle.rc_base.specs.declared.window.Layout.{Layout}
use Rattle.render_core.specs.Due.{IsStepped, IsOutcome}
use Rattle.render_core.specs.Scenes.{actors_for}
use Rattle.run_words.specs.Asked.{layout_for}
use Rattle.render_core.specs.Refusals.{outcome_of}
use Rattle.rc_base.proofs.WithinLimits.{clients_within, tiles_within}
use Rattle.render_core.proofs.Picked.{picks_below}
use Rattle.render_core.proofs.Recorded.{layout_within}
use Rattle.render_core.proofs.due.simulate.Goals as goal

pub actor_count-requires-clause-clients : goal.actor_count-requires-clause-clients
actor_count-requires-clause-clients c = (clients_within c.args.work.now.scene c.requires.read.within).1

pub actor_count-requires-clause-tiles : goal.actor_count-requires-clause-tiles
actor_count-requires-clause-tiles c =
    let scene = c.args.work.now.scene in
    let cluster = c.args.cluster in
    subst (λ (l : Layout). tile_count l ≤ 32) (sym c.tiles_of-layout.ensures)
    (tiles_within scene (layout_for cluster scene) cluster.depth (layout_within cluster scene c.requires.tiles)).1

pub cluster_due-requires-clause-picks : goal.cluster_due-requires-clause-picks
cluster_due-requires-clause-picks c =
    let scene = c.args.work.now.scene in
    let actors : c.actor_count.result ≡ actors_for c.args.cluster scene = c.actor_count.ensures ∙ ap (λ (l : Layout). length scene.streams + 1 + tile_count l) c.tiles_of-layout.ensures in
    let picks : c.as_slice.result.now ≡ picks_of c.args.seed (actors_for c.args.cluster scene) = c.as_slice.ensures.value ∙ c.in_ok-picks.ensures ∙ ap (picks_of c.args.seed) actors in
    subst (λ (p : List ℕ). (i : ℕ) → i < length p → slice_index_or p i 0 < actors_for c.args.cluster scene) (sym picks)
    (picks_below c.args.seed (actors_for c.args.cluster scene) (omega arith))

pub returns : goal.returns
unfolding IsOutcome
returns c = record {
  outcome =
      let work = c.args.work.now in
      let actors : c.actor_count.result ≡ actors_for c.args.cluster work.scene = c.actor_count.ensures ∙ ap (λ (l : Layout). length work.scene.streams + 1 + tile_count l) c.tiles_of-layout.ensures in
      let picks : c.as_slice.result.now ≡ picks_of c.args.seed (actors_for c.args.cluster work.scene) = c.as_slice.ensures.value ∙ c.in_ok-picks.ensures ∙ ap (picks_of c.args.seed) actors in
      subst (λ (p : List ℕ). IfOk c.cluster_due.result (λ due. IsStepped c.args.cluster p work (outcome_of due))) picks c.cluster_due.ensures.outcome;
  writable = search rules;
  refused = search rules;
}
