-- What is known of what was found is known of what it means, and what is known of a scene of what the filters make of it.
use Rattle.std.proofs.Common.{◌≡◌, Bool, true, false, None, refl}
use Rattle.std.proofs.lemmas.List.{length-map}
use Rattle.std.specs.Prelude.{if◌then◌else◌}
use Rattle.std.specs.List.{AllByRecursion}
use Rattle.rc_base.specs.Formats.Limits.{expansion_limit, limit_of, read_limit, stream_limit}
use Rattle.rc_base.specs.declared.scene.Scene.{Scene}
use Rattle.call_lists.specs.Scenes.{cost_told, expanded, met_in}
use Rattle.scene_file.proofs.LimitsByParts.{limits_of_expanded}
use Rattle.spu_chain.specs.Filter.{HasByteTint}
use Rattle.spu_chain.specs.Laws.{FilteredStaysWell, FilteredStaysWithin}
use Rattle.spu_chain.specs.Scenes.{scene_by}
use Rattle.run_words.specs.declared.job.Cluster.{Cluster}
use Rattle.run_words.specs.declared.job.Form.TheVariants.{Bytes, PlainBytes, Text}
use Rattle.run_words.specs.declared.job.Origin.{Origin}
use Rattle.run_words.specs.declared.job.Origin.TheVariants.{Read, Generated}
use Rattle.run_words.specs.Jobs.{Task, origin_of}
use Rattle.run_words.specs.Asked.{IsWell, cluster_limit}
use Rattle.render_core.specs.Scenes.{Found, Plain, Lists, found_limit, is_filtered, meant, scene_for}
use Rattle.render_core.proofs.Judging.{neither}

-- where nothing is outside its range of what was found, nothing is of what it means
pub meant_within : (found : Found) → found_limit found ≡ None → limit_of (meant found) ≡ None
meant_within (Plain s) e = e
meant_within (Lists s) e =
    let first = neither (read_limit s.decl s.streams) _ e in
    let later = neither (expansion_limit (cost_told 0 (met_in s.streams))) (stream_limit (meant (Lists s))) first.1 in
    limits_of_expanded s.decl s.streams (meant (Lists s)) refl (length-map s.streams expanded) first.0 later.1

module _ (task : Task) (scene : Scene) where
  -- what holds of a scene and of what the filters make of it holds of what the task works on
  by_filters : (P : Scene → Type 0) → P scene → P (scene_by task.filters scene) → P (scene_for task scene)
  by_filters P plain filtered = go (is_filtered (origin_of task.job)) where
    go : (b : Bool) → P (if b then scene_by task.filters scene else scene)
    go true = filtered
    go false = plain

  pub filtered_tiles : (cluster : Cluster) → cluster_limit cluster scene ≡ None → cluster_limit cluster (scene_for task scene) ≡ None
  filtered_tiles cluster e = by_filters (λ s. cluster_limit cluster s ≡ None) e e

  pub filtered_within : FilteredStaysWithin → limit_of scene ≡ None → limit_of (scene_for task scene) ≡ None
  filtered_within stays e = by_filters (λ s. limit_of s ≡ None) e ((stays task.filters scene).0 e)

  -- scenes that go through the filters are of bytes
  pub filtered_well : FilteredStaysWell → AllByRecursion HasByteTint task.filters → IsWell (origin_of task.job) scene → IsWell (origin_of task.job) (scene_for task scene)
  filtered_well stays tints well = go (origin_of task.job) well where
    go : (o : Origin) → IsWell o scene → IsWell o (if is_filtered o then scene_by task.filters scene else scene)
    go (Read Bytes) h = (h.0, stays task.filters scene.streams tints h.1)
    go (Read PlainBytes) h = h
    go (Read Text) h = h
    go (Generated seed size) h = h
