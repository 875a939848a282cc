-- From what a job's scene means to what the task works on, and what that leaves of a chain's members.
use Rattle.std.proofs.Common.{◌≡◌, ◌⊎◌, inl, inr, List, Ok, Err, None, refl, sym, ap, ap₂, ◌∙◌, subst}
use Rattle.std.specs.Prelude.{IfErr}
use Rattle.std.specs.declared.option.Option.{Option}
use Rattle.std.specs.declared.result.Result.{Result}
use Rattle.std.specs.List.{AllByRecursion, flat_map}
use Rattle.rc_base.specs.Formats.Limits.{limit_of}
use Rattle.rc_base.specs.Outside.Ends.{Used}
use Rattle.rc_base.specs.declared.scene.Scene.{Scene}
use Rattle.spu_chain.specs.Filter.{AreReached, HasByteTint}
use Rattle.spu_chain.specs.Laws.{FilteredStaysWell, FilteredStaysWithin}
use Rattle.spu_chain.specs.declared.rule.SpuRule.{SpuRule}
use Rattle.run_words.specs.declared.job.Cluster.{Cluster}
use Rattle.run_words.specs.declared.refusal.Refused.{Refused}
use Rattle.render_core.specs.declared.work.Meaning.{Meaning}
use Rattle.run_words.specs.declared.work.Work.{Work}
use Rattle.run_words.specs.declared.told.Told.{Told}
use Rattle.run_words.specs.Jobs.{Task, origin_of}
use Rattle.render_core.specs.Outcomes.{HaveSeenAll}
use Rattle.render_core.specs.Refusals.{Came, HaveSeenSome, IsWorkOf, LeftBy, LeftWith, Before, Behind, Amid}
use Rattle.run_words.specs.Asked.{IsWell, HasTiles, cluster_limit, tile_limit, word_limit}
use Rattle.run_words.specs.Statuses.{refusal_status}
use Rattle.render_core.specs.Scenes.{rules_for, scene_for, work_for, work_with}
use Rattle.render_core.proofs.Filtered.{filtered_tiles, filtered_well, filtered_within}
use Rattle.render_core.proofs.Judging.{tiles_within}

module _ (task : Task) (source : Used) (x : Meaning) (came : Came task.job source x) where
  is_for : work_with task x.scene x.faults ≡ work_for task came.found
  is_for = ap₂ (work_with task) came.means.scene came.means.faults

  pub seen : (left : List SpuRule) → left ≡ rules_for task x.scene → HaveSeenAll task source left
  seen left same = record {
    input = came.input;
    took = came.took;
    found = came.found;
    gives = came.gives;
    rules_are = same ∙ ap (rules_for task) came.means.scene;
  }

  -- where memory lacked on the way
  pub seen_some : (left : List SpuRule) → HaveSeenSome task x.scene left → LeftBy task source 7 left
  seen_some left (inl same) = Before (inr refl) same
  seen_some left (inr (inl all)) = Behind (inr (inr refl)) (seen left all)
  seen_some left (inr (inr some)) = Amid refl (record {
    filtered = some.0;
    input = came.input;
    took = came.took;
    found = came.found;
    gives = came.gives;
    reached = subst (λ (s : Scene). AreReached task.filters (flat_map (λ stream. stream) s.streams) left) came.means.scene some.1;
  })

  module _ (work : Work) (is : work ≡ work_with task x.scene x.faults) where
    scene_is : work.scene ≡ scene_for task x.scene
    scene_is = ap (λ (w : Work). w.scene) is

    pub is_work : word_limit task.job x.scene ≡ None → IsWorkOf task source work
    is_work asked = record { meaning_of = x; came = came; asked = asked; is = is ∙ is_for }

    pub work_within : FilteredStaysWithin → limit_of x.scene ≡ None → limit_of work.scene ≡ None
    work_within stays within = subst (λ (s : Scene). limit_of s ≡ None) (sym scene_is) (filtered_within task x.scene stays within)

    pub work_well : FilteredStaysWell → AllByRecursion HasByteTint task.filters → IsWell (origin_of task.job) x.scene → IsWell (origin_of task.job) work.scene
    work_well stays tints well = subst (IsWell (origin_of task.job)) (sym scene_is) (filtered_well task x.scene stays tints well)

    pub work_tiles : word_limit task.job x.scene ≡ None → HasTiles task.job work.scene
    work_tiles asked cluster of =
        subst (λ (s : Scene). cluster_limit cluster s ≡ None) (sym scene_is)
        (filtered_tiles task x.scene cluster (subst (λ (o : Option Cluster). tile_limit o x.scene ≡ None) of (tiles_within task.job x.scene asked)))

-- where the image failed, or memory lacked, behind the filters
pub seen_behind : (task : Task) (source : Used) (left : List SpuRule) → HaveSeenAll task source left → (r : Result Told Refused)
    → IfErr r (λ x. (refusal_status x.refusal ≡ 6) ⊎ (refusal_status x.refusal ≡ 7)) → LeftWith task source r left
seen_behind task source left all (Ok told) late = all
seen_behind task source left all (Err refused) (inl six) = Behind (inl six) all
seen_behind task source left all (Err refused) (inr seven) = Behind (inr (inr seven)) all
