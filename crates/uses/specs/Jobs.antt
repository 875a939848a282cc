-- What callers say of jobs.
use Rattle.std.specs.Prelude.{◌≡◌, ℕ, List, Option, Some}
use Rattle.rc_base.specs.Outside.Ends.{Used, Failed, Took}
use Rattle.rc_base.specs.declared.scene.Scene.{Scene}
use Rattle.order_model.specs.declared.record.Record.{Record}
use Rattle.run_words.specs.Asked.{layout_for}
use Rattle.run_words.specs.Jobs.{cluster_of, origin_of, Task}
use Rattle.run_words.specs.declared.job.Cluster.{Cluster}
use Rattle.run_words.specs.declared.work.Work.{Work}
use Rattle.render_core.specs.Due.{seeded_picks, IsSteppedRecord}
use Rattle.render_core.specs.Outcomes.{frames_text}
use Rattle.render_core.specs.Scenes.{HasWork, Holds, IsInput}

-- a job on a cluster is asked for, and the image was given the frames that the record tells of its scene
pub record ShowsItself (asks : Task → Type 0) (source image : Used) (kept : Record) : Type 0 where
  pub task : Task
  pub asked : asks task
  pub cluster : Cluster
  pub clustered : cluster_of task.job ≡ Some cluster
  pub work : Work
  pub has : HasWork task source work
  pub given : Took image (frames_text cluster work.scene kept)

-- a record is kept, and it is that of the scene's cluster after the picks of the seed, and then rounds to the end
pub record FollowsSeed (seed : ℕ) (cluster : Cluster) (scene : Scene) (kept : Option Record) : Type 0 where
  pub told : Record
  pub kept_is : kept ≡ Some told
  pub stepped : IsSteppedRecord scene (layout_for cluster scene) cluster.depth (seeded_picks seed cluster scene) told

-- The task is asked for, the source has what it is to work on, and neither image nor notes fail: nothing but want of memory can hinder it.
pub record IsUnhindered (asks : Task → Type 0) (task : Task) (work : Work) (source image notes : Used) : Type 0 where
  pub asked : asks task
  pub input : List ℕ
  pub holds : Holds (origin_of task.job) source input
  pub is_input : IsInput task input work
  pub image_stays : Failed image → ⊥
  pub notes_stay : Failed notes → ⊥
