-- What a cluster that has ended leaves.
use Rattle.std.specs.Prelude.{◌≡◌, ℕ, List}
use Rattle.rc_base.specs.declared.scene.Decl.{Decl}
use Rattle.rc_base.specs.declared.scene.Scene.{Scene}
use Rattle.rc_base.specs.declared.window.Layout.{Layout}
use Rattle.order_model.specs.Sent.{IsRecordOf}
use Rattle.run_record.specs.Told.{AreFrameParts, AreTallies, AreFaults, IsWaiting}
use Rattle.world_model.specs.Laws.{IsRecordIn}
use Rattle.world_model.specs.declared.moves.Move.{Move}
use Rattle.world_model.specs.Runs.{IsFinishedRun}
use Rattle.world_model.specs.World.{World as Model}
use Rattle.step_core.specs.Rounds.{HasRun}
use Rattle.step_core.specs.declared.rounds.CoreRun.{CoreRun}
use Rattle.step_core.specs.declared.cluster.Cluster.{Cluster}

-- What is left of a run of the scene on the tiles of the layout: a lawful record, the parts of its frames, what was sent, who waits, and what was refused.
pub record IsCoreRun (scene : Scene) (l : Layout) (run : CoreRun) : Type 0 where
  pub lawful : IsRecordOf scene l run.kept
  pub parts : AreFrameParts scene l run.kept run.parts
  pub tallies : AreTallies scene l run.tallies
  pub waiting : IsWaiting scene run.kept.journal run.waiting
  pub faults : AreFaults scene run.faults

-- It is what the stepped run of these picks leaves, once rounds of one pick for each actor have brought all to their end.
pub record IsFinish (scene : Scene) (l : Layout) (depth : ℕ) (picks : List ℕ) (run : CoreRun) : Type 0 where
  pub rounds : ℕ
  pub moves : List Move
  pub world : Model
  pub finished : IsFinishedRun scene l depth picks rounds moves world
  pub record_of : IsRecordIn scene l world run.kept
  pub run_of : IsCoreRun scene l run

-- what is gathered of a cluster of this declaration in which all have ended, whatever it was seen as
abbrev pub IsGathered : Decl → Cluster → CoreRun → Type 0
IsGathered decl world run = (scene : Scene) (l : Layout) → decl ≡ scene.decl → (h : HasRun scene l world)
    → IsRecordIn scene l h.model run.kept × IsCoreRun scene l run
