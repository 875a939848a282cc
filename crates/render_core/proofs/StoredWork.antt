-- What a task works on whose scene is stored in little room.
use Rattle.std.proofs.Common.{◌≡◌, ℕ, true, List, [], map, Ok, Err, refl, sym, ap, ap₂, subst}
use Rattle.std.specs.declared.result.Result.{Result}
use Rattle.rc_base.specs.Outside.Ends.{Used}
use Rattle.rc_base.specs.declared.scene.Scene.{Scene}
use Rattle.rc_base.specs.declared.state.Fault.{Fault}
use Rattle.spu_chain.specs.Laws.{ChainsFollow, MembersFollow}
use Rattle.spu_chain.specs.Scenes.{counts_from, rules_after_all, scene_by}
use Rattle.spu_chain.specs.declared.rule.SpuRule.{SpuRule}
use Rattle.run_words.specs.Jobs.{Reads, Task, origin_of, task_of}
use Rattle.run_words.specs.Lines.{filter_lines, list_fault_lines}
use Rattle.run_words.specs.declared.job.Form.TheVariants.{Bytes}
use Rattle.run_words.specs.declared.job.Job.{Job}
use Rattle.run_words.specs.declared.job.Job.TheVariants.{Render, Simulate, Serial, Last, Check, Race, Pack, Unpack, Gen, Demo}
use Rattle.run_words.specs.declared.job.Origin.TheVariants.{Read}
use Rattle.run_words.specs.declared.refusal.DueRefusal.{DueRefusal}
use Rattle.run_words.specs.declared.refusal.Refusal.{Refusal}
use Rattle.run_words.specs.declared.work.Work.{Work}
use Rattle.render_core.specs.Carried.{IsObtained, IsSoundWork}
use Rattle.render_core.specs.Due.{work_on}
use Rattle.render_core.specs.Refusals.{IsMadeFor, MakesDue}
use Rattle.render_core.specs.Scenes.{rules_for, work_with}
use Rattle.render_core.specs.Stored.{IsAnySoundWork, reads_stored, work_in}
use Rattle.render_core.specs.declared.due.Due.{Due}
use Rattle.render_core.specs.declared.work.AnyWork.{AnyWork}
use Rattle.render_core.specs.declared.work.AnyWork.TheVariants.{Whole}
use Rattle.render_core.proofs.PlainScenes.{no_rules_behind, plain_scene}

-- such a job reads bytes
pub reads_bytes : (job : Job) → reads_stored job ≡ true → origin_of job ≡ Read Bytes
reads_bytes Serial stored = refl
reads_bytes Last stored = refl
reads_bytes Check stored = refl
reads_bytes Race stored = refl
reads_bytes (Render cluster) stored = refl
reads_bytes (Simulate seed cluster) stored = cc
reads_bytes Pack stored = cc
reads_bytes Unpack stored = cc
reads_bytes (Gen seed size) stored = cc
reads_bytes (Demo seed size cluster) stored = cc

pub reads : (job : Job) → reads_stored job ≡ true → Reads job
reads job stored = (Bytes, reads_bytes job stored)

-- ---- behind a chain without members

module _ (members : MembersFollow) (chains : ChainsFollow) (scene : Scene) where
  counted : [] ≡ filter_lines (counts_from 0 (rules_after_all [] scene.streams))
  counted = ap (λ (rules : List SpuRule). filter_lines (counts_from 0 rules)) (sym (no_rules_behind members chains scene.streams))

  module _ (faults : List (List (ℕ × Fault))) where
    alone : work_on scene (list_fault_lines faults) [] ≡ work_on (scene_by [] scene) (list_fault_lines faults) (filter_lines (counts_from 0 (rules_after_all [] scene.streams)))
    alone = ap₂ (λ (x : Scene) (l : List ℕ). work_on x (list_fault_lines faults) l) (sym (plain_scene members chains scene)) counted

    -- a scene is worked on as it is
    plain_work_of : (job : Job) → reads_stored job ≡ true → work_on scene (list_fault_lines faults) [] ≡ work_with (task_of [] job) scene faults
    plain_work_of Serial stored = alone
    plain_work_of Last stored = alone
    plain_work_of Check stored = alone
    plain_work_of Race stored = alone
    plain_work_of (Render cluster) stored = alone
    plain_work_of (Simulate seed cluster) stored = cc
    plain_work_of Pack stored = cc
    plain_work_of Unpack stored = cc
    plain_work_of (Gen seed size) stored = cc
    plain_work_of (Demo seed size cluster) stored = cc

  -- and leaves no rules
  plain_rules_of : (job : Job) → reads_stored job ≡ true → [] ≡ rules_for (task_of [] job) scene
  plain_rules_of Serial stored = sym (no_rules_behind members chains scene.streams)
  plain_rules_of Last stored = sym (no_rules_behind members chains scene.streams)
  plain_rules_of Check stored = sym (no_rules_behind members chains scene.streams)
  plain_rules_of Race stored = sym (no_rules_behind members chains scene.streams)
  plain_rules_of (Render cluster) stored = sym (no_rules_behind members chains scene.streams)
  plain_rules_of (Simulate seed cluster) stored = cc
  plain_rules_of Pack stored = cc
  plain_rules_of Unpack stored = cc
  plain_rules_of (Gen seed size) stored = cc
  plain_rules_of (Demo seed size cluster) stored = cc

  module _ {B : Type 0} (f : B → SpuRule) (bs : List B) (bare : bs ≡ []) (job : Job) (stored : reads_stored job ≡ true) where
    pub plain_work : (faults : List (List (ℕ × Fault))) → work_on scene (list_fault_lines faults) [] ≡ work_with (task_of (map f bs) job) scene faults
    plain_work faults =
        subst (λ (rules : List SpuRule). work_on scene (list_fault_lines faults) [] ≡ work_with (task_of rules job) scene faults)
        (sym (ap (map f) bare)) (plain_work_of faults job stored)

    pub plain_rules : map f bs ≡ rules_for (task_of (map f bs) job) scene
    plain_rules = subst (λ (rules : List SpuRule). rules ≡ rules_for (task_of rules job) scene) (sym (ap (map f) bare)) (plain_rules_of job stored)

-- what is made with its lines is made for the work
pub made_with : (job : Job) (work : Work) (before behind : List ℕ) → before ≡ work.refused → behind ≡ work.counted → (r : Result Due DueRefusal)
    → MakesDue (IsMadeFor job (work_on work.scene before behind)) r → MakesDue (IsMadeFor job work) r
made_with job work before behind first second r made =
    subst (λ (w : Work). MakesDue (IsMadeFor job w) r) (ap₂ (λ (a b : List ℕ). work_on work.scene a b) first second) made

-- ---- work that was obtained whole

module _ (task : Task) (source : Used) (left : List SpuRule) (SourceStays : Type 0) where
  pub whole : (work : Work) → IsObtained task source left SourceStays (IsSoundWork task source) (Ok work)
      → IsObtained task source left SourceStays (IsAnySoundWork task source) (Ok (Whole work))
  whole work step = record { given = record { sound = step.given; form = tt }; refused = tt; members = step.members; unread = step.unread }

  -- what is due is due for the work, however its scene is stored
  pub as_work : (work : AnyWork) → IsObtained task source left SourceStays (IsAnySoundWork task source) (Ok work)
      → IsObtained task source left SourceStays (IsSoundWork task source) (Ok (work_in work))
  as_work work step = record { given = step.given.sound; refused = tt; members = step.members; unread = step.unread }

  pub refused_too : {A : Type 0} {B : Type 0} {holds : A → Type 0} {holds_too : B → Type 0} (refusal : Refusal)
      → IsObtained task source left SourceStays holds (Err refusal) → IsObtained task source left SourceStays holds_too (Err refusal)
  refused_too refusal step = record { given = tt; refused = step.refused; members = step.members; unread = step.unread }
