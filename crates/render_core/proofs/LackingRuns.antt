-- What a run on tiles has shown before memory lacked, by what is due.
use Rattle.std.proofs.Common.{◌≡◌, Some, ap, subst}
use Rattle.std.specs.Prelude.{unwrap_or}
use Rattle.std.specs.declared.option.Option.{Option}
use Rattle.rc_base.specs.Outside.Ends.{TookFront}
use Rattle.run_words.specs.declared.job.Cluster.{Cluster}
use Rattle.run_words.specs.declared.job.Job.{Job}
use Rattle.run_words.specs.declared.job.Job.TheVariants.{Render, Simulate, Demo}
use Rattle.run_words.specs.declared.work.Work.{Work}
use Rattle.run_words.specs.Jobs.{cluster_of}
use Rattle.render_core.specs.Due.{Outcome, IsOutcome, IsRecorded}
use Rattle.render_core.specs.Lacking.{RunsWithoutMemoryShowAFront}
use Rattle.render_core.specs.Laws.{OrderedRecordsShowOneImage, RecordsAreForeseen}
use Rattle.render_core.specs.Outcomes.{frames_text}

-- what is due on tiles is by a record
recorded_on : (job : Job) (cluster : Cluster) (work : Work) (o : Outcome) → cluster_of job ≡ Some cluster → IsOutcome job work o → IsRecorded cluster work o
unfolding IsOutcome
recorded_on (Render own) cluster work o e due = subst (λ (c : Cluster). IsRecorded c work o) (ap (λ (x : Option Cluster). unwrap_or x own) e) due
recorded_on (Simulate seed own) cluster work o e due = subst (λ (c : Cluster). IsRecorded c work o) (ap (λ (x : Option Cluster). unwrap_or x own) e) due.recorded
recorded_on (Demo seed size own) cluster work o e due = subst (λ (c : Cluster). IsRecorded c work o) (ap (λ (x : Option Cluster). unwrap_or x own) e) due
recorded_on job cluster work o e due = absurd cc

pub runs_show_a_front : OrderedRecordsShowOneImage → RecordsAreForeseen → RunsWithoutMemoryShowAFront
runs_show_a_front shows foreseen task cluster source image of h =
    let work = h.due.work in
    let is = recorded_on task.job cluster work h.o of h.due.due in
    let kept = is.record_kept in
    let front : TookFront image (frames_text cluster work.scene kept) = subst (TookFront image) is.image record { done = h.done; part = h.part; given = h.given } in
    record {
      work = work;
      has = h.due.has;
      kept = kept;
      lawful = is.lawful;
      orders = is.permitted;
      front = front;
      one_image = λ ordered order permitted.
          subst (TookFront image) ((shows task cluster h.due.has.input work kept of h.due.has.is is.lawful ordered).0.text order permitted) front;
      serial_image = λ uncontended ordered.
          subst (TookFront image) ((foreseen task cluster h.due.has.input work kept of h.due.has.is is.lawful).1 uncontended ordered) front;
    }
