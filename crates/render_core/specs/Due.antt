-- What is due, job by job, for what a task works on.
use Rattle.std.specs.Prelude.{◌≡◌, ℕ, ◌<◌, ◌++◌, Bool, List, [], Option, Some, None, if◌then◌else◌}
use Rattle.rc_base.specs.Cluster.Tiles.{tile_count}
use Rattle.rc_base.specs.Drawing.Images.{frame_images}
use Rattle.rc_base.specs.Formats.Netpbm.{p6_texts}
use Rattle.rc_base.specs.Formats.Spelling.{SpellsScene}
use Rattle.scene_text.specs.Text.Printed.{printed}
use Rattle.scene_text.specs.Text.Read.{SpellsText}
use Rattle.rc_base.specs.Orders.Footprints.{footprint_of}
use Rattle.rc_base.specs.Orders.Order.{IsPermitted, default_journal, default_order}
use Rattle.rc_base.specs.Orders.Sync.{sync_lists_of}
use Rattle.scene_file.specs.Generator.{picks_of}
use Rattle.rc_base.specs.declared.image.Image.{Image}
use Rattle.rc_base.specs.declared.scene.Scene.{Scene}
use Rattle.rc_base.specs.declared.sync.Entry.{Entry}
use Rattle.rc_base.specs.declared.window.Layout.{Layout}
use Rattle.order_model.specs.Report.{frame_count, image_text_of, is_stuck, report_text_of, short_report_of, tile_order}
use Rattle.order_model.specs.Sent.{IsRecordOf}
use Rattle.order_model.specs.declared.record.Record.{Record}
use Rattle.race_check.specs.Races.{IsVerdict}
use Rattle.race_check.specs.declared.verdict.Verdict.{Verdict}
use Rattle.race_check.specs.declared.verdict.Verdict.TheVariants as verdict
use Rattle.scene_file.specs.Written.{written}
use Rattle.world_model.specs.Laws.{IsRecordIn}
use Rattle.world_model.specs.declared.moves.Move.{Move}
use Rattle.world_model.specs.Runs.{IsFinishedRun}
use Rattle.world_model.specs.World.{World}
use Rattle.run_words.specs.Asked.{layout_for}
use Rattle.render_core.specs.Scenes.{actors_for}
use Rattle.run_words.specs.Lines.{race_line}
use Rattle.run_words.specs.declared.told.Ending.{Ending}
use Rattle.run_words.specs.declared.told.Ending.TheVariants.{Complete, Stuck, RaceFound}
use Rattle.run_words.specs.declared.job.Cluster.{Cluster}
use Rattle.run_words.specs.declared.work.Work.{Work}
use Rattle.run_words.specs.declared.job.Job.{Job}
use Rattle.run_words.specs.declared.job.Job.TheVariants.{Render, Simulate, Serial, Last, Check, Race, Pack, Unpack, Gen, Demo}

-- a scene, and the lines that its report has besides the scene's own: of what is refused before the run, and of the filters that count
abbrev pub work_on : Scene → List ℕ → List ℕ → Work
work_on scene refused counted = record { scene = scene; refused = refused; counted = counted }

-- bytes to the image, bytes to the notes, how the run ends that writes them, and of a cluster the record that is kept
pub record Outcome : Type 0 where
  pub image : List ℕ
  pub notes : List ℕ
  pub ending : Ending
  pub kept : Option Record

-- stuck exactly where the journal leaves a client waiting
abbrev pub ending_by : Scene → List Entry → Ending
ending_by scene journal = if is_stuck (sync_lists_of scene) journal then Stuck else Complete

-- ---- of a cluster

-- the report of a cluster's record, with each tile's order where that is asked for; what was refused before the run comes first
abbrev pub report_due : Work → Layout → Record → Bool → List ℕ
report_due work l kept orders = work.refused ++ report_text_of work.scene l kept work.counted orders

-- What every run of a cluster owes, whoever picked its actors' turns: it keeps a lawful record of the scene on the tiles of the words, in which each
-- tile's order is one that the journal permits. Its image text is that of the record: each tile's pixels of each frame are those of one serial
-- renderer in the order that the tile's log records. Its report is the record's, and it is stuck where the journal leaves a client waiting.
pub record IsRecorded (cluster : Cluster) (work : Work) (o : Outcome) : Type 0 where
  pub record_kept : Record
  pub kept : o.kept ≡ Some record_kept
  pub lawful : IsRecordOf work.scene (layout_for cluster work.scene) record_kept
  pub permitted : (tile : ℕ) → tile < tile_count (layout_for cluster work.scene)
      → IsPermitted (sync_lists_of work.scene) record_kept.journal (tile_order record_kept tile)
  pub image : o.image ≡ image_text_of work.scene (layout_for cluster work.scene) record_kept
  pub notes : o.notes ≡ report_due work (layout_for cluster work.scene) record_kept cluster.orders
  pub ending : o.ending ≡ ending_by work.scene record_kept.journal

-- The record is that of the stepped run of these picks, behind which come rounds of one pick for each actor until all have ended.
pub record IsSteppedRecord (scene : Scene) (l : Layout) (depth : ℕ) (picks : List ℕ) (kept : Record) : Type 0 where
  pub rounds : ℕ
  pub moves : List Move
  pub world : World
  pub finished : IsFinishedRun scene l depth picks rounds moves world
  pub record_of : IsRecordIn scene l world kept

-- what a cluster owes whose turns are these picks, and then rounds
pub record IsStepped (cluster : Cluster) (picks : List ℕ) (work : Work) (o : Outcome) : Type 0 where
  pub recorded : IsRecorded cluster work o
  pub stepped : IsSteppedRecord work.scene (layout_for cluster work.scene) cluster.depth picks recorded.record_kept

-- the picks of a seed for the cluster's actors
abbrev pub seeded_picks : ℕ → Cluster → Scene → List ℕ
seeded_picks seed cluster scene = picks_of seed (actors_for cluster scene)

-- ---- without a cluster

-- the default journal of a scene
abbrev pub journal_of : Scene → List Entry
journal_of scene = default_journal (sync_lists_of scene)

-- the frames of its default order, one for each Swap of the default journal
unfoldable pub default_frames : Scene → List Image
default_frames scene = frame_images scene (default_order (sync_lists_of scene) (journal_of scene)) (frame_count (journal_of scene))

unfoldable pub default_ending : Scene → Ending
default_ending scene = ending_by scene (journal_of scene)

-- the short report by a journal, with these lines before those of who waits; what was refused before the run comes first
unfoldable pub short_due : Work → List ℕ → List Entry → List ℕ
short_due work told journal = work.refused ++ short_report_of work.scene journal (work.counted ++ told)

-- the frames of the default order, and the short report by the default journal
abbrev pub drawn_in_order : Work → Outcome
drawn_in_order work = record {
  image = p6_texts (default_frames work.scene);
  notes = short_due work [] (journal_of work.scene);
  ending = default_ending work.scene;
  kept = None;
}

-- the short report alone
abbrev pub judged_in_order : Work → Outcome
judged_in_order work = record { image = []; notes = short_due work [] (journal_of work.scene); ending = default_ending work.scene; kept = None }

-- ---- of what synchronisation orders

-- of every two conflicting commands one is before the other, or these are the first of the default order that race
abbrev pub IsVerdictOn : Scene → Verdict → Type 0
IsVerdictOn scene v =
    IsVerdict (sync_lists_of scene) (journal_of scene) (default_order (sync_lists_of scene) (journal_of scene)) (footprint_of scene) v

-- where nobody waits, a race is what is found
abbrev pub found_by : Verdict → Ending
found_by verdict.Ordered = Complete
found_by (verdict.Race first second spot) = RaceFound

abbrev pub race_ending : Scene → Verdict → Ending
race_ending scene v = if is_stuck (sync_lists_of scene) (journal_of scene) then Stuck else found_by v

-- what is due by a verdict: nothing for the image, and the verdict in the short report
abbrev pub raced : Work → Verdict → Outcome
raced work v =
    record { image = []; notes = short_due work (race_line v) (journal_of work.scene); ending = race_ending work.scene v; kept = None }

-- what is due where it is asked which commands race
pub record IsRaced (work : Work) (o : Outcome) : Type 0 where
  pub told : Verdict
  pub is : IsVerdictOn work.scene told
  pub due : o ≡ raced work told

-- ---- of formats

-- one text for the image, and nothing for the notes
abbrev pub shown_alone : List ℕ → Outcome
shown_alone text = record { image = text; notes = []; ending = Complete; kept = None }

-- the scene's bytes, which spell it
abbrev pub IsPacked : Scene → Outcome → Type 0
IsPacked scene o = (o ≡ shown_alone (written scene)) × SpellsScene o.image scene

-- the scene's text, which spells it
abbrev pub IsUnpacked : Scene → Outcome → Type 0
IsUnpacked scene o = (o ≡ shown_alone (printed scene)) × SpellsText o.image scene

-- ---- job by job

-- This is due for the work: one case for each job. What is packed or unpacked spells the scene again, in the other form.
unfoldable pub IsOutcome : Job → Work → Outcome → Type 0
IsOutcome (Render cluster) work o = IsRecorded cluster work o
IsOutcome (Simulate seed cluster) work o = IsStepped cluster (seeded_picks seed cluster work.scene) work o
IsOutcome Serial work o = o ≡ drawn_in_order work
IsOutcome Last work o = o ≡ drawn_in_order work
IsOutcome Check work o = o ≡ judged_in_order work
IsOutcome Race work o = IsRaced work o
IsOutcome Pack work o = IsPacked work.scene o
IsOutcome Unpack work o = IsUnpacked work.scene o
IsOutcome (Gen seed size) work o = IsPacked work.scene o
IsOutcome (Demo seed size cluster) work o = IsRecorded cluster work o
