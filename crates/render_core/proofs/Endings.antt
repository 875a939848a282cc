-- How a run ends, from what its steps leave, and what follows from how it ended.
use Rattle.std.proofs.Common.{◌≡◌, ℕ, ◌<◌, ◌≤◌, ◌⊎◌, inl, inr, List, [], ◌∷◌, ◌++◌, length, map, take, drop, None, Some, refl, sym, ap, ap₂, subst, ◌∙◌, length-append, arith}
use Rattle.std.specs.Prelude.{String, MatchOption, string_bytes}
use Rattle.std.specs.Global.{Global}
use Rattle.std.specs.declared.option.Option.{Option}
use Rattle.std.proofs.lemmas.Bool.{cases_lt}
use Rattle.std.proofs.lemmas.List.{append-nil}
use Rattle.std.specs.Io.KnownBytes.{Consumes, IsAtEnd}
use Rattle.rc_base.specs.Outside.Transfer.{byte_limit}
use Rattle.command_line.specs.declared.job.JobName.{JobName}
use Rattle.command_line.specs.Laws.{OneChain, OneReading}
use Rattle.order_model.specs.declared.record.Record.{Record}
use Rattle.run_words.specs.declared.told.Ending.{Ending}
use Rattle.run_words.specs.declared.told.Ending.TheVariants.{Complete, Stuck as EndsStuck, RaceFound as EndsRaceFound}
use Rattle.run_words.specs.declared.job.Job.{Job}
use Rattle.run_words.specs.declared.job.Origin.{Origin}
use Rattle.run_words.specs.declared.job.Origin.TheVariants.{Read, Generated}
use Rattle.run_words.specs.declared.refusal.Refusal.{Refusal}
use Rattle.run_words.specs.declared.told.Told.{Told}
use Rattle.render_core.specs.Due.{Outcome}
use Rattle.rc_base.specs.Outside.Ends.{Used, Failed, IsCalm, Took, Noted, TookInput}
use Rattle.render_core.specs.Findings.{Finding, Long, Malformed, Outside, Unsuited, Sound, IsFinding}
use Rattle.run_words.specs.Jobs.{AskFiltered, AskPlainly, IsJob, Reads, Task, job_in, origin_of, task_of}
use Rattle.render_core.specs.Scenes.{Holds, Takes}
use Rattle.run_words.specs.Lines.{memory_line}
use Rattle.render_core.specs.Outcomes.{Sent, Whole, Front, IsDone, IsUnnoted, IsReported, Cause, Ran, Done, NotesFailed, Stuck, RaceFound, Refused, NoMemory, HasNotes}
use Rattle.run_words.specs.Statuses.{refusal_status, refusal_line, IsRefusalTold, IsConcluded}
use Rattle.render_core.specs.Refusals.{kept_for, IsCaused, IsPerformed}

-- ---- the words name one job

pub same_job : OneReading → (words : List (String Global)) (a b : Job) → IsJob words a → IsJob words b → a ≡ b
same_job one words a b is_a is_b =
    let same = one (map string_bytes words) is_a.name is_b.name is_a.settings is_b.settings is_a.line is_b.line in
    sym is_a.asked ∙ ap (λ (n : JobName). job_in n is_a.settings) same.0 ∙ ap (job_in is_b.name) same.1 ∙ is_b.asked

-- and ask for one task
pub same_task : OneReading → (words : List (String Global)) (a b : Task) → AskPlainly words a → AskPlainly words b → a ≡ b
same_task one words a b is_a is_b =
    ap₂ task_of (is_a.0 ∙ sym is_b.0) (same_job one words a.job b.job is_a.1 is_b.1)

-- and so they do behind filters, of which they name one chain
pub same_filtered : OneReading → OneChain → (words : List (String Global)) (a b : Task) → AskFiltered words a → AskFiltered words b → a ≡ b
same_filtered one chain words a b is_a is_b =
    let same = chain (map string_bytes words) a.filters b.filters is_a.count is_b.count is_a.chain is_b.chain in
    ap₂ task_of same.0 (same_job one (drop is_a.count words) a.job b.job is_a.job (subst (λ (n : ℕ). IsJob (drop n words) b.job) (sym same.1) is_b.job))

-- from what is read of the words
pub named : (words : List (String Global)) (r : Option Job) (job : Job) → r ≡ Some job → MatchOption r ((j : Job) → IsJob words j → ⊥) (IsJob words) → IsJob words job
named words r job is h = subst (λ (o : Option Job). MatchOption o ((j : Job) → IsJob words j → ⊥) (IsJob words)) is h

pub unnamed : (words : List (String Global)) (r : Option Job) → r ≡ None → MatchOption r ((j : Job) → IsJob words j → ⊥) (IsJob words)
    → (j : Job) → IsJob words j → ⊥
unnamed words r is h = subst (λ (o : Option Job). MatchOption o ((j : Job) → IsJob words j → ⊥) (IsJob words)) is h

-- ---- what is taken of a source that tells its bytes

pub front_whole : (input given rest : List ℕ) → given ≡ input ++ rest → rest ≡ [] → input ≡ given
front_whole input given rest e none = sym (e ∙ ap (λ (l : List ℕ). input ++ l) none ∙ append-nil input)

module _ (given input : List ℕ) where
  -- a source within the limit is taken whole
  plain_whole : (before after : Option (List ℕ)) → before ≡ Some given → Consumes before after input → (length input ≤ byte_limit → IsAtEnd after)
      → length given ≤ byte_limit → input ≡ given
  plain_whole before after e taken all short = go after (subst (λ (b : Option (List ℕ)). Consumes b after input) e taken) all where
    go : (after : Option (List ℕ)) → Consumes (Some given) after input → (length input ≤ byte_limit → IsAtEnd after) → input ≡ given
    go None taken all = absurd taken
    go (Some rest) taken all = let sizes = ap length taken ∙ length-append input rest in front_whole input given rest taken (all (omega (arith, sizes, short)))

  -- of a longer source more than the limit is taken
  plain_long : (before after : Option (List ℕ)) → before ≡ Some given → Consumes before after input → (length input ≤ byte_limit → IsAtEnd after)
      → byte_limit < length given → length input ≤ byte_limit → ⊥
  plain_long before after e taken all long short = go after (subst (λ (b : Option (List ℕ)). Consumes b after input) e taken) all where
    go : (after : Option (List ℕ)) → Consumes (Some given) after input → (length input ≤ byte_limit → IsAtEnd after) → ⊥
    go None taken all = taken
    go (Some rest) taken all = let same = ap length (front_whole input given rest taken (all short)) in omega (arith, same, short, long)

-- what the source is to the task, its taken input is
module _ (task : Task) (source : Used) (given input : List ℕ) where
  module _ (left_is : source.before ≡ Some given) (took : TookInput source input) where
    whole : (finding : Finding) → length given ≤ byte_limit → IsFinding task given finding → IsFinding task input finding
    whole finding short h = subst (λ (l : List ℕ). IsFinding task l finding) (sym (plain_whole given input source.before source.after left_is took.taken took.all short)) h

    found_in_read : (finding : Finding) → IsFinding task given finding → IsFinding task input finding
    found_in_read Long h = elim (cases_lt byte_limit (length input)) [
      | inl long ↦ long
      | inr short ↦ absurd (plain_long given input source.before source.after left_is took.taken took.all h short)
    ]
    found_in_read Malformed h = whole Malformed h.0 h
    found_in_read (Outside limit) h = whole (Outside limit) h.0 h
    found_in_read (Unsuited name) h = whole (Unsuited name) h.0 h
    found_in_read (Sound work) h = whole (Sound work) h.short h

  by_origin : (origin : Origin) → Holds origin source given → Takes origin source input → (finding : Finding) → IsFinding task given finding → IsFinding task input finding
  by_origin (Read form) holds takes finding h = found_in_read holds.0 takes finding h
  by_origin (Generated seed size) holds takes finding h = subst (λ (l : List ℕ). IsFinding task l finding) (holds ∙ sym takes.0) h

  pub found_in_taken : Holds (origin_of task.job) source given → Takes (origin_of task.job) source input → (finding : Finding) → IsFinding task given finding
      → IsFinding task input finding
  found_in_taken holds takes finding h = by_origin (origin_of task.job) holds takes finding h

-- a source that is read, and has an input for the job, didn't fail
pub holds_calm : (task : Task) (source : Used) (given : List ℕ) → Reads task.job → Holds (origin_of task.job) source given → Failed source → ⊥
holds_calm task source given reads holds = go (subst (λ (o : Origin). Holds o source given) reads.1 holds) where
  go : Holds (Read reads.0) source given → Failed source → ⊥
  go h = h.1

-- ---- an end that didn't fail

pub sent_whole : (image : Used) (o : Outcome) (lines : List ℕ) → (Failed image → ⊥) → Sent image o lines → Took image o.image × (lines ≡ o.notes)
sent_whole image o lines calm (Whole given quiet same) = (given, same)
sent_whole image o lines calm (Front short cut) = absurd (calm cut.failed)

pub noted_whole : (notes : Used) (lines : List ℕ) → (Failed notes → ⊥) → Noted notes lines → Took notes lines
noted_whole notes lines calm (inl whole) = whole.0
noted_whole notes lines calm (inr cut) = absurd (calm cut.0)

pub cases_nil : (l : List ℕ) → (l ≡ []) ⊎ (0 < length l)
cases_nil [] = inl refl
cases_nil (x ∷ xs) = inr (omega arith)

-- ---- how runs end

module _ (asks : Task → Type 0) (source image notes : Used) where
  module _ (task : Task) (is : asks task) where
    -- what is told has a cause: its own, or want of memory for its line
    pub ran_refused : (refusal : Refusal) (status : ℕ) (kept : Option Record) → IsCaused task source image refusal kept → IsRefusalTold notes refusal status
        → Ran asks source image notes status (kept_for status kept)
    ran_refused refusal status kept caused told = go told.one_of caused where
      short : status ≡ 7 → told.line ≡ memory_line → Ran asks source image notes status (kept_for status kept)
      short seven line = NoMemory seven (subst (Noted notes) line told.noted) (ap (λ (n : ℕ). kept_for n kept) seven)

      go : ((status ≡ refusal_status refusal) × (told.line ≡ refusal_line refusal)) ⊎ ((status ≡ 7) × (told.line ≡ memory_line))
          → IsCaused task source image refusal kept → Ran asks source image notes status (kept_for status kept)
      go (inl own) (inl cause) =
          Refused (
            task,
            is,
            record {
              line = told.line;
              cause =
                  subst (λ (n : ℕ). Cause task source image n told.line (kept_for n kept)) (sym own.0)
                  (subst (λ (l : List ℕ). Cause task source image (refusal_status refusal) l (kept_for (refusal_status refusal) kept)) (sym own.1) cause);
              noted = told.noted;
            },
          )
      go (inl own) (inr memory) = short (own.0 ∙ memory.0) (own.1 ∙ memory.1)
      go (inr memory) c = short memory.0 memory.1

    module _ (told : Told) (performed : IsPerformed task source image told) where
      -- a job that is done has given its image the whole
      whole_of : performed.o.ending ≡ Complete → Took image performed.o.image × IsCalm image × (told.lines ≡ performed.o.notes)
      whole_of complete = go performed.sent.sent where
        go : Sent image performed.o told.lines → Took image performed.o.image × IsCalm image × (told.lines ≡ performed.o.notes)
        go (Whole given calm lines) = (given, calm, lines)
        go (Front short cut) = absurd (short complete)

      done_by : performed.o.ending ≡ Complete → Took notes told.lines → IsCalm notes → IsDone task source image notes told.kept
      done_by complete took calm =
          let sent = whole_of complete in
          record { o = performed.o; due = performed.due; complete = complete; given = sent.0; calm_image = sent.1; told = subst (Took notes) sent.2 took; calm_notes = calm; kept_is = performed.sent.kept }

      unnoted_by : performed.o.ending ≡ Complete → Failed notes → (n : ℕ) → n < length told.lines → Took notes (take n told.lines)
          → IsUnnoted task source image notes told.kept
      unnoted_by complete failed n part took =
          let sent = whole_of complete in
          record {
            o = performed.o;
            due = performed.due;
            complete = complete;
            given = sent.0;
            calm_image = sent.1;
            failed = failed;
            done = n;
            part = subst (λ (l : List ℕ). n < length l) sent.2 part;
            told = subst (λ (l : List ℕ). Took notes (take n l)) sent.2 took;
            kept_is = performed.sent.kept;
          }

      reported_by : (ending : Ending) → performed.o.ending ≡ ending → Noted notes told.lines → IsReported ending task source image notes told.kept
      reported_by ending ends noted =
          record { o = performed.o; due = performed.due; ends = ends; lines = told.lines; sent = performed.sent.sent; noted = noted; kept_is = performed.sent.kept }

      -- how the notes took what is left to tell decides the status
      pub ran_told : (status : ℕ) → IsConcluded notes told status → Ran asks source image notes status told.kept
      ran_told status (inl done) = Done done.0 (task, is, done_by (sym performed.sent.ending ∙ done.1) done.2 done.3)
      ran_told status (inr (inl unnoted)) =
          NotesFailed unnoted.0 (task, is, unnoted_by (sym performed.sent.ending ∙ unnoted.1) unnoted.2 unnoted.3.0 unnoted.3.1 unnoted.3.2)
      ran_told status (inr (inr (inl stuck))) = Stuck stuck.0 (task, is, reported_by EndsStuck (sym performed.sent.ending ∙ stuck.1) stuck.2)
      ran_told status (inr (inr (inr raced))) = RaceFound raced.0 (task, is, reported_by EndsRaceFound (sym performed.sent.ending ∙ raced.1) raced.2)

      -- notes to which something is due
      pub some_told : (status : ℕ) → IsConcluded notes told status → status ≡ 0 → 0 < length told.lines → HasNotes asks source image notes told.kept
      unfolding done_by
      some_told status (inl done) zero some =
          let complete = sym performed.sent.ending ∙ done.1 in
          (task, is, (done_by complete done.2 done.3, subst (λ (l : List ℕ). 0 < length l) (whole_of complete).2 some))
      some_told status (inr (inl unnoted)) zero some = let is = unnoted.0 in absurd (omega (arith, is, zero))
      some_told status (inr (inr (inl stuck))) zero some = let is = stuck.0 in absurd (omega (arith, is, zero))
      some_told status (inr (inr (inr raced))) zero some = let is = raced.0 in absurd (omega (arith, is, zero))
