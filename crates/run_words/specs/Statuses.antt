-- How a run ends: the statuses and the lines of refusals, and what the notes are told.
use Rattle.std.specs.Prelude.{◌≡◌, ℕ, ◌<◌, ◌⊎◌, List, length, take}
use Rattle.rc_base.specs.Outside.Ends.{Used, Failed, IsCalm, Took, Noted}
use Rattle.rc_base.specs.declared.transfer.ReadAllFault.{ReadAllFault}
use Rattle.rc_base.specs.declared.transfer.WriteFault.{WriteFault}
use Rattle.rc_base.specs.declared.transfer.ReadAllFault.TheVariants as reading
use Rattle.run_words.specs.declared.refusal.InputRefusal.{InputRefusal}
use Rattle.run_words.specs.declared.refusal.InputRefusal.TheVariants as judging
use Rattle.run_words.specs.declared.refusal.DueRefusal.{DueRefusal}
use Rattle.run_words.specs.declared.refusal.DueRefusal.TheVariants as undue
use Rattle.run_words.specs.declared.refusal.ImageRefusal.{ImageRefusal}
use Rattle.run_words.specs.declared.refusal.ImageRefusal.TheVariants as writing
use Rattle.run_words.specs.declared.refusal.Refusal.{Refusal}
use Rattle.run_words.specs.declared.refusal.Refusal.TheVariants.{Reading, Input, Undue, Image}
use Rattle.run_words.specs.declared.told.Ending.{Ending}
use Rattle.run_words.specs.declared.told.Ending.TheVariants.{Complete, Stuck, RaceFound}
use Rattle.run_words.specs.declared.told.Told.{Told}
use Rattle.run_words.specs.Lines.{scene_kind_name, text_kind_name, malformed_line, limit_line, not_last_line, image_fault_line, read_fault_line, memory_line}

-- ---- refusals

abbrev pub reading_status : ReadAllFault → ℕ
reading_status reading.ReadFault = 2
reading_status (reading.TooLong seen) = 4
reading_status reading.OutOfMemory = 7

abbrev pub reading_line : ReadAllFault → List ℕ
reading_line reading.ReadFault = read_fault_line
reading_line (reading.TooLong seen) = limit_line 1 seen
reading_line reading.OutOfMemory = memory_line

abbrev pub input_status : InputRefusal → ℕ
input_status (judging.MalformedScene kind at) = 3
input_status (judging.MalformedText kind line) = 3
input_status (judging.PastLimit limit) = 4
input_status judging.OutOfMemory = 7

abbrev pub input_line : InputRefusal → List ℕ
input_line (judging.MalformedScene kind at) = malformed_line (scene_kind_name kind) at
input_line (judging.MalformedText kind line) = malformed_line (text_kind_name kind) line
input_line (judging.PastLimit limit) = limit_line limit.what limit.value
input_line judging.OutOfMemory = memory_line

abbrev pub image_status : ImageRefusal → ℕ
image_status (writing.Fault done) = 6
image_status writing.OutOfMemory = 7

abbrev pub image_line : ImageRefusal → List ℕ
image_line (writing.Fault done) = image_fault_line done
image_line writing.OutOfMemory = memory_line

abbrev pub due_status : DueRefusal → ℕ
due_status (undue.PastLimit limit) = 4
due_status (undue.NotLast name) = 12
due_status undue.OutOfMemory = 7

abbrev pub due_line : DueRefusal → List ℕ
due_line (undue.PastLimit limit) = limit_line limit.what limit.value
due_line (undue.NotLast name) = not_last_line name
due_line undue.OutOfMemory = memory_line

-- the status of a refusal
abbrev pub refusal_status : Refusal → ℕ
refusal_status (Reading fault) = reading_status fault
refusal_status (Input refusal) = input_status refusal
refusal_status (Undue refusal) = due_status refusal
refusal_status (Image refusal) = image_status refusal

-- the line of a refusal
abbrev pub refusal_line : Refusal → List ℕ
refusal_line (Reading fault) = reading_line fault
refusal_line (Input refusal) = input_line refusal
refusal_line (Undue refusal) = due_line refusal
refusal_line (Image refusal) = image_line refusal

-- ---- jobs that are carried out

-- the status of a run that comes to its end
abbrev pub ending_status : Ending → ℕ
ending_status Complete = 0
ending_status Stuck = 5
ending_status RaceFound = 11

-- ---- notes

-- the notes failed, and took so many of the bytes
abbrev pub IsCutOff : Used → List ℕ → WriteFault → Type 0
IsCutOff notes lines fault = Failed notes × (fault.done < length lines) × Took notes (take fault.done lines)

-- what is left to tell was told, or a front of it where the notes failed, which changes the status of a job that is done
abbrev pub IsConcluded : Used → Told → ℕ → Type 0
IsConcluded notes told status =
    ((status ≡ 0) × (told.ending ≡ Complete) × Took notes told.lines × IsCalm notes)
    ⊎ (((status ≡ 8) × (told.ending ≡ Complete) × Failed notes × ((n : ℕ) × (n < length told.lines) × Took notes (take n told.lines)))
    ⊎ (((status ≡ 5) × (told.ending ≡ Stuck) × Noted notes told.lines)
    ⊎ ((status ≡ 11) × (told.ending ≡ RaceFound) × Noted notes told.lines)))

-- A refusal is told: with its own status and line, or as want of memory where there was none for its line.
pub record IsRefusalTold (notes : Used) (refusal : Refusal) (status : ℕ) : Type 0 where
  pub line : List ℕ
  pub noted : Noted notes line
  pub one_of : ((status ≡ refusal_status refusal) × (line ≡ refusal_line refusal)) ⊎ ((status ≡ 7) × (line ≡ memory_line))
