-- How many clients and commands the lines of a text add.
use Rattle.std.specs.Prelude.{◌≡◌, ℕ, suc, ◌+◌, ◌==◌, ◌&&◌, ◌||◌, nat_le, nat_lt, Bool, List, [], ◌∷◌, length, Option, Some, None, Result, Ok, Err, if◌then◌else◌}
use Rattle.std.specs.Str.Lines.{lines}
use Rattle.rc_base.specs.declared.text.LineName.{LineName}
use Rattle.rc_base.specs.declared.text.LineName.TheVariants as line
use Rattle.rc_base.specs.declared.scene.Scene.{Scene}
use Rattle.rc_base.specs.Formats.Limits.{commands_in, limit_of}
use Rattle.scene_text.specs.Text.Read.{is_skipped, words_of, name_of}
use Rattle.scene_text.specs.Text.Faults.{first_fault}
use Rattle.scene_text.specs.declared.draft.Draft.{Draft}
use Rattle.scene_text.specs.declared.tally.Tally.{Tally}
use Rattle.scene_text.specs.declared.parse.TextSceneFault.{TextSceneFault}
use Rattle.scene_text.specs.declared.parse.TextSceneFault.TheVariants as text_fault_of

-- the name of a line of these words
abbrev pub first_name : List (List ℕ) → Option LineName
first_name [] = None
first_name (w ∷ ws) = name_of w

-- the name of a line that says something
unfoldable pub line_name : List ℕ → Option LineName
line_name l = if is_skipped l then None else first_name (words_of l)

-- the clients that a line of this name adds
abbrev pub clients_by : Option LineName → ℕ
clients_by None = 0
clients_by (Some line.Scene) = 0
clients_by (Some line.Shared) = 0
clients_by (Some line.Barrier) = 0
clients_by (Some line.Semaphore) = 0
clients_by (Some line.Client) = 1
clients_by (Some (line.Command o)) = 0

-- the commands that a line of this name adds
abbrev pub commands_by : Option LineName → ℕ
commands_by None = 0
commands_by (Some line.Scene) = 0
commands_by (Some line.Shared) = 0
commands_by (Some line.Barrier) = 0
commands_by (Some line.Semaphore) = 0
commands_by (Some line.Client) = 0
commands_by (Some (line.Command o)) = 1

-- the clients that lines add
abbrev pub clients_in_lines : List (List ℕ) → ℕ
clients_in_lines [] = 0
clients_in_lines (l ∷ ls) = clients_by (line_name l) + clients_in_lines ls

-- the commands that lines add
abbrev pub commands_in_lines : List (List ℕ) → ℕ
commands_in_lines [] = 0
commands_in_lines (l ∷ ls) = commands_by (line_name l) + commands_in_lines ls

-- the commands of a draft
abbrev pub stored_commands : Draft → ℕ
stored_commands d = commands_in d.streams + length d.stream

-- What a line of this name makes of a draft with clients.
pub record Grows (d new : Draft) (name : Option LineName) : Type 0 where
  pub decl : new.decl ≡ d.decl
  pub clients : length new.streams ≡ length d.streams + clients_by name
  pub commands : stored_commands new ≡ stored_commands d + commands_by name

-- The scene that a draft with clients becomes by these lines.
pub record Totals (d : Draft) (ls : List (List ℕ)) (s : Scene) : Type 0 where
  pub decl : s.decl ≡ d.decl
  pub clients : length s.streams ≡ suc (length d.streams) + clients_in_lines ls
  pub commands : commands_in s.streams ≡ stored_commands d + commands_in_lines ls

-- a draft with more clients or commands than a scene may have
abbrev pub is_over : Draft → Bool
is_over d = (d.rank == 5) && (nat_le 8 (length d.streams) || nat_lt 1048576 (stored_commands d))

-- The lines behind so many others, where a client stands already, have no fault, and this is what they add; or their first fault is told.
abbrev pub CountsRest : ℕ → List ℕ → Result Tally TextSceneFault → Type 0
CountsRest before rest (Ok t) =
    (first_fault (before + 1) 5 (lines rest) ≡ None) × (t.clients ≡ clients_in_lines (lines rest)) × (t.commands ≡ commands_in_lines (lines rest))
CountsRest before rest (Err (text_fault_of.Text at k)) = first_fault (before + 1) 5 (lines rest) ≡ Some (at, k)
CountsRest before rest (Err (text_fault_of.Limit what value)) = ⊥
CountsRest before rest (Err text_fault_of.OutOfMemory) = Unit {0}

-- What is wrong with a text whose first lines made a draft that is too large, and that has these lines left: their first fault, or the first quantity
-- of the scene that is outside its range.
abbrev pub JudgesRest : Draft → ℕ → List ℕ → TextSceneFault → Type 0
JudgesRest d before rest (text_fault_of.Text at k) = first_fault (before + 1) 5 (lines rest) ≡ Some (at, k)
JudgesRest d before rest (text_fault_of.Limit what value) =
    (first_fault (before + 1) 5 (lines rest) ≡ None) × ((s : Scene) → Totals d (lines rest) s → limit_of s ≡ Some (record { what = what; value = value }))
JudgesRest d before rest text_fault_of.OutOfMemory = Unit {0}
