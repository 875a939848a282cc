-- The first fault of a text that spells no scene.
use Rattle.std.specs.Prelude.{ℕ, ◌+◌, ◌==◌, ◌&&◌, not, nat_le, Bool, List, [], ◌∷◌, Option, Some, None, Result, Ok, Err, if◌then◌else◌}
use Rattle.std.specs.Option.{option_map_or}
use Rattle.std.specs.Str.Lines.{lines}
use Rattle.rc_base.specs.declared.scene.TextKind.{TextKind}
use Rattle.rc_base.specs.declared.scene.TextKind.TheVariants as kind
use Rattle.rc_base.specs.declared.text.LineName.{LineName}
use Rattle.rc_base.specs.declared.text.LineName.TheVariants as line
use Rattle.scene_text.specs.Text.Statements.{Statement}
use Rattle.scene_text.specs.Text.Read.{is_text, is_skipped, words_of, name_of, arguments_say}

-- ---- places: lines stand by rising rank. A text without a line that says something has come to rank 0.

abbrev pub rank_of : LineName → ℕ
rank_of line.Scene = 1
rank_of line.Shared = 2
rank_of line.Barrier = 3
rank_of line.Semaphore = 4
rank_of line.Client = 5
rank_of (line.Command o) = 5

-- the rank that must have come before: a window before all else, a client before its commands
abbrev pub least_before : LineName → ℕ
least_before line.Scene = 0
least_before line.Shared = 1
least_before line.Barrier = 1
least_before line.Semaphore = 1
least_before line.Client = 1
least_before (line.Command o) = 5

-- the highest rank that may have come before: nothing before the window, which stands once
abbrev pub most_before : LineName → ℕ
most_before line.Scene = 0
most_before line.Shared = 2
most_before line.Barrier = 3
most_before line.Semaphore = 4
most_before line.Client = 5
most_before (line.Command o) = 5

abbrev pub may_stand : ℕ → LineName → Bool
may_stand before name = nat_le (least_before name) before && nat_le before (most_before name)

-- ---- a line

abbrev pub kind_of_fault : Result Statement TextKind → Option TextKind
kind_of_fault (Ok s) = None
kind_of_fault (Err k) = Some k

abbrev pub fault_under : ℕ → Option LineName → List (List ℕ) → Option TextKind
fault_under before None words = Some kind.UnknownWord
fault_under before (Some name) words = if may_stand before name then kind_of_fault (arguments_say name words) else Some kind.OutOfPlace

abbrev pub fault_of_words : ℕ → List (List ℕ) → Option TextKind
fault_of_words before [] = None
fault_of_words before (w ∷ ws) = fault_under before (name_of w) ws

-- the fault of a line, where lines of this rank have come before it
unfoldable pub fault_of_line : ℕ → List ℕ → Option TextKind
fault_of_line before line =
    if not (is_text line) then Some kind.NotText
    else if is_skipped line then None
    else fault_of_words before (words_of line)

abbrev pub rank_after_words : ℕ → List (List ℕ) → ℕ
rank_after_words before [] = before
rank_after_words before (w ∷ ws) = option_map_or rank_of (name_of w) before

-- the rank that has come after a line
unfoldable pub rank_after : ℕ → List ℕ → ℕ
rank_after before line = if is_skipped line then before else rank_after_words before (words_of line)

-- ---- a text

-- the first faulty line, by its number, among lines from this number on
abbrev pub first_fault : ℕ → ℕ → List (List ℕ) → Option (ℕ × TextKind)
first_fault number before [] = if before == 0 then Some (1, kind.NoScene) else None
first_fault number before (l ∷ ls) =
    option_map_or (λ k. Some (number, k)) (fault_of_line before l) (first_fault (number + 1) (rank_after before l) ls)

-- the first faulty line of a text, counted from 1, and what is wrong with it; line 1 where no line says anything
unfoldable pub text_fault : List ℕ → Option (ℕ × TextKind)
text_fault text = first_fault 1 0 (lines text)
