-- What the lines of a text said so far, and what the next one adds.
use Rattle.std.specs.Prelude.{◌≡◌, ℕ, ℤ, ◌+◌, ◌<◌, ◌≤◌, ◌==◌, ◌⊎◌, true, false, List, [], ◌∷◌, ◌++◌, map, Some, None, Result, Ok, Err, if◌then◌else◌}
use Rattle.std.specs.List.{flat_map, list_all}
use Rattle.std.specs.Str.Lines.{lines}
use Rattle.rc_base.specs.declared.scene.Scene.{Scene}
use Rattle.rc_base.specs.declared.scene.TextKind.{TextKind}
use Rattle.rc_base.specs.declared.text.LineName.{LineName}
use Rattle.rc_base.specs.Formats.Limits.{limit_of}
use Rattle.scene_text.specs.Text.Statements.{Statement, statement, decl_statements, client_statements}
use Rattle.scene_text.specs.Text.Read.{is_text, is_skipped, words_of, words_say, with_texels, arguments_say, spoken, SpellsText}
use Rattle.scene_text.specs.Text.Faults.{may_stand, rank_of, rank_after, rank_after_words, fault_of_line, fault_of_words, fault_under, first_fault, text_fault}
use Rattle.scene_text.specs.declared.draft.Draft.{Draft}
use Rattle.scene_text.specs.declared.parse.LineFault.{LineFault}
use Rattle.scene_text.specs.declared.parse.LineFault.TheVariants as fault
use Rattle.scene_text.specs.declared.parse.TextSceneFault.{TextSceneFault}
use Rattle.scene_text.specs.declared.parse.TextSceneFault.TheVariants as text_fault_of

-- the client whose commands are being read
abbrev pub open_client : Draft → List Statement
open_client d = if d.rank == 5 then client_statements d.stream else []

-- what the lines so far said
unfoldable pub said : Draft → List Statement
said d = if d.rank == 0 then [] else decl_statements d.decl ++ (flat_map client_statements d.streams ++ open_client d)

-- nothing is kept of what comes later
pub record IsDraft (d : Draft) : Type 0 where
  pub rank : d.rank ≤ 5
  pub shared : d.rank < 2 → d.decl.shared ≡ []
  pub barriers : d.rank < 3 → d.decl.barriers ≡ []
  pub semaphores : d.rank < 4 → d.decl.semaphores ≡ []
  pub streams : d.rank < 5 → d.streams ≡ []
  pub stream : d.rank < 5 → d.stream ≡ []

-- it is one whose last line's rank is one of these
pub record IsDraftWithin (from to : ℕ) (d : Draft) : Type 0 where
  pub draft : IsDraft d
  pub least : from ≤ d.rank
  pub most : d.rank ≤ to

-- it is one behind which a line of this name may stand
pub record IsOpenTo (name : LineName) (d : Draft) : Type 0 where
  pub draft : IsDraft d
  pub place : may_stand d.rank name ≡ true

-- one more statement is read
pub record Adds (old new : Draft) (s : Statement) : Type 0 where
  pub draft : IsDraft new
  pub said : said new ≡ said old ++ s ∷ []
  pub rank : new.rank ≡ rank_of s.name

-- a statement is read as it is said, or its fault is told, unless there was no memory
abbrev pub ReadsStatement : Draft → Draft → Result (Unit {0}) LineFault → Result Statement TextKind → Type 0
ReadsStatement old new (Ok x) say = (s : Statement) × (say ≡ Ok s) × Adds old new s
ReadsStatement old new (Err (fault.Text k)) say = say ≡ Err k
ReadsStatement old new (Err fault.OutOfMemory) say = Unit {0}

-- the texels of a statement are read, or their fault is told, unless there was no memory
abbrev pub TexelsRead : LineName → List (List ℕ) → List ℤ → Result (List ℕ) LineFault → Type 0
TexelsRead name rest numbers (Ok texels) = with_texels name rest numbers ≡ Ok (statement name numbers texels)
TexelsRead name rest numbers (Err (fault.Text k)) = with_texels name rest numbers ≡ Err k
TexelsRead name rest numbers (Err fault.OutOfMemory) = Unit {0}

-- the words after a name are read, or the fault of the line is told, unless there was no memory
abbrev pub ReadsNamed : Draft → Draft → Result (Unit {0}) LineFault → LineName → List (List ℕ) → Type 0
ReadsNamed old new (Ok x) name words =
    (s : Statement) × (arguments_say name words ≡ Ok s) × (fault_under old.rank (Some name) words ≡ None) × (new.rank ≡ rank_of name) × Adds old new s
ReadsNamed old new (Err (fault.Text k)) name words = fault_under old.rank (Some name) words ≡ Some k
ReadsNamed old new (Err fault.OutOfMemory) name words = Unit {0}

-- the words of a line are read, or its fault is told, unless there was no memory
abbrev pub ReadsWords : Draft → Draft → Result (Unit {0}) LineFault → List (List ℕ) → Type 0
ReadsWords old new (Ok x) words =
    (s : Statement) × (words_say words ≡ Ok s) × (fault_of_words old.rank words ≡ None) × (new.rank ≡ rank_after_words old.rank words) × Adds old new s
ReadsWords old new (Err (fault.Text k)) words = fault_of_words old.rank words ≡ Some k
ReadsWords old new (Err fault.OutOfMemory) words = Unit {0}

-- a line without fault is read
pub record TakesLine (old new : Draft) (line : List ℕ) : Type 0 where
  pub draft : IsDraft new
  pub text : is_text line ≡ true
  pub fault : fault_of_line old.rank line ≡ None
  pub rank : new.rank ≡ rank_after old.rank line
  pub said : ((is_skipped line ≡ true) × (said new ≡ said old))
      ⊎ ((is_skipped line ≡ false) × ((s : Statement) × (words_say (words_of line) ≡ Ok s) × (said new ≡ said old ++ s ∷ [])))

-- a line is read, or its fault is told, unless there was no memory
abbrev pub ReadsLine : Draft → Draft → Result (Unit {0}) LineFault → List ℕ → Type 0
ReadsLine old new (Ok x) line = TakesLine old new line
ReadsLine old new (Err (fault.Text k)) line = fault_of_line old.rank line ≡ Some k
ReadsLine old new (Err fault.OutOfMemory) line = Unit {0}

-- where the fault of a line stands
abbrev pub line_fault_of : ℕ → LineFault → TextSceneFault
line_fault_of line (fault.Text k) = text_fault_of.Text line k
line_fault_of line fault.OutOfMemory = text_fault_of.OutOfMemory

-- why a text gives no scene: its first faulty line; or it spells a scene, and this is its first quantity outside its range; or there was no memory
abbrev pub IsTextFault : List ℕ → TextSceneFault → Type 0
IsTextFault text (text_fault_of.Text line k) = text_fault text ≡ Some (line, k)
IsTextFault text (text_fault_of.Limit what value) = (s : Scene) × SpellsText text s × (limit_of s ≡ Some (record { what = what; value = value }))
IsTextFault text text_fault_of.OutOfMemory = Unit {0}

-- so many lines of a text are read into a draft without fault, and these are left
pub record Progress (text : List ℕ) (d : Draft) (number : ℕ) (rest : List (List ℕ)) : Type 0 where
  pub draft : IsDraft d
  pub fault : first_fault (number + 1) d.rank rest ≡ text_fault text
  pub texts : list_all is_text rest ≡ list_all is_text (lines text)
  pub says : map words_say (spoken (lines text)) ≡ map (λ x. Ok x) (said d) ++ map words_say (spoken rest)
