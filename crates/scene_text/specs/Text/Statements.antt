-- What the lines of a text say: a name, numbers, and the texels of a picture.
use Rattle.std.specs.Prelude.{ℕ, ℤ, pos, Bool, false, List, [], ◌∷◌, ◌++◌, map, codes}
use Rattle.std.specs.List.{flat_map}
use Rattle.rc_base.specs.declared.command.Command.{Command}
use Rattle.rc_base.specs.declared.command.NumberRange.{NumberRange}
use Rattle.rc_base.specs.declared.command.NumberRange.TheVariants as range
use Rattle.rc_base.specs.declared.scene.Decl.{Decl}
use Rattle.rc_base.specs.declared.scene.Scene.{Scene}
use Rattle.rc_base.specs.declared.text.LineName.{LineName}
use Rattle.rc_base.specs.declared.text.LineName.TheVariants as line
use Rattle.rc_base.specs.Formats.Commands.{table_row, opcodes, ranges_of, has_picture, parts_of}

-- ---- names

-- the first word of a line
abbrev pub word_of : LineName → List ℕ
word_of line.Scene = codes "scene"
word_of line.Shared = codes "shared"
word_of line.Barrier = codes "barrier"
word_of line.Semaphore = codes "semaphore"
word_of line.Client = codes "client"
word_of (line.Command o) = (table_row o).name

-- all names of lines
abbrev pub line_names : List LineName
line_names = map line.Command opcodes ++ (line.Scene ∷ line.Shared ∷ line.Barrier ∷ line.Semaphore ∷ line.Client ∷ [])

-- ---- numbers

-- the range of each number of a line
abbrev pub line_ranges : LineName → List NumberRange
line_ranges line.Scene = range.Byte ∷ range.Half ∷ range.Half ∷ []
line_ranges line.Shared = range.Half ∷ range.Half ∷ []
line_ranges line.Barrier = range.Byte ∷ []
line_ranges line.Semaphore = range.Half ∷ []
line_ranges line.Client = []
line_ranges (line.Command o) = ranges_of o

-- a line of this name has a picture
abbrev pub line_has_picture : LineName → Bool
line_has_picture line.Scene = false
line_has_picture line.Shared = false
line_has_picture line.Barrier = false
line_has_picture line.Semaphore = false
line_has_picture line.Client = false
line_has_picture (line.Command o) = has_picture o

-- ---- what a line says

pub record Statement : Type 0 where
  pub name : LineName
  pub numbers : List ℤ
  pub texels : List ℕ

abbrev pub statement : LineName → List ℤ → List ℕ → Statement
statement name numbers texels = record { name = name; numbers = numbers; texels = texels }

-- a command's name, its numbers and its texels
abbrev pub command_statement : Command → Statement
command_statement c = let parts = parts_of c in statement (line.Command parts.opcode) parts.numbers parts.texels

-- the version and the window
abbrev pub window_statement : Decl → Statement
window_statement d = statement line.Scene (pos d.version ∷ pos d.width ∷ pos d.height ∷ []) []

abbrev pub shared_statement : List ℕ → Statement
shared_statement size = statement line.Shared (map pos size) []

abbrev pub barrier_statement : ℕ → Statement
barrier_statement count = statement line.Barrier (pos count ∷ []) []

abbrev pub semaphore_statement : ℕ → Statement
semaphore_statement units = statement line.Semaphore (pos units ∷ []) []

-- what is declared: the window, the shared textures, the barriers, the semaphores
abbrev pub decl_statements : Decl → List Statement
decl_statements d =
    window_statement d ∷ (map shared_statement d.shared ++ (map barrier_statement d.barriers ++ map semaphore_statement d.semaphores))

-- a client and its commands
abbrev pub client_statements : List Command → List Statement
client_statements commands = statement line.Client [] [] ∷ map command_statement commands

-- what the text of a scene says, in order
abbrev pub scene_statements : Scene → List Statement
scene_statements s = decl_statements s.decl ++ flat_map client_statements s.streams
