-- How bytes spell a scene: relations on whole lists of bytes and of commands.
use Rattle.std.specs.Prelude.{◌≡◌, ℕ, ℤ, ◌+◌, ◌*◌, ◌<◌, ◌≤◌, ◌^◌, List, [], ◌∷◌, ◌++◌, length, map, take, drop}
use Rattle.std.specs.List.{flat_map, range_with_len, AllByRecursion}
use Rattle.std.specs.Int.{w16, w32, to_le_bytes, cast_unsigned, div_ceil}
use Rattle.rc_base.specs.declared.command.Command.{Command}
use Rattle.rc_base.specs.declared.command.Opcode.{Opcode}
use Rattle.rc_base.specs.declared.list_command.ListCommand.{ListCommand}
use Rattle.rc_base.specs.declared.list_command.ListCommand.TheVariants as list
use Rattle.rc_base.specs.declared.list_command.ListOpcode.{ListOpcode}
use Rattle.rc_base.specs.declared.list_command.ListOpcode.TheVariants as list_op
use Rattle.rc_base.specs.declared.scene.Decl.{Decl}
use Rattle.rc_base.specs.declared.scene.Scene.{Scene}
use Rattle.rc_base.specs.Formats.Commands.{Kind, Value, Fields, IsCommand, opcode_of, opcode_number, kinds_of, fields_of}
use Rattle.rc_base.specs.Formats.Commands.Kind.{Byte, Half, Word, Code, Bytes, Words, Image}

-- ---- fields, the low byte first

abbrev pub half : ℕ → List ℕ
half n = to_le_bytes w16 n

abbrev pub long : ℕ → List ℕ
long n = to_le_bytes w32 n

-- two's complement
abbrev pub word : ℤ → List ℕ
word z = to_le_bytes w32 (cast_unsigned w32 z)

-- the bytes of a field
abbrev pub value_bytes : (k : Kind) → Value k → List ℕ
value_bytes Byte n = n ∷ []
value_bytes Half n = half n
value_bytes Word z = word z
value_bytes (Code count) n = n ∷ []
value_bytes (Bytes count) ns = ns
value_bytes (Words count) zs = flat_map word zs
value_bytes Image p = half p.w ++ (half p.h ++ p.texels)

abbrev pub field_bytes : (ks : List Kind) → Fields ks → List ℕ
field_bytes [] x = []
field_bytes (k ∷ ks) x = value_bytes k x.0 ++ field_bytes ks x.1

-- ---- commands and packets

-- the bytes of a command's fields
abbrev pub payload : Command → List ℕ
payload c = field_bytes (kinds_of (opcode_of c)) (fields_of c)

-- the byte that stands for a command
abbrev pub opcode_byte : Command → ℕ
opcode_byte c = opcode_number (opcode_of c)

-- A set of commands as packets spell them: each command's opcode and the byte that stands for it, the bytes of its fields, and that these are in
-- their ranges.
pub record CommandSet (C O : Type 0) : Type 1 where
  pub opcode : C → O
  pub number : O → ℕ
  pub fields : C → List ℕ
  pub IsOne : C → Type 0

-- the commands of the table, as versions 1 and 2 have them
abbrev pub plain_set : CommandSet Command Opcode
plain_set = record { opcode = opcode_of; number = opcode_number; fields = payload; IsOne = IsCommand }

-- these, and the three that make call lists and call them
abbrev pub list_opcode_of : ListCommand → ListOpcode
list_opcode_of (list.Plain c) = list_op.Plain (opcode_of c)
list_opcode_of (list.NewList name) = list_op.NewList
list_opcode_of list.EndList = list_op.EndList
list_opcode_of (list.CallList name) = list_op.CallList

abbrev pub list_opcode_number : ListOpcode → ℕ
list_opcode_number (list_op.Plain o) = opcode_number o
list_opcode_number list_op.NewList = 0x25
list_opcode_number list_op.EndList = 0x26
list_opcode_number list_op.CallList = 0x27

abbrev pub list_payload : ListCommand → List ℕ
list_payload (list.Plain c) = payload c
list_payload (list.NewList name) = name ∷ []
list_payload list.EndList = []
list_payload (list.CallList name) = name ∷ []

-- each field is in its range
abbrev pub IsListCommand : ListCommand → Type 0
IsListCommand (list.Plain c) = IsCommand c
IsListCommand (list.NewList name) = name < 256
IsListCommand list.EndList = Unit {0}
IsListCommand (list.CallList name) = name < 256

abbrev pub list_set : CommandSet ListCommand ListOpcode
list_set = record { opcode = list_opcode_of; number = list_opcode_number; fields = list_payload; IsOne = IsListCommand }

-- a count, that many opcodes, and that many payloads in the same order
abbrev pub packet_of : {C O : Type 0} → CommandSet C O → List C → List ℕ
packet_of set commands = half (length commands) ++ (map (λ c. set.number (set.opcode c)) commands ++ flat_map set.fields commands)

-- commands that make one packet
pub record IsPacketOf {C O : Type 0} (set : CommandSet C O) (commands : List C) : Type 0 where
  pub some : 1 ≤ length commands
  pub most : length commands ≤ 1024
  pub each : AllByRecursion set.IsOne commands

-- The bytes of a stream are packets one after the other, and these are their commands. A list of commands may be spelled in several ways.
pub record SpellsStreamOf {C O : Type 0} (set : CommandSet C O) (bytes : List ℕ) (commands : List C) : Type 0 where
  pub packets : List (List C)
  pub each : AllByRecursion (IsPacketOf set) packets
  pub parts : bytes ≡ flat_map (packet_of set) packets
  pub whole : commands ≡ flat_map (λ p. p) packets

-- the same of the commands of the table
abbrev pub packet : List Command → List ℕ
packet commands = packet_of plain_set commands

abbrev pub IsPacket : List Command → Type 0
IsPacket commands = IsPacketOf plain_set commands

abbrev pub SpellsStream : List ℕ → List Command → Type 0
SpellsStream bytes commands = SpellsStreamOf plain_set bytes commands

-- the commands of a packet, where each packet before it has 1,024
abbrev pub packet_commands : List Command → ℕ → List Command
packet_commands commands i = take 1024 (drop (1024 * i) commands)

abbrev pub packet_count : List Command → ℕ
packet_count commands = div_ceil (length commands) 1024

-- packets of 1,024 commands, the last one shorter, and none for an empty list
unfoldable pub encoded : List Command → List ℕ
encoded commands = flat_map (λ i. packet (packet_commands commands i)) (range_with_len 0 (packet_count commands))

-- ---- scenes

-- the versions of a scene
abbrev pub IsVersion : ℕ → Type 0
IsVersion version = (1 ≤ version) × (version ≤ 2)

-- the letters RCS
abbrev pub letters : List ℕ
letters = 0x52 ∷ 0x43 ∷ 0x53 ∷ []

-- the digit of a version
abbrev pub digit : ℕ → ℕ
digit version = 0x30 + version

-- the letters RCS and the digit: RCS1, or RCS2
abbrev pub magic : ℕ → List ℕ
magic version = letters ++ digit version ∷ []

-- the letters RCS3 of a scene with call lists
abbrev pub list_magic : List ℕ
list_magic = letters ++ 0x33 ∷ []

-- A form of scenes: the commands of their streams, the versions by which they draw, and how their bytes begin by the version.
pub record SceneForm (C O : Type 0) : Type 1 where
  pub set : CommandSet C O
  pub IsDrawn : ℕ → Type 0
  pub begins : ℕ → List ℕ

-- scenes of the commands of the table
abbrev pub plain_form : SceneForm Command Opcode
plain_form = record { set = plain_set; IsDrawn = IsVersion; begins = magic }

-- scenes with call lists, which draw as version 2
abbrev pub list_form : SceneForm ListCommand ListOpcode
list_form = record { set = list_set; IsDrawn = λ version. version ≡ 2; begins = λ version. list_magic }

-- width and height of a shared texture
abbrev pub size : List ℕ → List ℕ
size sides = flat_map half sides

-- the window, the number of streams, and what is declared
abbrev pub header_of : {C O : Type 0} → SceneForm C O → Decl → ℕ → List ℕ
header_of form d clients =
    form.begins d.version ++ (half d.width ++ (half d.height
    ++ ((clients ∷ length d.shared ∷ length d.barriers ∷ length d.semaphores ∷ [])
    ++ (flat_map size d.shared ++ (d.barriers ++ flat_map half d.semaphores)))))

abbrev pub IsSide : ℕ → Type 0
IsSide n = n < 2 ^ 16

abbrev pub IsSize : List ℕ → Type 0
IsSize sides = (length sides ≡ 2) × AllByRecursion IsSide sides

abbrev pub IsCount : ℕ → Type 0
IsCount n = n < 256

-- each field of a declaration is in its range
pub record IsDeclOf {C O : Type 0} (form : SceneForm C O) (d : Decl) : Type 0 where
  pub version : form.IsDrawn d.version
  pub width : d.width < 2 ^ 16
  pub height : d.height < 2 ^ 16
  pub few_shared : length d.shared < 256
  pub few_barriers : length d.barriers < 256
  pub few_semaphores : length d.semaphores < 256
  pub shared : AllByRecursion IsSize d.shared
  pub barriers : AllByRecursion IsCount d.barriers
  pub semaphores : AllByRecursion IsSide d.semaphores

-- a stream's length and its bytes
abbrev pub stream_text : List ℕ → List ℕ
stream_text bytes = long (length bytes) ++ bytes

-- each text spells the commands at its place
abbrev pub SpellStreamsOf : {C O : Type 0} → CommandSet C O → List (List ℕ) → List (List C) → Type 0
SpellStreamsOf set [] [] = Unit {0}
SpellStreamsOf set [] (cs ∷ css) = ⊥
SpellStreamsOf set (t ∷ ts) [] = ⊥
SpellStreamsOf set (t ∷ ts) (cs ∷ css) = SpellsStreamOf set t cs × (length t < 2 ^ 32) × SpellStreamsOf set ts css

-- The bytes are a header, and then each stream with its length. Nothing follows.
pub record SpellsSceneOf {C O : Type 0} (form : SceneForm C O) (bytes : List ℕ) (declared : Decl) (streams : List (List C)) : Type 0 where
  pub texts : List (List ℕ)
  pub each : SpellStreamsOf form.set texts streams
  pub few : length streams < 256
  pub decl : IsDeclOf form declared
  pub parts : bytes ≡ header_of form declared (length streams) ++ flat_map stream_text texts

-- the same of scenes of the commands of the table
abbrev pub header : Decl → ℕ → List ℕ
header d clients = header_of plain_form d clients

abbrev pub IsDecl : Decl → Type 0
IsDecl d = IsDeclOf plain_form d

abbrev pub SpellStreams : List (List ℕ) → List (List Command) → Type 0
SpellStreams texts streams = SpellStreamsOf plain_set texts streams

abbrev pub SpellsScene : List ℕ → Scene → Type 0
SpellsScene bytes s = SpellsSceneOf plain_form bytes s.decl s.streams
