-- Reading packets from the left, with the first fault that is met. A fault's place is told by how many bytes stand from there on.
use Rattle.std.specs.Prelude.{◌≡◌, ℕ, zero, suc, ◌+◌, ◌*◌, ◌≤◌, Bool, true, false, List, [], ◌∷◌, ◌++◌, length, count_by, Option, Result, Ok, Err, IfSome, IfNone, OnOk, nat_lt, nat_le, ◌==◌, ◌||◌, if◌then◌else◌}
use Rattle.std.specs.Int.{w16}
use Rattle.rc_base.specs.declared.command.Command.{Command}
use Rattle.rc_base.specs.declared.command.Opcode.{Opcode}
use Rattle.rc_base.specs.declared.command.Opcode.TheVariants as op
use Rattle.rc_base.specs.Pictures.{Picture}
use Rattle.rc_base.specs.Formats.Commands.{Kind, Value, Fields, kinds_of}
use Rattle.rc_base.specs.Formats.Commands.Kind.{Byte, Half, Word, Code, Bytes, Words, Image}
use Rattle.rc_base.specs.Formats.Spelling.{CommandSet, plain_set, packet_of, IsPacketOf, SpellsStreamOf}
use Rattle.rc_base.specs.Formats.Limits.{is_swap_command}
use Rattle.command_table.specs.Making.{command_from}
use Rattle.command_table.specs.Opcodes.{opcode_of_byte}
use Rattle.byte_codec.specs.declared.fault.ReadError.{ReadError}
use Rattle.packet_bytes.specs.declared.packets.Counts.{Counts}
use Rattle.packet_bytes.specs.declared.packets.DecodedOf.{DecodedOf}
use Rattle.byte_codec.specs.declared.fault.Form.{Form}
use Rattle.byte_codec.specs.declared.fault.Form.TheVariants.{BadCount}
use Rattle.packet_bytes.specs.Sets.{SetReader}
use Rattle.byte_codec.specs.Reading.{◌>>=◌, Fails, sized, both, convert, known, read_byte, read_unsigned, read_word, read_words, take_bytes}

-- ---- fields

abbrev pub make_picture : (ℕ × ℕ) × List ℕ → Picture
make_picture x = record { w = x.0.0; h = x.0.1; texels = x.1 }

unfoldable pub read_value : (k : Kind) → List ℕ → Result (Value k × List ℕ) Form
read_value Byte = read_byte
read_value Half = read_unsigned w16
read_value Word = read_word
read_value (Code count) = read_byte
read_value (Bytes count) = take_bytes count
read_value (Words count) = read_words count
read_value Image = convert make_picture (sized (both (read_unsigned w16) (read_unsigned w16)) (λ s. take_bytes (4 * (s.0 * s.1))))

unfoldable pub read_fields : (ks : List Kind) → List ℕ → Result (Fields ks × List ℕ) Form
read_fields [] bytes = Ok (tt, bytes)
read_fields (k ∷ ks) bytes = both (read_value k) (read_fields ks) bytes

-- ---- commands

-- the command that is made of the fields in an opcode's row
unfoldable pub read_command : Opcode → List ℕ → Result (Command × List ℕ) Form
read_command o = convert (command_from o) (read_fields (kinds_of o))

-- the opcode of a Swap
abbrev pub is_swap_opcode : Opcode → Bool
is_swap_opcode op.Swap = true
is_swap_opcode _ = false

-- how the commands of the table are read
abbrev pub plain_reader : SetReader Command Opcode
plain_reader = record { named = opcode_of_byte; read = read_command; is_swap = is_swap_opcode; shows = is_swap_command }

unfoldable pub read_payloads : {C O : Type 0} → SetReader C O → List O → List ℕ → Result (List C × List ℕ) Form
read_payloads r [] bytes = Ok ([], bytes)
read_payloads r (o ∷ os) bytes = do
  first ← r.read o bytes
  others ← read_payloads r os first.1
  Ok (first.0 ∷ others.0, others.1)

-- ---- opcodes

unfoldable pub read_opcode : {C O : Type 0} → SetReader C O → List ℕ → Result (O × List ℕ) Form
read_opcode r bytes = do
  b ← read_byte bytes
  o ← known (r.named b.0) (length bytes)
  Ok (o, b.1)

unfoldable pub read_opcodes : {C O : Type 0} → SetReader C O → ℕ → List ℕ → Result (List O × List ℕ) Form
read_opcodes r zero bytes = Ok ([], bytes)
read_opcodes r (suc n) bytes = do
  first ← read_opcode r bytes
  others ← read_opcodes r n first.1
  Ok (first.0 ∷ others.0, others.1)

-- ---- packets

unfoldable pub read_count : List ℕ → Result (ℕ × List ℕ) Form
read_count bytes = do
  n ← read_unsigned w16 bytes
  if (n.0 == 0) || nat_lt 1024 n.0 then Err (BadCount (length bytes)) else Ok n

unfoldable pub read_packet : {C O : Type 0} → SetReader C O → List ℕ → Result (List C × List ℕ) Form
read_packet r bytes = do
  count ← read_count bytes
  names ← read_opcodes r count.0 count.1
  read_payloads r names.0 names.1

-- ---- what is kept of packets

-- what stands behind the commands before: all that were read, or none
abbrev pub kept : {C : Type 0} → Bool → List C → List C → List C
kept true old read = old ++ read
kept false old read = old

-- What was read was added, by what holds it, behind that before; or a function failed as reading does, or for want of memory.
abbrev pub AddsHeld : {X C D : Type 0} → (D → C) → (X → List ℕ) → List C → List C → Result X ReadError → Result (D × List ℕ) Form → Type 0
AddsHeld {D = D} held rest old new (Ok x) read = (command : D) × (read ≡ Ok (command, rest x)) × (new ≡ old ++ held command ∷ [])
AddsHeld held rest old new (Err e) read = Fails e read

-- The same, with these bytes behind it.
abbrev pub AddsNextHeld : {C D : Type 0} → (D → C) → List C → List C → List ℕ → Result (D × List ℕ) Form → Type 0
AddsNextHeld {D = D} held old new rest read = (command : D) × (read ≡ Ok (command, rest)) × (new ≡ old ++ held command ∷ [])

-- A command was added so, in room that was there.
pub record IsAdded {X L C D : Type 0} (items : L → List C) (room_in : L → ℕ) (held : D → C) (rest : X → List ℕ) (old new : L) (result : Result X ReadError)
    (read : Result (D × List ℕ) Form) : Type 0 where
  pub added : AddsHeld held rest (items old) (items new) result read
  pub room : OnOk result (room_in old ≡ room_in new + 1)

-- It was added so, or nothing was.
pub record IsAddedOrNone {X L C D : Type 0} (items : L → List C) (room_in : L → ℕ) (held : D → C) (rest : X → List ℕ) (old new : L) (result : Option X)
    (read : Result (D × List ℕ) Form) : Type 0 where
  pub added : IfSome result (λ x. AddsNextHeld held (items old) (items new) (rest x) read)
  pub room : IfSome result (λ _. room_in old ≡ room_in new + 1)
  pub none : IfNone result (items new ≡ items old)
  pub none_room : IfNone result (room_in new ≡ room_in old)

-- Commands were read, and kept or not; or a function failed as reading does, or for want of memory.
abbrev pub Keeps : {X C : Type 0} → (X → List ℕ) → Bool → List C → List C → Result X ReadError → Result (List C × List ℕ) Form → Type 0
Keeps {C = C} rest keep old new (Ok x) read = (commands : List C) × (read ≡ Ok (commands, rest x)) × (new ≡ kept keep old commands)
Keeps rest keep old new (Err e) read = Fails e read

-- how many commands there are, and how many of them are Swaps
pub record AreCounted {C : Type 0} (shows : C → Bool) (counts : Counts) (all : List C) : Type 0 where
  pub commands : counts.commands ≡ length all
  pub swaps : counts.swaps ≡ count_by shows all

-- The commands of a packet were read and counted, and kept where there was room for so many; or a function failed as reading does, or for want
-- of memory.
abbrev pub AddsPacket : {X C : Type 0} → (C → Bool) → (X → Counts × List ℕ) → ℕ → List C → List C → Result X ReadError → Result (List C × List ℕ) Form → Type 0
AddsPacket {C = C} shows view room old new (Ok x) read =
    (commands : List C) × (read ≡ Ok (commands, (view x).1)) × AreCounted shows (view x).0 commands × (new ≡ kept (nat_le (view x).0.commands room) old commands)
AddsPacket shows view room old new (Err e) read = Fails e read

-- A packet of so many commands was taken from the front of the bytes. They were added where there was room for so many.
pub record Takes {C O : Type 0} (set : CommandSet C O) (shows : C → Bool) (bytes rest : List ℕ) (room : ℕ) (counts : Counts) (old new : List C) : Type 0 where
  pub commands : List C
  pub is_packet : IsPacketOf set commands
  pub parts : bytes ≡ packet_of set commands ++ rest
  pub counted : AreCounted shows counts commands
  pub added : new ≡ kept (nat_le counts.commands room) old commands

-- what was decoded, with the commands that are kept so
abbrev pub decoded_as : {K C : Type 0} → (K → List C) → DecodedOf K → DecodedOf (List C)
decoded_as of x = record { commands = of x.commands; count = x.count; swaps = x.swaps }

-- The bytes of a stream spell commands, which were counted, and the Swaps among them, and stored where there was room for them.
pub record DecodesOf {C O : Type 0} (set : CommandSet C O) (shows : C → Bool) (bytes : List ℕ) (room : ℕ) (x : DecodedOf (List C)) : Type 0 where
  pub all : List C
  pub spells : SpellsStreamOf set bytes all
  pub counted : x.count ≡ length all
  pub swaps : x.swaps ≡ count_by shows all
  pub stored : x.count ≤ room → x.commands ≡ all
  pub few : length x.commands ≤ room
  pub short : x.count ≤ length bytes

-- the same of the commands of the table
abbrev pub Decodes : List ℕ → ℕ → DecodedOf (List Command) → Type 0
Decodes bytes room x = DecodesOf plain_set is_swap_command bytes room x
