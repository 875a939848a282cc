-- What is wrong with bytes that spell no list of commands, and at which place.
use Rattle.std.specs.Prelude.{◌≡◌, ℕ, ◌+◌, ◌-◌, ◌<◌, ◌≤◌, ◌^◌, ◌⊎◌, List, ◌∷◌, ◌++◌, length}
use Rattle.std.specs.List.{flat_map, AllByRecursion}
use Rattle.rc_base.specs.Formats.Commands.{AreBytes}
use Rattle.rc_base.specs.Formats.Spelling.{CommandSet, plain_set, half, packet_of, IsPacketOf, SpellsStreamOf}
use Rattle.byte_codec.specs.declared.fault.Form.{Form}
use Rattle.byte_codec.specs.declared.fault.Form.TheVariants.{BadCount, Unknown, Truncated}
use Rattle.byte_codec.specs.declared.fault.ReadError.{ReadError}
use Rattle.byte_codec.specs.declared.fault.ReadError.TheVariants as errors
use Rattle.packet_bytes.specs.declared.fault.PackFault.{PackFault}
use Rattle.packet_bytes.specs.declared.fault.PackFault.TheVariants as faults

-- a byte that stands for a command
abbrev pub IsOpcode : {C O : Type 0} → CommandSet C O → ℕ → Type 0
IsOpcode {O = O} set b = (o : O) × (set.number o ≡ b)

-- a count that no packet has
pub record HasBadCount (bytes : List ℕ) : Type 0 where
  pub count : ℕ
  pub rest : List ℕ
  pub fits : count < 2 ^ 16
  pub bad : (count ≡ 0) ⊎ (1024 < count)
  pub parts : bytes ≡ half count ++ rest

-- a count and some opcodes, fewer than the count says, and then a byte that is none
pub record HasUnknown {C O : Type 0} (set : CommandSet C O) (bytes : List ℕ) (left : ℕ) : Type 0 where
  pub count : ℕ
  pub names : List ℕ
  pub byte : ℕ
  pub rest : List ℕ
  pub some : 1 ≤ count
  pub most : count ≤ 1024
  pub each : AllByRecursion (IsOpcode set) names
  pub unknown : IsOpcode set byte → ⊥
  pub few : length names < count
  pub parts : bytes ≡ half count ++ (names ++ byte ∷ rest)
  pub left_is : left ≡ length (byte ∷ rest)

-- a part of a packet, and not the whole
pub record IsCut {C O : Type 0} (set : CommandSet C O) (bytes : List ℕ) : Type 0 where
  pub commands : List C
  pub more : List ℕ
  pub is_packet : IsPacketOf set commands
  pub whole : bytes ++ more ≡ packet_of set commands
  pub some : 0 < length more

-- the fault of bytes that don't begin with a packet, its place told by how many bytes stand from there on
abbrev pub FailsAsPacket : {C O : Type 0} → CommandSet C O → List ℕ → Form → Type 0
FailsAsPacket set bytes (BadCount left) = HasBadCount bytes × (left ≡ length bytes)
FailsAsPacket set bytes (Unknown left) = HasUnknown set bytes left
FailsAsPacket set bytes Truncated = IsCut set bytes

-- the same of an error that may be want of memory
abbrev pub FailsBy : {C O : Type 0} → CommandSet C O → List ℕ → ReadError → Type 0
FailsBy set bytes errors.Memory = Unit {0}
FailsBy set bytes (errors.Form f) = FailsAsPacket set bytes f

-- the bytes are packets, and then these
pub record Behind {C O : Type 0} (set : CommandSet C O) (bytes rest : List ℕ) : Type 0 where
  pub packets : List (List C)
  pub each : AllByRecursion (IsPacketOf set) packets
  pub parts : bytes ≡ flat_map (packet_of set) packets ++ rest

-- The fault of bytes that spell no list of commands: the first one from the left. Want of memory says nothing of the bytes.
abbrev pub FailsAsStreamOf : {C O : Type 0} → CommandSet C O → List ℕ → PackFault → Type 0
FailsAsStreamOf set bytes (faults.BadCount at) = (rest : List ℕ) × Behind set bytes rest × HasBadCount rest × (at + length rest ≡ length bytes)
FailsAsStreamOf set bytes (faults.UnknownOpcode at) = (rest : List ℕ) × (left : ℕ) × Behind set bytes rest × HasUnknown set rest left × (at + left ≡ length bytes)
FailsAsStreamOf set bytes (faults.Truncated at) = (rest : List ℕ) × Behind set bytes rest × (0 < length rest) × IsCut set rest × (at ≡ length bytes)
FailsAsStreamOf set bytes faults.OutOfMemory = Unit {0}

-- the same of the commands of the table
abbrev pub FailsAsStream : List ℕ → PackFault → Type 0
FailsAsStream bytes fault = FailsAsStreamOf plain_set bytes fault

-- the fault with its place, in bytes of which there are so many
abbrev pub pack_fault : ReadError → ℕ → PackFault
pack_fault errors.Memory len = faults.OutOfMemory
pack_fault (errors.Form (BadCount left)) len = faults.BadCount (len - left)
pack_fault (errors.Form (Unknown left)) len = faults.UnknownOpcode (len - left)
pack_fault (errors.Form Truncated) len = faults.Truncated len

-- a fault of the bytes
abbrev pub IsFault : PackFault → Type 0
IsFault (faults.BadCount at) = Unit {0}
IsFault (faults.UnknownOpcode at) = Unit {0}
IsFault (faults.Truncated at) = Unit {0}
IsFault faults.OutOfMemory = ⊥

-- ---- laws

-- a list that is spelled has no fault
abbrev pub FaultsSpellNothingOf : {C O : Type 0} → CommandSet C O → Type 0
FaultsSpellNothingOf {C = C} set =
    (bytes : List ℕ) (fault : PackFault) (commands : List C) → FailsAsStreamOf set bytes fault → IsFault fault → SpellsStreamOf set bytes commands → ⊥

-- bytes have one fault at most
abbrev pub FaultsAreOneOf : {C O : Type 0} → CommandSet C O → Type 0
FaultsAreOneOf set =
    (bytes : List ℕ) (one other : PackFault) → FailsAsStreamOf set bytes one → FailsAsStreamOf set bytes other → IsFault one → IsFault other → one ≡ other

-- bytes spell a list, or they have a fault
abbrev pub SpellsOrFailsOf : {C O : Type 0} → CommandSet C O → Type 0
SpellsOrFailsOf {C = C} set =
    (bytes : List ℕ) → AreBytes bytes
    → ((commands : List C) × SpellsStreamOf set bytes commands) ⊎ ((fault : PackFault) × IsFault fault × FailsAsStreamOf set bytes fault)

-- the same of the commands of the table
abbrev pub FaultsSpellNothing : Type 0
FaultsSpellNothing = FaultsSpellNothingOf plain_set

abbrev pub FaultsAreOne : Type 0
FaultsAreOne = FaultsAreOneOf plain_set

abbrev pub SpellsOrFails : Type 0
SpellsOrFails = SpellsOrFailsOf plain_set
