-- Sets of commands, and how their commands are read.
use Rattle.std.specs.Prelude.{◌≡◌, ℕ, Bool, List, ◌++◌, Option, Some, Result, Ok}
use Rattle.rc_base.specs.Formats.Spelling.{CommandSet}
use Rattle.byte_codec.specs.declared.fault.Form.{Form}
use Rattle.byte_codec.specs.Codec.{Maker}

-- The opcode that a byte stands for, the command behind an opcode from the front of bytes, and which opcodes and commands show a frame.
pub record SetReader (C O : Type 0) : Type 0 where
  pub named : ℕ → Option O
  pub read : O → List ℕ → Result (C × List ℕ) Form
  pub is_swap : O → Bool
  pub shows : C → Bool

-- a command of an opcode
abbrev pub IsOf : {C O : Type 0} → CommandSet C O → O → C → Type 0
IsOf set o c = set.IsOne c × (set.opcode c ≡ o)

-- the byte that stands for a command
abbrev pub byte_of : {C O : Type 0} → CommandSet C O → C → ℕ
byte_of set c = set.number (set.opcode c)

-- what is read is what the set spells
pub record Agrees {C O : Type 0} (set : CommandSet C O) (r : SetReader C O) : Type 0 where
  pub some : O
  pub named_number : (o : O) → r.named (set.number o) ≡ Some o
  pub number_named : (b : ℕ) (o : O) → r.named b ≡ Some o → b ≡ set.number o
  pub makes : (o : O) → Maker (r.read o) set.fields (IsOf set o)
  pub again : (c : C) (rest : List ℕ) → set.IsOne c → r.read (set.opcode c) (set.fields c ++ rest) ≡ Ok (c, rest)
  pub kind : (o : O) (bytes : List ℕ) (c : C) (rest : List ℕ) → r.read o bytes ≡ Ok (c, rest) → set.opcode c ≡ o
  pub shows_swap : (c : C) → r.shows c ≡ r.is_swap (set.opcode c)
