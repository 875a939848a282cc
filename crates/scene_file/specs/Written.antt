-- The bytes that are written of a scene.
use Rattle.std.specs.Prelude.{◌≡◌, ℕ, ◌<◌, ◌^◌, List, ◌++◌, length, map, None}
use Rattle.std.specs.List.{flat_map, AllByRecursion}
use Rattle.rc_base.specs.declared.command.Command.{Command}
use Rattle.rc_base.specs.declared.scene.Scene.{Scene}
use Rattle.rc_base.specs.Formats.Limits.{limit_of}
use Rattle.rc_base.specs.Formats.Spelling.{IsVersion, header, stream_text, encoded}
use Rattle.packet_bytes.specs.Texels.{IsWhole}

-- the header, and then each stream's packets behind their length
abbrev pub written : Scene → List ℕ
written s = header s.decl (length s.streams) ++ flat_map stream_text (map encoded s.streams)

-- each picture of a stream has four bytes for each texel
abbrev pub AreWhole : List Command → Type 0
AreWhole commands = AllByRecursion IsWhole commands

-- the packets of a stream are so few that their length is a number of 32 bits
abbrev pub IsShort : List Command → Type 0
IsShort commands = length (encoded commands) < 2 ^ 32

-- a scene that can be written
pub record IsWritable (s : Scene) : Type 0 where
  pub version : IsVersion s.decl.version
  pub within : limit_of s ≡ None
  pub texels : AllByRecursion AreWhole s.streams
  pub short : AllByRecursion IsShort s.streams

-- the bytes are those of a scene that draws as version 1 or 2
abbrev pub IsWritten : Scene → List ℕ → Type 0
IsWritten s bytes = IsVersion s.decl.version → bytes ≡ written s
