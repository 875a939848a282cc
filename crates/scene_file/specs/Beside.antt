-- Streams that were decoded whole, each by itself.
use Rattle.std.specs.Prelude.{◌≡◌, ℕ, ◌*◌, ◌≤◌, List, length, map, count_by}
use Rattle.std.specs.List.{flat_map}
use Rattle.rc_base.specs.declared.command.Command.{Command}
use Rattle.rc_base.specs.Formats.Spelling.{stream_text, SpellsStream, SpellStreams}
use Rattle.rc_base.specs.Formats.Limits.{is_swap_command, commands_in}
use Rattle.packet_bytes.specs.declared.packets.DecodedOf.{DecodedOf}
use Rattle.scene_file.specs.declared.beside.Gathered.{Gathered}
use Rattle.scene_file.specs.Counting.{least_shown}

-- These are all commands that the bytes of a stream spell, and they and the Swaps among them were counted.
pub record HoldsStream (text : List ℕ) (x : DecodedOf (List Command)) : Type 0 where
  pub spells : SpellsStream text x.commands
  pub counted : x.count ≡ length x.commands
  pub swaps : x.swaps ≡ count_by is_swap_command x.commands
  pub few : x.count ≤ 1048576

-- what was gathered, with the streams that are kept so
abbrev pub gathered_as : {K C : Type 0} → (K → List C) → Gathered K → Gathered (List C)
gathered_as of x = record { streams = map of x.streams; commands = x.commands; frames = x.frames }

-- The bytes are so many streams, each with its length, and these are all commands that they spell. They and the frames were counted.
pub record HoldsStreams (bytes : List ℕ) (count : ℕ) (x : Gathered (List Command)) : Type 0 where
  pub texts : List (List ℕ)
  pub each : SpellStreams texts x.streams
  pub as_many : length x.streams ≡ count
  pub parts : bytes ≡ flat_map stream_text texts
  pub counted : x.commands ≡ commands_in x.streams
  pub frames : x.frames ≡ least_shown is_swap_command x.streams
  pub few : x.commands ≤ 1048576 * count
