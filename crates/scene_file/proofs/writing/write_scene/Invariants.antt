use Rattle.std.proofs.Common.{◌≡◌, ◌++◌, ◌<◌, ℕ, [], drop, map, get_or}
use Rattle.std.specs.List.{flat_map}
use Rattle.rc_base.specs.Formats.Spelling.{IsVersion, stream_text, encoded}
use Rattle.scene_file.specs.Written.{written, AreWhole, IsShort}
use Rattle.scene_file.proofs.WrittenSpells.{IsEncoded}
use Rattle.scene_file.proofs.writing.write_scene.Given as goal

abbrev pub invariant-loop-stream : goal.invariant-loop-stream
invariant-loop-stream l = record {
  bytes_are : IsVersion l.scene.decl.version → l.bytes ++ flat_map stream_text (map encoded (drop l.stream-index l.streams)) ≡ written l.scene;
  short : (k : ℕ) → k < l.stream-index → IsShort (get_or l.streams k []);
  spelled : (k : ℕ) → k < l.stream-index → AreWhole (get_or l.streams k []) → IsEncoded (get_or l.streams k []);
}
