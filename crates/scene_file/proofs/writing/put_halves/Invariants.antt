use Rattle.std.proofs.Common.{◌≡◌, ◌++◌, drop}
use Rattle.std.specs.List.{flat_map}
use Rattle.rc_base.specs.Formats.Spelling.{half}
use Rattle.scene_file.proofs.writing.put_halves.Given as goal

abbrev pub invariant-loop-half : goal.invariant-loop-half
invariant-loop-half l = l.bytes ++ flat_map half (drop l.half-index l.halves) ≡ l.fn.bytes ++ flat_map half l.halves
