use Rattle.std.proofs.Common.{◌≡◌, ◌++◌, take}
use Rattle.std.specs.Int.{w32}
use Rattle.std.specs.Prelude.{FitsSigned}
use Rattle.std.specs.List.{flat_map, AllByRecursion}
use Rattle.rc_base.specs.Formats.Spelling.{word}
use Rattle.parcel_bytes.proofs.writing.write_words.Given as goal

abbrev pub invariant-loop-number : goal.invariant-loop-number
invariant-loop-number l = (l.out ≡ l.fn.out ++ flat_map word (take l.number-index l.words)) × AllByRecursion (FitsSigned w32) (take l.number-index l.words)
