use Rattle.std.proofs.Common.{take}
use Rattle.std.specs.List.{AllByRecursion}
use Rattle.parcel_bytes.specs.Spelling.{IsWholeSet}
use Rattle.parcel_bytes.proofs.packable.are_whole.Given as goal

abbrev pub invariant-loop-set : goal.invariant-loop-set
invariant-loop-set l = AllByRecursion IsWholeSet (take l.set-index l.sets)
