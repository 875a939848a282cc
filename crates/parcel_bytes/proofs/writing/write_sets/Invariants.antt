use Rattle.std.proofs.Common.{◌≡◌, ◌++◌, take}
use Rattle.std.specs.List.{flat_map, AllByRecursion}
use Rattle.parcel_bytes.specs.Spelling.{IsSet, set_bytes}
use Rattle.parcel_bytes.proofs.writing.write_sets.Given as goal

abbrev pub invariant-loop-set : goal.invariant-loop-set
invariant-loop-set l = (l.out ≡ l.fn.out ++ flat_map set_bytes (take l.set-index l.sets)) × AllByRecursion IsSet (take l.set-index l.sets)
