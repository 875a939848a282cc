use Rattle.std.proofs.Common.{◌≡◌, ◌++◌, ◌<◌, ℕ, [], ◌∷◌, drop, get_or}
use Rattle.std.specs.List.{flat_map}
use Rattle.rc_base.specs.Formats.Spelling.{size, IsSize}
use Rattle.scene_file.proofs.writing.put_sizes.Given as goal

abbrev pub invariant-loop-size : goal.invariant-loop-size
invariant-loop-size l = record {
  bytes_are : l.bytes ++ flat_map size (drop l.size-index l.sizes) ≡ l.fn.bytes ++ flat_map size l.sizes;
  fits : (k : ℕ) → k < l.size-index → IsSize (get_or l.sizes k (0 ∷ 0 ∷ []));
}
