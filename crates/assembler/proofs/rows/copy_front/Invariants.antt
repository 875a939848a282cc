use Rattle.std.proofs.Common.{◌≡◌, ◌*◌, take}
use Rattle.std.specs.List.{flat_map}
use Rattle.rc_base.specs.Drawing.Images.{rgb_of}
use Rattle.assembler.proofs.rows.copy_front.Given as goal

abbrev pub invariant-loop-i : goal.invariant-loop-i
invariant-loop-i l = take (3 * l.i) l.out ≡ flat_map rgb_of (take l.i l.pixels)
