use Rattle.std.proofs.Common.{◌≡◌}
use Rattle.rc_base.specs.Pictures.{with_part}
use Rattle.textures.specs.Images.{picture_with, part, first_rows}
use Rattle.textures.proofs.parts.write_part.Given as goal

abbrev pub invariant-loop-row : goal.invariant-loop-row
invariant-loop-row l = l.bytes ≡ (with_part (picture_with l.fn.sides l.fn.bytes) (first_rows (part 0 l.x l.y l.w l.h l.texels) l.row)).texels
