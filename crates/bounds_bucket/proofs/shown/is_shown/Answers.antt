use Rattle.std.proofs.Common.{to_z, of_z, w64, to_z-of_z}
use Rattle.bounds_bucket.proofs.Signs.{no_area}
use Rattle.bounds_bucket.proofs.shown.is_shown.Goals as goal

pub returns-else-area-lt0 : goal.returns-else-area-lt0
returns-else-area-lt0 c =
    let e = to_z-of_z c.ranges.area in
    no_area c.args.state.now c.args.area (to_z w64 (of_z w64 c.args.area)) e c.if-area-gt0.false c.if-area-lt0.false
