use Rattle.std.proofs.Common.{Some, subst, sym}
use Rattle.std.specs.declared.option.Option.{Option}
use Rattle.bounds_bucket.specs.Extents.{IsGrown}
use Rattle.bounds_bucket.specs.declared.extent.Extent.{Extent}
use Rattle.bounds_bucket.proofs.EndsOfCorners.{corners_span, grown_first}
use Rattle.bounds_bucket.proofs.block.with_triangle.Goals as goal

pub returns-in-None : goal.returns-in-None
returns-in-None c =
    let v = c.args.tri.now.v in
    let more = c.extent_of-more.ensures in
    subst (λ (o : Option Extent). IsGrown v o (Some c.extent_of-more.result)) (sym c.in-None.is)
    (grown_first c.extent_of-more.result v (corners_span v c.extent_of-more.result more.three more.across more.up))

pub returns-in-Some : goal.returns-in-Some
returns-in-Some c =
    let v = c.args.tri.now.v in
    let more = c.extent_of-more.ensures in
    subst (λ (o : Option Extent). IsGrown v o (Some c.joined.result)) (sym c.in-Some.is)
    (λ corners h. c.joined.ensures corners v h (corners_span v c.extent_of-more.result more.three more.across more.up))
