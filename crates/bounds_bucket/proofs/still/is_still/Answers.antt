use Rattle.bounds_bucket.proofs.Seen.{still_by, from_not}
use Rattle.bounds_bucket.proofs.still.is_still.Goals as goal

pub returns : goal.returns
returns c usual =
    let i0 = c.identities_of-identities.result in
    let i = c.identities_of-identities.ensures in
    still_by c.args.state.now (i.modelview (from_not i0.modelview c.if-not-identities.false)) (i.projection (from_not i0.projection c.if-not-identities-2.false)) (i.usual usual)
