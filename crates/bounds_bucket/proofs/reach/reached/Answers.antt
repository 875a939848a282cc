use Rattle.std.proofs.Common.{◌≡◌, ◌&&◌, Bool, true, false, refl, sym, ◌∙◌}
use Rattle.rc_base.specs.Cluster.Tiles.{is_in_rect}
use Rattle.rc_base.specs.Cluster.ObjectBox.{may_be_near}
use Rattle.bounds_bucket.proofs.Centred.{far_above}
use Rattle.bounds_bucket.proofs.reach.reached.Goals as goal

and_true : (b : Bool) → b ≡ (b && true)
and_true true = refl
and_true false = refl

pub returns-then-may_be_near : goal.returns-then-may_be_near
returns-then-may_be_near c = λ x y.
    let near : may_be_near c.args.clip.now ≡ true = sym c.may_be_near.ensures ∙ c.if-may_be_near.true in
    rw near (and_true (is_in_rect c.args.rect x y))

pub amid_places-requires-clause-above : goal.amid_places-requires-clause-above
amid_places-requires-clause-above c = far_above c.args.clip.now (sym c.may_be_near.ensures ∙ c.if-may_be_near.false)

pub returns : goal.returns
returns c = λ x y.
    let far : may_be_near c.args.clip.now ≡ false = sym c.may_be_near.ensures ∙ c.if-may_be_near.false in
    rw far (c.amid_places.ensures x y)
