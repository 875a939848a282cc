use Rattle.std.proofs.Common.{◌≡◌, ◌∙◌, true, false, rules, w32, to_z, of_z, sym}
use Rattle.rc_base.specs.Numbers.{entry}
use Rattle.rc_base.specs.Cluster.ObjectBox.{may_be_near}
use Rattle.bounds_bucket.specs.Hulls.{intervals_of}
use Rattle.bounds_bucket.proofs.ShortPlaces.{near_is, amid_is}
use Rattle.bounds_bucket.proofs.short.short_reached.Goals as goal

pub returns-then-may_be_near : goal.returns-then-may_be_near
returns-then-may_be_near c =
    let near : may_be_near (intervals_of c.args.hull.now) ≡ true = sym c.may_be_near.ensures ∙ c.if-may_be_near.true in
    near_is c.args.rect c.args.state.now c.args.hull.now c.requires.short c.requires.ordered near

pub returns : goal.returns
returns c =
    let v = c.args.state.now.viewport in
    let h = c.args.hull.now in
    let left : to_z w32 (of_z w32 (entry c.args.state.now.viewport 0)) ≡ entry c.args.state.now.viewport 0 = search rules in
    let bottom : to_z w32 (of_z w32 (entry c.args.state.now.viewport 1)) ≡ entry c.args.state.now.viewport 1 = search rules in
    let width : to_z w32 (of_z w32 (entry c.args.state.now.viewport 2)) ≡ entry c.args.state.now.viewport 2 = search rules in
    let height : to_z w32 (of_z w32 (entry c.args.state.now.viewport 3)) ≡ entry c.args.state.now.viewport 3 = search rules in
    let far : may_be_near (intervals_of c.args.hull.now) ≡ false = sym c.may_be_near.ensures ∙ c.if-may_be_near.false in
    rw c.rect_of.ensures
    (amid_is c.args.rect (record { x0 = c.amid_places.result.from; y0 = c.amid_places-2.result.from; x1 = c.amid_places.result.end; y1 = c.amid_places-2.result.end })
    c.args.state.now c.args.hull.now c.requires.short c.requires.ordered far
    (simp (c.columns_of.ensures, left, width) at c.amid_places.ensures) (simp (c.rows_of.ensures, bottom, height) at c.amid_places-2.ensures))
