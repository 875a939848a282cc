use Rattle.std.proofs.Common.{◌≡◌, ◌<◌, length, take, arith, inl, inr, sym, ap, subst, ◌∙◌, pos, ◌<ℤ◌, to_z, of_z, w32, rules}
use Rattle.rc_base.specs.Numbers.{entry}
use Rattle.rc_base.specs.Drawing.Triangles.{shape_of}
use Rattle.plain_lemmas.proofs.Numbers.{from_int_lt}
use Rattle.bounds_bucket.specs.Hulls.{intervals_of}
use Rattle.bounds_bucket.specs.Standing.{standing_count}
use Rattle.rc_base.specs.Cluster.ObjectBox.{bounding_box, clip_over}
use Rattle.rc_base.specs.declared.state.Effect.TheVariants as eff
use Rattle.bounds_bucket.proofs.ObjectRects.{no_corner, no_viewport, boxed}
use Rattle.bounds_bucket.proofs.BoxTiles.{box_if_any}
use Rattle.bounds_bucket.proofs.object.object_box.Goals as goal

pub returns-then-count-eq0 : goal.returns-then-count-eq0
returns-then-count-eq0 c =
    let none : standing_count (shape_of c.args.block.now.mode) (length c.args.block.now.vertices) ≡ 0 =
    ap (λ vs. standing_count (shape_of c.args.block.now.mode) (length vs)) (sym c.as_slice-vertices.ensures) ∙ sym c.standing_count-count.ensures.value ∙ c.if-count-eq0.true in
    no_corner c.args.state.now c.args.block.now c.args.window c.requires none

pub returns-then-state-lt0 : goal.returns-then-state-lt0
returns-then-state-lt0 c =
    let fits : to_z w32 (of_z w32 (entry c.args.state.now.viewport 2)) ≡ entry c.args.state.now.viewport 2 = search rules in
    let below : entry c.args.state.now.viewport 2 <ℤ pos 0 = from_int_lt (entry c.args.state.now.viewport 2) (pos 0) (simp fits at c.if-state-lt0.true) in
    no_viewport c.args.state.now c.args.block.now c.args.window c.requires (inl below)

pub returns-then-state-lt0-2 : goal.returns-then-state-lt0-2
returns-then-state-lt0-2 c =
    let fits : to_z w32 (of_z w32 (entry c.args.state.now.viewport 3)) ≡ entry c.args.state.now.viewport 3 = search rules in
    let below : entry c.args.state.now.viewport 3 <ℤ pos 0 = from_int_lt (entry c.args.state.now.viewport 3) (pos 0) (simp fits at c.if-state-lt0-2.true) in
    no_viewport c.args.state.now c.args.block.now c.args.window c.requires (inr below)

pub returns : goal.returns
returns c =
    let s = c.args.state.now in
    let block = c.args.block.now in
    let same = c.as_slice-vertices.ensures in
    let count : c.standing_count-count.result ≡ standing_count (shape_of c.args.block.now.mode) (length c.args.block.now.vertices) =
    c.standing_count-count.ensures.value ∙ ap (λ vs. standing_count (shape_of c.args.block.now.mode) (length vs)) same in
    let not_none = c.if-count-eq0.false in
    let some : 0 < c.standing_count-count.result = omega arith in
    let spread = c.hull_of-hull.ensures.value ∙ (λ i. bounding_box (take (count i) (same i))) in
    box_if_any s (eff.Block block) c.args.window c.scissored.result c.some_rect.result
    (boxed s block c.args.window c.reached_by-near.result c.part_in.result c.scissored.result (clip_over s (intervals_of c.hull_of-hull.result)) c.requires (subst (λ k. 0 < k) count some)
    (ap (clip_over s) spread) c.reached_by-near.ensures c.part_in.ensures c.scissored.ensures) c.some_rect.ensures
