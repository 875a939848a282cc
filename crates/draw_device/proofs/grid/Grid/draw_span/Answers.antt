use lib.ListN.{take, drop}
use Rattle.std.proofs.Common.{rules, ◌≡◌, ◌+◌, ◌-◌, ◌*◌, ◌∙◌, ℤ, ◌≤◌, ◌<◌, ◌<ℤ◌, ◌≤ℤ◌, pos, true, arith, subst, sym, length, refl}
use Rattle.std.proofs.lemmas.Int.{ints}
use Rattle.std.proofs.lemmas.List.{with_items_is}
use borrow.Rule.Slice.PartMut.{put_mid, same_len_mid}
use Rattle.rc_base.specs.Drawing.Cover.{is_inside}
use Rattle.plain_lemmas.proofs.Places.{row_part_within}
use Rattle.draw_device.specs.Shapes.{fragment_pixel, IsRowChanged}
use Rattle.draw_device.specs.Loops.{IsGridRow}
use Rattle.draw_device.specs.declared.grid.Extent.{Extent}
use Rattle.draw_device.proofs.Lists.{row_placed}
use Rattle.draw_device.proofs.SpansToPixels.{span_drawn}
use Rattle.draw_device.proofs.grid.Grid.draw_span.Goals as goal

pub draw_row-requires-clause-row : goal.draw_row-requires-clause-row
draw_row-requires-clause-row c =
    let v = c.args.triangle.now.tri.now.v in
    let g = c.args.self.now.extent in
    let up = c.offset-up.result in
    let from = c.offset-from.result in
    let to = c.offset-to.result in
    let start = c.row_start-start.result in
    let end = start + g.width in
    let cs = take (end - start) (drop start c.as_mut_slice.result.now) in
    let ds = take (end - start) (drop start c.as_mut_slice-2.result.now) in
    let ey : c.args.span.y ≡ pos (g.bottom + up) = omega (arith, ints) in
    let size_cs : length cs ≡ g.width = search rules in
    let size_ds : length ds ≡ g.width = search rules in
    subst (λ (g : Extent). IsGridRow v g up from to cs ds) (sym c.requires.triangle.grid)
    (record {
      top = omega (arith, ints);
      row = record { order = omega (arith, ints); inside = omega (arith, ints, size_cs); alike = size_ds ∙ sym size_cs };
      covered = λ k low high.
          let at : c.args.span.x0 ≤ℤ pos (g.left + k) = omega (arith, ints) in
          let below : pos (g.left + k) <ℤ c.args.span.x1 = omega (arith, ints) in
          subst (λ (y : ℤ). is_inside v (pos (g.left + k)) y ≡ true) ey (c.requires.covered (pos (g.left + k)) at below);
    })

pub returns : goal.returns
returns c =
    let s = c.args.triangle.now in
    let t = c.args.span in
    let grid = c.args.self.now in
    let g = grid.extent in
    let f = fragment_pixel s.state.now s.texture.now s.tri.now.v in
    let up = c.offset-up.result in
    let from = c.offset-from.result in
    let to = c.offset-to.result in
    let start = c.row_start-start.result in
    let end = start + g.width in
    let cs = c.as_mut_slice.result.now in
    let ds = c.as_mut_slice-2.result.now in
    let new_cs = c.draw_row.new.colors in
    let new_ds = c.draw_row.new.depths in
    let ey : t.y ≡ pos (g.bottom + up) = omega (arith, ints) in
    let ea : t.x0 ≡ pos (g.left + from) = omega (arith, ints) in
    let eb : t.x1 ≡ pos (g.left + to) = omega (arith, ints) in
    let ab : from ≤ to = omega (arith, ints) in
    let bw : to ≤ g.width = omega (arith, ints) in
    let low : up < g.height = omega (arith, ints) in
    let inside : end ≤ length grid.colors.items = let r = row_part_within g.width g.height up g.width low (omega arith) in omega (arith, r, grid.full, c.row_start-start.ensures) in
    let done = subst (λ (g : Extent). IsRowChanged f g.left (g.bottom + up) from to (take (end - start) (drop start cs)) (take (end - start) (drop start ds)) new_cs new_ds) c.requires.triangle.grid c.draw_row.ensures.drawn in
    let size_cs = done.colors in
    let size_ds = done.depths in
    let back_cs = with_items_is grid.colors (put_mid start (end - start) cs new_cs) (same_len_mid start (end - start) cs new_cs size_cs ∙ c.as_mut_slice.ensures.len) in
    let back_ds = with_items_is grid.depths (put_mid start (end - start) ds new_ds) (same_len_mid start (end - start) ds new_ds size_ds ∙ c.as_mut_slice-2.ensures.len) in
    let row = row_placed f g.left (g.bottom + up) (up * g.width) start end from to grid.colors.items cs new_cs _ grid.depths.items ds new_ds _ c.row_start-start.ensures grid.deep (omega arith) inside ab (omega (arith, bw))
    c.as_mut_slice.ensures.value c.as_mut_slice-2.ensures.value size_cs size_ds back_cs back_ds done.drawn in
    record {
      extent = refl;
      drawn = span_drawn f t g up from to _ _ ey ea eb ab bw row;
    }

pub offset-to-requires-clause-low : goal.offset-to-requires-clause-low
offset-to-requires-clause-low c =
    let a = c.requires.inside.left in
    let b = c.requires.inside.some in
    omega (arith, ints)
