use Rattle.std.proofs.Common.{◌≡◌, ◌≤◌, ◌<◌, ◌+◌, ◌-◌, ◌*◌, ℕ, arith, ap, length, pos, refl, subst, ◌∙◌, inl, inr}
use Rattle.std.proofs.lemmas.Int.{ints}
use Rattle.std.proofs.lemmas.List.{with_items_is}
use borrow.Rule.Slice.PartMut.{put_mid, same_len_mid}
use Rattle.rc_base.specs.Drawing.Cover.{is_in_scissor}
use Rattle.rc_base.specs.Drawing.PixelStep.{clear_step}
use Rattle.rc_base.specs.declared.window.Rect.{Rect}
use Rattle.rc_base.specs.declared.window.Span.{Span}
use Rattle.plain_lemmas.proofs.Places.{row_part_within}
use Rattle.draw_device.specs.Pixels.{pixels_of}
use Rattle.raster.specs.Clips.{IsPartWhere}
use Rattle.draw_device.specs.Shapes.{row_at, grid_rect, cleared_pixel}
use Rattle.draw_device.specs.declared.grid.Extent.{Extent}
use Rattle.draw_device.proofs.Lists.{row_placed}
use Rattle.draw_device.proofs.SpansToPixels.{below_cleared, above_cleared, none_cleared, clear_row, span_drawn, stepped_none, stepped_more, stepped_all}
use Rattle.draw_device.proofs.grid.Grid.clear.Goals.{then-part-via-then-part, then-part-via-else-part+then-part-2}
use Rattle.draw_device.proofs.grid.Grid.clear.Goals as goal

pub loop-row-init : goal.loop-row-init
loop-row-init c =
    let s = c.args.state.now in
    let g = c.args.self.now.extent in
    let part = c.scissored-part.result in
    let p : IsPartWhere (grid_rect g) part (is_in_scissor s) = subst (λ (r : Rect). IsPartWhere r part (is_in_scissor s)) c.rect.ensures c.scissored-part.ensures in
    let low : part.y0 ≡ pos (g.bottom + c.offset-first.result) = omega (arith, ints) in
    record {
      extent = refl;
      drawn = stepped_none (clear_step s c.args.mask) g (pixels_of c.args.self.now.colors.items c.args.self.now.depths.items) _
          (λ i j hi hj l o. below_cleared s c.args.mask g part p i j hi hj (omega (arith, ints)) o);
    }

pub loop-row-preserved : goal.loop-row-preserved
loop-row-preserved c =
    let s = c.args.state.now in
    let m = c.args.mask in
    let g = c.args.self.now.extent in
    let r = c.loop-row.row in
    let f = cleared_pixel s m in
    let part = c.scissored-part.result in
    let p : IsPartWhere (grid_rect g) part (is_in_scissor s) = subst (λ (r : Rect). IsPartWhere r part (is_in_scissor s)) c.rect.ensures c.scissored-part.ensures in
    let b = p.bounds in
    let i = c.loop-row.invariant in
    let grid = c.loop-row.self in
    let from = c.offset-from.result in
    let to = c.offset-to.result in
    let span : Span = record { y = row_at g r; x0 = part.x0; x1 = part.x1 } in
    let low : part.y0 ≡ pos (g.bottom + c.offset-first.result) = omega (arith, ints) in
    let high : part.y1 ≡ pos (g.bottom + c.offset-last.result) = omega (arith, ints) in
    let left : part.x0 ≡ pos (g.left + from) = omega (arith, ints) in
    let right : part.x1 ≡ pos (g.left + to) = omega (arith, ints) in
    let ordered : from ≤ to = omega (arith, ints) in
    let wide : grid.extent.width ≡ g.width = ap (λ (e : Extent). e.width) i.extent in
    let tall : grid.extent.height ≡ g.height = ap (λ (e : Extent). e.height) i.extent in
    let inside : to ≤ g.width = omega (arith, ints) in
    let start = c.row_start-start.result in
    let end = start + grid.extent.width in
    let cs = c.as_mut_slice.result.now in
    let ds = c.as_mut_slice-in-loop-row.result.now in
    let new_cs = c.clear_row.new.colors in
    let new_ds = c.clear_row.new.depths in
    let within : end ≤ length grid.colors.items =
    let below : r < grid.extent.height = omega (arith, ints) in
    let k = row_part_within grid.extent.width grid.extent.height r grid.extent.width below (omega arith) in omega (arith, k, grid.full, c.row_start-start.ensures) in
    let size_cs = (c.clear_row.ensures 0 0).colors in
    let size_ds = (c.clear_row.ensures 0 0).depths in
    let back_cs = with_items_is grid.colors (put_mid start (end - start) cs new_cs) (same_len_mid start (end - start) cs new_cs size_cs ∙ c.as_mut_slice.ensures.len) in
    let back_ds = with_items_is grid.depths (put_mid start (end - start) ds new_ds) (same_len_mid start (end - start) ds new_ds size_ds ∙ c.as_mut_slice-in-loop-row.ensures.len) in
    let first : start ≡ r * g.width = c.row_start-start.ensures ∙ ap (λ (n : ℕ). r * n) wide in
    let row = row_placed f g.left (g.bottom + r) (r * g.width) start end from to grid.colors.items cs new_cs _ grid.depths.items ds new_ds _ first grid.deep (omega arith) within ordered (omega (arith, inside, wide))
    c.as_mut_slice.ensures.value c.as_mut_slice-in-loop-row.ensures.value size_cs size_ds back_cs back_ds (c.clear_row.ensures g.left (g.bottom + r)).drawn in
    record {
      extent = i.extent;
      drawn = stepped_more (clear_step s m) f g _ _ _ (row_at g r) _ span i.drawn (clear_row s m g part p r (omega (arith, ints)) (omega (arith, ints)))
          (span_drawn f span g r from to _ _ refl left right ordered inside row)
          (omega (arith, ints));
    }

pub returns-then-part-clause-drawn : goal.returns-then-part-clause-drawn
returns-then-part-clause-drawn c =
    let s = c.args.state.now in
    let g = c.args.self.now.extent in
    let part = c.scissored-part.result in
    let p : IsPartWhere (grid_rect g) part (is_in_scissor s) = subst (λ (r : Rect). IsPartWhere r part (is_in_scissor s)) c.rect.ensures c.scissored-part.ensures in
    none_cleared s c.args.mask g part p (pixels_of c.args.self.now.colors.items c.args.self.now.depths.items)
    (elim c.then-part.branch [ then-part-via-then-part w ↦ inl (omega (arith, ints)) | then-part-via-else-part+then-part-2 w ↦ inr (omega (arith, ints)) ])

pub returns-clause-drawn : goal.returns-clause-drawn
returns-clause-drawn c =
    let s = c.args.state.now in
    let g = c.args.self.now.extent in
    let part = c.scissored-part.result in
    let p : IsPartWhere (grid_rect g) part (is_in_scissor s) = subst (λ (r : Rect). IsPartWhere r part (is_in_scissor s)) c.rect.ensures c.scissored-part.ensures in
    let high : part.y1 ≡ pos (g.bottom + c.offset-last.result) = omega (arith, ints) in
    stepped_all (clear_step s c.args.mask) g (pixels_of c.args.self.now.colors.items c.args.self.now.depths.items) (pixels_of c.loop-row.self.colors.items c.loop-row.self.depths.items) _ c.loop-row.invariant.drawn
    (λ i j hi hj l o. above_cleared s c.args.mask g part p i j hi hj (omega (arith, ints)) o)
