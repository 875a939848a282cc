use lib.ListN.{take, drop}
use Rattle.std.proofs.Common.{rules, ◌≡◌, ◌+◌, ◌-◌, ◌*◌, ◌∙◌, ℕ, ◌≤◌, arith, refl, subst, sym, length}
use Rattle.std.proofs.lemmas.List.{with_items_is}
use borrow.Rule.Slice.PartMut.{put_mid, same_len_mid}
use Rattle.plain_lemmas.proofs.Places.{row_part_within}
use Rattle.draw_device.specs.Shapes.{tried_pixel, grid_span, IsRowChanged}
use Rattle.draw_device.specs.declared.grid.Extent.{Extent}
use Rattle.draw_device.proofs.Lists.{row_placed}
use Rattle.draw_device.proofs.SpansToPixels.{span_drawn}
use Rattle.draw_device.proofs.grid.Grid.try_row.Goals as goal

pub row_in-row-requires : goal.row_in-row-requires
row_in-row-requires c = let top = c.args.self.now.top in let low = c.requires.low in omega arith

pub try_run-requires-clause-row : goal.try_run-requires-clause-row
try_run-requires-clause-row c =
    let g = c.args.self.now.extent in
    let start = c.row_start-start.result in
    let end = start + g.width in
    let size_cs : length (take (end - start) (drop start c.as_mut_slice.result.now)) ≡ g.width = search rules in
    let size_ds : length (take (end - start) (drop start c.as_mut_slice-2.result.now)) ≡ g.width = search rules in
    let wide = c.requires.wide in
    record { order = c.requires.order; inside = omega (arith, size_cs); alike = size_ds ∙ sym size_cs }

pub returns : goal.returns
returns c =
    let s = c.args.setup.now in
    let grid = c.args.self.now in
    let g = grid.extent in
    let f = tried_pixel s.state.now s.texture.now s.tri.now.v in
    let up = c.args.up in
    let from = c.args.from in
    let to = c.args.to in
    let start = c.row_start-start.result in
    let end = start + g.width in
    let cs = c.as_mut_slice.result.now in
    let ds = c.as_mut_slice-2.result.now in
    let new_cs = c.try_run.new.colors in
    let new_ds = c.try_run.new.depths in
    let ab = c.requires.order in
    let bw = c.requires.wide in
    let inside : end ≤ length grid.colors.items = let r = row_part_within g.width g.height up g.width c.requires.low (omega arith) in omega (arith, r, grid.full, c.row_start-start.ensures) in
    let placed = subst (λ (e : Extent). IsRowChanged f e.left c.row_in-row.result from to (take (end - start) (drop start cs)) (take (end - start) (drop start ds)) new_cs new_ds) c.requires.grid c.try_run.ensures in
    let done = subst (λ (n : ℕ). IsRowChanged f g.left n from to (take (end - start) (drop start cs)) (take (end - start) (drop start ds)) new_cs new_ds) c.row_in-row.ensures placed in
    let size_cs = done.colors in
    let size_ds = done.depths in
    let back_cs = with_items_is grid.colors (put_mid start (end - start) cs new_cs) (same_len_mid start (end - start) cs new_cs size_cs ∙ c.as_mut_slice.ensures.len) in
    let back_ds = with_items_is grid.depths (put_mid start (end - start) ds new_ds) (same_len_mid start (end - start) ds new_ds size_ds ∙ c.as_mut_slice-2.ensures.len) in
    let row = row_placed f g.left (g.bottom + up) (up * g.width) start end from to grid.colors.items cs new_cs _ grid.depths.items ds new_ds _ c.row_start-start.ensures grid.deep (omega arith) inside ab (omega (arith, bw))
    c.as_mut_slice.ensures.value c.as_mut_slice-2.ensures.value size_cs size_ds back_cs back_ds done.drawn in
    record {
      extent = refl;
      drawn = span_drawn f (grid_span g up from to) g up from to _ _ refl refl refl ab bw row;
    }
