use Rattle.std.proofs.Common.{◌∙◌, ℕ, ◌+◌, pos, ap, length, List, subst, sym, refl}
use Rattle.std.proofs.lemmas.List.{with_items_is}
use Rattle.rc_base.specs.declared.command.Rgba.{Rgba}
use Rattle.draw_device.specs.Pixels.{pixels_of}
use Rattle.draw_device.specs.Columns.{IsColumnColored}
use Rattle.draw_device.specs.Shapes.{IsStepped, covered_step}
use Rattle.draw_device.proofs.ColumnsToPixels.{only_covered, only_drawn, only_room}
use Rattle.draw_device.proofs.grid.Grid.draw_filled_column.Goals as goal

pub fill_column-requires-clause-room : goal.fill_column-requires-clause-room
fill_column-requires-clause-room c = only_room _ _ _ c.args.run _ c.requires.run.run (ap length c.as_mut_slice.ensures.value ∙ c.args.self.now.full)

pub returns : goal.returns
returns c =
    let s = c.args.triangle.now.state.now in
    let p = c.args.triangle.now.texture.now in
    let v = c.args.triangle.now.tri.now.v in
    let grid = c.args.self.now in
    let r = c.args.run in
    let d : IsColumnColored (λ (k : ℕ). c.args.color) r r.to grid.colors.items c.fill_column.new.colors =
    subst (λ (l : List Rgba). IsColumnColored (λ (k : ℕ). c.args.color) r r.to l c.fill_column.new.colors) c.as_mut_slice.ensures.value c.fill_column.ensures in
    let same = with_items_is grid.colors c.fill_column.new.colors (c.fill_column.ensures.size ∙ c.as_mut_slice.ensures.len) in
    record {
      extent = refl;
      drawn = subst (λ (l : List Rgba). IsStepped (covered_step s p v) grid.extent (pixels_of grid.colors.items grid.depths.items) (pixels_of l grid.depths.items)) (sym same)
          (only_drawn s p v grid.extent c.args.part r (λ (k : ℕ). c.args.color) grid.colors.items c.fill_column.new.colors grid.depths.items c.requires.run.within c.requires.run.run c.requires.run.stored
          (λ k m n. c.requires.color (pos (r.left + r.across)) (pos (r.bottom + k)) (only_covered v grid.extent c.args.part r c.requires.run.run k m n)) d grid.deep);
    }
