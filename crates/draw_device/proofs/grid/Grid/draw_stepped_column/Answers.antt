use Rattle.std.proofs.Common.{◌∙◌, ℕ, pos, ap, length, List, refl, subst, sym}
use Rattle.std.proofs.lemmas.List.{with_items_is}
use Rattle.rc_base.specs.declared.command.Rgba.{Rgba}
use Rattle.raster.specs.Colors.{IsColorPlane}
use Rattle.draw_device.specs.Pixels.{pixels_of}
use Rattle.draw_device.specs.Columns.{column_fragment, IsColumnColored}
use Rattle.draw_device.specs.Shapes.{IsStepped, covered_step}
use Rattle.draw_device.proofs.ColumnsToPixels.{only_covered, only_drawn, only_room}
use Rattle.draw_device.proofs.grid.Grid.draw_stepped_column.Goals as goal

pub step_column-requires-clause-room : goal.step_column-requires-clause-room
step_column-requires-clause-room c = only_room _ _ _ c.args.run _ c.requires.run.run (ap length c.as_mut_slice.ensures.value ∙ c.args.self.now.full)

pub step_column-requires-clause-covered : goal.step_column-requires-clause-covered
step_column-requires-clause-covered c = only_covered _ _ _ c.args.run c.requires.run.run

pub step_column-requires-clause-ramp : goal.step_column-requires-clause-ramp
step_column-requires-clause-ramp c =
    let v = c.args.triangle.now.tri.now.v in
    let o = c.requires.run.run in
    c.color_rise-first.ensures v (subst (λ (y : ℕ). IsColorPlane v (pos c.args.run.left) (pos y) c.args.plane.now) (sym o.bottom)
    (subst (λ (x : ℕ). IsColorPlane v (pos x) (pos c.args.self.now.extent.bottom) c.args.plane.now) (sym o.left) c.requires.plane))

pub returns : goal.returns
returns c =
    let s = c.args.triangle.now.state.now in
    let p = c.args.triangle.now.texture.now in
    let v = c.args.triangle.now.tri.now.v in
    let grid = c.args.self.now in
    let r = c.args.run in
    let new = c.step_column.new.colors in
    let d : IsColumnColored (λ (k : ℕ). (column_fragment v r k).color) r r.to grid.colors.items new =
    subst (λ (l : List Rgba). IsColumnColored (λ (k : ℕ). (column_fragment v r k).color) r r.to l new) c.as_mut_slice.ensures.value c.step_column.ensures in
    let same = with_items_is grid.colors new (c.step_column.ensures.size ∙ c.as_mut_slice.ensures.len) in
    record {
      extent = refl;
      drawn = subst (λ (l : List Rgba). IsStepped (covered_step s p v) grid.extent (pixels_of grid.colors.items grid.depths.items) (pixels_of l grid.depths.items)) (sym same)
          (only_drawn s p v grid.extent c.args.part r (λ (k : ℕ). (column_fragment v r k).color) grid.colors.items new grid.depths.items c.requires.run.within c.requires.run.run c.requires.run.stored
          (λ k m n. refl) d grid.deep);
    }
