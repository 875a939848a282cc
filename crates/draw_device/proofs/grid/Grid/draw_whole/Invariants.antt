use Rattle.std.proofs.Common.{◌≡◌, ℕ, ◌+◌, ◌*◌, ◌<◌}
use Rattle.std.specs.List.{flat_map}
use Rattle.geometry.specs.Items.{rest_from}
use Rattle.geometry.specs.Listed.{listed, listed_block}
use Rattle.rc_base.specs.Drawing.Pieces.{kept_corners_of, kept_triangles}
use Rattle.draw_device.specs.Pixels.{pixel_at, pixels_of}
use Rattle.draw_device.specs.Shapes.{column_at, row_at, triangles_step}
use Rattle.draw_device.proofs.grid.Grid.draw_whole.Given as goal

abbrev pub invariant-draws : goal.invariant-draws
invariant-draws l =
    record {
      extent : l.self.extent ≡ l.fn.self.extent;
      state : l.cache.state.now ≡ l.setup.state.now;
      vertices : listed l.cache.vertices ≡ listed l.fn.block.vertices;
      rest : (i j : ℕ) → i < l.fn.self.extent.width → j < l.fn.self.extent.height
          → triangles_step l.setup.state.now l.setup.texture.now (flat_map (kept_corners_of l.setup.state.now (listed_block l.fn.block)) (rest_from (listed_block l.fn.block) l.i))
          (column_at l.fn.self.extent i) (row_at l.fn.self.extent j) (pixel_at (pixels_of l.self.colors.items l.self.depths.items) (j * l.fn.self.extent.width + i))
          ≡ triangles_step l.setup.state.now l.setup.texture.now (kept_triangles l.setup.state.now (listed_block l.fn.block))
          (column_at l.fn.self.extent i) (row_at l.fn.self.extent j) (pixel_at (pixels_of l.fn.self.colors.items l.fn.self.depths.items) (j * l.fn.self.extent.width + i));
    }
