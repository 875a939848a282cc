use Rattle.std.proofs.Common.{◌≡◌, ◌+◌, ◌*◌, ◌<◌, ◌∙◌, ℕ, length, pos, arith, ap, sym}
use Rattle.std.proofs.lemmas.Int.{ints}
use Rattle.std.proofs.lemmas.List.{get_or_default}
use Rattle.fragment_ops.specs.DepthTests.{pixel}
use Rattle.draw_device.specs.Pixels.{pixel_at, color_at, depth_at, pixels_of}
use Rattle.draw_device.proofs.Lists.{pixel_in}
use Rattle.draw_device.proofs.Places.{index_inside, index_of}
use Rattle.draw_device.proofs.grid.Grid.pixel.Goals as goal

pub index-requires : goal.index-requires
index-requires c =
    let g = c.args.self.now.extent in
    let i = c.offset-column.result in
    let j = c.offset-row.result in
    let column : c.args.x ≡ pos (g.left + i) = omega (arith, ints) in
    let row : c.args.y ≡ pos (g.bottom + j) = omega (arith, ints) in
    let inside = index_inside g c.args.x c.args.y i j c.requires column row in
    let full = c.args.self.now.full in
    omega arith

pub index-requires-2 : goal.index-requires-2
index-requires-2 c =
    let g = c.args.self.now.extent in
    let i = c.offset-column.result in
    let j = c.offset-row.result in
    let column : c.args.x ≡ pos (g.left + i) = omega (arith, ints) in
    let row : c.args.y ≡ pos (g.bottom + j) = omega (arith, ints) in
    let inside = index_inside g c.args.x c.args.y i j c.requires column row in
    let full = c.args.self.now.full in
    let deep = c.args.self.now.deep in
    omega arith

pub returns : goal.returns
returns c =
    let grid = c.args.self.now in
    let g = grid.extent in
    let i = c.offset-column.result in
    let j = c.offset-row.result in
    let column : c.args.x ≡ pos (g.left + i) = omega (arith, ints) in
    let row : c.args.y ≡ pos (g.bottom + j) = omega (arith, ints) in
    let inside = index_inside g c.args.x c.args.y i j c.requires column row in
    let full = grid.full in
    let deep = grid.deep in
    let at : c.row_start.result + i ≡ j * g.width + i = ap (λ (n : ℕ). n + i) c.row_start.ensures in
    let below : c.row_start.result + i < length grid.colors.items = omega arith in
    let deep_below : c.row_start.result + i < length grid.depths.items = omega arith in
    let color : c.index.result.now ≡ color_at grid.colors.items (c.row_start.result + i) = c.index.ensures ∙ get_or_default _ _ _ _ below in
    let depth : c.index-2.result.now ≡ depth_at grid.depths.items (c.row_start.result + i) = c.index-2.ensures ∙ get_or_default _ _ _ _ deep_below in
    (λ k. pixel (color k) (depth k))
    ∙ sym (pixel_in grid.colors.items grid.depths.items _ grid.deep)
    ∙ ap (pixel_at (pixels_of grid.colors.items grid.depths.items)) (at ∙ sym (index_of g c.args.x c.args.y i j column row))
