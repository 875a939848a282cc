-- The pixels of a grid whose colours and depths a loop changed, and those that stay as they were.
use Rattle.std.proofs.Common.{◌≡◌, ℕ, List, length, ap, sym, ◌∙◌, arith}
use Rattle.rc_base.specs.declared.command.Rgba.{Rgba}
use Rattle.fragment_ops.specs.DepthTests.{pixel}
use Rattle.draw_device.specs.Pixels.{color_at, depth_at, pixel_at, pixels_of}
use Rattle.draw_device.specs.declared.grid.Grid.{Grid}
use Rattle.draw_device.proofs.Lists.{pixel_in}

-- the slices cs and ds of the grid's lists became bs and es, and the lists ms and ns
module _ (g : Grid) {cs bs ms : List Rgba} {ds es ns : List ℕ} (had_colors : cs ≡ g.colors.items) (had_depths : ds ≡ g.depths.items)
    (kept_colors : length bs ≡ length cs) (kept_depths : length es ≡ length ds) (now_colors : ms ≡ bs) (now_depths : ns ≡ es) where
  pub becomes : (k : ℕ) → pixel_at (pixels_of ms ns) k ≡ pixel (color_at bs k) (depth_at es k)
  becomes k =
      let alike : length es ≡ length bs = omega (arith, kept_colors, kept_depths, ap length had_colors, ap length had_depths, g.deep) in
      (λ i. pixel_at (pixels_of (now_colors i) (now_depths i)) k) ∙ pixel_in bs es k alike

  pub stays : (k : ℕ) → pixel (color_at bs k) (depth_at es k) ≡ pixel (color_at cs k) (depth_at ds k)
      → pixel_at (pixels_of ms ns) k ≡ pixel_at (pixels_of g.colors.items g.depths.items) k
  stays k same =
      becomes k ∙ same ∙ (λ i. pixel (color_at (had_colors i) k) (depth_at (had_depths i) k)) ∙ sym (pixel_in g.colors.items g.depths.items k g.deep)
