use Rattle.std.proofs.Common.{◌++◌, ◌∷◌, [], ◌∙◌, List, ap, sym, arith, length}
use Rattle.rc_base.specs.declared.window.Pixel.{Pixel}
use Rattle.fragment_ops.specs.DepthTests.{pixel}
use Rattle.draw_device.specs.Pixels.{color_at, depth_at}
use Rattle.draw_device.proofs.Lists.{pixels_none, pixels_more}
use Rattle.draw_device.proofs.grid.Grid.copy.Goals as goal

pub loop-k-init : goal.loop-k-init
loop-k-init c = record { pixels = c.in_ok-pixels.ensures.items ∙ sym pixels_none; len = c.in_ok-pixels.ensures.len; capacity = c.in_ok-pixels.ensures.capacity }

pub loop-k-preserved : goal.loop-k-preserved
loop-k-preserved c =
    let cs = c.as_slice-colors.result.now in
    let ds = c.as_slice-depths.result.now in
    let k = c.loop-k.k in
    let i = c.loop-k.invariant in
    let grid = c.args.self.now in
    let alike = ap length c.as_slice-depths.ensures.value ∙ grid.deep ∙ sym (ap length c.as_slice-colors.ensures.value) in
    record {
      pixels = c.push_reserved.ensures.items ∙ ap (λ (l : List Pixel). l ++ pixel (color_at cs k) (depth_at ds k) ∷ []) i.pixels
          ∙ sym (pixels_more cs ds k alike (omega (arith, c.loop-k-test.true)));
      len = omega (arith, c.push_reserved.ensures.len, i.len);
      capacity = omega (arith, c.push_reserved.ensures.capacity, i.capacity);
    }
