use Rattle.std.proofs.Common.{length, ap, sym, ◌∙◌, arith}
use Rattle.rc_base.specs.declared.window.Pixel.{Pixel}
use Rattle.draw_device.specs.Pixels.{depth_at}
use Rattle.draw_device.proofs.Lists.{pixel_in}
use Rattle.draw_device.proofs.grid.Grid.drawn.Goals as goal

pub returns-clause-below : goal.returns-clause-below
returns-clause-below c k lt =
    let g = c.args.self.now in
    let ds = c.as_slice-depths.ensures.value in
    ap (λ (p : Pixel). p.depth) (pixel_in g.colors.items g.depths.items k g.deep)
    ∙ (λ i. depth_at (sym ds i) k)
    ∙ c.drawn_start-from.ensures.far k lt

pub returns-clause-above : goal.returns-clause-above
returns-clause-above c k le lt =
    let g = c.args.self.now in
    let ds = c.as_slice-depths.ensures.value in
    ap (λ (p : Pixel). p.depth) (pixel_in g.colors.items g.depths.items k g.deep)
    ∙ (λ i. depth_at (sym ds i) k)
    ∙ c.drawn_end-to.ensures.far k le (omega (arith, lt, g.deep, ap length ds))
