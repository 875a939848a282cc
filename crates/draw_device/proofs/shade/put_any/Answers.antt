use Rattle.std.proofs.Common.{◌≡◌, ◌∙◌, pos, if◌then◌else◌, to_z-of_z, to_z, of_z, w32}
use Rattle.rc_base.specs.Numbers.{is_between, natural}
use Rattle.rc_base.specs.Drawing.Window.{depth_most}
use Rattle.rc_base.specs.Drawing.PixelStep.{shaded}
use Rattle.fragment_ops.specs.DepthTests.{pixel}
use Rattle.draw_device.proofs.shade.put_any.Goals as goal

pub returns : goal.returns
returns c p f color depth =
    let a = c.args in
    let old = pixel a.stored_color.now a.stored_depth.now in
    let e : to_z w32 (of_z w32 a.depth) ≡ f.depth = to_z-of_z c.ranges.depth ∙ depth in
    c.shade_pixel-new.ensures
    ∙ (λ i. if is_between (pos 0) (pos depth_most) (e i) then shaded a.state.now (color i) (natural (e i)) old else old)
