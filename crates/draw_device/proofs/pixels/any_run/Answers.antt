use Rattle.std.proofs.Common.{◌+◌, ◌∙◌, pos, arith, ap, sym, length-set, to_z-of_z, FitsSigned, w32}
use Rattle.rc_base.specs.Drawing.PixelStep.{written_color, fragment_color}
use Rattle.rc_base.specs.declared.window.Pixel.{Pixel}
use Rattle.rc_base.specs.declared.window.WindowVertex.{WindowVertex}
use Rattle.draw_device.specs.Pixels.{color_at, flag_at}
use Rattle.draw_device.specs.Shapes.{fragment_pixel}
use Rattle.draw_device.specs.Loops.{run_fragment}
use Rattle.draw_device.proofs.Lists.{pixel_in}
use Rattle.draw_device.proofs.Runs.{reached, run_pixel, run_end}
use Rattle.draw_device.proofs.Steps.{value_moved}
use Rattle.draw_device.proofs.pixels.any_run.Goals as goal

pub loop-x-preserved : goal.loop-x-preserved
loop-x-preserved c =
    let a = c.args in
    let r = a.run in
    let v = a.setup.now.tri.now.v in
    let x = c.loop-x.x in
    let i = c.loop-x.invariant in
    let order = c.args.run.order in
    let alike = i.depths ∙ c.requires.row.alike ∙ sym i.colors in
    let f = run_fragment v r x in
    let inside = c.requires.row.covered x (omega arith) (omega arith) in
    let fit : FitsSigned w32 c.value_by-depth.result = record { sfits = c.value_by-depth.type_inv } in
    let was = sym (pixel_in c.loop-x.colors c.loop-x.depths x alike) ∙ i.drawn.after x (omega arith) ∙ pixel_in a.colors.now a.depths.now x c.requires.row.alike in
    let color = (λ i. color_at (c.as_slice-written.ensures.value i) x) ∙ c.requires.written x (omega arith) (omega arith) ∙ ap (λ (o : Pixel). written_color a.setup.now.state.now (fragment_color a.setup.now.state.now a.setup.now.texture.now f) o.color) (sym was) in
    let flag = (λ i. flag_at (c.as_slice-flags.ensures.value i) x) ∙ c.requires.flags x (omega arith) (omega arith) in
    let e = c.any_step.ensures a.setup.now.state.now a.setup.now.texture.now f a.setup.now.planned.depth flag color (to_z-of_z fit ∙ c.value_by-depth.ensures.depth c.loop-x.invariant.ramp) in
    record {
      colors = length-set _ _ _ ∙ i.colors;
      depths = length-set _ _ _ ∙ i.depths;
      drawn = run_pixel (fragment_pixel a.setup.now.state.now a.setup.now.texture.now v) r.left r.row r.from x _ c.loop-x.colors c.loop-x.depths _ _ alike i.drawn (omega arith) (omega (arith, i.colors, c.requires.row.inside)) e;
      ramp = value_moved _ (λ (c : WindowVertex). c.z) r.left x r.row r.up _ (c.advance.ensures v (pos (r.left + x)) (pos r.row) _ (1 + x + r.up) i.ramp);
    }

pub returns : goal.returns
returns c =
    let order = c.args.run.order in
    let e = c.loop-x.auto.x-end order in
    record {
      colors = c.loop-x.invariant.colors;
      depths = c.loop-x.invariant.depths;
      drawn = run_end (fragment_pixel c.args.setup.now.state.now c.args.setup.now.texture.now c.args.setup.now.tri.now.v) c.args.run.left c.args.run.row c.args.run.from _ _ _ _ (omega arith) c.loop-x.invariant.drawn;
    }

pub value_by-depth-requires : goal.value_by-depth-requires
value_by-depth-requires c = reached c.args.setup.now.tri.now.v c.args.run c.loop-x.x c.requires.row.covered (omega arith) (omega arith)
