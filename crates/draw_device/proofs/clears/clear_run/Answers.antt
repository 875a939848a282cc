use Rattle.std.proofs.Common.{◌∙◌, sym, arith, length-set}
use Rattle.draw_device.specs.Shapes.{cleared_pixel}
use Rattle.draw_device.proofs.Runs.{run_pixel, run_end}
use Rattle.draw_device.proofs.clears.clear_run.Goals as goal

pub loop-x-preserved : goal.loop-x-preserved
loop-x-preserved c =
    let a = c.args in
    let i = c.loop-x.invariant in
    let alike = i.depths ∙ c.requires.alike ∙ sym i.colors in
    record {
      colors = length-set _ _ _ ∙ i.colors;
      depths = length-set _ _ _ ∙ i.depths;
      drawn = λ left row. run_pixel (cleared_pixel a.setup.now.state.now a.setup.now.mask) left row a.from c.loop-x.x _ c.loop-x.colors c.loop-x.depths _ _ alike (i.drawn left row) (omega arith)
          (omega (arith, i.colors)) (c.clear-cleared.ensures.cleared a.setup.now.state.now a.setup.now.mask a.setup.now.settled);
    }

pub returns : goal.returns
returns c left row =
    let e = c.loop-x.auto.x-end c.requires.order in
    let s = c.args.setup.now in
    record {
      colors = c.loop-x.invariant.colors;
      depths = c.loop-x.invariant.depths;
      drawn = run_end (cleared_pixel s.state.now s.mask) left row c.args.from _ _ _ _ (omega arith) (c.loop-x.invariant.drawn left row);
    }
