use Rattle.std.proofs.Common.{◌∙◌, sym, arith, length-set}
use Rattle.draw_device.specs.Shapes.{fragment_pixel}
use Rattle.draw_device.proofs.Runs.{run_pixel, run_end}
use Rattle.draw_device.proofs.shade.draw_run.Goals as goal

pub put_covered-requires-clause-inside : goal.put_covered-requires-clause-inside
put_covered-requires-clause-inside c = c.requires.covered c.loop-x.x (omega arith) (omega arith)

pub loop-x-preserved : goal.loop-x-preserved
loop-x-preserved c =
    let a = c.args in
    let i = c.loop-x.invariant in
    let alike = i.depths ∙ c.requires.row.alike ∙ sym i.colors in
    record {
      colors = length-set _ _ _ ∙ i.colors;
      depths = length-set _ _ _ ∙ i.depths;
      drawn = run_pixel (fragment_pixel a.setup.now.state.now a.setup.now.texture.now a.setup.now.tri.now.v) a.setup.now.extent.left a.row a.from c.loop-x.x _ c.loop-x.colors c.loop-x.depths _ _ alike i.drawn (omega arith)
          (omega (arith, i.colors)) c.put_covered.ensures;
    }

pub returns : goal.returns
returns c =
    let order = c.requires.row.order in
    let e = c.loop-x.auto.x-end order in
    let s = c.args.setup.now in
    record {
      colors = c.loop-x.invariant.colors;
      depths = c.loop-x.invariant.depths;
      drawn = run_end (fragment_pixel s.state.now s.texture.now s.tri.now.v) s.extent.left c.args.row c.args.from _ _ _ _ (omega arith) c.loop-x.invariant.drawn;
    }
