use Rattle.std.proofs.Common.{◌-◌, ap, arith, length, sym, ◌∙◌}
use Rattle.std.proofs.lemmas.List.{with_items_is}
use Rattle.rc_base.specs.Drawing.Nearer.{nearer}
use Rattle.fragment_ops.specs.DepthTests.{pixel}
use Rattle.draw_device.specs.Active.{active_at}
use Rattle.draw_device.specs.Pixels.{color_at, depth_at}
use Rattle.draw_device.proofs.ChangedGrids.{becomes, stays}
use Rattle.draw_device.proofs.Lists.{pixel_in}
use Rattle.draw_device.proofs.grid.Grid.take_nearer.Goals as goal

pub returns-clause-among : goal.returns-clause-among
returns-clause-among c k low high =
    let a = c.args.layer.now in
    let lc = c.as_slice.ensures.value in
    let ld = c.as_slice-2.ensures.value in
    let g = c.args.self.now in
    let cs = c.as_mut_slice.ensures in
    let ds = c.as_mut_slice-2.ensures in
    let kept = c.keep_nearer.ensures in
    let now_colors = with_items_is g.colors c.keep_nearer.new.colors (kept.colors ∙ cs.len) in
    let now_depths = with_items_is g.depths c.keep_nearer.new.depths (kept.depths ∙ ds.len) in
    becomes g cs.value ds.value kept.colors kept.depths now_colors now_depths k
    ∙ kept.among k low (omega (arith, high, ap length lc))
    ∙ (λ i. nearer (pixel (color_at (cs.value i) k) (depth_at (ds.value i) k)) (pixel (color_at (lc i) (k - a.from)) (depth_at (ld i) (k - a.from))))
    ∙ ap (λ p. nearer p (active_at a k)) (sym (pixel_in g.colors.items g.depths.items k g.deep))

pub returns-clause-below : goal.returns-clause-below
returns-clause-below c k lt =
    let g = c.args.self.now in
    let cs = c.as_mut_slice.ensures in
    let ds = c.as_mut_slice-2.ensures in
    let kept = c.keep_nearer.ensures in
    let now_colors = with_items_is g.colors c.keep_nearer.new.colors (kept.colors ∙ cs.len) in
    let now_depths = with_items_is g.depths c.keep_nearer.new.depths (kept.depths ∙ ds.len) in
    stays g cs.value ds.value kept.colors kept.depths now_colors now_depths k (kept.below k lt)

pub returns-clause-above : goal.returns-clause-above
returns-clause-above c k le =
    let g = c.args.self.now in
    let cs = c.as_mut_slice.ensures in
    let ds = c.as_mut_slice-2.ensures in
    let kept = c.keep_nearer.ensures in
    let now_colors = with_items_is g.colors c.keep_nearer.new.colors (kept.colors ∙ cs.len) in
    let now_depths = with_items_is g.depths c.keep_nearer.new.depths (kept.depths ∙ ds.len) in
    stays g cs.value ds.value kept.colors kept.depths now_colors now_depths k (kept.above k (omega (arith, le, ap length c.as_slice.ensures.value)))
