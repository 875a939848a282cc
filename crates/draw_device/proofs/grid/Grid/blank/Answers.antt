use Rattle.std.proofs.Common.{◌∙◌}
use Rattle.std.proofs.lemmas.List.{with_items_is}
use Rattle.draw_device.proofs.ChangedGrids.{becomes, stays}
use Rattle.draw_device.proofs.grid.Grid.blank.Goals as goal

pub returns-clause-among : goal.returns-clause-among
returns-clause-among c k low high =
    let g = c.args.self.now in
    let cs = c.as_mut_slice.ensures in
    let ds = c.as_mut_slice-2.ensures in
    let kept = c.blank_run.ensures in
    let now_colors = with_items_is g.colors c.blank_run.new.colors (kept.colors ∙ cs.len) in
    let now_depths = with_items_is g.depths c.blank_run.new.depths (kept.depths ∙ ds.len) in
    becomes g cs.value ds.value kept.colors kept.depths now_colors now_depths k ∙ kept.among k low high

pub returns-clause-below : goal.returns-clause-below
returns-clause-below c k lt =
    let g = c.args.self.now in
    let cs = c.as_mut_slice.ensures in
    let ds = c.as_mut_slice-2.ensures in
    let kept = c.blank_run.ensures in
    let now_colors = with_items_is g.colors c.blank_run.new.colors (kept.colors ∙ cs.len) in
    let now_depths = with_items_is g.depths c.blank_run.new.depths (kept.depths ∙ ds.len) in
    stays g cs.value ds.value kept.colors kept.depths now_colors now_depths k (kept.below k lt)

pub returns-clause-above : goal.returns-clause-above
returns-clause-above c k le =
    let g = c.args.self.now in
    let cs = c.as_mut_slice.ensures in
    let ds = c.as_mut_slice-2.ensures in
    let kept = c.blank_run.ensures in
    let now_colors = with_items_is g.colors c.blank_run.new.colors (kept.colors ∙ cs.len) in
    let now_depths = with_items_is g.depths c.blank_run.new.depths (kept.depths ∙ ds.len) in
    stays g cs.value ds.value kept.colors kept.depths now_colors now_depths k (kept.above k le)
