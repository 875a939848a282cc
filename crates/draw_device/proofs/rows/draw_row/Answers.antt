use Rattle.std.proofs.Common.{◌+◌, refl}
use Rattle.draw_device.proofs.Runs.{filled_run}
use Rattle.draw_device.proofs.rows.draw_row.Goals as goal

pub returns-in-Fill-clause-drawn : goal.returns-in-Fill-clause-drawn
returns-in-Fill-clause-drawn c =
    let a = c.args in
    let s = a.setup.now in
    let g = s.extent in
    let h = rw c.in-Fill.is at c.requires.paint in
    record {
      colors = c.fill_colors.ensures.size;
      depths = refl;
      drawn = filled_run s.state.now s.texture.now s.tri.now.v g.left (g.bottom + a.up) a.from a.to c.in-Fill.color a.colors.now _ a.depths.now h.0 h.1 c.requires.row.covered
          c.requires.row.row.alike c.fill_colors.ensures;
    }

pub store_row-requires-clause-row : goal.store_row-requires-clause-row
store_row-requires-clause-row c = let h = c.requires.row in record { inside = h.row.inside; alike = h.row.alike; covered = h.covered }

pub store_row-requires-clause-stored : goal.store_row-requires-clause-stored
store_row-requires-clause-stored c = (rw c.in-Store.is at c.requires.paint).0

pub store_row-requires-clause-plane : goal.store_row-requires-clause-plane
store_row-requires-clause-plane c = (rw c.in-Store.is at c.requires.paint).1

pub stage_row-requires-clause-row : goal.stage_row-requires-clause-row
stage_row-requires-clause-row c = let h = c.requires.row in record { inside = h.row.inside; alike = h.row.alike; covered = h.covered }

pub stage_row-requires-clause-stages : goal.stage_row-requires-clause-stages
stage_row-requires-clause-stages c = rw c.in-Stages.is at c.requires.paint

pub fill_colors-requires : goal.fill_colors-requires
fill_colors-requires c = let h = c.requires.row.row in record { order = h.order; room = h.inside }
