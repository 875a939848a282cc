use Rattle.draw_device.proofs.grid.Grid.draw_stored.Goals as goal

pub draw_settled-requires-2 : goal.draw_settled-requires-2
draw_settled-requires-2 c = record { grid = c.requires.grid; settled = (c.requires.stored, c.color_plane-plane.ensures _ _ c.shared_at-shared.ensures) }
