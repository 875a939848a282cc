use Rattle.draw_device.proofs.clears.clear_row.Goals as goal

pub returns-then-writes_pixel : goal.returns-then-writes_pixel
returns-then-writes_pixel c = c.fill_clear.ensures

pub returns-else-writes_pixel : goal.returns-else-writes_pixel
returns-else-writes_pixel c = c.clear_run.ensures
