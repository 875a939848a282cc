use Rattle.tile_server.proofs.TileRects.{lies_in_window}
use Rattle.tile_server.proofs.blank.blank_device.Goals as goal

pub device_in-requires : goal.device_in-requires
device_in-requires c = lies_in_window c.args.layout.now c.args.tile c.tile_rect.result c.requires c.tile_rect.ensures.rectangle
