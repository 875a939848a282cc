use Rattle.serial_render.proofs.turns.default_order.Goals as goal

pub turns_of-requires : goal.turns_of-requires
turns_of-requires c = c.in_ok-syncs.ensures.turns
