use Rattle.sort_last.proofs.player.fn.draw_layers.par_for_each_mut.Goals as goal

pub draw_frames-requires : goal.draw_frames-requires
draw_frames-requires c = record { client = c.requires.0; before = c.requires.1 }
