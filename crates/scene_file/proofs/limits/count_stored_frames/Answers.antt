use Rattle.scene_file.proofs.LeastSwaps.{frames_start}
use Rattle.scene_file.proofs.limits.count_stored_frames.Goals as goal

pub loop-stream-init : goal.loop-stream-init
loop-stream-init c = frames_start c.args.streams.now c.first-item.result c.count_stored_swaps-least.result c.in-len1-up.len_at_least c.first-item.is c.count_stored_swaps-least.ensures
