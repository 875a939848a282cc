use Rattle.tile_model.proofs.laws.items_keep_progress.Goals as goal
use Rattle.tile_model.proofs.ItemsKeepProgress.{item_comes}
use Rattle.tile_model.proofs.LogsReplayOverWhatWasTaken.{replays_over_taken}

pub returns-clause-items : goal.returns-clause-items
returns-clause-items c = item_comes

pub returns-clause-log : goal.returns-clause-log
returns-clause-log c = replays_over_taken
