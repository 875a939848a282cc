-- Streams that are short enough to be stored.
use Rattle.std.proofs.Common.{ℕ, suc, ◌<◌, ◌^◌, List, [], ◌∷◌, length}
use Rattle.std.specs.Prelude.{slice_index_or}
use Rattle.std.specs.List.{AllByRecursion}
use Rattle.rc_base.specs.declared.command.Command.{Command}
use Rattle.command_store.specs.Scenes.{IsShort}

pub all_short : (streams : List (List Command)) → ((client : ℕ) → length (slice_index_or streams client []) < 2 ^ 32) → AllByRecursion IsShort streams
all_short [] h = tt
all_short (stream ∷ streams) h = (h 0, all_short streams (λ client. h (suc client)))
