use Rattle.std.proofs.Common.{rules}
use Rattle.std.proofs.lemmas.Result.{on_ok_weaker}
use Rattle.tile_server.proofs.tile_core.TileCore.work.Goals as goal

pub returns : goal.returns
returns c =
    let drawn = c.carry_out-drawn.ensures in
    record {
      alike = search rules;
      worked = on_ok_weaker c.log_work.result (λ step. record { ledger = step; done = drawn.done; ignored = drawn.ignored }) c.log_work.ensures.done;
      ledger = c.log_work.ensures.unchanged;
    }
