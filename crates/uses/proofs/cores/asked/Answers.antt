use Rattle.std.proofs.Common.{◌≡◌, ℕ, ◌&&◌, ◌||◌, not, Bool, true, false, cond, sym, ap, ◌∙◌, arith}
use Rattle.tile_server.specs.Cores.{is_short}
use Rattle.tile_server.specs.Ledgers.{closed_in, held_in, is_over_in}
use Rattle.tile_server.specs.Tasks.{asks_in}
use Rattle.tile_server.specs.declared.tile_core.TileCore.{TileCore}
use Rattle.uses.proofs.cores.asked.Goals as goal

short_asks : (core : TileCore) (client : ℕ) → is_short core ≡ true → closed_in core.ledger client ≡ false → asks_in core client ≡ true
short_asks core client short running =
    let closed = closed_in core.ledger client in
    ap (λ (b : Bool). cond b (not closed) (not closed && (not (held_in core.ledger client) || is_over_in core.ledger))) short ∙ ap (λ (b : Bool). not b) running

pub returns : goal.returns
returns c p client stands low running =
    c.asked.ensures client (omega (arith, low, stands.ledger.count))
    ∙ short_asks c.args.tile.now client c.requires (sym (stands.ledger.closed client) ∙ running)
