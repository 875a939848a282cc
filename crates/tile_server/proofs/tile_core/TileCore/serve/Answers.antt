use Rattle.std.proofs.Common.{sym, ◌∙◌}
use Rattle.tile_server.proofs.tile_core.TileCore.serve.Goals as goal

pub returns-then-is_wait : goal.returns-then-is_wait
returns-then-is_wait c = c.hold.ensures c.args.parcel (sym c.is_wait.ensures ∙ c.if-is_wait.true)
