use Rattle.std.proofs.Common.{sym, ◌∙◌}
use Rattle.tile_server.proofs.tile_core.TileCore.receive.Goals as goal

pub returns-then-is_end : goal.returns-then-is_end
returns-then-is_end c = c.close.ensures c.args.parcel.now (sym c.is_end.ensures ∙ c.if-is_end.true)

pub returns-then-self : goal.returns-then-self
returns-then-self c = c.drop_parcel.ensures c.args.parcel.now (sym c.is_end.ensures ∙ c.if-is_end.false)

pub returns-then-is_held : goal.returns-then-is_held
returns-then-is_held c = c.drop_parcel-then-is_held.ensures c.args.parcel.now (sym c.is_end.ensures ∙ c.if-is_end.false)
