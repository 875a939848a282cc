use Rattle.std.proofs.Common.{◌≡◌, true, List, length, sym, ap, subst}
use Rattle.parcel_bytes.specs.Spelling.{parcel_bytes}
use Rattle.tile_server.specs.Waits.{has_room}
use Rattle.tile_server.specs.declared.waiting.WaitingBlock.{WaitingBlock}
use Rattle.tile_server.proofs.WaitingBlocks.{bounded_last}
use Rattle.tile_server.proofs.waiting.Waiting.push.Goals as goal

pub invariant_of-self : goal.invariant_of-self
invariant_of-self c =
    let old = c.self.inside.blocks in
    bounded_last _ _ c.self.inside.bytes (length c.bytes.result.now) old.items c.push_back_reserved.new.self.items c.args.block c.self.invariant
    (subst (λ (ws : List WaitingBlock). has_room ws (length (parcel_bytes c.args.block.parcel)) ≡ true) (sym c.self.view_is) c.requires)
    c.push_back_reserved.ensures.capacity (ap length c.bytes.ensures.parts) c.push_back_reserved.ensures.items
