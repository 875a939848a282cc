use Rattle.std.proofs.Common.{sym, ◌∙◌}
use Rattle.packet_bytes.specs.Lists.{is_list_swap}
use Rattle.scene_file.proofs.LimitsByParts.{all_read, counted_read}
use Rattle.scene_file.proofs.lists.within_limits.Goals as goal

pub returns-in-Ok : goal.returns-in-Ok
returns-in-Ok c s counts =
    let none = rw c.len.ensures at (sym c.in-Ok.ensures) in
    (all_read is_list_swap c.args.counted s counts none, sym (counted_read is_list_swap c.args.counted s counts) ∙ none)

pub returns-in-Err : goal.returns-in-Err
returns-in-Err c s counts = sym (counted_read is_list_swap c.args.counted s counts) ∙ (rw c.len.ensures at (sym c.in-Err.ensures))
