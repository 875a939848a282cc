use Rattle.std.proofs.Common.{sym, ◌∙◌}
use Rattle.std.proofs.Math.ListN.{length-map}
use Rattle.scene_file.specs.Counting.{counted_as}
use Rattle.scene_file.proofs.LimitsByParts.{all_stored, counted_limit}
use Rattle.scene_file.proofs.reading.within_limits.Goals as goal

pub returns-in-Ok : goal.returns-in-Ok
returns-in-Ok g c s counts =
    let x = counted_as g.K.KeptStream.commands c.args.counted in
    let none = rw (c.len.ensures ∙ sym (length-map c.args.counted.streams g.K.KeptStream.commands)) at (sym c.in-Ok.ensures) in
    ((λ i. record { decl = c.scene_of.ensures.decl i; streams = c.scene_of.ensures.streams i }) ∙ all_stored x s counts none, sym (counted_limit x s counts) ∙ none)

pub returns-in-Err : goal.returns-in-Err
returns-in-Err g c s counts =
    sym (counted_limit (counted_as g.K.KeptStream.commands c.args.counted) s counts)
    ∙ (rw (c.len.ensures ∙ sym (length-map c.args.counted.streams g.K.KeptStream.commands)) at (sym c.in-Err.ensures))
