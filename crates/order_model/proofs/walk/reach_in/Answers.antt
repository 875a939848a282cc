use Rattle.std.proofs.Common.{sym, ap, ◌∙◌}
use Rattle.order_model.specs.Counted.{used_by, place_or_end}
use Rattle.order_model.proofs.UsedOperations.{stop_is_place}
use Rattle.order_model.proofs.walk.reach_in.Goals as goal

pub returns : goal.returns
returns c =
    c.place_or_end.ensures
    ∙ ap (place_or_end c.args.syncs.now c.args.client) (c.used_by.ensures ∙ ap (λ n. used_by n c.args.client c.args.journal.now) c.clients_of.ensures)
    ∙ sym (stop_is_place c.args.syncs.now c.args.journal.now c.args.client)
