use Rattle.format_tests.proofs.Told.{is_settled, told_after_update}
use Rattle.format_tests.proofs.updates.Client.told.Goals as goal

pub update-requires-clause-settled : goal.update-requires-clause-settled
update-requires-clause-settled c =
    is_settled c.known_values_are_alike.ensures c.args.self.now.tracker c.args.tile c.args.self.now.context (c.requires.told.each c.args.tile c.requires.tile)

pub returns-in-Ok : goal.returns-in-Ok
returns-in-Ok c =
    told_after_update c.args.self.now.tracker c.update.new.self c.args.tile c.args.self.now.context c.args.draws c.requires.told
    (record {
      count = c.in-Ok.ensures.count;
      told = c.in-Ok.ensures.told;
      others = c.in-Ok.ensures.others;
      pending = c.in-Ok.ensures.pending;
    })
