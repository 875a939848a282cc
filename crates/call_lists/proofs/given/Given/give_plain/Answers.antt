use Rattle.std.proofs.Common.{ap}
use Rattle.call_lists.specs.Expansion.{plain_of}
use Rattle.call_lists.proofs.Stored.{stored_none}
use Rattle.call_lists.proofs.given.Given.give_plain.Goals as goal

pub returns-in-NewList-clause-given : goal.returns-in-NewList-clause-given
returns-in-NewList-clause-given c = stored_none _ _ c.args.self.now.few (ap plain_of c.in-NewList.is)

pub returns-in-EndList-clause-given : goal.returns-in-EndList-clause-given
returns-in-EndList-clause-given c = stored_none _ _ c.args.self.now.few (ap plain_of c.in-EndList.is)

pub returns-in-CallList-clause-given : goal.returns-in-CallList-clause-given
returns-in-CallList-clause-given c = stored_none _ _ c.args.self.now.few (ap plain_of c.in-CallList.is)
