use Rattle.client_issue.proofs.Keeping.{kept_is}
use Rattle.client_issue.proofs.client.ClientCore.into_kept.Goals as goal

pub returns : goal.returns
returns c scene client l whose = kept_is c.args.self scene client l _ whose c.into_row-syncs.ensures.ops c.into_row-syncs.ensures.length_is c.into_row-syncs.ensures.faults c.from_vec.ensures
