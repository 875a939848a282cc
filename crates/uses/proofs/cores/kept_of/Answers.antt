use Rattle.uses.proofs.cores.kept_of.Goals as goal

pub returns : goal.returns
returns c scene number l whose = (c.into_kept.ensures scene number l whose).ops
