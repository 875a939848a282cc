use Rattle.uses.proofs.cluster.served.Goals as goal

pub returns : goal.returns
returns g c taken l start d follows before = (c.serve.ensures.goes_on taken l start d follows before).given
