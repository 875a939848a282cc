use Rattle.std.proofs.Common.{sym}
use Rattle.fragment_ops.proofs.Few.{pixel_is, whole_is}
use Rattle.fragment_ops.proofs.clear.Clearing.pixel.Goals as goal

pub returns-clause-prepared : goal.returns-clause-prepared
returns-clause-prepared c h old = sym (whole_is c.args.self.now old h)

pub returns-clause-cleared : goal.returns-clause-cleared
returns-clause-cleared c h s m old p = pixel_is s m c.args.self.now old h p
