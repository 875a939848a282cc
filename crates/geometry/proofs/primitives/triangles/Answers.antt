use Rattle.std.proofs.Common.{length}
use Rattle.rc_base.specs.Drawing.Triangles.{shape_of}
use Rattle.geometry.proofs.Triples.{rest_whole, indices_below}
use Rattle.geometry.proofs.primitives.triangles.Goals as goal

pub returns-clause-rest : goal.returns-clause-rest
returns-clause-rest c = rest_whole c.args.block.now

pub returns-clause-indices : goal.returns-clause-indices
returns-clause-indices c = indices_below (shape_of c.args.block.now.mode) (length c.args.block.now.vertices)
