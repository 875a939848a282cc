use Rattle.std.proofs.Common.{sym, ap, ◌∙◌}
use Rattle.vertex_bytes.specs.Spelt.{vertex_in}
use Rattle.vertex_bytes.proofs.SpeltInTurn.{spelt_at, spelt_within}
use Rattle.vertex_bytes.proofs.vertices.SpeltVertices.vertex.Goals as goal

pub bytes_of-requires : goal.bytes_of-requires
bytes_of-requires c = spelt_within c.args.self.now.bytes.now c.args.index c.requires

pub returns : goal.returns
returns c = c.vertex_of.ensures ∙ ap vertex_in c.bytes_of.ensures.part ∙ sym (spelt_at c.args.self.now.bytes.now c.args.index c.requires)
