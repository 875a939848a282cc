use Rattle.frame_out.proofs.WriterGoesOn.{each_one}
use Rattle.frame_out.proofs.writer.take_parts.Goals as goal

pub returns-clause-each : goal.returns-clause-each
returns-clause-each g c =
    each_one g.I.Inlet.gave g.I.Inlet.same g.I.Inlet.empty_seen g.I.Inlet.bare g.met.I.Inlet.same_here c.args.parts.now c.advance.new.self
    c.args.lanes.now c.advance.new.lanes _ c.advance.ensures.lane_of.count c.advance.ensures.step
