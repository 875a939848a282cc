use Rattle.std.proofs.Common.{arith, rules}
use Rattle.std.proofs.lemmas.Grind.{common_steps}
use Rattle.assembler.specs.Assembled.{layout_of, places_of}
use Rattle.assembler.proofs.Drawn.{none_drawn}
use Rattle.frame_out.proofs.on_the_way.FrameWriter.new.Goals as goal

pub invariant_of-result : goal.invariant_of-result
invariant_of-result c = record {
  window = search rules;
  front_is = search rules;
  full_is = search rules;
  header = grind (arith, common_steps);
  room = search rules;
  few = search rules;
  drawn = λ ample. none_drawn (layout_of c.in_ok-new.field-0) c.args.layout.now (places_of c.in_ok-new.field-0) _ c.in_ok-new.ensures.new.places;
}
