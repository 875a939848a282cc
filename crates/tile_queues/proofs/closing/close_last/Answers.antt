use Rattle.std.proofs.Common.{[], ◌∷◌, sym, ap, ◌∙◌, length, length-append, arith}
use Rattle.tile_queues.specs.Ends.{lane_out, rest_of}
use Rattle.tile_queues.proofs.Lasts.{same_last}
use Rattle.tile_queues.proofs.closing.close_last.Goals as goal

pub close-rest-requires : goal.close-rest-requires
close-rest-requires g c = let r = c.requires in ap lane_out (sym (same_last r.front _ r.last c.in-Some.b (sym r.items ∙ c.in-Some.ensures.items))) ∙ r.lane

pub returns : goal.returns
returns g c = record { last = c.in-Some.b; items = c.in-Some.ensures.items; order = (rest_of c.close-rest.result, c.close-rest.ensures.order) }

pub unreachable-requires : goal.unreachable-requires
unreachable-requires g c = let r = c.requires in let x = c.args.outs.now in
    omega (arith, ap length r.items, length-append r.front (r.last ∷ []), c.in-None.ensures.cases.0, x.ok.0)
