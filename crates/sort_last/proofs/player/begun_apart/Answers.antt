use Rattle.std.proofs.Common.{◌∙◌, length, ap, sym, arith}
use Rattle.sort_last.proofs.player.begun_apart.Goals as goal

pub returns : goal.returns
returns g c = record {
  count = sym c.in_ok-map_indices.field-0.ok.0 ∙ c.in_ok-map_indices.ensures.len ∙ ap length c.streams.ensures;
  each = λ k r low. (c.in_ok-map_indices.ensures.each k r (omega (arith, low, ap length c.streams.ensures))).1.met;
}
