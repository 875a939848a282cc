use Rattle.std.proofs.Common.{arith, refl, rules}
use Rattle.std.proofs.lemmas.Grind.{common_steps}
use Rattle.tile_server.proofs.tile_core.TileCore.hear.Goals as goal

pub returns-in-Some : goal.returns-in-Some
returns-in-Some g c = record {
  step = c.learn.ensures;
  clients = record {
    lanes = search rules;
    taken = record { count = refl; at = λ i d low. g.met.I.Inlet.same_here _ };
    empty = λ p h. record { count = refl; at = λ i d low found. absurd found };
  };
  grants = first_of (search rules, grind (arith, common_steps));
}
