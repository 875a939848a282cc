use Rattle.std.proofs.Common.{refl}
use Rattle.cluster_run.specs.Steps.{IsTileTurn}
use Rattle.cluster_run.specs.Steps.TileTurn.{DrawsBlock}
use Rattle.cluster_run.proofs.Turns.{goes_on}
use Rattle.cluster_run.proofs.workers.TileWorker.draw_one.Goals as goal

pub returns-clause-leads : goal.returns-clause-leads
returns-clause-leads g c scene l tile took heard shown h = record {
  number_is = h.number_is;
  clients_are = h.clients_are;
  grants_are = h.grants_are;
  parts_are = h.parts_are;
  clause = λ d. c.same_views_meet_the_clause.ensures scene l tile _ _ _ _ _ _ (h.clause d) c.draw_one.ensures.same;
  none_waits = h.none_waits;
}

pub returns-clause-turns : goal.returns-clause-turns
returns-clause-turns g c =
    goes_on IsTileTurn _ _ DrawsBlock (record {
      number = refl;
      done = record { view = c.draw_one.ensures.same; clients = refl; grants = refl; parts = refl; held = refl };
    })
