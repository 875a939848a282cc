use Rattle.render_core.proofs.ListMeanings.{lists_mean}
use Rattle.render_core.proofs.laws.list_scenes_mean_their_expansions.Goals as goal

pub returns : goal.returns
returns c =
    lists_mean c.plain_streams_mean_themselves.ensures
