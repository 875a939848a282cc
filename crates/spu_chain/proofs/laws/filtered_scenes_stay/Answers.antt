use Rattle.std.proofs.Common.{refl}
use Rattle.spu_chain.proofs.StaysWithin.{same_clients, stays_within, stays_held}
use Rattle.spu_chain.proofs.StaysWell.{stays_well}
use Rattle.spu_chain.proofs.laws.filtered_scenes_stay.Goals as goal

pub returns-clause-within : goal.returns-clause-within
returns-clause-within c = λ rules scene. (stays_within rules scene, stays_held rules scene)

pub returns-clause-well : goal.returns-clause-well
returns-clause-well c = stays_well

pub returns-clause-clients : goal.returns-clause-clients
returns-clause-clients c = λ rules scene. (refl, same_clients rules scene.streams)
