use Rattle.order_model.proofs.laws.records_of_scenes.Goals as goal
use Rattle.std.proofs.Common.{◌<◌, [], sym, subst}
use Rattle.std.specs.Prelude.{slice_index_or}
use Rattle.std.proofs.lemmas.Option.{slice_get-get_or}
use Rattle.rc_base.specs.Orders.Sync.{sync_lists_of}
use Rattle.rc_base.specs.Cluster.Tiles.{tile_count}
use Rattle.order_model.specs.Sent.{jobs_of}
use Rattle.order_model.proofs.RecordedOrdersArePermitted.{lawful_record_permitted}
use Rattle.order_model.proofs.SceneJobsAreSent.{scene_jobs_are_sent}

pub returns-clause-jobs : goal.returns-clause-jobs
returns-clause-jobs c = scene_jobs_are_sent

pub returns-clause-orders : goal.returns-clause-orders
returns-clause-orders c scene l kept well h tile lt =
    lawful_record_permitted (sync_lists_of scene) (tile_count l) (jobs_of scene l) kept well (scene_jobs_are_sent scene l) h tile (slice_index_or kept.logs tile [])
    (slice_get-get_or kept.logs tile [] (subst (λ n. tile < n) (sym h.count) lt))
