use Rattle.order_model.proofs.laws.ordered_scenes_draw_alike.Goals as goal
use Rattle.rc_base.specs.Orders.Sync.{sync_lists_of}
use Rattle.order_model.specs.Log.{recorded_order}
use Rattle.order_model.proofs.OrderedScenesDrawAlike.{ordered_pixels_agree}
use Rattle.order_model.proofs.OrderedScenesHaveOneFrame.{ordered_frames_agree}
use Rattle.order_model.proofs.RecordedOrdersArePermitted.{lawful_record_permitted}

pub returns-clause-any : goal.returns-clause-any
returns-clause-any c = ordered_pixels_agree

pub returns-clause-frames : goal.returns-clause-frames
returns-clause-frames c = ordered_frames_agree

pub returns-clause-record : goal.returns-clause-record
returns-clause-record c scene tiles jobs kept well sent h ordered tile log is order p =
    ordered_frames_agree scene kept.journal ordered (recorded_order kept.syncs kept.journal log) order
    (lawful_record_permitted (sync_lists_of scene) tiles jobs kept well sent h tile log is) p
