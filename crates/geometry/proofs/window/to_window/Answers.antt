use Rattle.rc_base.specs.Drawing.Kept.{vertex_at}
use Rattle.geometry.proofs.Facing.{kept_whole}
use Rattle.geometry.proofs.window.to_window.Goals as goal

pub returns : goal.returns
returns c =
    let vs = c.args.corners.now in
    kept_whole c.args.state.now (vertex_at vs 0) (vertex_at vs 1) (vertex_at vs 2) c.kept.result c.kept.ensures
