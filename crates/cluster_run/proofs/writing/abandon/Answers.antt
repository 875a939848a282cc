use Rattle.cluster_run.proofs.Serving.{gave_shown_now}
use Rattle.cluster_run.proofs.writing.abandon.Goals as goal

pub returns : goal.returns
returns g c l start on =
    let frames = c.args.frames in
    gave_shown_now g.K.Sink.held g.K.Sink.faults l start frames.writer frames.lanes.items c.args.parts.items c.requires.some c.requires.paired.count frames.tiles
    c.args.image.now on c.close_list.ensures
