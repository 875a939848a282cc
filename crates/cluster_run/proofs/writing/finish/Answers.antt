use Rattle.std.proofs.Common.{◌∙◌, sym, subst}
use Rattle.rc_base.specs.Outside.Ends.{use_of}
use Rattle.tile_queues.specs.Ends.{sent_in, taken_in}
use Rattle.cluster_run.specs.Serving.{HasFinished, shown_in_lanes}
use Rattle.cluster_run.proofs.Serving.{finished, gave_shown, unserved}
use Rattle.cluster_run.proofs.writing.finish.Goals as goal

pub write_rest-requires : goal.write_rest-requires
write_rest-requires g c = c.join_list-rests.ensures.count ∙ sym c.requires.paired.count ∙ c.args.frames.tiles

pub returns-clause-finished : goal.returns-clause-finished
returns-clause-finished g c l start on =
    let frames = c.args.frames in
    let w = c.write_rest.new.writer in
    let ample = sym c.lacks.ensures ∙ c.if-lacks.false in
    subst (HasFinished l (shown_in_lanes c.args.parts.items) (use_of g.K.Sink.held g.K.Sink.faults start c.write_rest.new.image)) (sym c.written.ensures)
    (finished g.K.Sink.held g.K.Sink.faults l start frames.writer frames.lanes.items c.args.parts.items c.requires.some c.requires.paired.count frames.tiles
    c.args.image.now on c.join_list-rests.result.items c.write_rest.new.rests.items c.join_list-rests.ensures w c.write_rest.new.image
    (c.write_rest.ensures.served _ _ _ (unserved sent_in taken_in g.K.Sink.held g.K.Sink.faults frames.writer c.join_list-rests.result.items c.args.image.now)) ample (c.write_rest.ensures.missing ample))

pub returns-then-lacks-clause-later : goal.returns-then-lacks-clause-later
returns-then-lacks-clause-later g c =
    (c.write_rest.ensures.served _ _ _ (unserved sent_in taken_in g.K.Sink.held g.K.Sink.faults c.args.frames.writer c.join_list-rests.result.items c.args.image.now)).later

pub returns-clause-later : goal.returns-clause-later
returns-clause-later g c =
    (c.write_rest.ensures.served _ _ _ (unserved sent_in taken_in g.K.Sink.held g.K.Sink.faults c.args.frames.writer c.join_list-rests.result.items c.args.image.now)).later

pub returns-then-lacks-clause-shown : goal.returns-then-lacks-clause-shown
returns-then-lacks-clause-shown g c l start on =
    let frames = c.args.frames in
    gave_shown g.K.Sink.held g.K.Sink.faults l start frames.writer frames.lanes.items c.args.parts.items c.requires.some c.requires.paired.count frames.tiles
    c.args.image.now on c.join_list-rests.result.items c.write_rest.new.rests.items c.join_list-rests.ensures c.write_rest.new.writer c.write_rest.new.image
    (c.write_rest.ensures.served _ _ _ (unserved sent_in taken_in g.K.Sink.held g.K.Sink.faults frames.writer c.join_list-rests.result.items c.args.image.now))

pub returns-clause-shown : goal.returns-clause-shown
returns-clause-shown g c l start on =
    let frames = c.args.frames in
    gave_shown g.K.Sink.held g.K.Sink.faults l start frames.writer frames.lanes.items c.args.parts.items c.requires.some c.requires.paired.count frames.tiles
    c.args.image.now on c.join_list-rests.result.items c.write_rest.new.rests.items c.join_list-rests.ensures c.write_rest.new.writer c.write_rest.new.image
    (c.write_rest.ensures.served _ _ _ (unserved sent_in taken_in g.K.Sink.held g.K.Sink.faults frames.writer c.join_list-rests.result.items c.args.image.now))
