use Rattle.std.specs.Vec.Iter.{into_iter_items}
use Rattle.rc_base.specs.Outside.Ends.{use_of}
use Rattle.frame_out.proofs.FramesLeft.{AreLeft}
use Rattle.frame_out.proofs.writing.write_frames.Given as goal

abbrev pub invariant-loop-frame : goal.invariant-loop-frame
invariant-loop-frame g l = AreLeft (use_of g.K.Sink.held g.K.Sink.faults l.fn.image l.image) l.fn.frames (into_iter_items l.frame-iterator) l.written
