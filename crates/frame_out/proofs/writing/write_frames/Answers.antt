use Rattle.std.proofs.Common.{◌≡◌, [], ◌∷◌, sym, subst, arith}
use Rattle.std.proofs.lemmas.Grind.{common_steps}
use Rattle.std.specs.Vec.Iter.{into_iter_items}
use Rattle.rc_base.specs.Formats.Netpbm.{p6_texts}
use Rattle.rc_base.specs.Outside.Ends.{use_of, TookFront}
use Rattle.frame_out.proofs.FramesLeft.{all_written, fits, front_so_far, one_less}
use Rattle.frame_out.proofs.Prefixes.{on_err}
use Rattle.frame_out.proofs.writing.write_frames.Goals as goal

pub loop-frame-preserved : goal.loop-frame-preserved
loop-frame-preserved g c =
    let used = use_of g.K.Sink.held g.K.Sink.faults c.args.image.now in
    let was = c.loop-frame.invariant in
    let left = into_iter_items c.loop-frame.frame-iterator in
    let rest = into_iter_items c.next.new.self in
    let x = c.in-Some.frame in
    let is : left ≡ x ∷ rest = c.in-Some.ensures.steps.0 in
    one_less (used c.loop-frame.image) c.args.frames left rest x c.loop-frame.written is was (used c.write_frame.new.image) c.in_ok-written.written
    (c.in_ok-written.ensures.written c.args.image.now (p6_texts was.first) (fits (used c.loop-frame.image) c.args.frames left rest x c.loop-frame.written is was c.requires) was.counted)

pub returns-in_err-written-clause-front : goal.returns-in_err-written-clause-front
returns-in_err-written-clause-front g c =
    let used = use_of g.K.Sink.held g.K.Sink.faults c.args.image.now in
    on_err c.from_residual.result
    (subst (λ im. TookFront (used im) (p6_texts c.args.frames)) (sym c.in_err-written.ensures.lacked)
    (front_so_far (used c.loop-frame.image) c.args.frames (into_iter_items c.loop-frame.frame-iterator) c.loop-frame.written c.loop-frame.invariant))

pub returns-clause-written : goal.returns-clause-written
returns-clause-written g c =
    let none : into_iter_items c.loop-frame.frame-iterator ≡ [] = let s = c.in-None.ensures.steps in grind (arith, common_steps) in
    all_written (use_of g.K.Sink.held g.K.Sink.faults c.args.image.now c.loop-frame.image) c.args.frames (into_iter_items c.loop-frame.frame-iterator)
    c.loop-frame.written c.loop-frame.invariant none
