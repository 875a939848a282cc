use Rattle.std.proofs.Common.{◌+◌, ◌<◌, ℕ, List, length, ap, sym, subst, arith}
use Rattle.std.specs.Prelude.{slice_index_or}
use Rattle.std.specs.Global.{Global}
use Rattle.std.specs.declared.collections.VecDeque.{VecDeque}
use Rattle.rc_base.specs.declared.cluster.TilePart.{TilePart}
use Rattle.run_record.specs.Frames.{AreTakenBelow, AreTurned}
use Rattle.run_record.proofs.FramesTurned.{written, more_left, one_turned}
use Rattle.run_record.proofs.frames.in_frames.Goals as goal

pub take_frame-requires : goal.take_frame-requires
take_frame-requires c =
    subst (λ (qs : List (VecDeque TilePart Global)). (tile : ℕ) (d : VecDeque TilePart Global) → tile < length qs → 0 < length (slice_index_or qs tile d).items) (sym c.deref_mut.ensures.value)
    (more_left c.args.lists.items c.args.frames c.loop.counter c.loop.queues.items c.loop.parts.items c.requires c.loop-test.true c.loop.invariant)

pub loop-preserved : goal.loop-preserved
loop-preserved c =
    let taken : AreTakenBelow (length c.loop.queues.items) c.loop.queues.items c.loop.parts.items c.take_frame.new.queues c.take_frame.new.parts.items =
    subst (λ (qs : List (VecDeque TilePart Global)). AreTakenBelow (length qs) qs c.loop.parts.items c.take_frame.new.queues c.take_frame.new.parts.items) c.deref_mut.ensures.value c.in_ok-take_frame.ensures in
    let all = written c.loop.queues.len c.loop.queues.items c.take_frame.new.queues taken.queues (let a = c.deref_mut.ensures.len in let b = ap length c.deref_mut.ensures.value in omega (arith, a, b)) in
    subst (λ (qs : List (VecDeque TilePart Global)). AreTurned (c.loop.counter + 1) c.args.lists.items qs c.take_frame.new.parts.items) (sym all)
    (one_turned c.args.lists.items c.loop.counter c.loop.queues.items c.take_frame.new.queues c.loop.parts.items c.take_frame.new.parts.items c.loop.invariant taken)
