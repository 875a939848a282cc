use Rattle.std.proofs.Common.{◌<◌, ◌++◌, ◌^◌, ◌+◌, List, ℕ, length, subst, ◌∙◌}
use Rattle.rc_base.specs.Outside.Ends.{use_of}
use Rattle.frame_out.specs.Writing.{IsCounted}
use Rattle.frame_out.proofs.writing.write_frame.Goals as goal

pub returns-clause-written : goal.returns-clause-written
returns-clause-written g c = λ start before few h.
    let given = use_of g.K.Sink.held g.K.Sink.faults start in
    subst (λ (t : List ℕ). length before + length t < 2 ^ 64 → IsCounted (given c.args.image.now) before c.args.written
    → IsCounted (given c.write_behind.new.image) (before ++ t) c.write_behind.result) (c.as_slice.ensures.value ∙ c.in_ok-text.ensures)
    (c.write_behind.ensures.written start before) few h
