use Rattle.frame_out.proofs.WrittenMore.{counted_more, given_more, used}
use Rattle.std.proofs.Common.{◌++◌, refl, sym, subst}
use Rattle.frame_out.specs.Writing.{HasGiven, IsCounted}
use Rattle.frame_out.specs.declared.writing.Written.{Written}
use Rattle.frame_out.proofs.writing.write_behind.Goals as goal

pub returns-clause-written : goal.returns-clause-written
returns-clause-written g c = λ start before few h.
    let held = g.K.Sink.held in
    let faults = g.K.Sink.faults in
    let old = c.args.image.now in
    let new = c.write_all-answer.new.sink in
    let more = c.args.text.now in
    subst (λ (w : Written). IsCounted (used (held start) (held new) (faults start) (faults new)) (before ++ more) w) (sym c.with.ensures)
    (counted_more (held start) (held old) (held new) (faults start) (faults old) (faults new) before more c.args.written _ c.write_all-answer.result
    c.if-written.false refl few c.write_all-answer.ensures.whole c.write_all-answer.ensures.part c.write_all-answer.ensures.cause h)

pub returns-clause-given : goal.returns-clause-given
returns-clause-given g c =
    let held = g.K.Sink.held in
    let old = held c.args.image.now in
    let new = held c.write_all-answer.new.sink in
    subst (λ (w : Written). HasGiven old new c.args.text.now c.args.written w) (sym c.with.ensures)
    (given_more old new c.args.text.now c.args.written _ c.write_all-answer.result c.if-written.false
    c.write_all-answer.ensures.whole c.write_all-answer.ensures.part)
