use Rattle.std.proofs.Common.{◌∙◌, arith, subst, sym, take, drop}
use Rattle.std.proofs.Math.Seq.{take-add}
use Rattle.std.proofs.lemmas.List.{take_rest}
use Rattle.std.specs.Io.KnownBytes.{Appends}
use Rattle.rc_base.proofs.Known.{Appends-then}
use Rattle.rc_base.proofs.transfer.write_all.Goals as goal

pub loop-done-preserved : goal.loop-done-preserved
loop-done-preserved g c =
    let before = g.K.Sink.held c.args.sink.now in
    let between = g.K.Sink.held c.loop-done.sink in
    let after = g.K.Sink.held c.put.new.self in
    let bytes = c.args.bytes.now in
    let both = Appends-then before between after (take c.loop-done.done bytes) (take c.in-Ok.count (drop c.loop-done.done bytes)) c.loop-done.invariant.given (rw take_rest at c.in-Ok.ensures.bytes) in
    record {
      given = subst (Appends before after) (sym (take-add c.loop-done.done c.in-Ok.count bytes)) both;
      within = omega (arith, c.in-Ok.ensures.bound);
      same = c.in-Ok.ensures.cause.passed ∙ c.loop-done.invariant.same;
    }
