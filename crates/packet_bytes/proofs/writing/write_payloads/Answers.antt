use Rattle.std.proofs.Common.{◌≡◌, ◌++◌, subst}
use Rattle.rc_base.specs.declared.command.Command.{Command}
use Rattle.rc_base.specs.Formats.Spelling.{payload}
use Rattle.packet_bytes.specs.Texels.{HasType}
use Rattle.byte_codec.proofs.WrittenInTurn.{all_grown, all_whole, grown, grown_whole}
use Rattle.packet_bytes.proofs.writing.write_payloads.Goals as goal

pub loop-command-preserved : goal.loop-command-preserved
loop-command-preserved c =
    let item = c.command-item.result in (
      grown payload c.args.out.now c.loop-command.out c.write_payload.new.out c.args.commands.now c.loop-command.command-index item c.loop-command-test.true c.loop-command.invariant.0
          (subst (λ (v : Command). c.write_payload.new.out ≡ c.loop-command.out ++ payload v) c.command-item.is c.in_ok-write_payload.ensures.added),
      all_grown HasType c.args.commands.now c.loop-command.command-index item c.loop-command-test.true c.loop-command.invariant.1 (subst HasType c.command-item.is c.in_ok-write_payload.ensures.typed),
    )

pub returns-clause-added : goal.returns-clause-added
returns-clause-added c = grown_whole payload c.args.out.now c.loop-command.out c.args.commands.now c.loop-command.command-index c.loop-command-test.false c.loop-command.invariant.0

pub returns-clause-typed : goal.returns-clause-typed
returns-clause-typed c = all_whole HasType c.args.commands.now c.loop-command.command-index c.loop-command-test.false c.loop-command.invariant.1
