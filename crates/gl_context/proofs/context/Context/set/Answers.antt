use Rattle.std.proofs.Common.{◌≡◌, None}
use Rattle.rc_base.specs.Contexts.Faults.{fault_of}
use Rattle.rc_base.specs.declared.command.Command.TheVariants as cmd
use Rattle.gl_context.proofs.Accepted.{accepted}
use Rattle.gl_context.proofs.context.Context.set.Goals as goal

-- Begin's argument is a code, since the command is accepted
pub block_mode-requires : goal.block_mode-requires
block_mode-requires c =
    let passes : fault_of c.args.self.now (cmd.Begin c.in-Begin.mode) ≡ None = rw c.in-Begin.is at c.requires.can.passes in
    (accepted c.args.self.now (cmd.Begin c.in-Begin.mode) passes).codes
