-- A fact of a command, looked at where its opcode is known.
use Rattle.rc_base.specs.declared.command.Command.{Command}
use Rattle.rc_base.specs.declared.command.Command.TheVariants as cmd

-- a fact of a command, which computes where the opcode is known and nowhere else: the last line stands for each other opcode
unfoldable pub when_known : (Command → Type 0) → Command → Type 0
when_known P (cmd.Begin mode) = P (cmd.Begin mode)
when_known P c = P c
