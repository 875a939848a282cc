-- Streams of tests, command by command.
use Rattle.std.proofs.Common.{List, [], ◌∷◌, ◌++◌}
use Rattle.std.specs.List.{AllByRecursion}
use Rattle.rc_base.specs.Formats.Commands.{IsCommand}
use Rattle.rc_base.specs.declared.command.Command.{Command}

pub pushed : (stream : List Command) (c : Command) → AllByRecursion IsCommand stream → IsCommand c → AllByRecursion IsCommand (stream ++ c ∷ [])
pushed [] c all one = (one, tt)
pushed (first ∷ stream) c all one = (all.0, pushed stream c all.1 one)
