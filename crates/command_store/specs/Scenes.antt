-- Scenes whose streams are kept in less room.
use Rattle.std.specs.Prelude.{◌<◌, ◌^◌, List, length}
use Rattle.rc_base.specs.declared.command.Command.{Command}

-- a stream has fewer than 2 ^ 32 commands
abbrev pub IsShort : List Command → Type 0
IsShort stream = length stream < 2 ^ 32
