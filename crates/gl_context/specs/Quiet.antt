-- The commands of blocks that do nothing beyond their client's context.
use Rattle.std.specs.Prelude.{Bool, true, false, nat_lt, is_none, is_some, ◌&&◌}
use Rattle.std.specs.Option.{option_map_or}
use Rattle.rc_base.specs.Contexts.Faults.{vertex_most}
use Rattle.rc_base.specs.Formats.Commands.{has_codes}
use Rattle.rc_base.specs.declared.command.Command.{Command}
use Rattle.rc_base.specs.declared.command.Command.TheVariants as cmd
use Rattle.gl_context.specs.declared.counting.CountingContext.{CountingContext}

-- where a block is open: a Vertex that it has room for, a Color or a TexCoord
abbrev pub is_quiet_inside : CountingContext → Command → Bool
is_quiet_inside x (cmd.Vertex p) = option_map_or (λ n. nat_lt n vertex_most) x.vertices false
is_quiet_inside x (cmd.Color c) = is_some x.vertices
is_quiet_inside x (cmd.TexCoord s t) = is_some x.vertices
is_quiet_inside x other = false

-- where none is open: a Begin of a kind that there is
abbrev pub is_quiet_outside : CountingContext → Command → Bool
is_quiet_outside x (cmd.Begin kind) = is_none x.vertices && has_codes (cmd.Begin kind)
is_quiet_outside x other = false
