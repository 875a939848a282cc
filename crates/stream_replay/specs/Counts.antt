-- Streams whose commands are issued where vertices are only counted.
use Rattle.std.specs.Prelude.{ℕ, Bool}
use Rattle.rc_base.specs.Contexts.Issue.{context_after}
use Rattle.rc_base.specs.declared.command.Command.{Command}
use Rattle.rc_base.specs.declared.command.Command.TheVariants as cmd
use Rattle.rc_base.specs.declared.scene.Scene.{Scene}
use Rattle.gl_context.specs.Counted.{counted}
use Rattle.gl_context.specs.Quiet.{is_quiet_inside, is_quiet_outside}
use Rattle.gl_context.specs.declared.counting.CountingContext.{CountingContext}

-- a client's counting context after its first n commands
abbrev pub counted_after : Scene → ℕ → ℕ → CountingContext
counted_after scene client n = counted (context_after scene client n)

-- where a block is open: a Vertex that it has room for, a Color or a TexCoord; where none is open: a Begin of a kind that there is
abbrev pub is_counted : CountingContext → Command → Bool
is_counted x (cmd.Begin kind) = is_quiet_outside x (cmd.Begin kind)
is_counted x other = is_quiet_inside x other
