-- What is known of commands that are those of a client of a scene within the limits.
use Rattle.std.proofs.Common.{◌≤◌, ◌<◌, ◌^◌, List, length, sym, subst}
use Rattle.std.specs.List.{AllByRecursion}
use Rattle.rc_base.specs.Formats.Commands.{IsCommand}
use Rattle.rc_base.specs.Cluster.Tiles.{tile_count}
use Rattle.rc_base.specs.declared.command.Command.{Command}
use Rattle.rc_base.specs.declared.scene.Decl.{Decl}
use Rattle.rc_base.specs.declared.window.Layout.{Layout}
use Rattle.rc_base.proofs.WithinLimits.{few_commands, tiles_within}
use Rattle.gl_context.proofs.ValidContexts.{stream_all}
use Rattle.client_issue.specs.Given.{AreWithin}

module _ (decl : Decl) (stream : List Command) (l : Layout) (given : AreWithin decl stream l) where
  pub few : length stream < 2 ^ 32
  few = subst (λ (cs : List Command). length cs < 2 ^ 32) (sym given.is_stream.stream_is) (few_commands given.scene given.within.limits given.client)

  pub all_commands : AllByRecursion IsCommand stream
  all_commands = subst (AllByRecursion IsCommand) (sym given.is_stream.stream_is) (stream_all given.scene.streams given.client given.within.commands)

  pub few_tiles : tile_count l ≤ 32
  few_tiles = (tiles_within given.scene l given.depth given.fits).1
