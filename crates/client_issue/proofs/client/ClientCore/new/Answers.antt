use Rattle.std.proofs.Common.{◌∙◌, ◌<◌, ◌^◌, List, length, refl, subst, sym}
use Rattle.rc_base.specs.declared.command.Command.{Command}
use Rattle.rc_base.proofs.WithinLimits.{few_commands}
use Rattle.client_issue.proofs.client.ClientCore.new.Goals as goal

pub of-requires : goal.of-requires
of-requires c =
    subst (λ (cs : List Command). length cs < 2 ^ 32) (sym c.commands_of.ensures)
    (few_commands c.args.scene.now c.requires.within.limits c.args.client)

pub of_store-requires : goal.of_store-requires
of_store-requires c = record {
  scene = c.args.scene.now;
  client = c.args.client;
  depth = c.requires.layout.0;
  is_stream = record { decl_is = refl; stream_is = c.in_ok-stream.ensures ∙ c.commands_of.ensures };
  within = c.requires.within;
  fits = c.requires.layout.1;
}
