use Rattle.element_table.proofs.KindsOfValues.{kind_of_given}
use Rattle.tile_server.proofs.MadeSets.{one_set}
use Rattle.tile_server.proofs.kept.KeptClient.apply.Goals as goal

pub set-requires : goal.set-requires
set-requires c = kind_of_given c.requires.decl c.args.set.element c.args.set.value c.requires.is

pub returns : goal.returns
returns c =
    one_set c.args.set c.args.self.now.state c.set.new.state c.args.self.now.images c.set_image.new.images c.set.ensures c.set_image.ensures.image
