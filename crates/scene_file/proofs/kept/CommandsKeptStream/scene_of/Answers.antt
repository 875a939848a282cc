use Rattle.std.proofs.Common.{sym}
use Rattle.std.proofs.lemmas.List.{map-id}
use Rattle.scene_file.proofs.kept.CommandsKeptStream.scene_of.Goals as goal

pub returns-clause-streams : goal.returns-clause-streams
returns-clause-streams c = sym (map-id c.args.streams)
