use Rattle.std.proofs.Common.{◌∙◌, sym, ap}
use Rattle.std.proofs.lemmas.List.{map-id}
use Rattle.rc_base.specs.declared.scene.Scene.{Scene}
use Rattle.scene_file.proofs.kept.CommandStoreKeptStream.scene_of.Goals as goal

pub returns-clause-streams : goal.returns-clause-streams
returns-clause-streams c = ap (λ (s : Scene). s.streams) c.new.ensures ∙ sym (map-id c.args.streams)
