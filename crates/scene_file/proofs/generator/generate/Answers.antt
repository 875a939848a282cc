use Rattle.std.proofs.Common.{map, sym, ap, subst, ◌∙◌}
use Rattle.rc_base.specs.Formats.Within.{IsWithin}
use Rattle.scene_file.specs.Generated.{ended}
use Rattle.scene_file.proofs.GeneratedWithin.{generated_within}
use Rattle.scene_file.proofs.TurnsOfClients.{scene_is}
use Rattle.scene_file.proofs.generator.generate.Goals as goal

pub returns-clause-exact : goal.returns-clause-exact
returns-clause-exact c =
    scene_is c.args.seed c.args.size c.new-shared.result c.in_ok-barriers.barriers c.new-semaphores.result c.in_ok-streams.streams
    c.new-shared.ensures c.in_ok-barriers.ensures c.new-semaphores.ensures (c.in_ok-streams.ensures ∙ ap (map ended) c.in_ok-drawn.ensures)

pub returns-clause-within : goal.returns-clause-within
returns-clause-within c = subst IsWithin (sym (returns-clause-exact c)) (generated_within c.args.seed c.args.size c.requires.most)
