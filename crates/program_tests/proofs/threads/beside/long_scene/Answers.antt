use Rattle.program_tests.proofs.threads.beside.long_scene.Goals as goal

pub write_scene-requires : goal.write_scene-requires
write_scene-requires c = c.in_ok-scene.ensures.within.limits
