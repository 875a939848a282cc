use Rattle.scene_file.proofs.beside.+fn-stored_beside-join+arg3+stored_beside.Given as goal

abbrev pub decreases-join+arg3 : goal.decreases-join+arg3
decreases-join+arg3 g l = l.left

abbrev pub decreases-stored_beside : goal.decreases-stored_beside
decreases-stored_beside g l = l.count
