use Rattle.scene_file.proofs.beside.+fn-whole_beside-join+arg3+whole_beside.Given as goal

abbrev pub decreases-join+arg3 : goal.decreases-join+arg3
decreases-join+arg3 g l = l.left

abbrev pub decreases-whole_beside : goal.decreases-whole_beside
decreases-whole_beside g l = l.count
