use Rattle.scene_text.proofs.laws.spelled_texts_have_no_fault.Goals as goal
use Rattle.scene_text.proofs.SpelledHasNoFault.{spelled_no_fault}
use Rattle.scene_text.proofs.FaultFreeSpells.{fault_free}

pub returns-clause-none : goal.returns-clause-none
returns-clause-none c = spelled_no_fault

pub returns-clause-only : goal.returns-clause-only
returns-clause-only c = fault_free
