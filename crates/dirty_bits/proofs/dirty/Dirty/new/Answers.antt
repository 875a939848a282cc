use Rattle.std.proofs.Common.{replicate}
use Rattle.dirty_bits.proofs.Levels.{clean_hierarchy, clean_words}
use Rattle.dirty_bits.proofs.dirty.Dirty.new.Goals as goal

pub invariant_of-result : goal.invariant_of-result
invariant_of-result c = clean_hierarchy (replicate 86 0) (replicate 9 0) (clean_words 86) (clean_words 9)

pub returns-clause-clean : goal.returns-clause-clean
returns-clause-clean c = clean_words 86
