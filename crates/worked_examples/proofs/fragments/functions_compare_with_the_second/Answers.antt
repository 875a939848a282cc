use Rattle.std.proofs.Common.{refl}
use Rattle.worked_examples.proofs.fragments.functions_compare_with_the_second.Goals as goal

pub returns : goal.returns
returns c = record { never = refl; less = refl; equal = refl; lequal = refl; greater = refl; notequal = refl; gequal = refl; always = refl }
