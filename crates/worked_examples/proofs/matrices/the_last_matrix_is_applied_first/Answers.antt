use Rattle.std.proofs.Common.{refl}
use Rattle.rc_base.specs.Contexts.Context.{default_state, default_context}
use Rattle.rc_base.specs.Contexts.Issue.{issued, context_after}
use Rattle.rc_base.specs.Numbers.{product_column, product_of, column_fits, product_fits}
use Rattle.worked_examples.proofs.matrices.the_last_matrix_is_applied_first.Goals as goal

pub returns : goal.returns
unfolding default_state default_context issued context_after product_column product_of column_fits product_fits
returns c = record { scaled = refl; moved = refl }
