use Rattle.std.proofs.Common.{refl}
use Rattle.rc_base.specs.Contexts.Context.{default_state, default_context}
use Rattle.rc_base.specs.Contexts.Issue.{issued, context_after, fault_at}
use Rattle.rc_base.specs.Numbers.{product_column, product_of, column_fits, product_fits}
use Rattle.worked_examples.proofs.faults.a_product_out_of_range_is_refused.Goals as goal

pub returns : goal.returns
unfolding default_state default_context issued context_after fault_at product_column product_of column_fits product_fits
returns c = record { load = refl; product = refl; kept = refl }
