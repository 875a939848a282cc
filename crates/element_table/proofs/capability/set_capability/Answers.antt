use Rattle.std.proofs.Common.{ap, ◌∙◌}
use Rattle.std.specs.Prelude.{slice_set, ℕ}
use Rattle.rc_base.specs.Contexts.Elements.{values_of}
use Rattle.rc_base.specs.declared.state.ElementValue.TheVariants as val
use Rattle.element_table.specs.Kinds.{kind_of}
use Rattle.element_table.proofs.Capabilities.{capability_turned, is_turned}
use Rattle.element_table.proofs.capability.set_capability.Goals as goal

pub set_flag-requires : goal.set_flag-requires
set_flag-requires c = ap (λ (e : ℕ). kind_of e) c.capability_element.ensures ∙ (capability_turned c.args.state.now c.args.capability c.args.on).kind

pub returns : goal.returns
returns c =
    is_turned c.args.state.now c.set_flag.new.state c.args.capability c.args.on
    (c.set_flag.ensures ∙ ap (λ (e : ℕ). slice_set (values_of c.args.state.now) e (val.Flag c.args.on)) c.capability_element.ensures)
