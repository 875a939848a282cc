use Rattle.std.proofs.Common.{◌≡◌, ℕ, Result, Ok, Err, Some, ap, ◌∙◌}
use Rattle.std.specs.Prelude.{OnOk, OnErr, Option}
use Rattle.std.specs.Option.{option_map_or}
use Rattle.rc_base.specs.Contexts.Context.{ClientContext}
use Rattle.rc_base.specs.Contexts.Faults.{fault_of}
use Rattle.rc_base.specs.Contexts.Issue.{issued, refused, carried_out}
use Rattle.rc_base.specs.declared.command.Command.{Command}
use Rattle.rc_base.specs.declared.out_of_memory.OutOfMemory.{OutOfMemory}
use Rattle.rc_base.specs.declared.state.Effect.{Effect}
use Rattle.rc_base.specs.declared.state.Fault.{Fault}
use Rattle.uses.proofs.contexts.issued.Goals as goal

refused_keeps : (x : ClientContext) (place : ℕ) (c : Command) (f : Fault) → fault_of x c ≡ Some f → (issued x place c).block ≡ x.block
unfolding issued
refused_keeps x place c f broken = ap (λ (o : Option Fault). (option_map_or (refused x place) o (carried_out x c)).block) broken

keeps : (r : Result Effect OutOfMemory) (x y : ClientContext) (place : ℕ) (c : Command) (f : Fault)
    → OnOk r (y ≡ issued x place c) → OnErr r (y ≡ x) → fault_of x c ≡ Some f → y.block ≡ x.block
keeps (Ok e) x y place c f ok err broken = ap (λ (z : ClientContext). z.block) ok ∙ refused_keeps x place c f broken
keeps (Err e) x y place c f ok err broken = ap (λ (z : ClientContext). z.block) err

pub returns : goal.returns
returns c f broken = keeps c.issue.result _ _ c.args.place c.args.command.now f c.issue.ensures.ok c.issue.ensures.err broken
