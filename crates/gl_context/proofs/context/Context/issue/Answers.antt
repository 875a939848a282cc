use Rattle.std.proofs.Common.{◌≡◌, ℕ, true, Option, Some, None, refl, sym, ◌∙◌}
use Rattle.std.specs.Option.{is_none}
use Rattle.rc_base.specs.Contexts.Context.{ClientContext}
use Rattle.rc_base.specs.Contexts.Faults.{fault_of}
use Rattle.rc_base.specs.Contexts.Issue.{effect_of}
use Rattle.rc_base.specs.declared.command.Command.TheVariants as cmd
use Rattle.rc_base.specs.declared.state.Effect.TheVariants as eff
use Rattle.rc_base.specs.declared.state.Fault.{Fault}
use Rattle.gl_context.proofs.context.Context.issue.Goals as goal

no_fault : (fault : Option Fault) → is_none fault ≡ true → fault ≡ None
no_fault None none = refl
no_fault (Some f) none = absurd cc

quiet_begin : (x : ClientContext) (mode : ℕ) → is_none (fault_of x (cmd.Begin mode)) ≡ true → eff.Quiet ≡ effect_of x (cmd.Begin mode)
unfolding effect_of
quiet_begin x mode none = rw (no_fault (fault_of x (cmd.Begin mode)) none) refl

pub returns-then-begin-clause-effect : goal.returns-then-begin-clause-effect
returns-then-begin-clause-effect c =
    rw c.in-Begin.is (quiet_begin c.args.self.now c.in-Begin.mode (sym c.begin.ensures.exact ∙ c.if-begin.true))

pub returns-then-begin-clause-ok : goal.returns-then-begin-clause-ok
returns-then-begin-clause-ok c = rw c.in-Begin.is (c.begin.ensures.issued c.if-begin.true c.args.place)
