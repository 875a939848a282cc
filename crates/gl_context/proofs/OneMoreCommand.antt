-- Contexts along a stream, one command after the other.
use Rattle.std.proofs.Common.{◌≡◌, ℕ, suc, ◌+◌, Some, refl, ap, ◌∙◌, add-one}
use Rattle.std.specs.declared.option.Option.{Option}
use Rattle.std.specs.Option.{option_map_or}
use Rattle.rc_base.specs.Contexts.Context.{default_context}
use Rattle.rc_base.specs.Contexts.Issue.{issued, issued_next, effect_of, command_at, context_after, effect_at}
use Rattle.rc_base.specs.declared.command.Command.{Command}
use Rattle.rc_base.specs.declared.scene.Scene.{Scene}
use Rattle.rc_base.specs.declared.state.Effect.TheVariants as eff

pub begins : (scene : Scene) (client : ℕ) → context_after scene client 0 ≡ default_context scene.decl
unfolding context_after
begins scene client = refl

pub goes_on_by : (scene : Scene) (client n : ℕ) → context_after scene client (suc n) ≡ issued_next (context_after scene client n) n (command_at scene client n)
unfolding context_after
goes_on_by scene client n = refl

effect_by : (scene : Scene) (client n : ℕ) → effect_at scene client n ≡ option_map_or (effect_of (context_after scene client n)) (command_at scene client n) eff.Quiet
unfolding effect_at
effect_by scene client n = refl

pub goes_on : (scene : Scene) (client n : ℕ) (c : Command) → command_at scene client n ≡ Some c
    → (context_after scene client (n + 1) ≡ issued (context_after scene client n) n c) × (effect_at scene client n ≡ effect_of (context_after scene client n) c)
goes_on scene client n c e =
    let x = context_after scene client n in (
      ap (context_after scene client) (add-one n) ∙ goes_on_by scene client n ∙ ap (issued_next x n) e,
      effect_by scene client n ∙ ap (λ (o : Option Command). option_map_or (effect_of x) o eff.Quiet) e,
    )
