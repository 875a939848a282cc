-- Commands that are gathered for blocks: they do nothing beyond their client's context, and leave its state as it is.
use Rattle.std.proofs.Common.{◌≡◌, ℕ, zero, suc, ◌+◌, ◌-◌, ◌<◌, ◌≤◌, true, false, Option, None, Some, refl, sym, ap, subst, arith, ◌∙◌}
use Rattle.std.specs.Option.{option_map_or}
use Rattle.rc_base.specs.Contexts.Context.{ClientContext}
use Rattle.rc_base.specs.Contexts.Issue.{carried_out, command_at, context_after, effect_of, effect_at}
use Rattle.rc_base.specs.Drawing.Serial.{accepted_swaps}
use Rattle.rc_base.specs.declared.command.Command.{Command}
use Rattle.rc_base.specs.declared.command.Command.TheVariants as cmd
use Rattle.rc_base.specs.declared.scene.Scene.{Scene}
use Rattle.rc_base.specs.declared.state.Effect.{Effect}
use Rattle.gl_context.proofs.OneMoreCommand.{goes_on}
use Rattle.stream_replay.specs.Clients.{IsStill}
use Rattle.stream_replay.specs.Runs.{is_gathered, is_gathered_at, IsGatheredRun}
use Rattle.stream_replay.proofs.AcceptedSwaps.{swaps_after_other}
use Rattle.stream_replay.proofs.BlockCommands.{does, no_swap, state_stays, still_vertex, still_color, still_coordinate, still_begin}

still_gathered : (x : ClientContext) (c : Command) → is_gathered x c ≡ true → IsStill (effect_of x c)
still_gathered x (cmd.Begin kind) h = still_begin x kind
still_gathered x (cmd.Vertex p) h = still_vertex x p
still_gathered x (cmd.Color color) h = still_color x color
still_gathered x (cmd.TexCoord s t) h = still_coordinate x s t
still_gathered x c h = absurd cc

state_gathered : (x : ClientContext) (c : Command) → is_gathered x c ≡ true → (carried_out x c).state ≡ x.state
state_gathered x (cmd.Begin kind) h = refl
state_gathered x (cmd.Vertex p) h = refl
state_gathered x (cmd.Color color) h = refl
state_gathered x (cmd.TexCoord s t) h = refl
state_gathered x c h = absurd cc

-- what is known of a command that is gathered
pub record DoesNothing (s : Scene) (client place : ℕ) : Type 0 where
  pub effect : IsStill (effect_at s client place)
  pub state : (context_after s client (place + 1)).state ≡ (context_after s client place).state

nothing_of : (s : Scene) (client place : ℕ) (o : Option Command) → command_at s client place ≡ o → option_map_or (is_gathered (context_after s client place)) o false ≡ true → DoesNothing s client place
nothing_of s client place None at h = absurd cc
nothing_of s client place (Some c) at h = record {
  effect = subst (λ (e : Effect). IsStill e) (sym (does s client place c at)) (still_gathered (context_after s client place) c h);
  state = ap (λ (y : ClientContext). y.state) (goes_on s client place c at).0 ∙ state_stays (context_after s client place) place c (state_gathered (context_after s client place) c h);
}

pub does_nothing : (s : Scene) (client place : ℕ) → is_gathered_at s client place ≡ true → DoesNothing s client place
does_nothing s client place h = nothing_of s client place (command_at s client place) refl h

-- as many Swaps were accepted behind a run of them as before it
swaps_over : (s : Scene) (client from n : ℕ) → ((place : ℕ) → from ≤ place → place < from + n → is_gathered_at s client place ≡ true)
    → accepted_swaps s client (from + n) ≡ accepted_swaps s client from
swaps_over s client from zero all = ap (accepted_swaps s client) (omega arith)
swaps_over s client from (suc n) all =
    let here = does_nothing s client (from + n) (all (from + n) (omega arith) (omega arith)) in
    let before = swaps_over s client from n (λ place low high. all place low (omega (arith, high))) in
    let e : from + suc n ≡ from + n + 1 = omega arith in
    ap (accepted_swaps s client) e ∙ swaps_after_other s client (from + n) (no_swap (effect_at s client (from + n)) here.effect) ∙ before

pub swaps_over_run : (s : Scene) (client from to reached : ℕ) → IsGatheredRun s client from to reached → accepted_swaps s client reached ≡ accepted_swaps s client from
swaps_over_run s client from to reached run =
    let e : reached ≡ from + (reached - from) = omega (arith, run.low) in
    ap (accepted_swaps s client) e ∙ swaps_over s client from (reached - from) (λ place low high. run.gathered place low (omega (arith, high, run.low)))
