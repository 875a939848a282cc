-- The commands of blocks: what they do beyond their client's context, and that they leave its state as it is.
use Rattle.std.proofs.Common.{◌≡◌, ℕ, ℤ, ◌+◌, false, List, Option, None, Some, Bool, get_or, set, refl, sym, ap, subst, ◌∙◌, arith, if◌then◌else◌}
use Rattle.std.specs.Option.{option_map_or}
use Rattle.rc_base.specs.Contexts.Context.{ClientContext}
use Rattle.rc_base.specs.Contexts.Faults.{fault_of}
use Rattle.rc_base.specs.Contexts.Issue.{issued, refused, carried_out, command_at, context_after, effect_of, effect_at}
use Rattle.rc_base.specs.Drawing.Serial.{is_swap_effect, accepted_swaps}
use Rattle.rc_base.specs.declared.command.Command.{Command}
use Rattle.rc_base.specs.declared.command.Command.TheVariants as cmd
use Rattle.rc_base.specs.declared.command.Rgba.{Rgba}
use Rattle.rc_base.specs.declared.scene.Scene.{Scene}
use Rattle.rc_base.specs.declared.state.Effect.{Effect}
use Rattle.rc_base.specs.declared.state.Effect.TheVariants as eff
use Rattle.rc_base.specs.declared.state.Fault.{Fault}
use Rattle.gl_context.proofs.OneMoreCommand.{goes_on}
use Rattle.std.proofs.lemmas.List.{set-get_or}
use Rattle.rc_base.specs.declared.sync.Name.{Name}
use Rattle.plain_lemmas.proofs.Lists.{read_is_item}
use Rattle.stream_replay.specs.Blocks.{ClientIsBehind, ClientsAreBehind, IsBehind, IsIssuedInBlock, KeepsState}
use Rattle.stream_replay.specs.Clients.{IsStill, StandsBefore, client_after, issued_by}
use Rattle.stream_replay.specs.declared.client.Client.{Client}
use Rattle.stream_replay.specs.declared.in_block.InBlock.{InBlock}
use Rattle.stream_replay.specs.declared.in_block.InBlock.TheVariants.{Quiet, Draws, Left}
use Rattle.stream_replay.proofs.AcceptedSwaps.{swaps_next}

quiet_or_refused : (fault : Option Fault) → IsStill (option_map_or (λ f. eff.Refused f) fault eff.Quiet)
quiet_or_refused None = tt
quiet_or_refused (Some f) = tt

pub still_vertex : (x : ClientContext) (pos : List ℤ) → IsStill (effect_of x (cmd.Vertex pos))
unfolding effect_of
still_vertex x pos = quiet_or_refused (fault_of x (cmd.Vertex pos))

pub still_color : (x : ClientContext) (color : Rgba) → IsStill (effect_of x (cmd.Color color))
unfolding effect_of
still_color x color = quiet_or_refused (fault_of x (cmd.Color color))

pub still_coordinate : (x : ClientContext) (s t : ℤ) → IsStill (effect_of x (cmd.TexCoord s t))
unfolding effect_of
still_coordinate x s t = quiet_or_refused (fault_of x (cmd.TexCoord s t))

pub still_begin : (x : ClientContext) (kind : ℕ) → IsStill (effect_of x (cmd.Begin kind))
unfolding effect_of
still_begin x kind = quiet_or_refused (fault_of x (cmd.Begin kind))

keeps : (x y : ClientContext) (place : ℕ) (fault : Option Fault) → y.state ≡ x.state → (option_map_or (refused x place) fault y).state ≡ x.state
keeps x y place None same = same
keeps x y place (Some f) same = refl

-- a command whose own change leaves the state as it is leaves it so, refused or not
pub state_stays : (x : ClientContext) (place : ℕ) (c : Command) → (carried_out x c).state ≡ x.state → (issued x place c).state ≡ x.state
unfolding issued
state_stays x place c same = keeps x (carried_out x c) place (fault_of x c) same

-- behind such a command
pub behind : (s : Scene) (client place : ℕ) (c : Command) (before after : ClientContext) → command_at s client place ≡ Some c → before ≡ context_after s client place
    → after ≡ issued before place c → (carried_out before c).state ≡ before.state → IsBehind s client place after
behind s client place c before after at is step same = record {
  context = step ∙ ap (λ (y : ClientContext). issued y place c) is ∙ sym (goes_on s client place c at).0;
  state = ap (λ (y : ClientContext). y.state) step ∙ state_stays before place c same ∙ ap (λ (y : ClientContext). y.state) is;
}

-- what it does beyond its context
pub does : (s : Scene) (client place : ℕ) (c : Command) → command_at s client place ≡ Some c → effect_at s client place ≡ effect_of (context_after s client place) c
does s client place c at = (goes_on s client place c at).1

pub no_swap : (e : Effect) → IsStill e → is_swap_effect e ≡ false
no_swap eff.Quiet still = refl
no_swap (eff.Refused fault) still = refl
no_swap (eff.Block block) still = absurd still
no_swap (eff.Clear mask) still = absurd still
no_swap (eff.Shared part) still = absurd still
no_swap (eff.Sync op) still = absurd still

-- as many Swaps were accepted before a command that is none as behind it
swaps_stay : (scene : Scene) (client place : ℕ) → is_swap_effect (effect_at scene client place) ≡ false → accepted_swaps scene client place ≡ accepted_swaps scene client (place + 1)
swaps_stay scene client place none =
    let none = ap {B = ℕ} (λ (b : Bool). if b then 1 else 0) none in
    omega (arith, none, swaps_next scene client place)

module _ (s : Scene) (client place : ℕ) (x : Client) (after : ClientContext) (before : x ≡ client_after s client place) where
  next_client : IsBehind s client place after → is_swap_effect (effect_at s client place) ≡ false → (let v : Client = record x { context = after } in v) ≡ client_after s client (place + 1)
  next_client b none i = record { context = b.context i; swaps = (ap (λ (y : Client). y.swaps) before ∙ swaps_stay s client place none) i }

  same_state : IsBehind s client place after → after.state ≡ x.context.state
  same_state b = b.state ∙ ap (λ (y : Client). y.context.state) (sym before)

  left_client : after ≡ context_after s client place → (let v : Client = record x { context = after } in v) ≡ x
  left_client is i = record { context = (is ∙ ap (λ (y : Client). y.context) (sym before)) i; swaps = x.swaps }

  -- the client behind a command that was issued where it is one of a block, and else left alone
  pub client_behind : (r : InBlock) → IsIssuedInBlock s client place after r → ClientIsBehind s client place x (record x { context = after }) r
  client_behind Quiet h = (next_client h.0 (no_swap (effect_at s client place) h.1), h.1, same_state h.0)
  client_behind (Draws block) h = (next_client h.0 (ap is_swap_effect h.1), h.1, same_state h.0)
  client_behind Left h = left_client h

module _ (s : Scene) (n : Name) (xs : List Client) (x y : Client) (before : StandsBefore s xs n) (found : x ≡ get_or xs n.client x) where
  set_next : y ≡ client_after s n.client (n.place + 1) → set xs n.client y ≡ issued_by s xs n
  set_next is = ap (λ (v : Client). set xs n.client v) is

  keeps_state : y ≡ client_after s n.client (n.place + 1) → y.context.state ≡ x.context.state → KeepsState s n
  keeps_state is same = ap (λ (v : Client). v.context.state) (sym is) ∙ same ∙ ap (λ (v : Client). v.context.state) (read_is_item xs n.client x _ before found)

  all_behind : (r : InBlock) → ClientIsBehind s n.client n.place x y r → ClientsAreBehind s n xs (set xs n.client y) r
  all_behind Quiet h = (set_next h.0, h.1, keeps_state h.0 h.2)
  all_behind (Draws block) h = (set_next h.0, h.1, keeps_state h.0 h.2)
  all_behind Left h = ap (λ (v : Client). set xs n.client v) (h ∙ found) ∙ set-get_or xs n.client x

-- and all clients
pub clients_behind : (s : Scene) (n : Name) (xs : List Client) (k j : ℕ) (x y : Client) (r : InBlock) → k ≡ n.client → j ≡ n.client → StandsBefore s xs n → x ≡ get_or xs n.client x
    → ClientIsBehind s j n.place x y r → ClientsAreBehind s n xs (set xs k y) r
clients_behind s n xs k j x y r k_is j_is before found h =
    subst (λ (i : ℕ). ClientsAreBehind s n xs (set xs i y) r) (sym k_is)
    (all_behind s n xs x y before found r (subst (λ (i : ℕ). ClientIsBehind s i n.place x y r) j_is h))
