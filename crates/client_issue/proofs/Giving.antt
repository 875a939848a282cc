-- How the sequence of a client's items goes on.
use Rattle.std.proofs.Common.{◌≡◌, ◌∙◌, ℕ, zero, suc, ◌+◌, ◌-◌, ◌<◌, ◌≤◌, Bool, true, false, List, [], ◌∷◌, ◌++◌, length, Some, None, refl, sym, ap, subst, arith}
use Rattle.std.specs.Prelude.{map, if◌then◌else◌}
use Rattle.std.specs.declared.option.Option.{Option}
use Rattle.std.specs.Option.{option_map_or}
use Rattle.std.specs.List.{flat_map, range_with_len}
use Rattle.rc_base.specs.Contexts.Context.{ClientContext}
use Rattle.rc_base.specs.Contexts.Elements.{value_in}
use Rattle.rc_base.specs.Contexts.Faults.{fault_of}
use Rattle.rc_base.specs.Contexts.Issue.{stream_of, context_after, effect_at, command_at, issued, carried_out, done_by, effect_of}
use Rattle.rc_base.specs.Orders.Sync.{wait_of, waits_below}
use Rattle.rc_base.specs.Cluster.Tiles.{tile_count}
use Rattle.rc_base.specs.Cluster.Parcels.{told, parcel_of, parcels_at, parcels_before, sets_for}
use Rattle.rc_base.specs.Cluster.Sending.{Sending, ToTile, ToManager, sent_at, request_of}
use Rattle.rc_base.specs.declared.command.Command.{Command}
use Rattle.rc_base.specs.declared.command.Command.TheVariants as cmd
use Rattle.rc_base.specs.declared.scene.Scene.{Scene}
use Rattle.rc_base.specs.declared.state.Act.{Act}
use Rattle.rc_base.specs.declared.state.Act.TheVariants as act
use Rattle.rc_base.specs.declared.state.Effect.{Effect}
use Rattle.rc_base.specs.declared.state.Effect.TheVariants as eff
use Rattle.rc_base.specs.declared.state.ElementValue.{ElementValue}
use Rattle.rc_base.specs.declared.state.Fault.{Fault}
use Rattle.rc_base.specs.declared.state.Parcel.{Parcel}
use Rattle.rc_base.specs.declared.sync.WaitAt.{WaitAt}
use Rattle.rc_base.specs.declared.window.Layout.{Layout}
use Rattle.gl_context.specs.Streams.{StreamsGoOnByIssue}
use Rattle.client_issue.specs.Acts.{act_by, goes_to, asks_of, act_sets, examines}
use Rattle.client_issue.specs.Issued.{wait_in}
use Rattle.client_issue.specs.Sequence.{sent_to, sent_from_tile, sent_from, request_items}

pub one_more : (n : ℕ) → n + 1 ≡ suc n
one_more n = omega arith

-- ---- the tiles from one on

pub tail_next : (scene : Scene) (l : Layout) (place tile : ℕ) → tile < tile_count l
    → sent_from_tile scene l place tile ≡ sent_to scene l place tile ++ sent_from_tile scene l place (tile + 1)
unfolding sent_from_tile
tail_next scene l place tile h =
    let e : tile_count l - tile ≡ suc (tile_count l - (tile + 1)) = omega (arith, h) in
    ap (λ (n : ℕ). flat_map (sent_to scene l place) (range_with_len tile n)) e

pub tail_end : (scene : Scene) (l : Layout) (place tile : ℕ) → tile_count l ≤ tile → sent_from_tile scene l place tile ≡ []
unfolding sent_from_tile
tail_end scene l place tile h =
    let e : tile_count l - tile ≡ 0 = omega (arith, h) in
    ap (λ (n : ℕ). flat_map (sent_to scene l place) (range_with_len tile n)) e

pub skipped : (scene : Scene) (l : Layout) (place tile d : ℕ) → ((t : ℕ) → tile ≤ t → t < tile + d → sent_to scene l place t ≡ []) → tile + d ≤ tile_count l
    → sent_from_tile scene l place tile ≡ sent_from_tile scene l place (tile + d)
skipped scene l place tile zero none within = let e : tile ≡ tile + 0 = omega arith in ap (sent_from_tile scene l place) e
skipped scene l place tile (suc d) none within =
    let first : sent_to scene l place tile ≡ [] = none tile (omega arith) (omega arith) in
    let e : tile + 1 + d ≡ tile + suc d = omega arith in
    tail_next scene l place tile (omega (arith, within))
    ∙ ap (λ (items : List Sending). items ++ sent_from_tile scene l place (tile + 1)) first
    ∙ skipped scene l place (tile + 1) d (λ t low high. none t (omega (arith, low)) (omega (arith, high))) (omega (arith, within))
    ∙ ap (sent_from_tile scene l place) e

pub skipped_to : (scene : Scene) (l : Layout) (place tile next : ℕ) → tile ≤ next → next ≤ tile_count l → ((t : ℕ) → tile ≤ t → t < next → sent_to scene l place t ≡ [])
    → sent_from_tile scene l place tile ≡ sent_from_tile scene l place next
skipped_to scene l place tile next low high none =
    let e : tile + (next - tile) ≡ next = omega (arith, low) in
    skipped scene l place tile (next - tile) (λ t a b. none t a (omega (arith, b, e))) (omega (arith, e, high)) ∙ ap (sent_from_tile scene l place) e

-- ---- the commands from one on

pub commands_next : (scene : Scene) (l : Layout) (place : ℕ) → place < length (stream_of scene 0) → sent_from scene l place ≡ sent_at scene l 0 place ++ sent_from scene l (place + 1)
unfolding sent_from
commands_next scene l place h =
    let e : length (stream_of scene 0) - place ≡ suc (length (stream_of scene 0) - (place + 1)) = omega (arith, h) in
    ap (λ (n : ℕ). flat_map (sent_at scene l 0) (range_with_len place n)) e

pub commands_end : (scene : Scene) (l : Layout) (place : ℕ) → length (stream_of scene 0) ≤ place → sent_from scene l place ≡ []
unfolding sent_from
commands_end scene l place h =
    let e : length (stream_of scene 0) - place ≡ 0 = omega (arith, h) in
    ap (λ (n : ℕ). flat_map (sent_at scene l 0) (range_with_len place n)) e

requests_are : (place : ℕ) (effect : Effect) → map (λ (w : WaitAt). ToManager (request_of w)) (wait_of place effect) ≡ request_items (wait_in place effect)
requests_are place eff.Quiet = refl
requests_are place (eff.Refused fault) = refl
requests_are place (eff.Block block) = refl
requests_are place (eff.Clear mask) = refl
requests_are place (eff.Shared part) = refl
requests_are place (eff.Sync op) = refl

-- a command's items: to the tiles from the first on, and then a request
pub command_items : (scene : Scene) (l : Layout) (place : ℕ) → sent_at scene l 0 place ≡ sent_from_tile scene l place 0 ++ request_items (wait_in place (effect_at scene 0 place))
unfolding sent_from_tile
command_items scene l place =
    let e : tile_count l ≡ tile_count l - 0 = omega arith in
    (λ i. flat_map (sent_to scene l place) (range_with_len 0 (e i)) ++ requests_are place (effect_at scene 0 place) i)

-- ---- what a tile gets of a command

parcel_by : (l : Layout) (tile : ℕ) (values : ℕ → ElementValue) (x : ClientContext) (place : ℕ) (effect : Effect)
    → parcel_of l tile values x place effect
    ≡ option_map_or (λ (a : Act). if goes_to l x.state a tile then record { place = place; sets = act_sets values x a; act = a } ∷ [] else []) (act_by effect) []
parcel_by l tile values x place eff.Quiet = refl
parcel_by l tile values x place (eff.Refused fault) = refl
parcel_by l tile values x place (eff.Block block) = refl
parcel_by l tile values x place (eff.Clear mask) = refl
parcel_by l tile values x place (eff.Shared part) = refl
parcel_by l tile values x place (eff.Sync op) = refl

abbrev parcel_with : ℕ → (ℕ → ElementValue) → ClientContext → Act → Parcel
parcel_with place values x a = record { place = place; sets = act_sets values x a; act = a }

pub parcel_is : (scene : Scene) (l : Layout) (tile place : ℕ) (a : Act) → act_by (effect_at scene 0 place) ≡ Some a
    → goes_to l (context_after scene 0 place).state a tile ≡ true
    → parcels_at scene l 0 tile place (parcels_before scene l 0 tile place)
    ≡ parcel_with place (told scene.decl (parcels_before scene l 0 tile place)) (context_after scene 0 place) a ∷ []
parcel_is scene l tile place a asks goes =
    let x = context_after scene 0 place in
    let values = told scene.decl (parcels_before scene l 0 tile place) in
    parcel_by l tile values x place (effect_at scene 0 place)
    ∙ ap (λ (o : Option Act). option_map_or (λ (b : Act). if goes_to l x.state b tile then parcel_with place values x b ∷ [] else []) o []) asks
    ∙ ap (λ (b : Bool). if b then parcel_with place values x a ∷ [] else []) goes

none_by : (l : Layout) (tile : ℕ) (values : ℕ → ElementValue) (x : ClientContext) (place : ℕ) (o : Option Act) → option_map_or (λ a. goes_to l x.state a tile) o false ≡ false
    → option_map_or (λ (a : Act). if goes_to l x.state a tile then parcel_with place values x a ∷ [] else []) o [] ≡ []
none_by l tile values x place None h = refl
none_by l tile values x place (Some a) h = ap (λ (b : Bool). if b then parcel_with place values x a ∷ [] else []) h

pub no_parcel : (scene : Scene) (l : Layout) (tile place : ℕ) → asks_of l (context_after scene 0 place).state (effect_at scene 0 place) tile ≡ false
    → parcels_at scene l 0 tile place (parcels_before scene l 0 tile place) ≡ []
no_parcel scene l tile place h =
    let x = context_after scene 0 place in
    let values = told scene.decl (parcels_before scene l 0 tile place) in
    parcel_by l tile values x place (effect_at scene 0 place) ∙ none_by l tile values x place (act_by (effect_at scene 0 place)) h

pub nothing_sent : (scene : Scene) (l : Layout) (tile place : ℕ) → asks_of l (context_after scene 0 place).state (effect_at scene 0 place) tile ≡ false → sent_to scene l place tile ≡ []
nothing_sent scene l tile place h = ap (λ (ps : List Parcel). map (λ (p : Parcel). ToTile tile p) ps) (no_parcel scene l tile place h)

pub before_next : (scene : Scene) (l : Layout) (tile place : ℕ)
    → parcels_before scene l 0 tile (place + 1) ≡ parcels_before scene l 0 tile place ++ parcels_at scene l 0 tile place (parcels_before scene l 0 tile place)
unfolding parcels_before
before_next scene l tile place = ap (parcels_before scene l 0 tile) (one_more place)

pub waits_next : (scene : Scene) (place : ℕ) → waits_below scene 0 (place + 1) ≡ waits_below scene 0 place ++ wait_of place (effect_at scene 0 place)
unfolding waits_below
waits_next scene place = ap (waits_below scene 0) (one_more place)

-- ---- a command that gives parcels leaves what they are made of

end_sets : (values : ℕ → ElementValue) (x : ClientContext) (a : Act) → act_sets values (record x { block = None }) a ≡ act_sets values x a
unfolding sets_for
end_sets values x (act.Draw block) = refl
end_sets values x (act.Clear mask) = refl
end_sets values x (act.Shared part) = refl
end_sets values x (act.Sync op) = refl
end_sets values x act.End = refl

end_examines : (x : ClientContext) (a : Act) (e : ℕ) → examines (record x { block = None }) a e ≡ examines x a e
end_examines x (act.Draw block) e = refl
end_examines x (act.Clear mask) e = refl
end_examines x (act.Shared part) e = refl
end_examines x (act.Sync op) e = refl
end_examines x act.End e = refl

pub record LeavesSets (before after : ClientContext) (a : Act) : Type 0 where
  pub state : after.state ≡ before.state
  pub sets : (values : ℕ → ElementValue) → act_sets values after a ≡ act_sets values before a
  pub values : (e : ℕ) → value_in after e ≡ value_in before e
  pub examined : (e : ℕ) → examines after a e ≡ examines before a e

same_context : (x : ClientContext) (a : Act) → LeavesSets x x a
same_context x a = record { state = refl; sets = λ values. refl; values = λ e. refl; examined = λ e. refl }

by_command : (x : ClientContext) (c : Command) (a : Act) → act_by (done_by x c) ≡ Some a → LeavesSets x (carried_out x c) a
by_command x cmd.End a h = record { state = refl; sets = λ values. end_sets values x a; values = λ e. refl; examined = end_examines x a }
by_command x (cmd.Clear mask) a h = same_context x a
by_command x (cmd.SharedImage part) a h = same_context x a
by_command x (cmd.Barrier name) a h = same_context x a
by_command x (cmd.SemP name) a h = same_context x a
by_command x (cmd.SemV name) a h = same_context x a
by_command x cmd.Swap a h = same_context x a
by_command x c a h = absurd cc

by_fault : (x : ClientContext) (place : ℕ) (c : Command) (a : Act) (o : Option Fault)
    → act_by (option_map_or (λ f. eff.Refused f) o (done_by x c)) ≡ Some a
    → LeavesSets x (option_map_or (λ (f : Fault). record x { faults = x.faults ++ (place, f) ∷ [] }) o (carried_out x c)) a
by_fault x place c a (Some f) h = absurd cc
by_fault x place c a None h = by_command x c a h

by_place : StreamsGoOnByIssue → (scene : Scene) (place : ℕ) (a : Act) (o : Option Command) → command_at scene 0 place ≡ o → act_by (effect_at scene 0 place) ≡ Some a
    → LeavesSets (context_after scene 0 place) (context_after scene 0 (place + 1)) a
unfolding effect_at effect_of issued
by_place law scene place a None e h =
    let q : None ≡ Some a = sym (ap (λ (o : Option Command). act_by (option_map_or (effect_of (context_after scene 0 place)) o eff.Quiet)) e) ∙ h in
    absurd cc
by_place law scene place a (Some c) e h =
    let x = context_after scene 0 place in
    let next = law scene 0 place c e in
    subst (λ (y : ClientContext). LeavesSets x y a) (sym next.0) (by_fault x place c a (fault_of x c) (sym (ap act_by next.1) ∙ h))

pub leaves_sets : StreamsGoOnByIssue → (scene : Scene) (place : ℕ) (a : Act) → act_by (effect_at scene 0 place) ≡ Some a
    → LeavesSets (context_after scene 0 place) (context_after scene 0 (place + 1)) a
leaves_sets law scene place a h = by_place law scene place a (command_at scene 0 place) refl h
