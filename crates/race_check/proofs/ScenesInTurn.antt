-- The names of a permitted order of a scene, and what the scene's footprint has of them.
use Rattle.std.proofs.Common.{◌≡◌, ℕ, zero, suc, ◌+◌, ◌^◌, ◌<◌, ◌≤◌, ◌&&◌, ◌||◌, Bool, List, [], ◌∷◌, Option, Some, None, length, take, pos, ℤ, inl, inr, refl, sym, ap, ◌∙◌, subst, arith}
use Rattle.std.specs.Prelude.{slice_get, slice_index_or, slice_set, nat_lt}
use Rattle.std.specs.Option.{option_map_or}
use Rattle.std.specs.List.{list_any, range_with_len}
use Rattle.std.proofs.lemmas.Bool.{cases_lt}
use Rattle.std.proofs.Math.ListN.{length-set}
use Rattle.std.proofs.lemmas.Option.{slice_get-get_or}
use Rattle.rc_base.specs.Contexts.Context.{ClientContext}
use Rattle.rc_base.specs.Contexts.Faults.{fault_of}
use Rattle.rc_base.specs.Contexts.Issue.{issued, refused, effect_of, carried_out, done_by, command_at, context_after, effect_at, stream_of}
use Rattle.rc_base.specs.Drawing.Touch.{touches, may_sample, writes_shared}
use Rattle.rc_base.specs.Formats.Within.{IsWithin}
use Rattle.rc_base.specs.Lists.{IsIn, AreRising}
use Rattle.rc_base.specs.Orders.Footprints.{footprint_of, touches_some, touches_pixel}
use Rattle.rc_base.specs.Orders.Journal.{reach_of}
use Rattle.rc_base.specs.Orders.Order.{IsPermitted, names_in}
use Rattle.rc_base.specs.Orders.Sync.{IsWellFormed, ops_of, length_of, places_of, sync_lists_of, client_count}
use Rattle.rc_base.specs.declared.command.Command.{Command}
use Rattle.rc_base.specs.declared.command.Command.TheVariants as cmd
use Rattle.rc_base.specs.declared.scene.Scene.{Scene}
use Rattle.rc_base.specs.declared.state.Effect.{Effect}
use Rattle.rc_base.specs.declared.state.Effect.TheVariants as eff
use Rattle.rc_base.specs.declared.state.Fault.{Fault}
use Rattle.rc_base.specs.declared.state.State.{State}
use Rattle.rc_base.specs.declared.sync.Entry.{Entry}
use Rattle.rc_base.specs.declared.sync.Name.{Name}
use Rattle.rc_base.specs.declared.sync.SyncLists.{SyncLists}
use Rattle.rc_base.specs.declared.sync.SyncRow.{SyncRow}
use Rattle.rc_base.specs.declared.sync.WaitAt.{WaitAt}
use Rattle.gl_context.proofs.OneMoreCommand.{goes_on}
use Rattle.order_model.specs.Counted.{used_by}
use Rattle.order_model.proofs.ClientsBeyond.{reach_past}
use Rattle.order_model.proofs.NamesInTurn.{at_in, order_at, run_next}
use Rattle.order_model.proofs.PermittedAsRuns.{run_of}
use Rattle.order_model.proofs.SceneListsAreWellFormed.{scene_row}
use Rattle.order_model.proofs.ScenesWithinLimits.{within_is_drawable}
use Rattle.order_model.proofs.UsedOperations.{stop_is_place}
use Rattle.stream_replay.specs.Clients.{AreIssued, client_after}
use Rattle.stream_replay.specs.declared.client.Client.{Client}
use Rattle.stream_replay.proofs.ClientsInTurn.{client_before, client_now, clients_next, some_command}
use Rattle.stream_replay.proofs.IssuedCommands.{is_client}
use Rattle.scene_lemmas.proofs.Scenes.{scene_client_count}
use Rattle.race_check.specs.Uses.{HasEffect, IsNextOf, window_touches, window_samples}

-- ---- names within their streams

get_within : (low : ℕ) (ws : List WaitAt) (n k : ℕ) → AreRising low (places_of ws) n → option_map_or (λ (w : WaitAt). w.place) (slice_get ws k) n ≤ n
get_within low [] n k h = omega arith
get_within low (w ∷ ws) n zero h = omega (arith, h.1)
get_within low (w ∷ ws) n (suc k) h = get_within (w.place + 1) ws n k h.2

reach_within : (syncs : SyncLists) (js : List Entry) (c : ℕ) → IsWellFormed syncs → reach_of syncs js c ≤ length_of syncs c
reach_within syncs js c well =
    subst (λ k. k ≤ length_of syncs c) (sym (stop_is_place syncs js c)) (get_within 0 (ops_of syncs c) (length_of syncs c) (used_by (client_count syncs) c js) (well.rising c))

module _ (s : Scene) (syncs : SyncLists) (js : List Entry) (order : List Name) (within : IsWithin s) (lists : syncs ≡ sync_lists_of s) (permitted : IsPermitted syncs js order) where
  permitted_here : IsPermitted (sync_lists_of s) js order
  permitted_here = subst (λ l. IsPermitted l js order) lists permitted

  pub client_in : (n : Name) → IsIn n order → n.client < length s.streams
  client_in n i = elim (cases_lt n.client (length s.streams)) [
    | inl lt ↦ lt
    | inr ge ↦ absurd (omega (arith, (permitted_here.names n).0 i, reach_past (sync_lists_of s) js n.client (omega (arith, scene_client_count s, ge))))
  ]

  pub client_small : (n : Name) → IsIn n order → n.client < 8
  client_small n i = omega (arith, client_in n i, (within_is_drawable s within).few)

  pub place_in : (n : Name) → IsIn n order → n.place < length (stream_of s n.client)
  place_in n i =
      let same : length_of (sync_lists_of s) n.client ≡ length (stream_of s n.client) = ap (λ (r : SyncRow). r.length) (scene_row s n.client (client_in n i)) in
      omega (arith, (permitted_here.names n).0 i, reach_within (sync_lists_of s) js n.client (within_is_drawable s within).formed, same)

  pub place_small : (n : Name) → IsIn n order → n.place + 1 < 2 ^ 32
  place_small n i = omega (arith, place_in n i, (within_is_drawable s within).short n.client)

  -- each name is the next one of its client
  pub next_in : (i : ℕ) (n : Name) → slice_get order i ≡ Some n → n.place ≡ names_in n.client (take i order)
  next_in i n e = omega (arith, run_next (reach_of (sync_lists_of s) js) (λ c. 0) order i n (run_of (sync_lists_of s) js order permitted_here) e)

-- ---- an order gone through

abbrev pub no_name : Name
no_name = record { client = 0; place = 0 }

-- a name of an order, where the clients stand behind the names in front of it
pub record IsNextName (s : Scene) (order : List Name) (clients : List Client) (i : ℕ) (n : Name) : Type 0 where
  pub at : slice_get order i ≡ Some n
  pub next : IsNextOf s clients n
  pub issued : (next : List Client) → next ≡ slice_set clients n.client (client_after s n.client (n.place + 1)) → AreIssued s (take (i + 1) order) next

pub next_name : (s : Scene) (syncs : SyncLists) (js : List Entry) (order items : List Name) (clients : List Client) (i : ℕ) → IsWithin s → syncs ≡ sync_lists_of s → IsPermitted syncs js order
    → items ≡ order → i < length items → AreIssued s (take i order) clients → IsNextName s order clients i (slice_index_or items i no_name)
next_name s syncs js order items clients i within lists permitted same lt issued = record {
  at = at;
  next = record {
    count = issued.count;
    inside = place_in s syncs js order within lists permitted n here;
    before = client_before s (take i order) n clients issued next client;
    client = client_small s syncs js order within lists permitted n here;
    place = place_small s syncs js order within lists permitted n here;
  };
  issued = λ ys e. subst (λ (l : List Name). AreIssued s l ys) (sym (order_at order i n at).1) (clients_next s (take i order) n clients ys issued next client e);
}
  where
    n : Name
    n = slice_index_or items i no_name

    at : slice_get order i ≡ Some (slice_index_or items i no_name)
    at = subst (λ (o : List Name). slice_get o i ≡ Some (slice_index_or items i no_name)) same (slice_get-get_or items i no_name lt)

    here : IsIn (slice_index_or items i no_name) order
    here = at_in order i (slice_index_or items i no_name) at

    next : (slice_index_or items i no_name).place ≡ names_in (slice_index_or items i no_name).client (take i order)
    next = next_in s syncs js order within lists permitted i (slice_index_or items i no_name) at

    client : (slice_index_or items i no_name).client < length s.streams
    client = client_in s syncs js order within lists permitted (slice_index_or items i no_name) here

-- ---- the context behind a command touches what the one before it does

module _ (x : ClientContext) where
  same_done : (c : Command) (i j : ℤ) → touches (carried_out x c).state (done_by x c) i j ≡ touches x.state (done_by x c) i j
  unfolding touches
  same_done (cmd.Begin mode) i j = refl
  same_done cmd.End i j = refl
  same_done (cmd.Clear mask) i j = refl
  same_done c i j = refl

  same_sampled : (c : Command) (t : ℕ) → may_sample (carried_out x c).state (done_by x c) t ≡ may_sample x.state (done_by x c) t
  same_sampled (cmd.Begin mode) t = refl
  same_sampled cmd.End t = refl
  same_sampled (cmd.Clear mask) t = refl
  same_sampled c t = refl

  issued_touches : (place : ℕ) (c : Command) (i j : ℤ) → touches (issued x place c).state (effect_of x c) i j ≡ touches x.state (effect_of x c) i j
  unfolding issued effect_of touches
  issued_touches place c i j = by (fault_of x c)
    where
      by : (f : Option Fault) → touches (option_map_or (refused x place) f (carried_out x c)).state (option_map_or (λ f. eff.Refused f) f (done_by x c)) i j ≡ touches x.state (option_map_or (λ f. eff.Refused f) f (done_by x c)) i j
      by (Some f) = refl
      by None = same_done c i j

  issued_samples : (place : ℕ) (c : Command) (t : ℕ) → may_sample (issued x place c).state (effect_of x c) t ≡ may_sample x.state (effect_of x c) t
  unfolding issued effect_of
  issued_samples place c t = by (fault_of x c)
    where
      by : (f : Option Fault) → may_sample (option_map_or (refused x place) f (carried_out x c)).state (option_map_or (λ f. eff.Refused f) f (done_by x c)) t ≡ may_sample x.state (option_map_or (λ f. eff.Refused f) f (done_by x c)) t
      by (Some f) = refl
      by None = same_sampled c t

pub same_touches : (s : Scene) (client place : ℕ) (c : Command) → command_at s client place ≡ Some c → (i j : ℤ)
    → touches (context_after s client (place + 1)).state (effect_at s client place) i j ≡ touches (context_after s client place).state (effect_at s client place) i j
same_touches s client place c at i j =
    let x = context_after s client place in
    let next = goes_on s client place c at in
    ap (λ (y : ClientContext). touches y.state (effect_at s client place) i j) next.0 ∙ ap (λ (e : Effect). touches (issued x place c).state e i j) next.1 ∙ issued_touches x place c i j
    ∙ ap (λ (e : Effect). touches x.state e i j) (sym next.1)

pub same_samples : (s : Scene) (client place : ℕ) (c : Command) → command_at s client place ≡ Some c → (t : ℕ)
    → may_sample (context_after s client (place + 1)).state (effect_at s client place) t ≡ may_sample (context_after s client place).state (effect_at s client place) t
same_samples s client place c at t =
    let x = context_after s client place in
    let next = goes_on s client place c at in
    ap (λ (y : ClientContext). may_sample y.state (effect_at s client place) t) next.0 ∙ ap (λ (e : Effect). may_sample (issued x place c).state e t) next.1 ∙ issued_samples x place c t
    ∙ ap (λ (e : Effect). may_sample x.state e t) (sym next.1)

-- ---- the footprint

any_as : (p q : ℕ → Bool) (ks : List ℕ) → ((k : ℕ) → p k ≡ q k) → list_any p ks ≡ list_any q ks
any_as p q [] h = refl
any_as p q (k ∷ ks) h = ap (λ b. b || list_any p ks) (h k) ∙ ap (λ b. q k || b) (any_as p q ks h)

-- what a command uses in the state behind it is what it uses in the scene
module _ (s : Scene) (n : Name) (c : Command) (x : State) (e : Effect) (at : command_at s n.client n.place ≡ Some c) (state : x ≡ (context_after s n.client (n.place + 1)).state)
    (effect : e ≡ effect_at s n.client n.place) where
  touched : (u v : ℕ) → touches_pixel s n u v ≡ touches x e (pos u) (pos v)
  touched u v =
      sym (same_touches s n.client n.place c at (pos u) (pos v)) ∙ ap (λ (z : State). touches z (effect_at s n.client n.place) (pos u) (pos v)) (sym state)
      ∙ ap (λ (g : Effect). touches x g (pos u) (pos v)) (sym effect)

  touching : (p : ℕ × ℕ) → (footprint_of s).touches n p ≡ window_touches s.decl.width s.decl.height x e p
  touching p = ap (λ b. (nat_lt p.0 s.decl.width && nat_lt p.1 s.decl.height) && b) (touched p.0 p.1)

  some : touches_some s n ≡ list_any (λ v. list_any (λ u. touches x e (pos u) (pos v)) (range_with_len 0 s.decl.width)) (range_with_len 0 s.decl.height)
  unfolding touches_some
  some = any_as _ _ (range_with_len 0 s.decl.height) (λ v. any_as _ _ (range_with_len 0 s.decl.width) (λ u. touched u v))

  may : (t : ℕ) → may_sample (context_after s n.client n.place).state (effect_at s n.client n.place) t ≡ may_sample x e t
  may t = sym (same_samples s n.client n.place c at t) ∙ ap (λ (z : State). may_sample z (effect_at s n.client n.place) t) (sym state) ∙ ap (λ (g : Effect). may_sample x g t) (sym effect)

  sampling : (t : ℕ) → (footprint_of s).samples n t ≡ window_samples s.decl.width s.decl.height x e t
  sampling t = ap (λ b. b && touches_some s n) (may t) ∙ ap (λ b. may_sample x e t && b) some

  writing : (t : ℕ) → (footprint_of s).writes n t ≡ writes_shared e t
  writing t = ap (λ (g : Effect). writes_shared g t) (sym effect)

  pub effect_in_scene : HasEffect (footprint_of s) n s.decl.width s.decl.height x e
  effect_in_scene = record { touches = touching; samples = sampling; writes = writing }

-- ---- a name's command is issued

-- the clients' list, where the name's client is at the name's command, has it also behind that
pub client_there : (s : Scene) (n : Name) (old new : List Client) → IsNextOf s old n → new ≡ slice_set old n.client (client_after s n.client (n.place + 1)) → n.client < length new
client_there s n old new next e =
    omega (arith, is_client s n.client n.place next.inside, next.count, ap length e ∙ length-set old n.client (client_after s n.client (n.place + 1)))

-- what is done in the state of the client behind the command is the name's effect in the scene
pub issued_effect : (s : Scene) (n : Name) (old new : List Client) (client : Client) (index : ℕ) (x : State) (e : Effect) → IsNextOf s old n
    → new ≡ slice_set old n.client (client_after s n.client (n.place + 1)) → index ≡ n.client → client ≡ slice_index_or new index client → x ≡ client.context.state → e ≡ effect_at s n.client n.place
    → HasEffect (footprint_of s) n s.decl.width s.decl.height x e
issued_effect s n old new client index x e next clients at is state effect =
    let here : n.client < length old = omega (arith, is_client s n.client n.place next.inside, next.count) in
    let now = client_now s n old new client here clients (is ∙ ap (λ (k : ℕ). slice_index_or new k client) at) in
    effect_in_scene s n _ x e (some_command s n.client n.place next.inside) (state ∙ ap (λ (c : Client). c.context.state) now) effect
