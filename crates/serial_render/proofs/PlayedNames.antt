-- An order is carried out name by name, and run by run.
use Rattle.std.proofs.Common.{◌≡◌, ℕ, zero, suc, ◌+◌, ◌-◌, ◌<◌, ◌≤◌, true, List, [], ◌∷◌, ◌++◌, length, set, take, drop, Some, refl, sym, ap, subst, ◌∙◌, arith, inl, inr, append_assoc, length-set}
use Rattle.std.specs.Prelude.{max, slice_get}
use Rattle.std.specs.declared.option.Option.{Option}
use Rattle.std.proofs.Math.Seq.{take-append_seam}
use Rattle.std.proofs.lemmas.List.{append-nil, set-set, set-get_or, get_or-set_same}
use Rattle.std.proofs.lemmas.Option.{slice_get_within, slice_get-get_or, get_or_from_slice_get}
use Rattle.rc_base.specs.Contexts.Issue.{stream_of, context_after, effect_at}
use Rattle.rc_base.specs.Drawing.Serial.{accepted_swaps, frame_pixel, textures_after}
use Rattle.rc_base.specs.Formats.Within.{IsWithin}
use Rattle.rc_base.specs.Lists.{IsIn}
use Rattle.rc_base.specs.Orders.Order.{names_in, names_from}
use Rattle.rc_base.specs.Pictures.{Picture}
use Rattle.rc_base.specs.declared.image.Image.{Image}
use Rattle.rc_base.specs.declared.scene.Scene.{Scene}
use Rattle.rc_base.specs.declared.command.Part.{Part}
use Rattle.rc_base.specs.declared.state.Effect.TheVariants as eff
use Rattle.rc_base.specs.declared.sync.Name.{Name}
use Rattle.rc_base.specs.declared.window.Rect.{Rect}
use Rattle.gl_context.proofs.ValidContexts.{valid}
use Rattle.draw_device.specs.Conditions.{IsDrawable, shared_of}
use Rattle.draw_device.specs.Devices.{DeviceView, pixel_of}
use Rattle.draw_device.specs.Stored.{IsStorable, set_after}
use Rattle.textures.specs.Images.{texture_image}
use Rattle.order_model.proofs.ScenesWithinLimits.{within_has_sides}
use Rattle.stream_replay.specs.Clients.{client_after, issued_by}
use Rattle.stream_replay.specs.Runs.{is_gathered_at, IsGatheredRun}
use Rattle.stream_replay.specs.declared.client.Client.{Client}
use Rattle.stream_replay.proofs.AcceptedSwaps.{swaps_after_other}
use Rattle.stream_replay.proofs.BlockCommands.{no_swap}
use Rattle.stream_replay.proofs.ClientsInTurn.{clients_next, client_before, some_command}
use Rattle.stream_replay.proofs.GatheredCommands.{does_nothing}
use Rattle.stream_replay.proofs.IssuedCommands.{is_client}
use Rattle.serial_render.specs.Performed.{IsSettled, TakesEffect, effect_by, images_behind, state_behind}
use Rattle.serial_render.specs.Played.{IsPlayed, names_below}
use Rattle.serial_render.specs.Runs.{names_of_runs, run_at}
use Rattle.serial_render.specs.Shown.{IsPlayable, images_of, swaps_before}
use Rattle.serial_render.specs.Steps.{Holds}
use Rattle.serial_render.specs.declared.brush.Brush.{Brush}
use Rattle.serial_render.specs.declared.runs.Run.{Run}
use Rattle.serial_render.proofs.AddedInTurn.{names_from_more}
use Rattle.serial_render.proofs.DrawnCommands.{drawable, writable}
use Rattle.serial_render.proofs.NamesOfRuns.{name_of_run, runs_at, runs_more}
use Rattle.serial_render.proofs.PlayedOrders.{frames_due, shown_next, step_is, texels_after}
use Rattle.serial_render.proofs.SettledBrushes.{settled_stays}
use Rattle.serial_render.proofs.StillCommands.{still_draws_nothing, still_writes_nothing}

in_middle : (n : Name) (rest u : List Name) → IsIn n (u ++ n ∷ rest)
in_middle n rest [] = inl refl
in_middle n rest (m ∷ u) = inr (in_middle n rest u)

at_middle : (n : Name) (rest u : List Name) → slice_get (u ++ n ∷ rest) (length u) ≡ Some n
at_middle n rest [] = refl
at_middle n rest (m ∷ u) = at_middle n rest u

-- the name behind those that were carried out is the next one of its client
pub next_name : (s : Scene) (order done rest : List Name) (n : Name) → IsPlayable s order → order ≡ done ++ n ∷ rest → (n.place ≡ names_in n.client done) × (n.place < length (stream_of s n.client))
next_name s order done rest n playable is =
    let at = ap (λ (o : List Name). slice_get o (length done)) is ∙ at_middle n rest done in
    let front : take (length done) order ≡ done = ap (take (length done)) is ∙ take-append_seam done (n ∷ rest) in
    let next = playable.next (length done) n at in (
      next.0 ∙ ap (names_in n.client) front,
      next.1,
    )

module _ (s : Scene) (order done rest : List Name) (n : Name) (within : IsWithin s) (playable : IsPlayable s order) (is : order ≡ done ++ n ∷ rest)
    (xs : List Client) (shared : List (Option Picture)) (b : Brush) (d : DeviceView) (frames : List Image) (h : IsPlayed s order done xs shared b d frames) where
  -- the client stands before the name
  pub stands_before : slice_get xs n.client ≡ Some (client_after s n.client n.place)
  stands_before =
      let next = next_name s order done rest n playable is in
      client_before s done n xs h.issued next.0 (is_client s n.client n.place next.1)

  pub can_draw : IsDrawable (state_behind s n) (images_behind s n) shared
  can_draw = drawable s.decl (context_after s n.client (n.place + 1)) (textures_after s done) shared (valid s within.commands n.client (n.place + 1)) h.texels (within_has_sides s within)

  pub can_write : (p : Part) → effect_by s n ≡ eff.Shared p → IsStorable p shared
  can_write p writes =
      let next = next_name s order done rest n playable is in
      writable s n.client n.place _ (textures_after s done) shared p within.commands (some_command s n.client n.place next.1) h.texels writes

  -- where the frames that are due before the name were added
  pub played_to_frames : (new : List Image) → length new ≡ max (length frames) (swaps_before s n) → new ≡ images_of s.decl (frame_pixel s order) (length new) → IsPlayed s order done xs shared b d new
  played_to_frames new count images = record {
    issued = h.issued;
    texels = h.texels;
    settled = h.settled;
    shown = record {
      rect = h.shown.rect;
      holds = h.shown.holds;
      frames_are = images;
      all = λ m i. omega (arith, h.shown.all m i, count);
      few = λ most bound.
          let here : IsIn n order = subst (λ (o : List Name). IsIn n o) (sym is) (in_middle n rest done) in
          omega (arith, h.shown.few most bound, bound n here, count);
    };
  }

  module _ (due : swaps_before s n ≤ length frames) where
    -- the name was carried out
    pub played_next : (ys : List Client) (texels : List (Option Picture)) (c : Brush) (e : DeviceView) → ys ≡ issued_by s xs n → e.rect ≡ d.rect → TakesEffect s n shared d e
        → texels ≡ set_after (effect_by s n) shared → IsSettled ys d.rect c → IsPlayed s order (done ++ n ∷ []) ys texels c e frames
    played_next ys texels c e ys_is rect drawn texels_is settled =
        let next = next_name s order done rest n playable is in
        let lt = is_client s n.client n.place next.1 in
        let at = some_command s n.client n.place next.1 in
        let count : length frames ≡ max (length frames) (swaps_before s n) = omega (arith, due) in
        record {
          issued = clients_next s done n xs ys h.issued next.0 lt ys_is;
          texels = texels_after s done n (effect_by s n) shared texels refl h.texels can_write texels_is;
          settled = subst (λ (r : Rect). IsSettled ys r c) (sym rect) settled;
          shown = shown_next s order done rest n d e frames frames playable is h.shown count h.shown.frames_are rect
              (λ x y inside. drawn x y inside
              ∙ step_is s n _ (textures_after s done) shared (context_after s n.client (n.place + 1)) (effect_by s n) x y (pixel_of d x y) at refl refl
              (valid s within.commands n.client (n.place + 1)) h.texels);
        }

    -- the name's command was gathered
    pub played_gathered : is_gathered_at s n.client n.place ≡ true → IsPlayed s order (done ++ n ∷ []) (issued_by s xs n) shared b d frames
    played_gathered gathered =
        let nothing = does_nothing s n.client n.place gathered in
        let ys = issued_by s xs n in
        played_next ys shared b d refl refl
        (λ x y inside. sym (still_draws_nothing (state_behind s n) (texture_image (images_behind s n)) (shared_of shared) (effect_by s n) nothing.effect x y (pixel_of d x y)))
        (sym (still_writes_nothing (effect_by s n) nothing.effect shared))
        (settled_stays s n xs ys stands_before refl d.rect b h.settled nothing.state)

module _ (s : Scene) (order before behind : List Name) (c from n : ℕ) (within : IsWithin s) (playable : IsPlayable s order) (is : order ≡ before ++ (names_from c from n ++ behind))
    (shared : List (Option Picture)) (b : Brush) (d : DeviceView) (frames : List Image) where
  -- further commands of the run were gathered
  pub played_run : (m k : ℕ) (xs : List Client) → k + m ≤ n → ((place : ℕ) → from + k ≤ place → place < from + (k + m) → is_gathered_at s c place ≡ true)
      → accepted_swaps s c (from + k) ≤ length frames → slice_get xs c ≡ Some (client_after s c (from + k)) → IsPlayed s order (before ++ names_from c from k) xs shared b d frames
      → IsPlayed s order (before ++ names_from c from (k + m)) (set xs c (client_after s c (from + (k + m)))) shared b d frames
  played_run zero k xs le gathered due at h =
      let same : k + 0 ≡ k = omega arith in
      let v = client_after s c (from + k) in
      let left : set xs c v ≡ xs = ap (λ (x : Client). set xs c x) (sym (get_or_from_slice_get xs c v v at)) ∙ set-get_or xs c v in
      subst (λ (j : ℕ). IsPlayed s order (before ++ names_from c from j) (set xs c (client_after s c (from + j))) shared b d frames) (sym same)
      (subst (λ (l : List Client). IsPlayed s order (before ++ names_from c from k) l shared b d frames) (sym left) h)
  played_run (suc m) k xs le gathered due at h =
      let name : Name = record { client = c; place = from + k } in
      let done = before ++ names_from c from k in
      let split = name_of_run order before behind c from n k is (omega (arith, le)) in
      let here = gathered (from + k) (omega arith) (omega arith) in
      let next = played_gathered s order done (names_from c (from + k + 1) (n - k - 1) ++ behind) name within playable split xs shared b d frames h due here in
      let v = client_after s c (from + k + 1) in
      let ys = set xs c v in
      let names : done ++ name ∷ [] ≡ before ++ names_from c from (k + 1) =
      append_assoc before (names_from c from k) (name ∷ []) ∙ ap (λ (l : List Name). before ++ l) (sym (names_from_more c from k (from + k) refl)) in
      let place : from + k + 1 ≡ from + (k + 1) = omega arith in
      let lt : c < length ys = omega (arith, slice_get_within xs c (client_after s c (from + k)) at, length-set xs c v) in
      let there : slice_get ys c ≡ Some v = slice_get-get_or ys c v lt ∙ ap (λ (x : Client). Some x) (get_or-set_same xs c v v (slice_get_within xs c (client_after s c (from + k)) at)) in
      let nothing = does_nothing s c (from + k) here in
      let swaps : accepted_swaps s c (from + k + 1) ≡ accepted_swaps s c (from + k) = swaps_after_other s c (from + k) (no_swap (effect_at s c (from + k)) nothing.effect) in
      let swaps_at : accepted_swaps s c (from + (k + 1)) ≡ accepted_swaps s c (from + k) = ap (accepted_swaps s c) (sym place) ∙ swaps in
      let all = played_run m (k + 1) ys (omega (arith, le))
      (λ p low high. gathered p (omega (arith, low)) (omega (arith, high)))
      (omega (arith, swaps_at, due))
      (there ∙ ap (λ (p : ℕ). Some (client_after s c p)) place)
      (subst (λ (l : List Name). IsPlayed s order l ys shared b d frames) names next) in
      let sum : k + 1 + m ≡ k + suc m = omega arith in
      let last = client_after s c (from + (k + suc m)) in
      subst (λ (l : List Client). IsPlayed s order (before ++ names_from c from (k + suc m)) l shared b d frames) (set-set xs c v last)
      (subst (λ (j : ℕ). IsPlayed s order (before ++ names_from c from j) (set ys c (client_after s c (from + j))) shared b d frames) sum all)

-- ---- the run at an index

abbrev pub rest_of : List Run → ℕ → ℕ → List Name
rest_of runs i place =
    let r = run_at runs i in
    names_from r.client (place + 1) (r.last - place) ++ names_of_runs (drop (i + 1) runs)

abbrev pub name_at : List Run → ℕ → ℕ → Name
name_at runs i place = record { client = (run_at runs i).client; place = place }

-- the name of a place, with those before it and those behind it
pub split_at : (runs : List Run) (i place : ℕ) → i < length runs → (run_at runs i).first ≤ place → place ≤ (run_at runs i).last
    → names_of_runs runs ≡ names_below runs i place ++ name_at runs i place ∷ rest_of runs i place
split_at runs i place lt low high =
    let r = run_at runs i in
    let k = place - r.first in
    let front = names_of_runs (take i runs) in
    let behind = names_of_runs (drop (i + 1) runs) in
    let there : r.first + k ≡ place = omega (arith, low) in
    let left : r.last + 1 - r.first - k - 1 ≡ r.last - place = omega (arith, low, high) in
    name_of_run (names_of_runs runs) front behind r.client r.first (r.last + 1 - r.first) k (runs_at runs i (record { client = 0; first = 0; last = 0 }) lt) (omega (arith, low, high))
    ∙ ap (λ (p : ℕ). (front ++ names_from r.client r.first k) ++ record { client = r.client; place = p } ∷ (names_from r.client (p + 1) (r.last + 1 - r.first - k - 1) ++ behind)) there
    ∙ ap (λ (m : ℕ). (front ++ names_from r.client r.first k) ++ record { client = r.client; place = place } ∷ (names_from r.client (place + 1) m ++ behind)) left

-- one name more of the run
pub below_more : (runs : List Run) (i place : ℕ) → (run_at runs i).first ≤ place → names_below runs i place ++ name_at runs i place ∷ [] ≡ names_below runs i (place + 1)
below_more runs i place low =
    let r = run_at runs i in
    let k = place - r.first in
    let more : k + 1 ≡ place + 1 - r.first = omega (arith, low) in
    append_assoc (names_of_runs (take i runs)) (names_from r.client r.first k) (name_at runs i place ∷ [])
    ∙ ap (λ (l : List Name). names_of_runs (take i runs) ++ l) (sym (names_from_more r.client r.first k place (omega (arith, low))))
    ∙ ap (λ (m : ℕ). names_of_runs (take i runs) ++ names_from r.client r.first m) more

-- the run's names before its first one, and all of them
pub below_first : (runs : List Run) (i : ℕ) → names_below runs i (run_at runs i).first ≡ names_of_runs (take i runs)
below_first runs i =
    let r = run_at runs i in
    let zero_is : r.first - r.first ≡ 0 = omega arith in
    ap (λ (m : ℕ). names_of_runs (take i runs) ++ names_from r.client r.first m) zero_is ∙ append-nil (names_of_runs (take i runs))

pub below_end : (runs : List Run) (i place : ℕ) → i < length runs → place - (run_at runs i).first ≡ (run_at runs i).last + 1 - (run_at runs i).first
    → names_below runs i place ≡ names_of_runs (take (i + 1) runs)
below_end runs i place lt all =
    let r = run_at runs i in
    ap (λ (m : ℕ). names_of_runs (take i runs) ++ names_from r.client r.first m) all ∙ sym (runs_more runs i (record { client = 0; first = 0; last = 0 }) lt)

module _ (s : Scene) (runs : List Run) (i place : ℕ) (within : IsWithin s) (playable : IsPlayable s (names_of_runs runs)) (lt : i < length runs) (low : (run_at runs i).first ≤ place)
    (high : place ≤ (run_at runs i).last) where
  -- the run ends inside its client's stream
  pub run_inside : (run_at runs i).last + 1 ≤ length (stream_of s (run_at runs i).client)
  run_inside =
      let r = run_at runs i in
      let next = next_name s (names_of_runs runs) (names_below runs i r.last) (rest_of runs i r.last) (name_at runs i r.last) playable (split_at runs i r.last lt (omega (arith, low, high)) (omega arith)) in
      omega (arith, next.1)

  module _ (xs : List Client) (shared : List (Option Picture)) (b : Brush) (d : DeviceView) (frames : List Image) (h : IsPlayed s (names_of_runs runs) (names_below runs i place) xs shared b d frames) where
    pub client_there : slice_get xs (run_at runs i).client ≡ Some (client_after s (run_at runs i).client place)
    client_there = stands_before s (names_of_runs runs) (names_below runs i place) (rest_of runs i place) (name_at runs i place) within playable (split_at runs i place lt low high) xs shared b d frames h

    -- the frames that are due before the name of the place, and behind them
    pub due_there : (new : List Image) → length new ≡ max (length frames) (accepted_swaps s (run_at runs i).client place) → (k : ℕ) → length frames < k → k ≤ accepted_swaps s (run_at runs i).client place
        → Holds d (frame_pixel s (names_of_runs runs) k)
    due_there new count = frames_due s (names_of_runs runs) (names_below runs i place) (rest_of runs i place) (name_at runs i place) d d frames new playable (split_at runs i place lt low high) h.shown count

    pub frames_there : (new : List Image) → length new ≡ max (length frames) (accepted_swaps s (run_at runs i).client place) → new ≡ images_of s.decl (frame_pixel s (names_of_runs runs)) (length new)
        → IsPlayed s (names_of_runs runs) (names_below runs i place) xs shared b d new
    frames_there = played_to_frames s (names_of_runs runs) (names_below runs i place) (rest_of runs i place) (name_at runs i place) within playable (split_at runs i place lt low high) xs shared b d frames h

    module _ (due : accepted_swaps s (run_at runs i).client place ≤ length frames) where
      pub gathered_there : (reached : ℕ) → IsGatheredRun s (run_at runs i).client place ((run_at runs i).last + 1) reached
          → IsPlayed s (names_of_runs runs) (names_below runs i reached) (set xs (run_at runs i).client (client_after s (run_at runs i).client reached)) shared b d frames
      gathered_there reached run =
          let r = run_at runs i in
          let k = place - r.first in
          let m = reached - place in
          let at_place : r.first + k ≡ place = omega (arith, low) in
          let at_end : r.first + (k + m) ≡ reached = omega (arith, low, run.low) in
          let to_end : k + m ≡ reached - r.first = omega (arith, low, run.low) in
          let all = played_run s (names_of_runs runs) (names_of_runs (take i runs)) (names_of_runs (drop (i + 1) runs)) r.client r.first (r.last + 1 - r.first) within playable
          (runs_at runs i (record { client = 0; first = 0; last = 0 }) lt) shared b d frames m k xs (omega (arith, low, high, run.low, run.high))
          (λ p l u. run.gathered p (omega (arith, l, at_place)) (omega (arith, u, at_end)))
          (subst (λ (p : ℕ). accepted_swaps s r.client p ≤ length frames) (sym at_place) due)
          (client_there ∙ ap (λ (p : ℕ). Some (client_after s r.client p)) (sym at_place))
          h in
          subst (λ (p : ℕ). IsPlayed s (names_of_runs runs) (names_below runs i reached) (set xs r.client (client_after s r.client p)) shared b d frames) at_end
          (subst (λ (j : ℕ). IsPlayed s (names_of_runs runs) (names_of_runs (take i runs) ++ names_from r.client r.first j) (set xs r.client (client_after s r.client (r.first + (k + m)))) shared b d frames) to_end all)

      pub performed_there : (ys : List Client) (texels : List (Option Picture)) (v : Brush) (e : DeviceView) → ys ≡ issued_by s xs (name_at runs i place) → e.rect ≡ d.rect → TakesEffect s (name_at runs i place) shared d e
          → texels ≡ set_after (effect_by s (name_at runs i place)) shared → IsSettled ys d.rect v → IsPlayed s (names_of_runs runs) (names_below runs i (place + 1)) ys texels v e frames
      performed_there ys texels v e ys_is rect drawn texels_is settled =
          subst (λ (l : List Name). IsPlayed s (names_of_runs runs) l ys texels v e frames) (below_more runs i place low)
          (played_next s (names_of_runs runs) (names_below runs i place) (rest_of runs i place) (name_at runs i place) within playable (split_at runs i place lt low high) xs shared b d frames h due
          ys texels v e ys_is rect drawn texels_is settled)
