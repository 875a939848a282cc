-- The default order of a scene whose clients can be drawn apart, frame by frame: each client's names of the frame, clients rising, and then all Swaps.
use Rattle.std.proofs.Common.{◌≡◌, ℕ, zero, suc, ◌+◌, ◌-◌, ◌<◌, ◌≤◌, Bool, true, false, cond, List, [], ◌∷◌, ◌++◌, ◌⊎◌, Some, None, length, drop, map, min, inl, inr, refl, sym, ap, subst, ◌∙◌, arith, lt-ltb, le-ltb, ℤ, append_assoc, append-nil, eq-eqb}
use Rattle.std.specs.Prelude.{◌&&◌, fold, option_map}
use Rattle.std.specs.List.{range_with_len}
use Rattle.std.specs.Option.{option_map_or}
use Rattle.std.specs.declared.option.Option.{Option}
use Rattle.std.proofs.lemmas.Bool.{cases_lt, cases_Bool}
use Rattle.std.proofs.lemmas.List.FromFn.{map-range_with_len_more}
use Rattle.std.proofs.lemmas.List.Sums.{fold-append, fold_push}
use Rattle.rc_base.specs.Contexts.Issue.{context_after, effect_at, stream_of}
use Rattle.rc_base.specs.Drawing.Serial.{blank_pixel, accepted_swaps, is_swap_effect, is_below_swap, frame_pixel}
use Rattle.rc_base.specs.Drawing.Window.{depth_most}
use Rattle.rc_base.specs.Orders.Journal.{SyncState, start, head_wait, next, stop, has, how_many, is_member, IsLawful, after, IsLegal, IsLegalFrom}
use Rattle.rc_base.specs.Orders.Order.{names_from, all_added, performed, default_from, default_order}
use Rattle.rc_base.specs.Orders.Sync.{IsWellFormed, client_count, length_of, wait_of, waits_below, sync_lists_of}
use Rattle.rc_base.specs.declared.scene.Scene.{Scene}
use Rattle.rc_base.specs.declared.state.Effect.{Effect}
use Rattle.rc_base.specs.declared.state.Effect.TheVariants as eff
use Rattle.rc_base.specs.declared.state.State.{State}
use Rattle.rc_base.specs.declared.sync.Entry.{Entry}
use Rattle.rc_base.specs.declared.sync.Entry.TheVariants.{Meet, Swap, Give, Take}
use Rattle.rc_base.specs.declared.sync.Name.{Name}
use Rattle.rc_base.specs.declared.sync.SyncLists.{SyncLists}
use Rattle.rc_base.specs.declared.sync.SyncOp.{SyncOp}
use Rattle.rc_base.specs.declared.sync.SyncOp.TheVariants as op
use Rattle.rc_base.specs.declared.sync.SyncRow.{SyncRow}
use Rattle.rc_base.specs.declared.sync.WaitAt.{WaitAt}
use Rattle.rc_base.specs.declared.window.Pixel.{Pixel}
use Rattle.order_model.specs.Laws.{AreOfClients}
use Rattle.order_model.proofs.AddedNames.{Tracks, spread_is, spread_tracks}
use Rattle.order_model.proofs.ClientsBeyond.{ops_past, past_after, stop_past, member_within}
use Rattle.order_model.proofs.MemberCounts.{count_some}
use Rattle.order_model.proofs.OrdersBySteps.{behind, passed_by, performed_by, issued_by, spread}
use Rattle.order_model.proofs.SceneListsAreWellFormed.{scene_row}
use Rattle.order_model.proofs.SpreadIsRun.{passed_is}
use Rattle.order_model.proofs.StepsArePermitted.{performed_past, issued_past}
use Rattle.rc_base.specs.Drawing.Nearer.{nearer}
use Rattle.stream_replay.proofs.AcceptedSwaps.{swaps_le, no_swaps, swaps_after_other}
use Rattle.scene_lemmas.proofs.Scenes.{scene_client_count}
use Rattle.sort_last.specs.Layers.{clears, layer_pixel, merged_pixel, cleared_pixel, composed_pixel, is_of_frame, names_of}
use Rattle.sort_last.specs.Players.{draw, draw_if}
use Rattle.sort_last.specs.Offends.{keeps_nearest, has_drawn, is_offence, offends, IsComposable}
use Rattle.sort_last.proofs.DrawnByDepth.{IsDepth, name_within}
use Rattle.sort_last.proofs.FramesOfClients.{swaps_after_swap, fold_same, fold_still, shown_is, hidden_is, swap_is_still, canvas_is, in_names, IsFrame, inside_frame, layer_is, cleared_is, clears_first, no_clears, cleared_still, run_is}
use Rattle.sort_last.proofs.Nearer.{nearer_associative, nearer_depth, blank_behind}

-- ---- a client's operations, from a place on

abbrev pub waits_from : Scene → ℕ → ℕ → ℕ → List WaitAt
waits_from scene c p zero = []
waits_from scene c p (suc n) = wait_of p (effect_at scene c p) ++ waits_from scene c (p + 1) n

waits_push : (scene : Scene) (c p n : ℕ) → waits_from scene c p (suc n) ≡ waits_from scene c p n ++ wait_of (p + n) (effect_at scene c (p + n))
waits_push scene c p zero =
    let e : p ≡ p + 0 = omega arith in
    append-nil (wait_of p (effect_at scene c p)) ∙ ap (λ q. wait_of q (effect_at scene c q)) e
waits_push scene c p (suc n) =
    let e : p + 1 + n ≡ p + suc n = omega arith in
    let here = wait_of p (effect_at scene c p) in
    ap (λ ws. here ++ ws) (waits_push scene c (p + 1) n)
    ∙ ap (λ q. here ++ (waits_from scene c (p + 1) n ++ wait_of q (effect_at scene c q))) e
    ∙ sym (append_assoc here (waits_from scene c (p + 1) n) (wait_of (p + suc n) (effect_at scene c (p + suc n))))

pub below_is : (scene : Scene) (c n : ℕ) → waits_below scene c n ≡ waits_from scene c 0 n
unfolding waits_below
below_is scene c zero = refl
below_is scene c (suc n) =
    let e : n ≡ 0 + n = omega arith in
    ap (λ ws. ws ++ wait_of n (effect_at scene c n)) (below_is scene c n)
    ∙ ap (λ q. waits_from scene c 0 n ++ wait_of q (effect_at scene c q)) e
    ∙ sym (waits_push scene c 0 n)

-- ---- the first of them

no_wait : (s : State) (client : ℕ) (drawn : Bool) (p : ℕ) (e : Effect) → is_offence (keeps_nearest s) client drawn e ≡ false → is_swap_effect e ≡ false → wait_of p e ≡ []
no_wait s client drawn p eff.Quiet h n = refl
no_wait s client drawn p (eff.Refused f) h n = refl
no_wait s client drawn p (eff.Block b) h n = refl
no_wait s client drawn p (eff.Clear m) h n = refl
no_wait s client drawn p (eff.Shared t) h n = refl
no_wait s client drawn p (eff.Sync op.Swap) h n = absurd cc
no_wait s client drawn p (eff.Sync (op.Barrier b)) h n = absurd cc
no_wait s client drawn p (eff.Sync (op.SemP k)) h n = absurd cc
no_wait s client drawn p (eff.Sync (op.SemV k)) h n = absurd cc

no_wait_at : (scene : Scene) → IsComposable scene → (c p : ℕ) → is_swap_effect (effect_at scene c p) ≡ false → wait_of p (effect_at scene c p) ≡ []
unfolding offends
no_wait_at scene d c p n = no_wait (context_after scene c p).state c (has_drawn scene c p) p (effect_at scene c p) (d c p) n

swap_wait : (p : ℕ) (e : Effect) → is_swap_effect e ≡ true → wait_of p e ≡ record { place = p; op = op.Swap } ∷ []
swap_wait p (eff.Sync op.Swap) h = refl
swap_wait p (eff.Sync (op.Barrier b)) h = absurd cc
swap_wait p (eff.Sync (op.SemP k)) h = absurd cc
swap_wait p (eff.Sync (op.SemV k)) h = absurd cc
swap_wait p e h = absurd (cc h)

-- of the m commands from p on none is a Swap, or the first one stands at b
pub data FirstWait (scene : Scene) (c p m : ℕ) : Type 0 where
  NoWait : waits_from scene c p m ≡ [] → accepted_swaps scene c (p + m) ≡ accepted_swaps scene c p → FirstWait scene c p m
  SwapAt : (b : ℕ) → p ≤ b → b < p + m → is_swap_effect (effect_at scene c b) ≡ true → accepted_swaps scene c b ≡ accepted_swaps scene c p
      → waits_from scene c p m ≡ record { place = b; op = op.Swap } ∷ waits_from scene c (b + 1) (p + m - (b + 1)) → FirstWait scene c p m

first_wait : (scene : Scene) → IsComposable scene → (c p m : ℕ) → FirstWait scene c p m
first_wait scene d c p zero = let e : p + 0 ≡ p = omega arith in NoWait refl (ap (accepted_swaps scene c) e)
first_wait scene d c p (suc m) = elim (cases_Bool (is_swap_effect (effect_at scene c p))) [
  | inl t ↦
      let e : m ≡ p + suc m - (p + 1) = omega arith in
      SwapAt p (omega arith) (omega arith) t refl
      (ap (λ ws. ws ++ waits_from scene c (p + 1) m) (swap_wait p (effect_at scene c p) t) ∙ ap (λ k. record { place = p; op = op.Swap } ∷ waits_from scene c (p + 1) k) e)
  | inr f ↦ on (no_wait_at scene d c p f) (swaps_after_other scene c p f) (first_wait scene d c (p + 1) m)
]
  where
    on : wait_of p (effect_at scene c p) ≡ [] → accepted_swaps scene c (p + 1) ≡ accepted_swaps scene c p → FirstWait scene c (p + 1) m → FirstWait scene c p (suc m)
    on none same (NoWait empty swaps) =
        let e : p + suc m ≡ p + 1 + m = omega arith in
        NoWait (ap (λ ws. ws ++ waits_from scene c (p + 1) m) none ∙ empty) (ap (accepted_swaps scene c) e ∙ swaps ∙ same)
    on none same (SwapAt b low high is swaps waits) =
        let e : p + 1 + m - (b + 1) ≡ p + suc m - (b + 1) = omega arith in
        SwapAt b (omega (arith, low)) (omega (arith, high)) is (swaps ∙ same)
        (ap (λ ws. ws ++ waits_from scene c (p + 1) m) none ∙ waits ∙ ap (λ k. record { place = b; op = op.Swap } ∷ waits_from scene c (b + 1) k) e)

-- ---- where each client stands after j Swaps

pub record IsAt (scene : Scene) (s : SyncState) (j : ℕ) (cursor : ℕ → ℕ) (c : ℕ) : Type 0 where
  pub rest : s.rest c ≡ waits_from scene c (cursor c) (length (stream_of scene c) - cursor c)
  pub within : cursor c ≤ length (stream_of scene c)
  pub before : (i : ℕ) → i < cursor c → accepted_swaps scene c i < j
  pub first : accepted_swaps scene c (cursor c) ≡ j

abbrev pub stop_in : List WaitAt → ℕ → ℕ
stop_in ws n = option_map_or (λ (w : WaitAt). w.place) (head_wait ws) n

abbrev pub next_in : List WaitAt → Option SyncOp
next_in ws = option_map (λ (w : WaitAt). w.op) (head_wait ws)

module _ (scene : Scene) (d : IsComposable scene) where
  abbrev pub lists : SyncLists
  lists = sync_lists_of scene

  length_is : (c : ℕ) → c < length scene.streams → length_of lists c ≡ length (stream_of scene c)
  length_is c lt = ap (λ (r : SyncRow). r.length) (scene_row scene c lt)

  -- up to its next operation it has the names of frame j
  pub frame_at : (s : SyncState) (j : ℕ) (cursor : ℕ → ℕ) (c : ℕ) → c < length scene.streams → IsAt scene s j cursor c → IsFrame scene c j (cursor c) (stop lists s c)
  frame_at s j cursor c lt h = by (first_wait scene d c (cursor c) (length (stream_of scene c) - cursor c))
    where
      by : FirstWait scene c (cursor c) (length (stream_of scene c) - cursor c) → IsFrame scene c j (cursor c) (stop lists s c)
      by (NoWait empty swaps) =
          let at : stop lists s c ≡ length (stream_of scene c) = ap (λ ws. stop_in ws (length_of lists c)) (h.rest ∙ empty) ∙ length_is c lt in
          let all : cursor c + (length (stream_of scene c) - cursor c) ≡ length (stream_of scene c) = omega (arith, h.within) in
          subst (λ b. IsFrame scene c j (cursor c) b) (sym at) (record {
            order = h.within;
            within = omega arith;
            before = h.before;
            first = h.first;
            last = ap (accepted_swaps scene c) (sym all) ∙ swaps ∙ h.first;
            over = inl refl;
          })
      by (SwapAt b low high is swaps waits) =
          let at : stop lists s c ≡ b = ap (λ ws. stop_in ws (length_of lists c)) (h.rest ∙ waits) in
          subst (λ b. IsFrame scene c j (cursor c) b) (sym at) (record {
            order = low;
            within = omega (arith, high, h.within);
            before = h.before;
            first = h.first;
            last = swaps ∙ h.first;
            over = inr is;
          })

  -- a client waits for a Swap or for nothing
  pub next_kinds : (s : SyncState) (j : ℕ) (cursor : ℕ → ℕ) (c : ℕ) → IsAt scene s j cursor c → (next s c ≡ None) ⊎ (next s c ≡ Some op.Swap)
  next_kinds s j cursor c h = by (first_wait scene d c (cursor c) (length (stream_of scene c) - cursor c))
    where
      by : FirstWait scene c (cursor c) (length (stream_of scene c) - cursor c) → (next s c ≡ None) ⊎ (next s c ≡ Some op.Swap)
      by (NoWait empty swaps) = inl (ap next_in (h.rest ∙ empty))
      by (SwapAt b low high is swaps waits) = inr (ap next_in (h.rest ∙ waits))

  -- where it waits for one, that stands at its next operation's place, and then it stands behind it
  pub swap_next : (s : SyncState) (j : ℕ) (cursor : ℕ → ℕ) (c : ℕ) → next s c ≡ Some op.Swap → IsAt scene s j cursor c
      → (is_swap_effect (effect_at scene c (stop lists s c)) ≡ true) × ((t : SyncState) → t.rest c ≡ drop 1 (s.rest c) → IsAt scene t (j + 1) (behind lists s) c)
  swap_next s j cursor c waits h = by (first_wait scene d c (cursor c) (length (stream_of scene c) - cursor c))
    where
      by : FirstWait scene c (cursor c) (length (stream_of scene c) - cursor c)
          → (is_swap_effect (effect_at scene c (stop lists s c)) ≡ true) × ((t : SyncState) → t.rest c ≡ drop 1 (s.rest c) → IsAt scene t (j + 1) (behind lists s) c)
      by (NoWait empty swaps) = let none : next s c ≡ None = ap next_in (h.rest ∙ empty) in absurd (cc (none, waits))
      by (SwapAt b low high is swaps list) =
          let end = length (stream_of scene c) in
          let at : stop lists s c ≡ b = ap (λ ws. stop_in ws (length_of lists c)) (h.rest ∙ list) in
          let left : cursor c + (end - cursor c) - (b + 1) ≡ end - (stop lists s c + 1) = omega (arith, at, h.within) in
          let go : b + 1 ≡ stop lists s c + 1 = omega (arith, at) in
          let last = swaps ∙ h.first in (
            ap (λ p. is_swap_effect (effect_at scene c p)) at ∙ is,
            λ t e. record {
              rest = e ∙ ap (drop 1) (h.rest ∙ list) ∙ ap (waits_from scene c (b + 1)) left ∙ ap (λ p. waits_from scene c p (end - (stop lists s c + 1))) go;
              within = omega (arith, at, high, h.within);
              before = λ i lt. omega (arith, swaps_le scene c i b (omega (arith, lt, at)), last);
              first = ap (λ p. accepted_swaps scene c (p + 1)) at ∙ swaps_after_swap scene c b is ∙ ap (λ k. k + 1) last;
            },
          )

  -- ---- all entries are Swaps

  other_next : (s : SyncState) (c : ℕ) (o : SyncOp) → (next s c ≡ None) ⊎ (next s c ≡ Some op.Swap) → next s c ≡ Some o → o ≡ op.Swap
  other_next s c o (inl n) h = absurd (cc (n, h))
  other_next s c o (inr n) h = cc

  swap_alone : IsWellFormed lists → (s : SyncState) → ((c : ℕ) → c < client_count lists → (next s c ≡ None) ⊎ (next s c ≡ Some op.Swap)) → AreOfClients lists s
      → (e : Entry) → IsLawful lists s e → e ≡ Swap
  swap_alone well s kinds none Swap p = refl
  swap_alone well s kinds none (Give k c) p =
      let t : is_member (client_count lists) (Give k c) c ≡ true = eq-eqb c c refl in
      let no : op.SemV k ≡ op.Swap = other_next s c (op.SemV k) (kinds c (member_within lists s (Give k c) none p c t)) (p.next c t) in absurd cc
  swap_alone well s kinds none (Take k c) p =
      let t : is_member (client_count lists) (Take k c) c ≡ true = eq-eqb c c refl in
      let no : op.SemP k ≡ op.Swap = other_next s c (op.SemP k) (kinds c (member_within lists s (Take k c) none p c t)) (p.next c t) in absurd cc
  swap_alone well s kinds none (Meet b m) p =
      let counted = p.counted in
      let some = count_some m (client_count lists) (well.counts b (how_many (has m) (client_count lists)) counted.1) in
      let c = some.0 in
      let no : op.Barrier b ≡ op.Swap = other_next s c (op.Barrier b) (kinds c (member_within lists s (Meet b m) none p c some.1)) (p.next c some.1) in absurd cc

  module _ (depths : (c n : ℕ) → IsDepth (context_after scene c n).state.clear_depth) (k : ℕ) (x y : ℤ) where
    abbrev shown : Pixel → Name → Pixel
    shown = draw_if scene x y (is_below_swap scene k)

    abbrev frame : ℕ → Pixel
    frame j = composed_pixel scene j x y

    -- ---- one client's frame

    frame_shown : (c j a b : ℕ) → IsFrame scene c j a b → j < k → (p : Pixel) → fold shown p (names_from c a (b - a)) ≡ fold (draw scene x y) p (names_from c a (b - a))
    frame_shown c j a b h lt p =
        fold_same shown (draw scene x y) (names_from c a (b - a)) (λ q n i.
        let r = in_names c a (b - a) n i in
        let at : accepted_swaps scene n.client (n.place + 1) ≡ j =
        ap (λ e. accepted_swaps scene e (n.place + 1)) r.0 ∙ inside_frame scene c j a b h (n.place + 1) (omega (arith, r.1)) (omega (arith, r.2, h.order)) in
        shown_is scene x y (is_below_swap scene k) q n (lt-ltb _ _ (omega (arith, at, lt)))) p

    frame_hidden : (c j a b : ℕ) → IsFrame scene c j a b → k ≤ j → (p : Pixel) → fold shown p (names_from c a (b - a)) ≡ p
    frame_hidden c j a b h le p =
        fold_still shown (names_from c a (b - a)) (λ q n i.
        let r = in_names c a (b - a) n i in
        let at : accepted_swaps scene n.client (n.place + 1) ≡ j =
        ap (λ e. accepted_swaps scene e (n.place + 1)) r.0 ∙ inside_frame scene c j a b h (n.place + 1) (omega (arith, r.1)) (omega (arith, r.2, h.order)) in
        hidden_is scene x y (is_below_swap scene k) q n (le-ltb _ _ (omega (arith, at, le)))) p

    in_frame : (c j a b : ℕ) → IsFrame scene c j a b → (i : ℕ) → a ≤ i → i < a + (b - a) → accepted_swaps scene c i ≡ j
    in_frame c j a b h i low high = inside_frame scene c j a b h i low (omega (arith, high, h.order))

    first_client : (j a b : ℕ) → IsFrame scene 0 j a b → j < k → (p : Pixel) → p.depth ≤ depth_most
        → fold shown p (names_from 0 a (b - a)) ≡ nearer (cleared_pixel scene (j + 1) x y p) (layer_pixel scene 0 (j + 1) x y)
    first_client j a b h lt p le =
        let ns = names_from 0 a (b - a) in
        frame_shown 0 j a b h lt p
        ∙ run_is scene d depths x y ns (clears_first scene d 0 j a (b - a) (in_frame 0 j a b h)) p le
        ∙ (λ i. nearer (sym (cleared_is scene d j a b h x y p) i) (sym (layer_is scene d 0 j a b h x y) i))

    later_client : (c j a b : ℕ) → 0 < c → IsFrame scene c j a b → j < k → (p : Pixel) → p.depth ≤ depth_most
        → fold shown p (names_from c a (b - a)) ≡ nearer p (layer_pixel scene c (j + 1) x y)
    later_client c j a b some h lt p le =
        let ns = names_from c a (b - a) in
        frame_shown c j a b h lt p
        ∙ run_is scene d depths x y ns (clears_first scene d c j a (b - a) (in_frame c j a b h)) p le
        ∙ (λ i. nearer (cleared_still scene d depths x y ns (no_clears scene d c a (b - a) some) p i) (sym (layer_is scene d c j a b h x y) i))

    -- ---- the frame of all clients

    within_cleared : (shows : Name → Bool) → ((n : Name) → shows n ≡ true → clears scene n ≡ true) → (ns : List Name) (p : Pixel) → p.depth ≤ depth_most
        → (fold (draw_if scene x y shows) p ns).depth ≤ depth_most
    within_cleared shows h [] p le = le
    within_cleared shows h (n ∷ ns) p le = within_cleared shows h ns (draw_if scene x y shows p n) (elim (cases_Bool (shows n)) [
      | inl t ↦ subst (λ (q : Pixel). q.depth ≤ depth_most) (sym (shown_is scene x y shows p n t)) (name_within scene x y n (depths n.client n.place) (h n t) p le)
      | inr f ↦ subst (λ (q : Pixel). q.depth ≤ depth_most) (sym (hidden_is scene x y shows p n f)) le
    ])

    both_true : (a b : Bool) → (a && b) ≡ true → b ≡ true
    both_true true b h = h
    both_true false b h = absurd cc

    pub cleared_depths : (j : ℕ) (p : Pixel) → p.depth ≤ depth_most → (cleared_pixel scene j x y p).depth ≤ depth_most
    unfolding cleared_pixel
    cleared_depths j p le =
        subst (λ (q : Pixel). q.depth ≤ depth_most) (sym (canvas_is scene d x y (λ n. is_of_frame scene j n && clears scene n) (names_of scene 0) p))
        (within_cleared (λ n. is_of_frame scene j n && clears scene n) (λ n h. both_true (is_of_frame scene j n) (clears scene n) h) (names_of scene 0) p le)

    pub frame_depths : (j : ℕ) → (frame j).depth ≤ depth_most
    unfolding composed_pixel
    frame_depths zero = omega arith
    frame_depths (suc j) =
        let before = cleared_pixel scene (suc j) x y (frame j) in
        omega (arith, nearer_depth before (merged_pixel scene (suc j) x y), cleared_depths (suc j) (frame j) (frame_depths j))

    abbrev layers : ℕ → ℕ → Pixel
    layers j n = fold nearer blank_pixel (map (λ c. layer_pixel scene c (j + 1) x y) (range_with_len 0 n))

    layers_more : (j n : ℕ) → layers j (suc n) ≡ nearer (layers j n) (layer_pixel scene n (j + 1) x y)
    layers_more j n =
        let f = λ (c : ℕ). layer_pixel scene c (j + 1) x y in
        let more : suc n ≡ n + 1 = omega arith in
        ap (layers j) more
        ∙ ap (fold nearer blank_pixel) (map-range_with_len_more f 0 n n (omega arith))
        ∙ fold_push nearer blank_pixel (map f (range_with_len 0 n)) (f n)

    module _ (j : ℕ) (meant : ℕ → Bool) (places cursor : ℕ → ℕ) (n : ℕ) (all : (c : ℕ) → c < n → meant c ≡ true)
        (frames : (c : ℕ) → c < n → IsFrame scene c j (cursor c) (places c)) where
      -- what each client adds
      adds : (c : ℕ) → c < n → (p : Pixel) → fold shown p (spread meant places cursor (suc c)) ≡ fold shown (fold shown p (spread meant places cursor c)) (names_from c (cursor c) (places c - cursor c))
      adds c lt p =
          let names = names_from c (cursor c) (places c - cursor c) in
          ap (λ (b : Bool). fold shown p (spread meant places cursor c ++ cond b names [])) (all c lt) ∙ fold-append shown p (spread meant places cursor c) names

      spread_hidden : k ≤ j → (m : ℕ) → m ≤ n → (p : Pixel) → fold shown p (spread meant places cursor m) ≡ p
      spread_hidden le zero lt p = refl
      spread_hidden le (suc m) lt p =
          adds m (omega (arith, lt)) p ∙ ap (λ q. fold shown q (names_from m (cursor m) (places m - cursor m))) (spread_hidden le m (omega (arith, lt)) p)
          ∙ frame_hidden m j (cursor m) (places m) (frames m (omega (arith, lt))) le p

      spread_shown : j < k → (m : ℕ) → m < n → (p : Pixel) → p.depth ≤ depth_most
          → fold shown p (spread meant places cursor (suc m)) ≡ nearer (cleared_pixel scene (j + 1) x y p) (layers j (suc m))
      spread_shown lt zero ltn p le =
          let before = cleared_pixel scene (j + 1) x y p in
          let mine = layer_pixel scene 0 (j + 1) x y in
          adds 0 ltn p
          ∙ first_client j (cursor 0) (places 0) (frames 0 ltn) lt p le
          ∙ ap (λ q. nearer q mine) (sym (blank_behind before (cleared_depths (j + 1) p le)))
          ∙ nearer_associative before blank_pixel mine
      spread_shown lt (suc m) ltn p le =
          let before = cleared_pixel scene (j + 1) x y p in
          let mine = layer_pixel scene (suc m) (j + 1) x y in
          let so_far = spread_shown lt m (omega (arith, ltn)) p le in
          let here = nearer before (layers j (suc m)) in
          adds (suc m) ltn p
          ∙ ap (λ q. fold shown q (names_from (suc m) (cursor (suc m)) (places (suc m) - cursor (suc m)))) so_far
          ∙ later_client (suc m) j (cursor (suc m)) (places (suc m)) (omega arith) (frames (suc m) ltn) lt here
          (omega (arith, nearer_depth before (layers j (suc m)), cleared_depths (j + 1) p le))
          ∙ nearer_associative before (layers j (suc m)) mine
          ∙ ap (nearer before) (sym (layers_more j (suc m)))

    -- a whole frame
    turn_is : (j : ℕ) (meant : ℕ → Bool) (places cursor : ℕ → ℕ) → 0 < length scene.streams → ((c : ℕ) → c < length scene.streams → meant c ≡ true)
        → ((c : ℕ) → c < length scene.streams → IsFrame scene c j (cursor c) (places c))
        → fold shown (frame (min k j)) (spread meant places cursor (length scene.streams)) ≡ frame (min k (j + 1))
    unfolding composed_pixel merged_pixel
    turn_is j meant places cursor some all frames = elim (cases_lt j k) [
      | inr le ↦
          let a : min k j ≡ min k (j + 1) = omega (arith, le) in
          spread_hidden j meant places cursor (length scene.streams) all frames le (length scene.streams) (omega arith) (frame (min k j)) ∙ ap frame a
      | inl lt ↦
          let n = length scene.streams in
          let a : min k j ≡ j = omega (arith, lt) in
          let b : suc j ≡ min k (j + 1) = omega (arith, lt) in
          let c : n ≡ suc (n - 1) = omega (arith, some) in
          let e : j + 1 ≡ suc j = omega arith in
          ap (λ m. fold shown (frame m) (spread meant places cursor n)) a
          ∙ ap (λ m. fold shown (frame j) (spread meant places cursor m)) c
          ∙ spread_shown j meant places cursor n all frames lt (n - 1) (omega (arith, some)) (frame j) (frame_depths j)
          ∙ ap (λ m. nearer (cleared_pixel scene (j + 1) x y (frame j)) (layers j m)) (sym c)
          ∙ ap (λ m. nearer (cleared_pixel scene m x y (frame j)) (fold nearer blank_pixel (map (λ c. layer_pixel scene c m x y) (range_with_len 0 n)))) e
          ∙ ap frame b
    ]

    -- all Swaps
    swaps_are_still : (meant : ℕ → Bool) (at : ℕ → ℕ) (n : ℕ) → ((c : ℕ) → c < n → is_swap_effect (effect_at scene c (at c)) ≡ true) → (p : Pixel)
        → fold shown p (spread meant (λ c. at c + 1) at n) ≡ p
    swaps_are_still meant at zero h p = refl
    swaps_are_still meant at (suc n) h p =
        let names = names_from n (at n) (at n + 1 - at n) in
        fold-append shown p (spread meant (λ c. at c + 1) at n) (cond (meant n) names [])
        ∙ ap (λ q. fold shown q (cond (meant n) names [])) (swaps_are_still meant at n (λ c lt. h c (omega (arith, lt))) p)
        ∙ by (meant n)
      where
        by : (b : Bool) → fold shown p (cond b (names_from n (at n) (at n + 1 - at n)) []) ≡ p
        by false = refl
        by true =
            fold_still shown (names_from n (at n) (at n + 1 - at n)) (λ q m i.
            let r = in_names n (at n) (at n + 1 - at n) m i in
            let place : m.place ≡ at n = omega (arith, r.1, r.2) in
            swap_is_still scene x y (is_below_swap scene k) q m
            (ap (λ e. is_swap_effect (effect_at scene e m.place)) r.0 ∙ ap (λ e. is_swap_effect (effect_at scene n e)) place ∙ h n (omega arith))) p

    -- ---- along the journal

    tracks_same : (o : List Name) (f g : ℕ → ℕ) → ((c : ℕ) → f c ≡ g c) → Tracks o f → Tracks o g
    tracks_same o f g e h c = h c ∙ e c

    clients_are : client_count lists ≡ length scene.streams
    clients_are = scene_client_count scene

    swap_meets : (c : ℕ) → c < length scene.streams → is_member (client_count lists) Swap c ≡ true
    swap_meets c lt = lt-ltb c (client_count lists) (omega (arith, lt, clients_are))

    rest_after : (s : SyncState) (c : ℕ) → c < length scene.streams → (after lists s Swap).rest c ≡ drop 1 (s.rest c)
    rest_after s c lt = ap (λ b. cond b (drop 1 (s.rest c)) (s.rest c)) (swap_meets c lt)

    -- what the rest of a journal adds to an order that has each client's names up to its next operation
    abbrev pub FramesFrom : List Entry → Type 0
    FramesFrom js =
        (s : SyncState) (j : ℕ) (cursor : ℕ → ℕ) (o : List Name) → IsLegalFrom lists s js → AreOfClients lists s
        → ((c : ℕ) → c < length scene.streams → IsAt scene s j cursor c) → Tracks o (stop lists s) → fold shown blank_pixel o ≡ frame (min k (j + 1))
        → fold shown blank_pixel (default_from lists s js o) ≡ frame (min k (j + 1 + length js))

    swap_frames : IsWellFormed lists → (js : List Entry) → FramesFrom js → (s : SyncState) (j : ℕ) (cursor : ℕ → ℕ) (o : List Name) → IsLawful lists s Swap
        → IsLegalFrom lists (after lists s Swap) js → AreOfClients lists s → ((c : ℕ) → c < length scene.streams → IsAt scene s j cursor c) → Tracks o (stop lists s)
        → fold shown blank_pixel o ≡ frame (min k (j + 1)) → fold shown blank_pixel (default_from lists s (Swap ∷ js) o) ≡ frame (min k (j + 1 + length (Swap ∷ js)))
    swap_frames well js go s j cursor o lawful legal none at tracks so_far =
        let n = client_count lists in
        let t = after lists s Swap in
        let meant = is_member n Swap in
        let here = stop lists s in
        let mid = passed_by lists s Swap here in
        let last = issued_by lists t meant mid in
        let ones = performed_by lists s Swap here n in
        let more = spread meant (stop lists t) mid n in
        let none' = past_after lists s Swap none in
        let first : performed lists s Swap o ≡ o ++ ones = spread_is meant (behind lists s) here n o tracks in
        let tracks' : Tracks (o ++ ones) mid = spread_tracks meant (behind lists s) here n o tracks (performed_past lists s Swap here none lawful) in
        let second : all_added meant (stop lists t) n (o ++ ones) ≡ (o ++ ones) ++ more = spread_is meant (stop lists t) mid n (o ++ ones) tracks' in
        let tracks'' : Tracks ((o ++ ones) ++ more) last = spread_tracks meant (stop lists t) mid n (o ++ ones) tracks' (issued_past lists t meant mid none') in
        let nexts : (c : ℕ) → c < length scene.streams → (is_swap_effect (effect_at scene c (here c)) ≡ true) × ((t : SyncState) → t.rest c ≡ drop 1 (s.rest c) → IsAt scene t (j + 1) (behind lists s) c) =
        λ c lt. swap_next s j cursor c (lawful.next c (swap_meets c lt)) (at c lt) in
        let mid_is : (c : ℕ) → c < length scene.streams → mid c ≡ behind lists s c = λ c lt. passed_is meant (behind lists s) here c (omega arith) (swap_meets c lt) in
        let at' : (c : ℕ) → c < length scene.streams → IsAt scene t (j + 1) (behind lists s) c = λ c lt. (nexts c lt).1 t (rest_after s c lt) in
        let frames : (c : ℕ) → c < length scene.streams → IsFrame scene c (j + 1) (mid c) (stop lists t c) =
        λ c lt. subst (λ a. IsFrame scene c (j + 1) a (stop lists t c)) (sym (mid_is c lt)) (frame_at t (j + 1) (behind lists s) c lt (at' c lt)) in
        let last_is : (c : ℕ) → last c ≡ stop lists t c = λ c. elim (cases_lt c (length scene.streams)) [
          | inl lt ↦ passed_is meant (stop lists t) mid c (frames c lt).order (swap_meets c lt)
          | inr ge ↦
              let beyond : client_count lists ≤ c = omega (arith, ge, clients_are) in
              issued_past lists t meant mid none' c beyond ∙ performed_past lists s Swap here none lawful c beyond ∙ stop_past lists s none c beyond ∙ sym (stop_past lists t none' c beyond)
        ] in
        let some : 0 < length scene.streams = omega (arith, well.some, clients_are) in
        let value : fold shown blank_pixel ((o ++ ones) ++ more) ≡ frame (min k (j + 1 + 1)) =
        fold-append shown blank_pixel (o ++ ones) more
        ∙ ap (λ p. fold shown p more) (
        fold-append shown blank_pixel o ones
        ∙ swaps_are_still meant here n (λ c lt. (nexts c (omega (arith, lt, clients_are))).0) (fold shown blank_pixel o)
        ∙ so_far)
        ∙ ap (λ m. fold shown (frame (min k (j + 1))) (spread meant (stop lists t) mid m)) clients_are
        ∙ turn_is (j + 1) meant (stop lists t) mid some swap_meets frames in
        let count : j + 1 + 1 + length js ≡ j + 1 + length (Swap ∷ js) = omega arith in
        ap (λ u. fold shown blank_pixel (default_from lists t js (all_added meant (stop lists t) n u))) first
        ∙ ap (λ u. fold shown blank_pixel (default_from lists t js u)) second
        ∙ go t (j + 1) (behind lists s) ((o ++ ones) ++ more) legal none' at' (tracks_same ((o ++ ones) ++ more) last (stop lists t) last_is tracks'') value
        ∙ ap (λ m. frame (min k m)) count

    pub journal_frames : IsWellFormed lists → (js : List Entry) → FramesFrom js
    journal_frames well [] s j cursor o legal none at tracks so_far = let e : min k (j + 1) ≡ min k (j + 1 + 0) = omega arith in so_far ∙ ap frame e
    journal_frames well (e ∷ js) s j cursor o legal none at tracks so_far =
        subst (λ (e : Entry). IsLawful lists s e → IsLegalFrom lists (after lists s e) js → fold shown blank_pixel (default_from lists s (e ∷ js) o) ≡ frame (min k (j + 1 + length (e ∷ js))))
        (sym (swap_alone well s (λ c lt. next_kinds s j cursor c (at c (omega (arith, lt, clients_are)))) none e legal.0))
        (λ lawful rest. swap_frames well js (journal_frames well js) s j cursor o lawful rest none at tracks so_far) legal.0 legal.1

    -- ---- the whole order

    at_first : (c : ℕ) → c < length scene.streams → IsAt scene (start lists) 0 (λ c. 0) c
    at_first c lt =
        let end = length (stream_of scene c) in
        let e : end ≡ end - 0 = omega arith in
        record {
          rest = ap (λ (r : SyncRow). r.ops) (scene_row scene c lt) ∙ below_is scene c end ∙ ap (waits_from scene c 0) e;
          within = omega arith;
          before = λ i lt. absurd (omega (arith, lt));
          first = sym (no_swaps scene c);
        }

    pub frames_are : IsWellFormed lists → (js : List Entry) → IsLegal lists js → k ≤ length js → frame k ≡ frame_pixel scene (default_order lists js) k x y
    unfolding frame_pixel composed_pixel
    frames_are well js legal le =
        let n = client_count lists in
        let s = start lists in
        let zeros : Tracks [] (λ c. 0) = λ c. refl in
        let meant : ℕ → Bool = λ c. true in
        let first = spread meant (stop lists s) (λ c. 0) n in
        let cursor = issued_by lists s meant (λ c. 0) in
        let started : all_added meant (stop lists s) n [] ≡ first = spread_is meant (stop lists s) (λ c. 0) n [] zeros in
        let tracks : Tracks first cursor = spread_tracks meant (stop lists s) (λ c. 0) n [] zeros (issued_past lists s meant (λ c. 0) (ops_past lists)) in
        let cursor_is : (c : ℕ) → cursor c ≡ stop lists s c = λ c. passed_is meant (stop lists s) (λ c. 0) c (omega arith) refl in
        let some : 0 < length scene.streams = omega (arith, well.some, clients_are) in
        let none : 0 ≡ min k 0 = omega arith in
        let value : fold shown blank_pixel first ≡ frame (min k (0 + 1)) =
        ap (λ m. fold shown blank_pixel (spread meant (stop lists s) (λ c. 0) m)) clients_are
        ∙ ap (λ m. fold shown (frame m) (spread meant (stop lists s) (λ c. 0) (length scene.streams))) none
        ∙ turn_is 0 meant (stop lists s) (λ c. 0) some (λ c lt. refl) (λ c lt. frame_at s 0 (λ c. 0) c lt (at_first c lt)) in
        let all : min k (0 + 1 + length js) ≡ k = omega (arith, le) in
        sym (
        canvas_is scene d x y (is_below_swap scene k) (default_order lists js) blank_pixel
        ∙ ap (λ u. fold shown blank_pixel (default_from lists s js u)) started
        ∙ journal_frames well js s 0 (λ c. 0) first legal (ops_past lists) at_first (tracks_same first cursor (stop lists s) cursor_is tracks) value
        ∙ ap frame all)
