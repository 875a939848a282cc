-- Where a client's frames begin and end in its stream, by its Swaps.
use Rattle.std.proofs.Common.{◌≡◌, ℕ, zero, suc, ◌+◌, ◌-◌, ◌<◌, ◌≤◌, true, Bool, List, ◌∷◌, Some, length, drop, get_or, inl, inr, sym, ap, subst, ◌∙◌, arith, ℤ}
use Rattle.std.specs.Prelude.{fold}
use Rattle.std.specs.Option.{option_map_or}
use Rattle.std.specs.declared.option.Option.{Option}
use Rattle.std.proofs.Math.Seq.{drop-cons}
use Rattle.std.proofs.lemmas.Bool.{cases_lt}
use Rattle.std.proofs.lemmas.List.Sums.{fold_push}
use Rattle.std.proofs.lemmas.Option.{slice_get_past}
use Rattle.rc_base.specs.Contexts.Issue.{context_after, effect_at, effect_of, stream_of}
use Rattle.rc_base.specs.Drawing.Serial.{blank_pixel, accepted_swaps, is_swap_effect}
use Rattle.rc_base.specs.Orders.Journal.{SyncState, next, stop}
use Rattle.rc_base.specs.Orders.Order.{names_from}
use Rattle.rc_base.specs.Orders.Sync.{sync_row_of, sync_lists_of, length_of}
use Rattle.rc_base.specs.declared.command.Command.{Command}
use Rattle.rc_base.specs.declared.scene.Scene.{Scene}
use Rattle.rc_base.specs.declared.state.Effect.TheVariants as eff
use Rattle.rc_base.specs.declared.sync.Name.{Name}
use Rattle.rc_base.specs.declared.sync.SyncOp.TheVariants as op
use Rattle.rc_base.specs.declared.sync.WaitAt.{WaitAt}
use Rattle.rc_base.specs.declared.window.Pixel.{Pixel}
use Rattle.order_model.proofs.OrdersBySteps.{behind}
use Rattle.serial_render.proofs.AddedInTurn.{names_from_more}
use Rattle.stream_replay.proofs.AcceptedSwaps.{no_swaps}
use Rattle.sort_last.specs.Layers.{layer_pixel, cleared_pixel, clears}
use Rattle.sort_last.specs.Offends.{IsComposable}
use Rattle.sort_last.specs.Players.{draw_if, shows, place_in, start_of}
use Rattle.sort_last.specs.declared.play.DrawPass.TheVariants as pass
use Rattle.sort_last.proofs.FramesOfClients.{swap_is_still, IsFrame, others, layer_is, cleared_is}
use Rattle.sort_last.proofs.FramesOfJournals.{IsAt, waits_from, below_is, stop_in, next_in, frame_at, next_kinds, swap_next}

-- a Swap stands in the stream
swap_within : (scene : Scene) (c b : ℕ) → is_swap_effect (effect_at scene c b) ≡ true → b < length (stream_of scene c)
unfolding effect_at
swap_within scene c b is = elim (cases_lt b (length (stream_of scene c))) [
  | inl lt ↦ lt
  | inr ge ↦
      let none = ap (λ (o : Option Command). is_swap_effect (option_map_or (effect_of (context_after scene c b)) o eff.Quiet)) (slice_get_past (stream_of scene c) b ge) in
      absurd (cc (none, is))
]

at_same : (scene : Scene) (s : SyncState) (i j : ℕ) (f g : ℕ → ℕ) (c : ℕ) → i ≡ j → f c ≡ g c → IsAt scene s i f c → IsAt scene s j g c
at_same scene s i j f g c e same h = record {
  rest = h.rest ∙ ap (λ p. waits_from scene c p (length (stream_of scene c) - p)) same;
  within = omega (arith, h.within, same);
  before = λ n lt. omega (arith, h.before n (omega (arith, lt, same)), e);
  first = ap (accepted_swaps scene c) (sym same) ∙ h.first ∙ e;
}

module _ (scene : Scene) (d : IsComposable scene) (c : ℕ) (lt : c < length scene.streams) where
  abbrev ops : List WaitAt
  ops = (sync_row_of scene c).ops

  abbrev none : WaitAt
  none = record { place = 0; op = op.Swap }

  -- what is left of them
  abbrev state : ℕ → SyncState
  state k = record { rest = λ n. drop k ops; units = λ n. 0 }

  abbrev cursor : ℕ → ℕ → ℕ
  cursor k n = start_of ops k

  some_left : (k : ℕ) → k < length ops → drop k ops ≡ get_or ops k none ∷ drop (suc k) ops
  some_left k le = drop-cons ops k none le

  stop_is : (k : ℕ) → k < length ops → stop (sync_lists_of scene) (state k) c ≡ place_in ops k
  stop_is k le = ap (λ ws. stop_in ws (length_of (sync_lists_of scene) c)) (some_left k le)

  waits_swap : (k : ℕ) → k < length ops → IsAt scene (state k) k (cursor k) c → next (state k) c ≡ Some op.Swap
  waits_swap k le at = elim (next_kinds scene d (state k) k (cursor k) c at) [
    | inl gone ↦ let some : next (state k) c ≡ Some (get_or ops k none).op = ap next_in (some_left k le) in absurd (cc (gone, some))
    | inr is ↦ is
  ]

  at : (k : ℕ) → k ≤ length ops → IsAt scene (state k) k (cursor k) c
  at zero le =
      let end = length (stream_of scene c) in
      let e : end ≡ end - 0 = omega arith in
      record { rest = below_is scene c end ∙ ap (waits_from scene c 0) e; within = omega arith; before = λ i lt. absurd (omega (arith, lt)); first = sym (no_swaps scene c) }
  at (suc k) le =
      let less : k < length ops = omega (arith, le) in
      let here = at k (omega (arith, le)) in
      let on = swap_next scene d (state k) k (cursor k) c (waits_swap k less here) here in
      at_same scene (state (suc k)) (k + 1) (suc k) (behind (sync_lists_of scene) (state k)) (cursor (suc k)) c (omega arith) (ap (λ p. p + 1) (stop_is k less))
      (on.1 (state (suc k)) (sym (ap (drop 1) (some_left k less))))

  -- frame k ends at the Swap k
  pub bounds : (k : ℕ) → k < length ops → IsFrame scene c k (start_of ops k) (place_in ops k)
  bounds k le = subst (λ b. IsFrame scene c k (start_of ops k) b) (stop_is k le) (frame_at scene d (state k) k (cursor k) c lt (at k (omega (arith, le))))

  pub ends : (k : ℕ) → k < length ops → is_swap_effect (effect_at scene c (place_in ops k)) ≡ true
  ends k le =
      let here = at k (omega (arith, le)) in
      subst (λ b. is_swap_effect (effect_at scene c b) ≡ true) (stop_is k le) (swap_next scene d (state k) k (cursor k) c (waits_swap k le here) here).0

  pub in_order : (k : ℕ) → k < length ops → start_of ops k ≤ start_of ops (k + 1)
  in_order k le = let e : k + 1 ≡ suc k = omega arith in omega (arith, (bounds k le).order, ap (start_of ops) e)

  pub in_stream : (k : ℕ) → k < length ops → start_of ops (k + 1) ≤ length (stream_of scene c)
  in_stream k le = let e : k + 1 ≡ suc k = omega arith in omega (arith, swap_within scene c (place_in ops k) (ends k le), ap (start_of ops) e)

  -- the Swap itself draws nothing
  frame_fold : (k : ℕ) → k < length ops → (shown : Name → Bool) (x y : ℤ) (p : Pixel)
      → fold (draw_if scene x y shown) p (names_from c (start_of ops k) (start_of ops (k + 1) - start_of ops k))
      ≡ fold (draw_if scene x y shown) p (names_from c (start_of ops k) (place_in ops k - start_of ops k))
  frame_fold k le shown x y p =
      let f = draw_if scene x y shown in
      let a = start_of ops k in
      let b = place_in ops k in
      let n : Name = record { client = c; place = b } in
      let e : k + 1 ≡ suc k = omega arith in
      let order = (bounds k le).order in
      let count : start_of ops (k + 1) - a ≡ b - a + 1 = ap (λ m. start_of ops m - a) e ∙ omega (arith, order) in
      ap (λ m. fold f p (names_from c a m)) count
      ∙ ap (fold f p) (names_from_more c a (b - a) b (omega (arith, order)))
      ∙ fold_push f p (names_from c a (b - a)) n
      ∙ swap_is_still scene x y shown (fold f p (names_from c a (b - a))) n (ends k le)

  pub frame_layer : (k : ℕ) → k < length ops → (x y : ℤ)
      → fold (draw_if scene x y (shows pass.Layer scene)) blank_pixel (names_from c (start_of ops k) (start_of ops (k + 1) - start_of ops k)) ≡ layer_pixel scene c (k + 1) x y
  frame_layer k le x y = frame_fold k le (others scene) x y blank_pixel ∙ sym (layer_is scene d c k (start_of ops k) (place_in ops k) (bounds k le) x y)

-- client 0's Clears of a frame
pub frame_cleared : (scene : Scene) → IsComposable scene → 0 < length scene.streams → (k : ℕ) → k < length (sync_row_of scene 0).ops → (x y : ℤ) (p : Pixel)
    → (let ops = (sync_row_of scene 0).ops in
    fold (draw_if scene x y (shows pass.Clears scene)) p (names_from 0 (start_of ops k) (start_of ops (k + 1) - start_of ops k)) ≡ cleared_pixel scene (k + 1) x y p)
frame_cleared scene d lt k le x y p =
    let ops = (sync_row_of scene 0).ops in
    frame_fold scene d 0 lt k le (clears scene) x y p ∙ sym (cleared_is scene d k (start_of ops k) (place_in ops k) (bounds scene d 0 lt k le) x y p)
