-- What is settled for the blocks of a client stays settled along its commands that leave its state as it is.
use Rattle.std.proofs.Common.{◌≡◌, ◌≢◌, ℕ, ◌+◌, ◌<◌, ◌==◌, List, Some, Option, get_or, sym, ap, subst, ◌∙◌, arith, inl, inr, eqb-true, length, length-set}
use Rattle.std.specs.Prelude.{slice_get}
use Rattle.std.specs.Option.{option_map_or}
use Rattle.std.proofs.lemmas.Bool.{cases_Bool, eqb-false}
use Rattle.std.proofs.lemmas.List.{get_or-set_same, get_or-set_other}
use Rattle.std.proofs.lemmas.Option.{slice_get_within, slice_get-get_or, get_or_from_slice_get}
use Rattle.rc_base.specs.declared.scene.Scene.{Scene}
use Rattle.rc_base.specs.declared.state.State.{State}
use Rattle.rc_base.specs.declared.sync.Name.{Name}
use Rattle.rc_base.specs.declared.window.Rect.{Rect}
use Rattle.draw_device.specs.Prepared.{IsPreparedFor}
use Rattle.stream_replay.specs.Blocks.{KeepsState}
use Rattle.stream_replay.specs.Clients.{StandsBefore, client_after, issued_by}
use Rattle.stream_replay.specs.declared.client.Client.{Client}
use Rattle.serial_render.specs.Performed.{IsSettled}
use Rattle.serial_render.specs.declared.brush.Brush.{Brush}

module _ (s : Scene) (n : Name) (xs ys : List Client) (before : StandsBefore s xs n) (is : ys ≡ issued_by s xs n) where
  was_there : n.client < length xs
  was_there = slice_get_within xs n.client (client_after s n.client n.place) before

  pub is_there : n.client < length ys
  is_there = omega (arith, was_there, ap length is, length-set xs n.client (client_after s n.client (n.place + 1)))

  -- the name's client stands behind the name
  pub now_is : (x : Client) → slice_get ys n.client ≡ Some x → x ≡ client_after s n.client (n.place + 1)
  now_is x at =
      sym (get_or_from_slice_get ys n.client x x at) ∙ ap (λ (l : List Client). get_or l n.client x) is
      ∙ get_or-set_same xs n.client (client_after s n.client (n.place + 1)) x was_there

  -- and another one where it stood
  other_is : (k : ℕ) (x : Client) → k ≢ n.client → slice_get ys k ≡ Some x → slice_get xs k ≡ Some x
  other_is k x other at =
      let v = client_after s n.client (n.place + 1) in
      let lt : k < length xs = omega (arith, slice_get_within ys k x at, ap length is, length-set xs n.client v) in
      slice_get-get_or xs k x lt
      ∙ ap (λ (y : Client). Some y) (sym (get_or-set_other xs n.client k v x other) ∙ ap (λ (l : List Client). get_or l k x) (sym is) ∙ get_or_from_slice_get ys k x x at)

  module _ (rect : Rect) (b : Brush) (settled : IsSettled xs rect b) (keeps : KeepsState s n) where
    -- what is settled for the name's client is so for its state behind the name
    pub known : b.of ≡ Some n.client → (x : Client) → x ≡ client_after s n.client (n.place + 1) → IsPreparedFor x.context.state rect b.prepared
    known of x x_is =
        subst (λ (t : State). IsPreparedFor t rect b.prepared) (sym (ap (λ (y : Client). y.context.state) x_is ∙ keeps))
        (settled n.client (client_after s n.client n.place) of before)

    pub settled_stays : IsSettled ys rect b
    settled_stays client x of at = elim (cases_Bool (client == n.client)) [
      | inl t ↦
          let here : client ≡ n.client = eqb-true client n.client t in
          known (of ∙ ap (λ (k : ℕ). Some k) here) x (now_is x (subst (λ (k : ℕ). slice_get ys k ≡ Some x) here at))
      | inr f ↦ settled client x of (other_is client x (eqb-false client n.client f) at)
    ]

  -- what was settled behind the name is of the name's client alone
  pub settled_anew : (rect : Rect) (b : Brush) (x : Client) → x ≡ client_after s n.client (n.place + 1) → b.of ≡ Some n.client → IsPreparedFor x.context.state rect b.prepared → IsSettled ys rect b
  settled_anew rect b x x_is of_n prepared client y of at =
      let here : client ≡ n.client = ap (λ (o : Option ℕ). option_map_or (λ k. k) o client) (sym of ∙ of_n) in
      let y_is = now_is y (subst (λ (k : ℕ). slice_get ys k ≡ Some y) here at) in
      subst (λ (z : Client). IsPreparedFor z.context.state rect b.prepared) (x_is ∙ sym y_is) prepared
