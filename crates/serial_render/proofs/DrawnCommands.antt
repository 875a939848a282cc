-- A command of a stream may be carried out on the device and the shared textures, and does to them what the definition says.
use Rattle.std.proofs.Common.{◌≡◌, ℕ, ◌+◌, ◌<◌, ◌≤◌, true, false, List, Some, None, refl, sym, ap, subst, ◌∙◌, arith, ltb-true, leb-true, eqb-true, inl, inr, ℤ, length, ◌*◌, ◌⊎◌}
use Rattle.std.specs.Prelude.{◌==◌, ◌&&◌, nat_lt, nat_le, slice_index, if◌then◌else◌}
use Rattle.std.specs.declared.option.Option.{Option}
use Rattle.std.specs.List.{AllByRecursion}
use Rattle.std.specs.Option.{option_map_or}
use Rattle.std.proofs.lemmas.Bool.{cases_Bool, and_parts}
use Rattle.rc_base.specs.Pictures.{Picture}
use Rattle.rc_base.specs.Formats.Commands.{IsCommand}
use Rattle.rc_base.specs.Contexts.Context.{ClientContext, private_image, private_count, shared_sides}
use Rattle.rc_base.specs.Contexts.Faults.{fault_of, is_name}
use Rattle.rc_base.specs.Contexts.Issue.{issued, refused, effect_of, carried_out, done_by, command_at, context_after, effect_at, stream_of}
use Rattle.rc_base.specs.Drawing.PixelStep.{effect_step, block_step}
use Rattle.rc_base.specs.Drawing.Serial.{stored}
use Rattle.rc_base.specs.Drawing.Texel.{SharedTexels, shared_picture, sampled, bound_kind, bound_name}
use Rattle.rc_base.specs.declared.command.Command.{Command}
use Rattle.rc_base.specs.declared.command.Command.TheVariants as cmd
use Rattle.rc_base.specs.declared.command.Part.{Part}
use Rattle.rc_base.specs.declared.scene.Decl.{Decl}
use Rattle.rc_base.specs.declared.scene.Scene.{Scene}
use Rattle.rc_base.specs.declared.state.Effect.{Effect}
use Rattle.rc_base.specs.declared.state.Effect.TheVariants as eff
use Rattle.rc_base.specs.declared.state.Fault.{Fault}
use Rattle.rc_base.specs.declared.window.Pixel.{Pixel}
use Rattle.textures.specs.Images.{HasTexelIfAny, texture_image}
use Rattle.textures.specs.Stores.{HasTexels}
use Rattle.textures.proofs.Stored.{written}
use Rattle.gl_context.specs.Valid.{IsValidContext}
use Rattle.gl_context.proofs.Accepted.{accepted}
use Rattle.gl_context.proofs.OneMoreCommand.{goes_on}
use Rattle.gl_context.proofs.ValidContexts.{command_of, stream_all, valid}
use Rattle.order_model.specs.Scenes.{HasSides}
use Rattle.draw_device.specs.Conditions.{IsDrawable, shared_of}
use Rattle.draw_device.specs.Stored.{IsStorable, set_after}
use Rattle.scene_lemmas.proofs.Contexts.{written_by_shared_image}

-- ---- the context after a command that draws draws the same as the one before it

module _ (x : ClientContext) (shareds : ℕ → Picture) (i j : ℤ) (old : Pixel) where
  same_done : (c : Command) → effect_step (carried_out x c).state (private_image (carried_out x c)) shareds (done_by x c) i j old ≡ effect_step x.state (private_image x) shareds (done_by x c) i j old
  same_done (cmd.Begin mode) = refl
  same_done cmd.End = refl
  same_done (cmd.Clear mask) = refl
  same_done c = refl

  same_step : (place : ℕ) (c : Command) → effect_step (issued x place c).state (private_image (issued x place c)) shareds (effect_of x c) i j old ≡ effect_step x.state (private_image x) shareds (effect_of x c) i j old
  unfolding issued effect_of
  same_step place c = by (fault_of x c)
    where
      by : (f : Option Fault)
          → effect_step (option_map_or (refused x place) f (carried_out x c)).state (private_image (option_map_or (refused x place) f (carried_out x c))) shareds (option_map_or (λ f. eff.Refused f) f (done_by x c)) i j old
          ≡ effect_step x.state (private_image x) shareds (option_map_or (λ f. eff.Refused f) f (done_by x c)) i j old
      by (Some f) = refl
      by None = same_done c

pub same_drawn : (s : Scene) (client place : ℕ) (c : Command) → command_at s client place ≡ Some c → (shareds : ℕ → Picture) (i j : ℤ) (old : Pixel)
    → effect_step (context_after s client (place + 1)).state (private_image (context_after s client (place + 1))) shareds (effect_at s client place) i j old
    ≡ effect_step (context_after s client place).state (private_image (context_after s client place)) shareds (effect_at s client place) i j old
same_drawn s client place c at shareds i j old =
    let x = context_after s client place in
    let next = goes_on s client place c at in
    ap (λ (y : ClientContext). effect_step y.state (private_image y) shareds (effect_at s client place) i j old) next.0
    ∙ ap (λ (e : Effect). effect_step (issued x place c).state (private_image (issued x place c)) shareds e i j old) next.1
    ∙ same_step x shareds i j old place c
    ∙ ap (λ (e : Effect). effect_step x.state (private_image x) shareds e i j old) (sym next.1)

-- ---- the texture that is bound

-- a bound shared texture is one of those that are declared
bound_shared : (decl : Decl) (x : ClientContext) → IsValidContext decl x → (bound_kind x.state == 1) ≡ true
    → (is_name (bound_name x.state) (length decl.shared) ≡ true) × (0 < bound_name x.state) × (bound_name x.state ≤ length decl.shared)
bound_shared decl x v kind =
    let one : bound_kind x.state ≡ 1 = eqb-true (bound_kind x.state) 1 kind in
    let named : is_name (bound_name x.state) (length decl.shared) ≡ true =
    subst (λ (k : ℕ). is_name (bound_name x.state) (if k == 0 then private_count else length decl.shared) ≡ true) one v.bound in
    let both = and_parts (nat_lt 0 (bound_name x.state)) (nat_le (bound_name x.state) (length decl.shared)) named in
    (named, ltb-true 0 (bound_name x.state) both.0, leb-true (bound_name x.state) (length decl.shared) both.1)

shared_is : (sizes : List (List ℕ)) (texels : SharedTexels) (set : List (Option Picture)) (name : ℕ) → HasTexels sizes texels set → 0 < name → name ≤ length sizes
    → shared_of set name ≡ shared_picture sizes texels name
shared_is sizes texels set name has low high = rw (has.each name low high) refl

module _ (decl : Decl) (x : ClientContext) (texels : SharedTexels) (set : List (Option Picture)) (v : IsValidContext decl x) (has : HasTexels decl.shared texels set) where
  sampled_is : (privates : ℕ → Option Picture) → sampled x.state privates (shared_of set) ≡ sampled x.state privates (shared_picture decl.shared texels)
  sampled_is privates = elim (cases_Bool (bound_kind x.state == 1)) [
    | inl t ↦
        let bound = bound_shared decl x v t in
        let same : shared_of set (bound_name x.state) ≡ shared_picture decl.shared texels (bound_name x.state) = shared_is decl.shared texels set (bound_name x.state) has bound.1 bound.2 in
        rw t (ap (λ (p : Picture). if x.state.texture_on then Some p else None) same)
    | inr f ↦ rw f refl
  ]

  -- a command samples of the set what it samples of its texels
  pub effect_is : (privates : ℕ → Option Picture) (e : Effect) (i j : ℤ) (old : Pixel)
      → effect_step x.state privates (shared_of set) e i j old ≡ effect_step x.state privates (shared_picture decl.shared texels) e i j old
  effect_is privates (eff.Block block) i j old = ap (λ (p : Option Picture). block_step x.state p block i j old) (sampled_is privates)
  effect_is privates eff.Quiet i j old = refl
  effect_is privates (eff.Refused f) i j old = refl
  effect_is privates (eff.Clear m) i j old = refl
  effect_is privates (eff.Shared p) i j old = refl
  effect_is privates (eff.Sync o) i j old = refl

  -- and the texture that it samples has a texel
  pub drawable : HasSides decl → IsDrawable x.state x.images set
  drawable sides = record { texel = by (cases_Bool x.state.texture_on) (cases_Bool (bound_kind x.state == 1)) }
    where
      private_texel : (o : Option Picture) → private_image x (bound_name x.state) ≡ o → HasTexelIfAny o
      private_texel None e = tt
      private_texel (Some p) e =
          let image = v.pictures (bound_name x.state) p e in
          (ltb-true 0 p.w (and_parts (nat_lt 0 p.w) (nat_le p.w 256) image.w).0, ltb-true 0 p.h (and_parts (nat_lt 0 p.h) (nat_le p.h 256) image.h).0)

      by : (x.state.texture_on ≡ true) ⊎ (x.state.texture_on ≡ false) → ((bound_kind x.state == 1) ≡ true) ⊎ ((bound_kind x.state == 1) ≡ false)
          → HasTexelIfAny (sampled x.state (texture_image x.images) (shared_of set))
      by (inr off) k = rw off tt
      by (inl on) (inr f) = rw (on, f) (private_texel (private_image x (bound_name x.state)) refl)
      by (inl on) (inl t) =
          let bound = bound_shared decl x v t in
          let same = shared_is decl.shared texels set (bound_name x.state) has bound.1 bound.2 in
          let both = and_parts _ _ (sides (bound_name x.state) bound.0) in
          let texel : HasTexelIfAny (Some (shared_picture decl.shared texels (bound_name x.state))) = (ltb-true 0 _ both.0, ltb-true 0 _ both.1) in
          rw (on, t) (subst (λ (p : Picture). HasTexelIfAny (Some p)) (sym same) texel)

-- ---- parts of shared textures

accepted_part : (x : ClientContext) (c : Command) (p : Part) → effect_of x c ≡ eff.Shared p → (fault_of x c ≡ None) × (c ≡ cmd.SharedImage p)
unfolding effect_of
accepted_part x c p = by (fault_of x c) refl
  where
    by : (f : Option Fault) → fault_of x c ≡ f → option_map_or (λ f. eff.Refused f) f (done_by x c) ≡ eff.Shared p → (fault_of x c ≡ None) × (c ≡ cmd.SharedImage p)
    by (Some f) is e = absurd cc
    by None is e = (is, written_by_shared_image x c p e)

part_texels : (p : Part) → IsCommand (cmd.SharedImage p) → length p.texels ≡ 4 * (p.w * p.h)
part_texels p i = i.1.1.1.0.2

part_writable : (decl : Decl) (x : ClientContext) (texels : SharedTexels) (set : List (Option Picture)) (p : Part) → IsValidContext decl x → HasTexels decl.shared texels set
    → fault_of x (cmd.SharedImage p) ≡ None → IsCommand (cmd.SharedImage p) → IsStorable p set
part_writable decl x texels set p v has passes is =
    let kept = accepted x (cmd.SharedImage p) passes in
    let named : is_name p.name (length decl.shared) ≡ true = subst (λ (sizes : List (List ℕ)). is_name p.name (length sizes) ≡ true) v.shared kept.values in
    let both = and_parts (nat_lt 0 p.name) (nat_le p.name (length decl.shared)) named in
    let low = ltb-true 0 p.name both.0 in
    let high = leb-true p.name (length decl.shared) both.1 in
    let fits : (nat_le (p.x + p.w) (slice_index (shared_sides decl.shared p.name) 0) && nat_le (p.y + p.h) (slice_index (shared_sides decl.shared p.name) 1)) ≡ true =
    subst (λ (sizes : List (List ℕ)). (nat_le (p.x + p.w) (slice_index (shared_sides sizes p.name) 0) && nat_le (p.y + p.h) (slice_index (shared_sides sizes p.name) 1)) ≡ true) v.shared kept.fits in
    let inside = and_parts (nat_le (p.x + p.w) (slice_index (shared_sides decl.shared p.name) 0)) (nat_le (p.y + p.h) (slice_index (shared_sides decl.shared p.name) 1)) fits in
    record {
      low = low;
      high = omega (arith, high, has.count);
      whole = part_texels p is;
      inside = rw (has.each p.name low high) (leb-true _ _ inside.0, leb-true _ _ inside.1);
    }

pub writable : (s : Scene) (client place : ℕ) (c : Command) (texels : SharedTexels) (set : List (Option Picture)) (p : Part)
    → AllByRecursion (AllByRecursion IsCommand) s.streams → command_at s client place ≡ Some c → HasTexels s.decl.shared texels set → effect_at s client place ≡ eff.Shared p
    → IsStorable p set
writable s client place c texels set p all at has e =
    let x = context_after s client place in
    let passed = accepted_part x c p (sym (goes_on s client place c at).1 ∙ e) in
    let fields = command_of (stream_of s client) place c (stream_all s.streams client all) at in
    part_writable s.decl x texels set p (valid s all client place) has (subst (λ (d : Command). fault_of x d ≡ None) passed.1 passed.0) (subst IsCommand passed.1 fields)

-- the shared textures after a command
pub texels_next : (sizes : List (List ℕ)) (texels : SharedTexels) (set : List (Option Picture)) (e : Effect) → HasTexels sizes texels set
    → ((p : Part) → e ≡ eff.Shared p → IsStorable p set) → HasTexels sizes (stored sizes e texels) (set_after e set)
texels_next sizes texels set (eff.Shared p) has w =
    let k = w p refl in
    written sizes texels set p has k.low (omega (arith, k.high, has.count)) k.whole k.inside
texels_next sizes texels set eff.Quiet has w = has
texels_next sizes texels set (eff.Refused f) has w = has
texels_next sizes texels set (eff.Block b) has w = has
texels_next sizes texels set (eff.Clear m) has w = has
texels_next sizes texels set (eff.Sync o) has w = has
