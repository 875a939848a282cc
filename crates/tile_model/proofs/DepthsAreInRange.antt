-- The depth range and the clear depth of every context of a stream lie between 0 and one.
use Rattle.std.proofs.Common.{◌≡◌, ℕ, zero, suc, ◌==◌, Bool, true, false, List, ℤ, Some, None, inl, inr, refl, sym, ap, subst, arith}
use Rattle.std.specs.declared.option.Option.{Option}
use Rattle.std.specs.Option.{option_map_or}
use Rattle.std.proofs.lemmas.Bool.{cases_Bool}
use Rattle.std.proofs.lemmas.Int.{ints}
use Rattle.rc_base.specs.Numbers.{entry, product_of}
use Rattle.rc_base.specs.Pictures.{Picture, with_part}
use Rattle.rc_base.specs.Contexts.Context.{ClientContext, default_context, default_state, identity, top, below, private_image}
use Rattle.rc_base.specs.Contexts.Faults.{fault_of}
use Rattle.rc_base.specs.Contexts.Issue.{issued, issued_next, refused, carried_out, command_at, context_after, with_top, with_below, with_capability, with_image, last_of, front_of, held}
use Rattle.rc_base.specs.declared.command.Command.{Command}
use Rattle.rc_base.specs.declared.command.Command.TheVariants as cmd
use Rattle.rc_base.specs.declared.command.Mat4.{Mat4}
use Rattle.rc_base.specs.declared.scene.Scene.{Scene}
use Rattle.rc_base.specs.declared.state.Fault.{Fault}
use Rattle.rc_base.specs.declared.state.State.{State}
use Rattle.element_table.specs.Values.{is_depth}
use Rattle.element_table.proofs.Capabilities.{capability_turned, without_capabilities}

pub record HasDepths (s : State) : Type 0 where
  pub near : is_depth (entry s.depth_range 0) ≡ true
  pub far : is_depth (entry s.depth_range 1) ≡ true
  pub clear : is_depth s.clear_depth ≡ true

held_is_depth : (z : ℤ) → is_depth (held z) ≡ true
held_is_depth z = grind (arith, ints)

same_depths : (s t : State) → t.depth_range ≡ s.depth_range → t.clear_depth ≡ s.clear_depth → HasDepths s → HasDepths t
same_depths s t e f h = record {
  near = subst (λ range. is_depth (entry range 0) ≡ true) (sym e) h.near;
  far = subst (λ range. is_depth (entry range 1) ≡ true) (sym e) h.far;
  clear = subst (λ depth. is_depth depth ≡ true) (sym f) h.clear;
}

capability_depths : (s : State) (k : ℕ) (on : Bool) → HasDepths s → HasDepths (with_capability s k on)
capability_depths s k on h =
    let rest : without_capabilities (with_capability s k on) ≡ without_capabilities s = (capability_turned s k on).rest in
    same_depths s _ (ap (λ (t : State). t.depth_range) rest) (ap (λ (t : State). t.clear_depth) rest) h

top_depths : (x : ClientContext) (m : Mat4) → HasDepths x.state → HasDepths (with_top x m).state
top_depths x m h = elim (cases_Bool (x.matrix_mode == 0)) [ inl t ↦ rw t (same_depths x.state _ refl refl h) | inr f ↦ rw f (same_depths x.state _ refl refl h) ]

below_depths : (x : ClientContext) (ms : List Mat4) → HasDepths x.state → HasDepths (with_below x ms).state
below_depths x ms h = elim (cases_Bool (x.matrix_mode == 0)) [ inl t ↦ rw t h | inr f ↦ rw f h ]

part_depths : (x : ClientContext) (name : ℕ) (f : Picture → Picture) (o : Option Picture) → HasDepths x.state → HasDepths (option_map_or (λ (p : Picture). with_image x name (f p)) o x).state
part_depths x name f None h = h
part_depths x name f (Some p) h = h

carried_depths : (x : ClientContext) (c : Command) → HasDepths x.state → HasDepths (carried_out x c).state
carried_depths x (cmd.Enable capability) h = capability_depths x.state capability true h
carried_depths x (cmd.Disable capability) h = capability_depths x.state capability false h
carried_depths x cmd.LoadIdentity h = top_depths x identity h
carried_depths x (cmd.LoadMatrix m) h = top_depths x m h
carried_depths x (cmd.MultMatrix m) h = top_depths x (record { m = product_of (top x).m m.m }) h
carried_depths x cmd.PushMatrix h = below_depths x _ h
carried_depths x cmd.PopMatrix h = below_depths (with_top x (last_of (below x))) (front_of (below x)) (top_depths x (last_of (below x)) h)
carried_depths x (cmd.DepthRange near far) h = record { near = held_is_depth near; far = held_is_depth far; clear = h.clear }
carried_depths x (cmd.ClearDepth depth) h = record { near = h.near; far = h.far; clear = held_is_depth depth }
carried_depths x (cmd.TexPart part) h = part_depths x part.name (λ image. with_part image part) (private_image x part.name) h
carried_depths x c h = record { near = h.near; far = h.far; clear = h.clear }

by_fault : (x : ClientContext) (place : ℕ) (c : Command) (f : Option Fault) → HasDepths x.state → HasDepths (option_map_or (refused x place) f (carried_out x c)).state
by_fault x place c None h = carried_depths x c h
by_fault x place c (Some f) h = h

next_depths : (x : ClientContext) (place : ℕ) (c : Option Command) → HasDepths x.state → HasDepths (issued_next x place c).state
unfolding issued
next_depths x place None h = h
next_depths x place (Some c) h = by_fault x place c (fault_of x c) h

pub depths_at : (scene : Scene) (client n : ℕ) → HasDepths (context_after scene client n).state
unfolding context_after default_context default_state
depths_at scene client zero = record { near = refl; far = refl; clear = refl }
depths_at scene client (suc n) = next_depths (context_after scene client n) n (command_at scene client n) (depths_at scene client n)
