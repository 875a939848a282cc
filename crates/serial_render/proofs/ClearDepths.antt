-- The clear depth of every context of a stream lies in its range.
use Rattle.std.proofs.Common.{◌≡◌, ℕ, zero, suc, Bool, true, false, List, Some, None, refl, ap, ◌∙◌, sym, subst, arith, ℤ}
use Rattle.std.specs.Prelude.{◌==◌, ◌≤ℤ◌, pos, if◌then◌else◌}
use Rattle.std.specs.declared.option.Option.{Option}
use Rattle.std.specs.Option.{option_map_or}
use Rattle.std.proofs.lemmas.Int.{ints}
use Rattle.rc_base.specs.Pictures.{Picture, with_part}
use Rattle.rc_base.specs.Contexts.Context.{ClientContext, default_context, default_state, below, identity, top, private_image}
use Rattle.rc_base.specs.Contexts.Faults.{fault_of}
use Rattle.rc_base.specs.Contexts.Issue.{issued, issued_next, refused, carried_out, command_at, context_after, held, with_capability, with_top, with_below, with_image, last_of, front_of}
use Rattle.rc_base.specs.Numbers.{product_of}
use Rattle.rc_base.specs.declared.command.Command.{Command}
use Rattle.rc_base.specs.declared.command.Command.TheVariants as cmd
use Rattle.rc_base.specs.declared.command.Mat4.{Mat4}
use Rattle.rc_base.specs.declared.command.Part.{Part}
use Rattle.rc_base.specs.declared.scene.Scene.{Scene}
use Rattle.rc_base.specs.declared.state.Fault.{Fault}
use Rattle.rc_base.specs.declared.state.State.{State}
use Rattle.element_table.proofs.Capabilities.{capability_turned, without_capabilities}
use Rattle.draw_device.specs.Conditions.{IsClearable}

-- the depth lies in its range
abbrev InRange : ℤ → Type 0
InRange z = (pos 0 ≤ℤ z) × (z ≤ℤ pos 65536)

held_in_range : (z : ℤ) → InRange (held z)
held_in_range z = (grind (arith, ints), grind (arith, ints))

capability_depth : (s : State) (k : ℕ) (on : Bool) → (with_capability s k on).clear_depth ≡ s.clear_depth
capability_depth s k on =
    let rest : without_capabilities (with_capability s k on) ≡ without_capabilities s = (capability_turned s k on).rest in
    ap (λ (t : State). t.clear_depth) rest

top_depth : (x : ClientContext) (m : Mat4) → (with_top x m).state.clear_depth ≡ x.state.clear_depth
top_depth x m = by (x.matrix_mode == 0)
  where
    by : (b : Bool) → (if b then record x { state = record x.state { modelview = m } } else record x { state = record x.state { projection = m } }).state.clear_depth ≡ x.state.clear_depth
    by true = refl
    by false = refl

below_depth : (x : ClientContext) (ms : List Mat4) → (with_below x ms).state.clear_depth ≡ x.state.clear_depth
below_depth x ms = by (x.matrix_mode == 0)
  where
    by : (b : Bool) → (if b then record x { modelviews = ms } else record x { projections = ms }).state.clear_depth ≡ x.state.clear_depth
    by true = refl
    by false = refl

part_depth : (x : ClientContext) (part : Part) (o : Option Picture)
    → (option_map_or (λ (image : Picture). with_image x part.name (with_part image part)) o x).state.clear_depth ≡ x.state.clear_depth
part_depth x part None = refl
part_depth x part (Some image) = refl

-- ClearDepth alone sets it
depth_done : (x : ClientContext) (c : Command) → InRange x.state.clear_depth → InRange (carried_out x c).state.clear_depth
depth_done x (cmd.ClearDepth depth) h = held_in_range depth
depth_done x (cmd.Enable k) h = subst InRange (sym (capability_depth x.state k true)) h
depth_done x (cmd.Disable k) h = subst InRange (sym (capability_depth x.state k false)) h
depth_done x cmd.LoadIdentity h = subst InRange (sym (top_depth x identity)) h
depth_done x (cmd.LoadMatrix m) h = subst InRange (sym (top_depth x m)) h
depth_done x (cmd.MultMatrix m) h = subst InRange (sym (top_depth x (record { m = product_of (top x).m m.m }))) h
depth_done x cmd.PushMatrix h = subst InRange (sym (below_depth x _)) h
depth_done x cmd.PopMatrix h = subst InRange (sym (below_depth (with_top x (last_of (below x))) (front_of (below x)) ∙ top_depth x (last_of (below x)))) h
depth_done x (cmd.TexPart part) h = subst InRange (sym (part_depth x part (private_image x part.name))) h
depth_done x c h = h

depth_next : (x : ClientContext) (place : ℕ) (o : Option Command) → InRange x.state.clear_depth → InRange (issued_next x place o).state.clear_depth
unfolding issued
depth_next x place None h = h
depth_next x place (Some c) h = by (fault_of x c)
  where
    by : (f : Option Fault) → InRange (option_map_or (refused x place) f (carried_out x c)).state.clear_depth
    by (Some f) = h
    by None = depth_done x c h

depth_in_range : (s : Scene) (client n : ℕ) → InRange (context_after s client n).state.clear_depth
unfolding context_after default_context default_state
depth_in_range s client zero = (grind (arith, ints), grind (arith, ints))
depth_in_range s client (suc n) = depth_next (context_after s client n) n (command_at s client n) (depth_in_range s client n)

pub clearable : (s : Scene) (client n : ℕ) → IsClearable (context_after s client n).state
clearable s client n = record { low = (depth_in_range s client n).0; high = (depth_in_range s client n).1 }
