-- What a context examines for a draw, and a command that writes a shared texture.
use Rattle.std.proofs.Common.{◌≡◌, ℕ, ◌<◌, arith, ◌≤◌, Bool, true, false, [], ◌∷◌, length, ◌==◌, ◌&&◌, List, length-append, Some, None, ap}
use Rattle.std.proofs.lemmas.List.{get_or_past}
use Rattle.std.specs.List.{range_with_len}
use Rattle.std.specs.Option.{option_map_or}
use Rattle.std.specs.Prelude.{if◌then◌else◌, is_some}
use Rattle.std.specs.declared.option.Option.{Option}
use Rattle.rc_base.specs.Cluster.Parcels.{examined, sampled_images}
use Rattle.rc_base.specs.Contexts.Context.{default_state, ClientContext, private_image}
use Rattle.rc_base.specs.Contexts.Elements.{values_of, default_value, image_element, no_image, scalar_count}
use Rattle.rc_base.specs.Contexts.Issue.{done_by}
use Rattle.rc_base.specs.Drawing.Texel.{bound_kind, bound_name}
use Rattle.rc_base.specs.declared.command.Command.{Command}
use Rattle.rc_base.specs.declared.command.Part.{Part}
use Rattle.rc_base.specs.declared.scene.Decl.{Decl}
use Rattle.rc_base.specs.declared.state.Block.{Block}
use Rattle.rc_base.specs.declared.command.Command.TheVariants as cmd
use Rattle.rc_base.specs.declared.state.Effect.TheVariants as eff

pub default_is_no_image : (d : Decl) (name : ℕ) → 0 < name → default_value d (image_element name) ≡ no_image
unfolding values_of
default_is_no_image d name some = get_or_past (values_of (default_state d)) (image_element name) no_image (omega (arith, some))

pub few_if : (b : Bool) (n : ℕ) → length (if b then n ∷ [] else []) ≤ 1
few_if true n = omega arith
few_if false n = omega arith

pub few_examined : (x : ClientContext) (draws : Bool) → length (examined x draws) ≤ 23
few_examined x true =
    let one = few_if (x.state.texture_on && (bound_kind x.state == 0 && is_some (private_image x (bound_name x.state)))) (image_element (bound_name x.state)) in
    omega (arith, one, length-append (range_with_len 0 scalar_count) (sampled_images x))
few_examined x false = omega (arith, length-append (range_with_len 0 scalar_count) (let none : List ℕ = [] in none))

pub written_by_shared_image : (x : ClientContext) (c : Command) (part : Part) → done_by x c ≡ eff.Shared part → c ≡ cmd.SharedImage part
written_by_shared_image x (cmd.SharedImage p) part e = let same : p ≡ part = cc in ap (λ q. cmd.SharedImage q) same
written_by_shared_image x cmd.End part e = go x.block e
  where
    go : (o : Option Block) → option_map_or (λ b. eff.Block b) o eff.Quiet ≡ eff.Shared part → cmd.End ≡ cmd.SharedImage part
    go None e = absurd cc
    go (Some b) e = absurd cc
written_by_shared_image x c part e = absurd cc
