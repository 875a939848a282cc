-- Which parcels a scene can give.
use Rattle.std.specs.Prelude.{◌*◌, ◌==◌, ◌&&◌, Bool, true, length, slice_index}
use Rattle.std.specs.List.{list_all}
use Rattle.rc_base.specs.Contexts.Context.{shared_sides}
use Rattle.rc_base.specs.Contexts.Faults.{is_name, lies_inside}
use Rattle.rc_base.specs.declared.command.Part.{Part}
use Rattle.rc_base.specs.declared.scene.Decl.{Decl}
use Rattle.rc_base.specs.declared.state.Act.{Act}
use Rattle.rc_base.specs.declared.state.Act.TheVariants as act
use Rattle.rc_base.specs.declared.state.ElementSet.{ElementSet}
use Rattle.rc_base.specs.declared.state.Parcel.{Parcel}
use Rattle.element_table.specs.Values.{is_value_of}

-- ---- acts

-- a part of a shared texture: of a declared one, inside it, with four bytes for each texel
abbrev pub is_shared_part : Decl → Part → Bool
is_shared_part d part =
    (is_name part.name (length d.shared) && length part.texels == 4 * (part.w * part.h))
    && lies_inside part (slice_index (shared_sides d.shared part.name) 0) (slice_index (shared_sides d.shared part.name) 1)

abbrev pub is_givable_act : Decl → Act → Bool
is_givable_act d (act.Draw block) = true
is_givable_act d (act.Clear mask) = true
is_givable_act d (act.Shared part) = is_shared_part d part
is_givable_act d (act.Sync op) = true
is_givable_act d act.End = true

-- ---- parcels

-- each of its values is one that its element can have, and so is what it writes
abbrev pub is_givable : Decl → Parcel → Bool
is_givable d parcel = list_all (λ (set : ElementSet). is_value_of d set.element set.value) parcel.sets && is_givable_act d parcel.act
