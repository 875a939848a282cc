use Rattle.std.proofs.Common.{◌≡◌, Some, sym, subst, true}
use Rattle.rc_base.specs.declared.state.ElementValue.{ElementValue}
use Rattle.textures.specs.Images.{picture}
use Rattle.element_table.specs.Values.{is_value_of}
use Rattle.element_table.proofs.KindsOfValues.{image_given}
use Rattle.tile_server.specs.Kepts.{HasImage}
use Rattle.tile_server.proofs.MadeSets.{image_set, no_image_set, same_count}
use Rattle.tile_server.proofs.sets.set_image.Goals as goal

pub image_name-requires : goal.image_name-requires
image_name-requires c =
    let i = c.in-Image in
    let d = c.requires.value.decl in
    image_given d c.args.element i.edit i.w i.h i.texels (subst (λ (v : ElementValue). is_value_of d c.args.element v ≡ true) i.is c.requires.value.is)

pub returns-in-Image-clause-image : goal.returns-in-Image-clause-image
returns-in-Image-clause-image c =
    let i = c.in-Image in
    let element = c.args.element in
    let d = c.requires.value.decl in
    let is = subst (λ (v : ElementValue). is_value_of d element v ≡ true) i.is c.requires.value.is in
    subst (λ (v : ElementValue). HasImage element v c.args.images.now c.put.new.self) (sym i.is)
    (image_set d element i.edit i.w i.h i.texels c.image_name.result c.args.images.now c.put.new.self is c.requires.count c.image_name.ensures.name c.image_name.ensures.low c.put.ensures)

pub returns-in-Image-clause-count : goal.returns-in-Image-clause-count
returns-in-Image-clause-count c =
    same_count c.args.images.now c.put.new.self c.image_name.result (Some (picture c.in-Image.w c.in-Image.h c.in-Image.texels)) c.requires.count c.put.ensures

pub returns-in_default : goal.returns-in_default
returns-in_default c = record {
  count = c.requires.count;
  image = no_image_set c.requires.value.decl c.args.element c.args.value c.args.images.now c.requires.value.is c.in_default.not-Image;
}
