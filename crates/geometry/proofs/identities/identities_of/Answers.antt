use Rattle.geometry.proofs.identities.identities_of.Goals as goal

pub returns : goal.returns
returns c = record {
  modelview = c.is_identity.ensures.fixes;
  projection = c.is_identity-2.ensures.fixes;
  usual = λ u. record {
    width = c.is_usual.ensures.width u;
    height = c.is_usual.ensures.height u;
    near = c.is_usual.ensures.near u;
    far = c.is_usual.ensures.far u;
  };
}
