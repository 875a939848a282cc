use Rattle.draw_device.proofs.Runs.{no_texel, sampled_texel}
use Rattle.draw_device.proofs.prepare.source_of.Goals as goal

pub texel_source-requires-clause-texel : goal.texel_source-requires-clause-texel
texel_source-requires-clause-texel c = sampled_texel _ _ _ c.in-Some.sampler c.in-Some.ensures

pub plain_source-requires-clause-none : goal.plain_source-requires-clause-none
plain_source-requires-clause-none c = no_texel c.args.texture.now c.requires.texel c.in-None.ensures
