use Rattle.draw_device.proofs.prepare.texel_source.Goals as goal

pub returns-then-plan : goal.returns-then-plan
returns-then-plan c x y s =
    let p = c.coordinate_planes.ensures in
    (record { texel = c.requires.texel; sampler = c.requires.sampler; across = p.s x y s; up = p.t x y s }, c.requires.plan.replaces c.if-plan.true)

pub returns : goal.returns
returns c x y s =
    let p = c.coordinate_planes.ensures in
    (record { texel = c.requires.texel; sampler = c.requires.sampler; across = p.s x y s; up = p.t x y s }, c.requires.plan.modulates c.if-plan.false, c.color_plane.ensures x y s)
