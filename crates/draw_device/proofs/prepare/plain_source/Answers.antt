use Rattle.draw_device.proofs.prepare.plain_source.Goals as goal

pub returns-in-Some : goal.returns-in-Some
returns-in-Some c x y s = (c.requires.none, rw c.in-Some.is at c.requires.flat)

pub returns-in-None : goal.returns-in-None
returns-in-None c x y s = (c.requires.none, c.color_plane.ensures x y s)
