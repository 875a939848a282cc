use Rattle.draw_device.proofs.prepare.tests_of.Goals as goal

pub returns-then-not-has_depths : goal.returns-then-not-has_depths
returns-then-not-has_depths c x y s = c.depth_plane.ensures x y s

pub returns-then-plan-2 : goal.returns-then-plan-2
returns-then-plan-2 c x y s = record {
  ranged = c.has_depths.ensures.fragments c.if-not-has_depths.false;
  through = c.requires.through c.if-plan-2.true;
  untested = c.requires.untested c.if-plan.true;
}

pub returns-then-plan : goal.returns-then-plan
returns-then-plan c x y s = record { ranged = c.has_depths.ensures.fragments c.if-not-has_depths.false; untested = c.requires.untested c.if-plan.true }

pub returns-then-plan-3 : goal.returns-then-plan-3
returns-then-plan-3 c x y s = record {
  depths = record { ranged = c.has_depths.ensures.fragments c.if-not-has_depths.false; plane = c.depth_plane-then-plan-3.ensures x y s };
  through = c.requires.through c.if-plan-3.true;
}

pub returns : goal.returns
returns c x y s = record { ranged = c.has_depths.ensures.fragments c.if-not-has_depths.false; plane = c.depth_plane-2.ensures x y s }
