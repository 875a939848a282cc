use Rattle.draw_device.proofs.prepare.takes_no_test.Goals as goal

pub returns : goal.returns
returns c done = record {
  ranged = c.has_depths.ensures.fragments done;
  through = c.requires.through c.if-not-plan.false;
  untested = c.requires.untested c.if-not-plan-2.false;
}
