use Rattle.draw_device.proofs.grid.Grid.draw_in_stages.Goals as goal

pub draw_settled-requires : goal.draw_settled-requires
draw_settled-requires c = record {
  grid = c.requires.grid;
  settled = record {
    source = (c.in-Some.ensures.none, c.in-Some.ensures.flat);
    tests = c.takes_no_test.ensures c.if-takes_no_test.true;
  };
}

pub draw_settled-requires-2 : goal.draw_settled-requires-2
draw_settled-requires-2 c = record {
  grid = c.requires.grid;
  settled = record {
    source = c.source_of-source.ensures _ _ c.shared_at-shared.ensures;
    tests = c.tests_of-tests.ensures _ _ c.shared_at-shared.ensures;
  };
}
