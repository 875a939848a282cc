use Rattle.race_check.proofs.reach.reach_of.Goals as goal

pub returns : goal.returns
returns c =
    let area = c.area_of-area.ensures in
    record {
      rows = λ x y lx ly t. (area.all x y lx ly t).0;
      columns = λ x y lx ly t. (area.all x y lx ly t).1;
      samples = c.samples_of.ensures.all;
      writes = c.writes_of.ensures.all;
      inside = (area.inside.0, area.inside.1, c.samples_of.ensures.inside, c.writes_of.ensures.inside);
    }
