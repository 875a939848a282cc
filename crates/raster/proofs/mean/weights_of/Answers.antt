use Rattle.std.proofs.Common.{◌∙◌, to_z-of_z, w64, FitsSigned, rules}
use Rattle.raster.proofs.Average.{inside_weights, area_small}
use Rattle.raster.proofs.mean.weights_of.Goals as goal

pub invariant_of-result-clause-weights : goal.invariant_of-result-clause-weights
invariant_of-result-clause-weights c =
    let v = c.args.tri.now.v in
    let w = inside_weights v c.args.x c.args.y c.requires.inside in
    let f : FitsSigned w64 c.args.tri.now.area = search rules in
    let e0 = rw (c.requires.across, c.requires.up) at c.requires.first in
    let e1 = rw (c.requires.across, c.requires.up) at c.requires.second in
    let e2 = rw (c.requires.across, c.requires.up) at c.requires.third in
    let a : FitsSigned w64 c.args.weights.0 = search rules in
    let b : FitsSigned w64 c.args.weights.1 = search rules in
    let d : FitsSigned w64 c.args.weights.2 = search rules in
    rw (to_z-of_z a, to_z-of_z b, to_z-of_z d, e0, e1, e2, to_z-of_z f, c.args.tri.now.area_is) w

pub invariant_of-result-clause-some : goal.invariant_of-result-clause-some
invariant_of-result-clause-some c =
    let f : FitsSigned w64 c.args.tri.now.area = search rules in
    rw (to_z-of_z f) c.args.tri.now.positive

pub invariant_of-result-clause-small : goal.invariant_of-result-clause-small
invariant_of-result-clause-small c =
    let f : FitsSigned w64 c.args.tri.now.area = search rules in
    rw (to_z-of_z f, c.args.tri.now.area_is) (area_small c.args.tri.now.v c.args.tri.now.bounded)

pub returns : goal.returns
returns c =
    let f : FitsSigned w64 c.args.tri.now.area = search rules in
    let a : FitsSigned w64 c.args.weights.0 = search rules in
    let b : FitsSigned w64 c.args.weights.1 = search rules in
    let d : FitsSigned w64 c.args.weights.2 = search rules in
    record {
      first = to_z-of_z a ∙ (rw (c.requires.across, c.requires.up) at c.requires.first);
      second = to_z-of_z b ∙ (rw (c.requires.across, c.requires.up) at c.requires.second);
      third = to_z-of_z d ∙ (rw (c.requires.across, c.requires.up) at c.requires.third);
      area = to_z-of_z f ∙ c.args.tri.now.area_is;
    }
