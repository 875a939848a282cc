use Rattle.std.proofs.Common.{◌≡◌, rules, to_z, of_z, w32}
use Rattle.bounds_bucket.proofs.still.grown.Goals as goal

pub returns-clause-grown : goal.returns-clause-grown
returns-clause-grown c h =
    let a = c.args.a.now in
    let b = c.args.b.now in
    let d = c.args.c.now in
    let ax : to_z w32 (of_z w32 c.args.a.now.x) ≡ c.args.a.now.x = search rules in
    let bx : to_z w32 (of_z w32 c.args.b.now.x) ≡ c.args.b.now.x = search rules in
    let dx : to_z w32 (of_z w32 c.args.c.now.x) ≡ c.args.c.now.x = search rules in
    let ay : to_z w32 (of_z w32 c.args.a.now.y) ≡ c.args.a.now.y = search rules in
    let by' : to_z w32 (of_z w32 c.args.b.now.y) ≡ c.args.b.now.y = search rules in
    let dy : to_z w32 (of_z w32 c.args.c.now.y) ≡ c.args.c.now.y = search rules in
    record {
      across = simp (ax, bx, dx) at c.with_three.ensures;
      up = simp (ay, by', dy) at c.with_three-2.ensures;
    }
