use Rattle.std.proofs.Common.{arith, rules}
use Rattle.textures.proofs.Stored.{blank}
use Rattle.sort_last.proofs.compose.draw_frames.Goals as goal

pub invariant_of-all : goal.invariant_of-all
invariant_of-all g c =
    let s = c.args.scene.now in
    record {
      ready = record {
        within = c.requires.within;
        blank = rw (c.in_ok-shared.ensures, c.decl.ensures) (blank s);
        composable = c.requires.composable;
      };
      lists = c.requires.syncs;
      order = omega arith;
      frames = c.requires.frames;
    }

pub show_frames-requires : goal.show_frames-requires
show_frames-requires g c =
    (search rules, c.in_ok-composition.ensures)
