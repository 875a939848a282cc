use Rattle.std.proofs.Common.{◌≡◌, ◌≤◌, length, take}
use Rattle.std.specs.Vec.{vec_len, vec_capacity}
use Rattle.draw_device.specs.Pixels.{pixels_of}
use Rattle.draw_device.proofs.grid.Grid.copy.Given as goal

abbrev pub invariant-loop-k : goal.invariant-loop-k
invariant-loop-k l =
    record {
      pixels : l.pixels.items ≡ pixels_of (take l.k l.colors) (take l.k l.depths);
      len : vec_len l.pixels ≡ l.k;
      capacity : length l.colors ≤ vec_capacity l.pixels;
    }
