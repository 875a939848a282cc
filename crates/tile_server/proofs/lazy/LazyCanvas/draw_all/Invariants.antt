use Rattle.std.proofs.Common.{◌≡◌, ◌-◌, length}
use Rattle.tile_server.specs.LazyBoards.{IsSameBoard}
use Rattle.tile_server.proofs.lazy.LazyCanvas.draw_all.Given as goal

abbrev pub invariant-loop : goal.invariant-loop
invariant-loop l = IsSameBoard l.fn.self l.self × (length l.self.waiting ≡ length l.fn.self.waiting - l.counter)
