-- Operations lie within their streams.
use Rattle.std.proofs.Common.{ℕ, zero, suc, ◌+◌, ◌<◌, List, [], ◌∷◌, length, get_or, arith}
use Rattle.rc_base.specs.Lists.{AreRising}
use Rattle.rc_base.specs.Orders.Sync.{places_of}
use Rattle.rc_base.specs.declared.sync.WaitAt.{WaitAt}

pub op_below : (low : ℕ) (ws : List WaitAt) (n k : ℕ) (d : WaitAt) → AreRising low (places_of ws) n → k < length ws → (get_or ws k d).place < n
op_below low [] n k d h lt = absurd (omega arith)
op_below low (w ∷ ws) n zero d h lt = h.1
op_below low (w ∷ ws) n (suc k) d h lt = op_below (w.place + 1) ws n k d h.2 (omega arith)
