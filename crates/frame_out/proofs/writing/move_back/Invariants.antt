use Rattle.std.proofs.Common.{◌≡◌, ◌+◌, ◌≤◌, length, take, drop, ◌++◌}
use Rattle.frame_out.proofs.writing.move_back.Given as goal

-- those that are left stand where they stood, and those behind them are moved
abbrev pub invariant-loop-left : goal.invariant-loop-left
invariant-loop-left l = record {
  few : l.left ≤ l.fn.size;
  count : length l.text ≡ length l.fn.text;
  left : take l.left l.text ≡ take l.left l.fn.text;
  moved : drop (l.left + l.fn.by) l.text ≡ drop l.left (take l.fn.size l.fn.text) ++ drop (l.fn.size + l.fn.by) l.fn.text;
}

abbrev pub decreases-loop-left : goal.decreases-loop-left
decreases-loop-left l = l.left
