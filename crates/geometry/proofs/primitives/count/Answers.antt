use Rattle.std.proofs.Common.{arith, sym}
use Rattle.geometry.proofs.Triples.{separate_count, joined_count, none_count}
use Rattle.geometry.proofs.primitives.count.Goals as goal

pub returns-then-mode-eq0 : goal.returns-then-mode-eq0
returns-then-mode-eq0 c = sym (separate_count c.args.mode c.args.n (omega arith))

pub returns-then-mode-lt3 : goal.returns-then-mode-lt3
returns-then-mode-lt3 c = let e = joined_count c.args.mode c.args.n (omega arith) (omega arith) in omega arith

pub returns-else-mode-lt3 : goal.returns-else-mode-lt3
returns-else-mode-lt3 c = sym (none_count c.args.mode c.args.n (omega arith))
