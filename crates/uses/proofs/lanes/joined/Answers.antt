use Rattle.std.proofs.Common.{◌<◌, ℕ, List, [], ◌∷◌, length, arith}
use Rattle.uses.proofs.lanes.joined.Goals as goal

-- one of a list that has so many and more
some_of : {A : Type 0} (xs : List A) (i : ℕ) → i < length xs → A
some_of [] i low = absurd (omega arith)
some_of (x ∷ xs) i low = x

pub returns : goal.returns
returns g c i b r low = (c.join_list.ensures.at i (some_of c.args.ins.items i low) b r low).taken
