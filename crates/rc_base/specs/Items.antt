-- What a list becomes when its values were lent for writing.
use Rattle.std.specs.Prelude.{List, ◌++◌, length, take, drop}
use Rattle.std.specs.Borrow.{Lends, MutBor, Fml, Array, RattleType}
use Rattle.rc_base.specs.contracts.items.Items.{the_row}

-- the list with these values written over its front
abbrev pub written_over : {X : Type 0} → List X → List X → List X
written_over old new = take (length old) (new ++ drop (length new) old)

module _ (T : RattleType) (v : MutBor (List T.Denot)) where
  -- once the borrow r ends, the list has the values that r shows last
  abbrev pub lends_items : MutBor (List T.Denot) → Fml
  lends_items r = Lends (the_row T) (Array T 0) v r (written_over v.now)
