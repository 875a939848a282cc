use Rattle.std.proofs.Common.{◌≡◌, true}
use Rattle.std.specs.List.{list_all}
use Rattle.std.specs.Vec.Iter.{into_iter_items}
use Rattle.rc_base.specs.declared.scene.Decl.{Decl}
use Rattle.order_model.specs.Board.{Kept}
use Rattle.tile_model.specs.Boards.{HasSets}
use Rattle.tile_server.specs.Kepts.{kept_of, IsFit, is_set_value}
use Rattle.tile_server.proofs.kept.KeptClient.apply_all.Given as goal

-- the sets that are left are values, and what has them too has all
abbrev pub invariant-loop-set : goal.invariant-loop-set
invariant-loop-set l = record {
  values : (d : Decl) → list_all (is_set_value d) l.fn.sets ≡ true → list_all (is_set_value d) (into_iter_items l.set-iterator) ≡ true;
  completes : (k : Kept) → HasSets (into_iter_items l.set-iterator) (kept_of l.self) k → HasSets l.fn.sets (kept_of l.fn.self) k;
  fit : (d : Decl) → list_all (is_set_value d) l.fn.sets ≡ true → IsFit d (kept_of l.fn.self) → IsFit d (kept_of l.self);
}
