use Rattle.std.proofs.Common.{◌≡◌, ◌∙◌, Bool, true, false, cond, not, refl, sym, true≢false}
use Rattle.tile_server.proofs.tile_core.TileCore.is_finished.Goals as goal

over_then : (short over : Bool) → cond short false (not over) ≡ false → short ≡ false → over ≡ true
over_then true over e s = absurd cc
over_then false true e s = refl
over_then false false e s = absurd cc

pub returns-clause-yes : goal.returns-clause-yes
returns-clause-yes c yes' = record {
  no_more = sym c.saw_no_more.ensures ∙ c.if-not-saw_no_more.false;
  performed = λ ample. over_then _ _ (sym c.may_perform.ensures ∙ c.if-may_perform.false) ample;
  closed = c.all_closed.ensures.yes yes';
}

pub returns-clause-no : goal.returns-clause-no
returns-clause-no c no' done =
    let open_ = c.all_closed.ensures.no no' in
    true≢false (sym (done.closed open_.0 open_.1) ∙ open_.2)
