use Rattle.std.proofs.Common.{◌≡◌, None, Some}
use Rattle.std.specs.Prelude.{IfNone}
use Rattle.std.specs.declared.option.Option.{Option}
use Rattle.rc_base.specs.declared.sync.Entry.{Entry}
use Rattle.tile_server.specs.Ledgers.{HoldsAll}
use Rattle.tile_server.specs.Tasks.{NothingIsDueIn}
use Rattle.tile_server.proofs.tile_core.TileCore.due.Goals as goal

none_so : {T : Type 0} (P Q : Type 0) (r : Option T) → (P → Q) → IfNone r P → IfNone r Q
none_so P Q None f h = f h
none_so P Q (Some x) f h = tt

pub returns-clause-none : goal.returns-clause-none
returns-clause-none c =
    let core = c.args.self.now in
    none_so ((e : Entry) → core.ledger.known ≡ Some e → HoldsAll core.ledger.held core.ledger.clients e → ⊥) (NothingIsDueIn core) c.due.result (λ h e d. h e d.known d.held) c.due.ensures.none
